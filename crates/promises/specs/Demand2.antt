-- Demand 2 in its own words: "A refusal is given when its stated cause holds and at no other time." For each number of document 01, "What the
-- desk says", from 0 on, the cause, and what is changed with it; and the order in which the queue is worked ("Working the queue"), without the
-- search that finds it. Proofs/Decides: no second outcome of a call satisfies it, so no idle desk does. Assumes nothing.
use Rattle.std.specs.Prelude.{ℕ, ◌≤◌, ◌<◌, ◌≡◌, ◌≢◌, ◌⊎◌, true, false, not, List, [], ◌∷◌, ◌++◌}
use Rattle.std.proofs.Math.Option.{Option, none, some}
use Rattle.lists.specs.Lists.{all, In}
use Rattle.rules.specs.Kinds.{Book, Name, on, Ask, read, insert, delete, Request, begin, commit, rollback, ask}
use Rattle.rules.specs.Entries.{Entries, is_there, at_most, same, inserted, deleted, revived, put, changed, committed, rolled_back}
use Rattle.rules.specs.Locks.{holds, taken, target, named, wanted}
use Rattle.rules.specs.Queue.{St, Q, Wait, waits, weight}
use Rattle.rules.specs.Runs.{done, found, nothing, waiting, runs_already, runs_not, waits_already, is_present, locks_short, pages_short, circle, Sy, En, Ran, unmoved, left, Worked}
use Rattle.rules.specs.Desk.{An, runs, waits_now, says, begun, ended, joined}
use Rattle.rules.specs.Chains.{Behind, Circle}
use Rattle.promises.specs.Demand3.{now_at}

module _ (B : Book) where
  -- ---- a run of a request that nobody blocks
  -- the name of the lock that it takes for good: its target's; of an insert the key's own, which is the target where it is there
  abbrev pub lock_name : Ask B.Key B.Rec → Name B.Key → Name B.Key
  lock_name (read lo hi) n = n
  lock_name (insert k r) n = on k
  lock_name (delete k) n = n

  abbrev pub lock_for : St B → Q B → Name B.Key
  lock_for s q = lock_name q.asks (named B (target B s.entries q.asker q.asks))

  -- "17: a new lock is needed and all 256 are in use": no lock of one's own on the name, and no slot free
  pub record LocksShort (s : St B) (q : Q B) : Type 0 where
    pub new : holds B s.slots q.asker (lock_for s q) ≡ false
    pub full : all is_there s.slots ≡ true

  -- "16: insert: key present; its key and record"
  pub record Present (s : St B) (q : Q B) (k : B.Key) (was : B.Rec) : Type 0 where
    pub rec : B.Rec
    pub asks : q.asks ≡ insert k rec
    pub is_now : now_at B s.entries k ≡ some was

  -- "18: insert of a missing key, pages short"
  pub record PagesShort (s : St B) (q : Q B) : Type 0 where
    pub key : B.Key
    pub rec : B.Rec
    pub asks : q.asks ≡ insert key rec
    pub missing : all (λ e. not (same B e.key key)) s.entries ≡ true
    pub short : B.paging.fits s.pages key ≡ false

  -- "1: read: target at most hi; its key and record"
  pub record Finds (s : St B) (q : Q B) (k : B.Key) (was : B.Rec) : Type 0 where
    pub lo : B.Key
    pub hi : B.Key
    pub asks : q.asks ≡ read lo hi
    pub is_target : named B (target B s.entries q.asker q.asks) ≡ on k
    pub inside : at_most B k hi ≡ true
    pub is_now : now_at B s.entries k ≡ some was

  -- "2: read: target above hi; delete: key absent"
  pub data FindsNothing (s : St B) (q : Q B) : Type 0 where
    above : (lo hi : B.Key) → q.asks ≡ read lo hi
        → ((k : B.Key) → named B (target B s.entries q.asker q.asks) ≡ on k → at_most B k hi ≡ false) → FindsNothing s q
    absent : (k : B.Key) → q.asks ≡ delete k → now_at B s.entries k ≡ none → FindsNothing s q

  -- "0: insert or delete done": a missing key that the pages take is put in, one's own ghost made present again, a present key made a ghost;
  -- with the entries and pages afterwards
  pub data Does (s : St B) (q : Q B) : Entries B → B.paging.Pages → Type 0 where
    puts_in : (k : B.Key) (r : B.Rec) → q.asks ≡ insert k r → all (λ e. not (same B e.key k)) s.entries ≡ true
        → B.paging.fits s.pages k ≡ true → Does s q (put B (inserted q.asker k r) s.entries) (B.paging.grown s.pages k)
    brings_back : (e : En B) (r : B.Rec) → q.asks ≡ insert e.key r → In e s.entries → e.owner ≡ q.asker → e.now ≡ none
        → Does s q (changed B e.key (revived q.asker r) s.entries) s.pages
    takes_away : (k : B.Key) (was : B.Rec) → q.asks ≡ delete k → now_at B s.entries k ≡ some was
        → Does s q (changed B k (deleted q.asker) s.entries) s.pages

  -- each number by its cause, and at no other time; what it changes
  pub record RunsRightly (s : St B) (q : Q B) (m : Ran B) : Type 0 where
    -- "In a run, 17 comes before every other number"
    pub seventeen : LocksShort s q → m.says ≡ locks_short
    pub seventeen_cause : m.says ≡ locks_short → LocksShort s q
    pub sixteen : (LocksShort s q → ⊥) → (k : B.Key) (was : B.Rec) → Present s q k was → m.says ≡ is_present k (some was)
    pub sixteen_cause : (k : B.Key) (o : Option B.Rec) → m.says ≡ is_present k o → (was : B.Rec) × (o ≡ some was) × Present s q k was
    pub eighteen : (LocksShort s q → ⊥) → PagesShort s q → m.says ≡ pages_short
    pub eighteen_cause : m.says ≡ pages_short → PagesShort s q
    pub one : (LocksShort s q → ⊥) → (k : B.Key) (was : B.Rec) → Finds s q k was → m.says ≡ found k (some was)
    pub one_cause : (k : B.Key) (o : Option B.Rec) → m.says ≡ found k o → (was : B.Rec) × (o ≡ some was) × Finds s q k was
    pub two : (LocksShort s q → ⊥) → FindsNothing s q → m.says ≡ nothing
    pub two_cause : m.says ≡ nothing → FindsNothing s q
    pub zero : (LocksShort s q → ⊥) → (es : Entries B) (ps : B.paging.Pages) → Does s q es ps → m.says ≡ done
    pub zero_cause : m.says ≡ done → Does s q m.entries m.pages
    -- none of these is said by a run
    pub never : ((o : Option ℕ) → m.says ≢ waiting o) × (m.says ≢ runs_already) × (m.says ≢ runs_not) × (m.says ≢ waits_already) × (m.says ≢ circle)
    -- "With 17, 18 or 19 no lock is taken": nothing but the queue
    pub queue_alone : (m.says ≡ locks_short) ⊎ (m.says ≡ pages_short) → m ≡ unmoved B s m.says
    -- "A run takes its lasting lock": with 0, 1, 2 and 16; and but with 0 it changes nothing else
    pub takes_lock : m.says ≢ locks_short → m.says ≢ pages_short
        → taken B s.slots q.asker (lock_for s q) (wanted B s.entries q).mode ≡ some m.slots
    pub lock_alone : m.says ≢ done → (m.entries ≡ s.entries) × (m.pages ≡ s.pages)

  -- ---- a turn of the queue
  -- nobody blocks w's request, and everyone before it in the queue is blocked: the oldest that isn't blocked
  pub record MayRun (s : St B) (w : Wait B) : Type 0 where
    pub ahead : List (Wait B)
    pub after : List (Wait B)
    pub place : waits B s ≡ ahead ++ (w ∷ after)
    pub free : w.behind ≡ []
    pub oldest : (v : Wait B) → In v ahead → v.behind ≢ []

  -- everyone is blocked, w's request lies on a circle, no transaction with a request on a circle holds fewer locks, and none with one behind it
  -- in the queue as few (document 02, [14])
  pub record MustGiveWay (s : St B) (w : Wait B) : Type 0 where
    pub ahead : List (Wait B)
    pub after : List (Wait B)
    pub place : waits B s ≡ ahead ++ (w ∷ after)
    pub nobody : (v : Wait B) → In v (waits B s) → v.behind ≢ []
    pub on_circle : Circle B s w.request.asker
    pub fewest : (v : Wait B) → In v (waits B s) → Circle B s v.request.asker → weight B s w ≤ weight B s v
    pub newest : (v : Wait B) → In v after → Circle B s v.request.asker → weight B s w < weight B s v

  -- "at rest"
  pub record Rests (s : St B) : Type 0 where
    pub nobody : (v : Wait B) → In v (waits B s) → v.behind ≢ []
    pub no_circle : (t : ℕ) → Circle B s t → ⊥

  -- the queue worked from s: what was answered, and where it comes to rest. 19 changes the queue alone.
  pub data Works : St B → List (An B) → St B → Type 0 where
    rests : {s : St B} → Rests s → Works s [] s
    ran : {s : St B} {as' : List (An B)} {z : St B} (w : Wait B) (m : Ran B) → MayRun s w → RunsRightly s w.request m
        → Works (left B s w.request m).state as' z → Works s (says B w.request.asker m.says ∷ as') z
    gave_way : {s : St B} {as' : List (An B)} {z : St B} (w : Wait B) → MustGiveWay s w
        → Works (left B s w.request (unmoved B s circle)).state as' z → Works s (says B w.request.asker circle ∷ as') z

  -- ---- a call
  -- only its own answer is given, and nothing has changed
  abbrev pub only_says : St B → ℕ → Sy B → Worked B
  only_says s t m = record { state = s; answers = says B t m ∷ [] }

  -- "If the new request is still queued at rest, its answer 3 comes last"; it names one who is in the way, never 0, and nobody in the way has
  -- a lower number (document 02, [4])
  pub data SaidLast (s : St B) (t : ℕ) : List (An B) → Type 0 where
    nothing_more : waits_now B s t ≡ false → SaidLast s t []
    waits_behind : (u : ℕ) → 1 ≤ u → Behind B s t u → ((v : ℕ) → Behind B s t v → u ≤ v) → SaidLast s t (says B t (waiting (some u)) ∷ [])

  -- "Begin, commit and rollback act first, answer first, and then the queue is worked"
  pub record Acts (s : St B) (t : ℕ) (r : Request B.Key B.Rec) (w : Worked B) : Type 0 where
    pub others : List (An B)
    pub begins : r ≡ begin → Works (begun B s t) others w.state × (w.answers ≡ says B t done ∷ others)
    pub commits : r ≡ commit → Works (ended B committed s t) others w.state × (w.answers ≡ says B t done ∷ others)
    pub rolls_back : r ≡ rollback → Works (ended B rolled_back s t) others w.state × (w.answers ≡ says B t done ∷ others)
    pub asks : (a : Ask B.Key B.Rec) → r ≡ ask a
        → (last : List (An B)) × Works (joined B s t a) others w.state × SaidLast w.state t last × (w.answers ≡ others ++ last)

  -- a call of t on s that left and answered w
  pub record Demand2 (s : St B) (t : ℕ) (r : Request B.Key B.Rec) (w : Worked B) : Type 0 where
    -- "13: begin of a running transaction"
    pub thirteen : r ≡ begin → runs B s t ≡ true → w ≡ only_says s t runs_already
    -- "14: any other request of one not running"
    pub fourteen : r ≢ begin → runs B s t ≡ false → w ≡ only_says s t runs_not
    -- "15: anything but rollback while waiting"; of a begin it is 13
    pub fifteen : r ≢ begin → r ≢ rollback → runs B s t ≡ true → waits_now B s t ≡ true → w ≡ only_says s t waits_already
    -- and at no other time
    pub thirteen_cause : (u : ℕ) → In (says B u runs_already) w.answers → (u ≡ t) × (r ≡ begin) × (runs B s t ≡ true)
    pub fourteen_cause : (u : ℕ) → In (says B u runs_not) w.answers → (u ≡ t) × (r ≢ begin) × (runs B s t ≡ false)
    pub fifteen_cause : (u : ℕ) → In (says B u waits_already) w.answers → (u ≡ t) × (r ≢ begin) × (r ≢ rollback) × (runs B s t ≡ true) × (waits_now B s t ≡ true)
    -- otherwise the request acts
    pub acts : (r ≡ begin → runs B s t ≡ false) → (r ≢ begin → runs B s t ≡ true) → (r ≢ begin → r ≢ rollback → waits_now B s t ≡ false) → Acts s t r w
