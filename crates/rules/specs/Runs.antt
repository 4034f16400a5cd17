-- Document 01, "Working the queue" and "What the desk says": what the desk can say, what a run does and says, and the queue worked to rest.
-- Assumes nothing.
use Rattle.std.specs.Prelude.{ℕ, zero, suc, ◌≡◌, cond, List, [], ◌∷◌, length}
use Rattle.std.proofs.Math.Option.{Option, none, some}
use Rattle.rules.specs.Kinds.{Book, Entry, Mode, S, X, Name, on, Ask, read, insert, delete}
use Rattle.rules.specs.Entries.{Entries, at_most, inserted, deleted, revived, put, changed}
use Rattle.rules.specs.Locks.{Slots, taken, target, named, itself}
use Rattle.rules.specs.Queue.{St, Q, Wait, oldest, yields, leave}

-- Document 01, "What the desk says", line by line. A record that is absent cannot be found: where the entry stands in a whole index,
-- the record of `found` and `is_present` is there. `waiting` says who is in the way (document 02, [4]): at rest there is one.
pub data Says (K R : Type 0) : Type 0 where
  done : Says K R
  found : K → Option R → Says K R
  nothing : Says K R
  waiting : Option ℕ → Says K R
  runs_already : Says K R
  runs_not : Says K R
  waits_already : Says K R
  is_present : K → Option R → Says K R
  locks_short : Says K R
  pages_short : Says K R
  circle : Says K R

-- the paper's number, key and record of each; "key and record are zero except in 1 and 16"; and who is in the way, which is no record but
-- stands in its field: "Answer 3 then carries that number in its record field, no longer zero"
pub record Paper (K R : Type 0) : Type 0 where
  pub number : ℕ
  pub key : Option K
  pub rec : Option R
  pub by : Option ℕ

abbrev pub numbered : {K R : Type 0} → ℕ → Paper K R
numbered n = record { number = n; key = none; rec = none; by = none }

abbrev pub showing : {K R : Type 0} → ℕ → K → Option R → Paper K R
showing n k r = record { number = n; key = some k; rec = r; by = none }

abbrev pub paper : {K R : Type 0} → Says K R → Paper K R
paper done = numbered 0
paper (found k r) = showing 1 k r
paper nothing = numbered 2
paper (waiting u) = record { number = 3; key = none; rec = none; by = u }
paper runs_already = numbered 13
paper runs_not = numbered 14
paper waits_already = numbered 15
paper (is_present k r) = showing 16 k r
paper locks_short = numbered 17
paper pages_short = numbered 18
paper circle = numbered 19

pub record Answer (K R : Type 0) : Type 0 where
  pub asker : ℕ
  pub says : Says K R

module _ (B : Book) where
  abbrev pub Sy : Type 0
  Sy = Says B.Key B.Rec

  abbrev pub En : Type 0
  En = Entry B.Key B.Rec

  -- what a run says, and the entries, the pages and the lock table when it has acted
  pub record Ran : Type 0 where
    pub says : Sy
    pub entries : Entries B
    pub pages : B.paging.Pages
    pub slots : Slots B

  -- "With 17, 18 or 19 no lock is taken": nothing is changed
  abbrev pub unmoved : St B → Sy → Ran
  unmoved s m = record { says = m; entries = s.entries; pages = s.pages; slots = s.slots }

  -- only the lock is taken
  abbrev pub locked : St B → Sy → Slots B → Ran
  locked s m ls = record { says = m; entries = s.entries; pages = s.pages; slots = ls }

  -- "In a run, 17 comes before every other number": with the lock the rest is done, without it 17 is said
  abbrev pub given : St B → (Slots B → Ran) → Option (Slots B) → Ran
  given s f none = unmoved s locks_short
  given s f (some ls) = f ls

  abbrev pub taking : St B → ℕ → Name B.Key → Mode → (Slots B → Ran) → Ran
  taking s t n m f = given s f (taken B s.slots t n m)

  -- "1: read: target at most hi; its key and record"; "2: read: target above hi"
  unfoldable pub read_says : B.Key → Option En → Sy
  read_says hi none = nothing
  read_says hi (some e) = cond (at_most B e.key hi) (found e.key e.now) nothing

  -- "An insert of a missing key also takes X on that key"; "18: insert of a missing key, pages short"
  unfoldable pub insert_missing : St B → ℕ → B.Key → B.Rec → Slots B → Ran
  insert_missing s t k r ls =
      cond (B.paging.fits s.pages k)
      (record { says = done; entries = put B (inserted t k r) s.entries; pages = B.paging.grown s.pages k; slots = ls })
      (unmoved s pages_short)

  -- "16: insert: key present; its key and record"; over one's own ghost the entry is present again
  unfoldable pub insert_there : St B → ℕ → B.Rec → En → Option B.Rec → Slots B → Ran
  insert_there s t r e (some was) ls = locked s (is_present e.key (some was)) ls
  insert_there s t r e none ls =
      record { says = done; entries = changed B e.key (revived t r) s.entries; pages = s.pages; slots = ls }

  unfoldable pub insert_as : St B → ℕ → B.Key → B.Rec → Option En → Ran
  insert_as s t k r none = taking s t (on k) X (insert_missing s t k r)
  insert_as s t k r (some e) = taking s t (on e.key) S (insert_there s t r e e.now)

  -- a present key is deleted; one's own ghost is absent already, as a missing key is: "2: delete: key absent"
  unfoldable pub delete_there : St B → ℕ → En → Option B.Rec → Slots B → Ran
  delete_there s t e (some was) ls =
      record { says = done; entries = changed B e.key (deleted t) s.entries; pages = s.pages; slots = ls }
  delete_there s t e none ls = locked s nothing ls

  unfoldable pub delete_as : St B → ℕ → Name B.Key → Option En → Ran
  delete_as s t n none = taking s t n S (locked s nothing)
  delete_as s t n (some e) = taking s t (on e.key) X (delete_there s t e e.now)

  -- "A run takes its lasting lock (none for the instant) and acts."
  unfoldable pub run_on : St B → ℕ → Ask B.Key B.Rec → Option En → Ran
  run_on s t (read lo hi) x = taking s t (named B x) S (locked s (read_says hi x))
  run_on s t (insert k r) x = insert_as s t k r (itself B k x)
  run_on s t (delete k) x = delete_as s t (named B x) (itself B k x)

  unfoldable pub run : St B → Q B → Ran
  run s q = run_on s q.asker q.asks (target B s.entries q.asker q.asks)

  -- one turn of the queue: "if some queued request isn't blocked, the oldest such runs and leaves the queue; otherwise, if the waits
  -- contain a circle", one that lies on a circle "is answered 19 and leaves; otherwise stop."
  pub record Turn : Type 0 where
    pub state : St B
    pub answer : Answer B.Key B.Rec

  abbrev pub left : St B → Q B → Ran → Turn
  left s q r =
      record {
        state = record { entries = r.entries; pages = r.pages; slots = r.slots; queue = leave B q.asker s.queue; marks = s.marks };
        answer = record { asker = q.asker; says = r.says };
      }

  abbrev pub refused : St B → Option (Wait B) → Option Turn
  refused s none = none
  refused s (some w) = some (left s w.request (unmoved s circle))

  abbrev pub served : St B → Option (Wait B) → Option Turn
  served s none = refused s (yields B s)
  served s (some w) = some (left s w.request (run s w.request))

  unfoldable pub turn : St B → Option Turn
  turn s = served s (oldest B s)

  -- the queue worked: as many turns as are needed, and never more than requests are queued; with the answers in their order
  pub record Worked : Type 0 where
    pub state : St B
    pub answers : List (Answer B.Key B.Rec)

  abbrev pub onward : St B → (St B → Worked) → Option Turn → Worked
  onward s f none = record { state = s; answers = [] }
  onward s f (some t) = let w = f t.state in record { state = w.state; answers = t.answer ∷ w.answers }

  unfoldable pub turns : ℕ → St B → Worked
  turns zero s = record { state = s; answers = [] }
  turns (suc n) s = onward s (turns n) (turn s)

  unfoldable pub worked : St B → Worked
  worked s = turns (length s.queue) s

  -- "otherwise stop. That is at rest."
  abbrev pub AtRest : St B → Type 0
  AtRest s = turn s ≡ none
