-- What each transaction had asked, as calls and answers tell it, is what it has queued (`Known`): a call that is turned away leaves it, and one
-- that is not is the latest of its sender. By which calls are turned away: those that the rule book refuses, and no other. Assumes nothing.
use Prim.Native.Nat.{ℕ}
use mathlib.Core.Path.{◌≡◌, refl, sym, subst, ◌∙◌}
use mathlib.Core.Logic.{◌⊎◌, inl, inr}
use mathlib.Core.Bool.{Bool, true, false, cond, true≢false}
use mathlib.Core.List.{List, [], ◌∷◌, ◌++◌}
use mathlib.Core.Option.{Option, none, some, some-injective}
use lib.Dec.{eqb}
use borrow.Author.Tests.{eqb-true, eq-eqb, not-true}
use Rattle.lists.specs.Lists.{In}
use Rattle.lists.proofs.Tests.{fails, never}
use Rattle.lists.proofs.Elements.{none_any, keep_in, append_in}
use Rattle.rules.specs.Kinds.{Book, Mode, S, X, Name, on, Ask, read, insert, delete, Request, begin, commit, rollback, ask}
use Rattle.rules.specs.Entries.{at_most, inserted, put}
use Rattle.rules.specs.Locks.{Slots, taken, named, itself}
use Rattle.rules.specs.Queue.{St, Q, Wait, oldest, yields, leave}
use Rattle.rules.specs.Runs.{done, found, nothing, runs_already, runs_not, waits_already, pages_short, Sy, En, Ran, unmoved, given, taking, read_says, insert_missing, insert_there, insert_as, delete_there, delete_as, run_on, run, Turn, refused, served, turn, worked}
use Rattle.rules.specs.Desk.{An, runs, waits_now, if_so, unless_runs, refusal, begun, ended, joined, waiting_at, acts}
use Rattle.rules.specs.Good.{Good}
use Rattle.rules.proofs.Rest.{turn_leaves, worked_by_turns}
use Rattle.rules.proofs.Unblocked.{good_queues}
use Rattle.promises.specs.Story.{Asked, is_turned_away, turned_away}

module _ (B : Book) where
  -- what is queued is what its asker had asked
  abbrev pub Known : Asked B → St B → Type 0
  Known f s = (q : Q B) → In q s.queue → f q.asker ≡ ask q.asks

  -- a worked queue has only what it had
  pub turn_shrinks : (s : St B) (o : Turn B) → turn B s ≡ some o → (q : Q B) → In q o.state.queue → In q s.queue
  unfolding leave
  turn_shrinks s o e q i = (keep_in _ s.queue q (subst (λ (qs : List (Q B)). In q qs) (turn_leaves B s o e).queue i)).0

  pub queue_shrinks : (s : St B) (q : Q B) → In q (worked B s).state.queue → In q s.queue
  queue_shrinks =
      worked_by_turns B (λ u v. (q : Q B) → In q v.state.queue → In q u.queue) (λ u e q i. i) (λ u o v e f q i. turn_shrinks u o e q (f q i))

  pub known_worked : (f : Asked B) (s : St B) → Known f s → Known f (worked B s).state
  known_worked f s k q i = k q (queue_shrinks s q i)

  -- t asks r, and g is what is known then: it is known of all others as before
  known_other : (f g : Asked B) (s : St B) (t : ℕ) (r : Request B.Key B.Rec) → ((u : ℕ) → g u ≡ cond (eqb u t) r (f u)) → Known f s
      → (q : Q B) → In q s.queue → eqb q.asker t ≡ false → g q.asker ≡ ask q.asks
  known_other f g s t r n k q i e = n q.asker ∙ (rw e (k q i))

  pub known_begun : (f g : Asked B) (s : St B) (t : ℕ) → ((u : ℕ) → g u ≡ cond (eqb u t) begin (f u)) → runs B s t ≡ false → Good B s
      → Known f s → Known g (begun B s t)
  unfolding begun
  known_begun f g s t n h w k q i = known_other f g s t begin n k q i (fails (eqb q.asker t) (λ e.
      true≢false (sym ((good_queues B s w).queued q i).0 ∙ (rw (eqb-true q.asker t e) h))))

  pub known_ended : (f g : Asked B) (x : En B → En B) (s : St B) (t : ℕ) (r : Request B.Key B.Rec)
      → ((u : ℕ) → g u ≡ cond (eqb u t) r (f u)) → Known f s → Known g (ended B x s t)
  unfolding ended leave
  known_ended f g x s t r n k q i = let j = keep_in _ s.queue q i in known_other f g s t r n k q j.0 (not-true _ j.1)

  pub known_joined : (f g : Asked B) (s : St B) (t : ℕ) (a : Ask B.Key B.Rec) → ((u : ℕ) → g u ≡ cond (eqb u t) (ask a) (f u))
      → waits_now B s t ≡ false → Known f s → Known g (joined B s t a)
  unfolding joined
  known_joined f g s t a n h k q i = go (append_in s.queue _ q i)
    where
      mine : Q B
      mine = record { asker = t; asks = a }

      go : In q s.queue ⊎ In q (mine ∷ []) → g q.asker ≡ ask q.asks
      go (inl j) = known_other f g s t (ask a) n k q j (none_any (λ p. eqb p.asker t) s.queue q h j)
      go (inr (inl z)) = subst (λ (p : Q B). g p.asker ≡ ask p.asks) z (n t ∙ (rw (eq-eqb t t refl)))
      go (inr (inr x)) = absurd x

  -- 13, 14 and 15 turn a call away
  asked_turns : (b c : Bool) (m : Sy B) → unless_runs B b (if_so B c waits_already) ≡ some m → is_turned_away B m ≡ true
  asked_turns true true m e = rw (← some-injective waits_already m e)
  asked_turns true false m e = never (cc)
  asked_turns false c m e = rw (← some-injective runs_not m e)

  pub refusal_turns : (s : St B) (t : ℕ) (r : Request B.Key B.Rec) (m : Sy B) → refusal B s t r ≡ some m → is_turned_away B m ≡ true
  unfolding refusal
  refusal_turns s t begin m e = go (runs B s t) e
    where
      go : (b : Bool) → if_so B b runs_already ≡ some m → is_turned_away B m ≡ true
      go true e = rw (← some-injective runs_already m e)
      go false e = never (cc)
  refusal_turns s t commit m e = asked_turns (runs B s t) (waits_now B s t) m e
  refusal_turns s t rollback m e = go (runs B s t) e
    where
      go : (b : Bool) → unless_runs B b none ≡ some m → is_turned_away B m ≡ true
      go true e = never (cc)
      go false e = rw (← some-injective runs_not m e)
  refusal_turns s t (ask a) m e = asked_turns (runs B s t) (waits_now B s t) m e

  -- and nothing else does: no run says them
  taking_stands : (s : St B) (t : ℕ) (n : Name B.Key) (m : Mode) (f : Slots B → Ran B) → ((ls : Slots B) → is_turned_away B (f ls).says ≡ false)
      → is_turned_away B (taking B s t n m f).says ≡ false
  taking_stands s t n m f h = go (taken B s.slots t n m)
    where
      go : (o : Option (Slots B)) → is_turned_away B (given B s f o).says ≡ false
      go none = refl
      go (some ls) = h ls

  read_stands : (hi : B.Key) (o : Option (En B)) → is_turned_away B (read_says B hi o) ≡ false
  unfolding read_says
  read_stands hi none = refl
  read_stands hi (some e) = go (at_most B e.key hi)
    where
      go : (b : Bool) → is_turned_away B (cond b (found e.key e.now) nothing) ≡ false
      go true = refl
      go false = refl

  insert_stands : (s : St B) (t : ℕ) (k : B.Key) (r : B.Rec) (o : Option (En B)) → is_turned_away B (insert_as B s t k r o).says ≡ false
  unfolding insert_as insert_missing insert_there
  insert_stands s t k r none = taking_stands s t (on k) X _ (λ ls. go ls (B.paging.fits s.pages k))
    where
      go : (ls : Slots B) (b : Bool)
          → is_turned_away B (cond b (record { says = done; entries = put B (inserted t k r) s.entries; pages = B.paging.grown s.pages k; slots = ls })
          (unmoved B s pages_short)).says ≡ false
      go ls true = refl
      go ls false = refl
  insert_stands s t k r (some e) = taking_stands s t (on e.key) S _ (λ ls. go ls e.now)
    where
      go : (ls : Slots B) (o : Option B.Rec) → is_turned_away B (insert_there B s t r e o ls).says ≡ false
      go ls (some was) = refl
      go ls none = refl

  delete_stands : (s : St B) (t : ℕ) (n : Name B.Key) (o : Option (En B)) → is_turned_away B (delete_as B s t n o).says ≡ false
  unfolding delete_as delete_there
  delete_stands s t n none = taking_stands s t n S _ (λ ls. refl)
  delete_stands s t n (some e) = taking_stands s t (on e.key) X _ (λ ls. go ls e.now)
    where
      go : (ls : Slots B) (o : Option B.Rec) → is_turned_away B (delete_there B s t e o ls).says ≡ false
      go ls (some was) = refl
      go ls none = refl

  ran_stands : (s : St B) (t : ℕ) (a : Ask B.Key B.Rec) (x : Option (En B)) → is_turned_away B (run_on B s t a x).says ≡ false
  unfolding run_on
  ran_stands s t (read lo hi) x = taking_stands s t (named B x) S _ (λ ls. read_stands hi x)
  ran_stands s t (insert k r) x = insert_stands s t k r (itself B k x)
  ran_stands s t (delete k) x = delete_stands s t (named B x) (itself B k x)

  turn_stands : (s : St B) (o : Turn B) → turn B s ≡ some o → is_turned_away B o.answer.says ≡ false
  unfolding turn run
  turn_stands s o e = by_oldest (oldest B s) e
    where
      by_yields : (w : Option (Wait B)) → refused B s w ≡ some o → is_turned_away B o.answer.says ≡ false
      by_yields none e = never (cc)
      by_yields (some w) e = rw (← some-injective _ o e)

      by_oldest : (w : Option (Wait B)) → served B s w ≡ some o → is_turned_away B o.answer.says ≡ false
      by_oldest none e = by_yields (yields B s) e
      by_oldest (some w) e = rw (← some-injective _ o e) (ran_stands s w.request.asker w.request.asks _)

  worked_stands : (s : St B) (as' : List (An B)) → turned_away B (some as') ≡ false → turned_away B (some ((worked B s).answers ++ as')) ≡ false
  worked_stands s as' h =
      worked_by_turns B (λ u w. turned_away B (some (w.answers ++ as')) ≡ false) (λ u e. h) (λ u o w e k. turn_stands u o e) s

  pub acts_stand : (s : St B) (t : ℕ) (r : Request B.Key B.Rec) → turned_away B (some (acts B s t r).answers) ≡ false
  unfolding acts
  acts_stand s t begin = refl
  acts_stand s t commit = refl
  acts_stand s t rollback = refl
  acts_stand s t (ask a) = worked_stands (joined B s t a) _ (go (waits_now B (worked B (joined B s t a)).state t))
    where
      go : (b : Bool) → turned_away B (some (cond b (waiting_at B (worked B (joined B s t a)).state t ∷ []) [])) ≡ false
      go true = refl
      go false = refl
