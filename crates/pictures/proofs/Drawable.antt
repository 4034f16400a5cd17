-- Drawable states: a whole picture says one, and the rule book's step leaves one, where what is asked fits its fields. By the moves: a run
-- puts in only the record that is asked, an end copies records, and the tree follows the entries. Assumes nothing.
use Prim.Native.Nat.{ℕ, ◌<◌, compare}
use mathlib.Core.Path.{◌≡◌, refl, subst}
use mathlib.Core.Logic.{◌⊎◌, inl, inr}
use mathlib.Core.Bool.{Bool, true, false, cond}
use mathlib.Core.List.{List, [], ◌∷◌}
use mathlib.Core.Option.{Option, none, some}
use lib.Dec.{lit<}
use Rattle.lists.specs.Lists.{In}
use Rattle.lists.proofs.Elements.{append_in, keep_in}
use Rattle.rules.specs.Kinds.{Mode, S, X, Name, on, Ask, read, insert, delete, Request, begin, commit, rollback, ask, Queued}
use Rattle.rules.specs.Entries.{inserted, deleted, revived, committed, rolled_back, put}
use Rattle.rules.specs.Locks.{Slots, taken, target, itself}
use Rattle.rules.specs.Queue.{St, leave}
use Rattle.rules.specs.Runs.{done, runs_already, waits_already, pages_short, circle, Ran, unmoved, given, taking, insert_missing, insert_there, insert_as, delete_there, delete_as, run_on, run, left, worked}
use Rattle.rules.specs.Desk.{runs, waits_now, refusal, unless_runs, if_so, begun, ended, joined, acts, unless, step, is_transaction, legal_request}
use Rattle.rules.specs.Document.{end_mark}
use Rattle.rules.specs.Good.{Good}
use Rattle.rules.proofs.Orders.{numbers_ordered}
use Rattle.rules.proofs.Index.{at_or_above, missing}
use Rattle.rules.proofs.Did.{waits_in}
use Rattle.rules.proofs.Keeps.{Kept, TurnsKept, Anyone, worked_keeps}
use Rattle.rules.proofs.GoodKept.{good_kept}
use Rattle.trees.specs.Trees.{document_sizes}
use Rattle.trees.specs.Growth.{with_item, fits}
use Rattle.index.specs.Pictures.{Item, index_of, entries_in}
use Rattle.states.specs.States.{book, state_of}
use Rattle.states.specs.Fitting.{AskFits}
use Rattle.states.proofs.Itself.{itself_fits}
use Rattle.states.specs.Whole.{Whole}
use Rattle.pictures.specs.Drawing.{RecordsFit, Drawable}
use Rattle.pictures.proofs.PictureBytes.{whole_entries_fit}
use Rattle.pictures.proofs.Shown.{shape_whole, shape_flat, Shown, shown_put, shown_changed, shown_settled}

-- ---- what a whole picture says
pub whole_drawable : (p d : List ℕ) → Whole p d → Drawable (state_of p d)
unfolding state_of entries_in
whole_drawable p d w =
    record {
      good = w.values;
      index = shape_whole (index_of p) w.pages.index;
      keys = shape_flat (index_of p);
      records = λ e i. let f = whole_entries_fit p w.pages e i in record { now = f.now; before = f.before };
      asks = λ q i. ((itself_fits d w.desk p w.values).queued q i).asks;
    }

-- ---- a run
abbrev RanShown : Ran book → Type 0
RanShown r = Shown r.entries r.pages

module _ (s : St book) (d : Drawable s) where
  before : Shown s.entries s.pages
  before = record { index = d.index; keys = d.keys; records = d.records }

  shown_taking : (t : ℕ) (n : Name ℕ) (m : Mode) (f : Slots book → Ran book) → ((ls : Slots book) → RanShown (f ls))
      → RanShown (taking book s t n m f)
  shown_taking t n m f g = go (taken book s.slots t n m)
    where
      go : (o : Option (Slots book)) → RanShown (given book s f o)
      go none = before
      go (some ls) = g ls

  shown_insert : (t k r : ℕ) → k < end_mark → r < 4294967296 → (o : Option Item) → itself book k (at_or_above book k s.entries) ≡ o
      → RanShown (insert_as book s t k r o)
  unfolding insert_as insert_missing insert_there
  shown_insert t k r low small none n =
      shown_taking t (on k) X (insert_missing book s t k r) (λ ls. go ls (fits compare (λ j. j) 0 document_sizes k s.pages) refl)
    where
      go : (ls : Slots book) (b : Bool) → fits compare (λ j. j) 0 document_sizes k s.pages ≡ b
          → RanShown (cond b
          (record { says = done; entries = put book (inserted t k r) s.entries; pages = with_item compare (λ j. j) 0 document_sizes k s.pages; slots = ls })
          (unmoved book s pages_short))
      go ls true e = shown_put s.entries s.pages before t k r low small (missing book numbers_ordered s.entries k d.good.keys n) e
      go ls false e = before
  shown_insert t k r low small (some e) n = shown_taking t (on e.key) S (insert_there book s t r e e.now) (go e.now)
    where
      go : (o : Option ℕ) (ls : Slots book) → RanShown (insert_there book s t r e o ls)
      go (some was) ls = before
      go none ls =
          shown_changed s.entries s.pages before (revived t r) (λ e. refl) (λ e f. record { now = small; before = f.before }) e.key

  shown_delete : (t : ℕ) (n : Name ℕ) (o : Option Item) → RanShown (delete_as book s t n o)
  unfolding delete_as delete_there
  shown_delete t n none = shown_taking t n S _ (λ ls. before)
  shown_delete t n (some e) = shown_taking t (on e.key) X (delete_there book s t e e.now) (go e.now)
    where
      go : (o : Option ℕ) (ls : Slots book) → RanShown (delete_there book s t e o ls)
      go (some was) ls =
          shown_changed s.entries s.pages before (deleted t) (λ e. refl) (λ e f. record { now = lit< tt; before = f.before }) e.key
      go none ls = before

  shown_ask : (t : ℕ) (a : Ask ℕ ℕ) → AskFits a → RanShown (run book s (record { asker = t; asks = a }))
  unfolding run run_on target
  shown_ask t (read lo hi) f = shown_taking t _ S _ (λ ls. before)
  shown_ask t (insert k r) f = shown_insert t k r f.0 f.1 (itself book k (at_or_above book k s.entries)) refl
  shown_ask t (delete k) f = shown_delete t _ (itself book k (at_or_above book k s.entries))

  shown_run : (q : Queued ℕ ℕ) → In q s.queue → RanShown (run book s q)
  shown_run q i = shown_ask q.asker q.asks (d.asks q i)

-- ---- the moves
-- a request leaves the queue
left_drawable : (s : St book) → Drawable s → (q : Queued ℕ ℕ) (r : Ran book) → RanShown r → Good book (left book s q r).state
    → Drawable (left book s q r).state
unfolding leave
left_drawable s d q r h g =
    record { good = g; index = h.index; keys = h.keys; records = h.records; asks = λ p i. d.asks p (keep_in _ s.queue p i).0 }

good_moves : Kept book (Anyone book) (Good book)
good_moves = good_kept book numbers_ordered

drawable_turns : TurnsKept book Drawable
drawable_turns =
    record {
      goes = λ s w i n d. left_drawable s d w.request (run book s w.request) (shown_run s d w.request (waits_in book s w i))
          (good_moves.goes s w i n d.good);
      gives_way = λ s w i d. left_drawable s d w.request (unmoved book s circle) (before s d) (good_moves.gives_way s w i d.good);
    }

rests : (s : St book) → Drawable s → Drawable (worked book s).state
rests = worked_keeps book Drawable drawable_turns

module _ (s : St book) (t : ℕ) (d : Drawable s) where
  begun_drawable : Good book (begun book s t) → Drawable (begun book s t)
  unfolding begun
  begun_drawable g = record { good = g; index = d.index; keys = d.keys; records = d.records; asks = d.asks }

  ended_drawable : (f : Item → Item) → ((e : Item) → (f e).key ≡ e.key) → ((e : Item) → RecordsFit e → RecordsFit (f e))
      → Good book (ended book f s t) → Drawable (ended book f s t)
  unfolding ended leave
  ended_drawable f same small g =
      let h = shown_settled s.entries s.pages (before s d) f same small t d.good.keys in
      record { good = g; index = h.index; keys = h.keys; records = h.records; asks = λ p i. d.asks p (keep_in _ s.queue p i).0 }

  joined_drawable : (a : Ask ℕ ℕ) → AskFits a → Good book (joined book s t a) → Drawable (joined book s t a)
  unfolding joined
  joined_drawable a f g =
      record { good = g; index = d.index; keys = d.keys; records = d.records; asks = λ p i. each p (append_in s.queue (new ∷ []) p i) }
    where
      new : Queued ℕ ℕ
      new = record { asker = t; asks = a }

      each : (p : Queued ℕ ℕ) → In p s.queue ⊎ In p (new ∷ []) → AskFits p.asks
      each p (inl i) = d.asks p i
      each p (inr (inl e)) = subst (λ (q : Queued ℕ ℕ). AskFits q.asks) e f
      each p (inr (inr i)) = absurd i

pub step_drawable : (s : St book) (t : ℕ) (r : Request ℕ ℕ) → is_transaction book t ≡ true → legal_request book r ≡ true
    → ((a : Ask ℕ ℕ) → r ≡ ask a → AskFits a) → Drawable s → Drawable (step book s t r).state
unfolding step refusal acts legal_request
step_drawable s t begin h l f d = go (runs book s t) refl
  where
    go : (b : Bool) → runs book s t ≡ b → Drawable (unless book s t (acts book s t begin) (if_so book b runs_already)).state
    go true e = d
    go false e = rests (begun book s t) (begun_drawable s t d (good_moves.begins s t h e d.good))
step_drawable s t commit h l f d = go (runs book s t) (waits_now book s t) refl refl
  where
    go : (b c : Bool) → runs book s t ≡ b → waits_now book s t ≡ c
        → Drawable (unless book s t (acts book s t commit) (unless_runs book b (if_so book c waits_already))).state
    go true true e q = d
    go true false e q =
        rests (ended book committed s t)
        (ended_drawable s t d committed (λ e. refl) (λ e f. record { now = f.now; before = f.now }) (good_moves.commits s t tt h e q d.good))
    go false c e q = d
step_drawable s t rollback h l f d = go (runs book s t) refl
  where
    go : (b : Bool) → runs book s t ≡ b → Drawable (unless book s t (acts book s t rollback) (unless_runs book b none)).state
    go true e =
        rests (ended book rolled_back s t)
        (ended_drawable s t d rolled_back (λ e. refl) (λ e f. record { now = f.before; before = f.before }) (good_moves.rolls_back s t tt h e d.good))
    go false e = d
step_drawable s t (ask a) h l f d = go (runs book s t) (waits_now book s t) refl refl
  where
    go : (b c : Bool) → runs book s t ≡ b → waits_now book s t ≡ c
        → Drawable (unless book s t (acts book s t (ask a)) (unless_runs book b (if_so book c waits_already))).state
    go true true e q = d
    go true false e q = rests (joined book s t a) (joined_drawable s t d a (f a refl) (good_moves.joins s t a e q l d.good))
    go false c e q = d
