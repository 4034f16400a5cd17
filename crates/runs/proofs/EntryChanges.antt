-- The entry of a key changed where it stands, under its lock: the entries are the rule book's, the shape is as it was, and so the run is
-- the rule book's. Keys ascend, so that no other entry has the key. Assumes nothing.
use Prim.Native.Nat.{ℕ, ◌≤◌, ◌<◌}
use Rattle.std.specs.Prelude as Code
use mathlib.Core.Path.{◌≡◌, refl, sym, ap, ◌∙◌}
use mathlib.Core.Bool.{Bool, true, false, cond}
use mathlib.Core.List.{List, map}
use mathlib.Core.Option.{some}
use native.Mathlib.Omega.{arith}
use borrow.Author.Tests.{eqb-true}
use lib.Dec.{eqb}
use Rattle.limits.specs.Limits.{transactions_most}
use Rattle.lists.specs.Lists.{In}
use Rattle.lists.proofs.Joins.{map_same}
use Rattle.rules.specs.Kinds.{Mode, Name, on, Ask}
use Rattle.rules.specs.Entries.{same, changed}
use Rattle.rules.specs.Locks.{target, named, itself}
use Rattle.rules.specs.Runs.{Sy}
use Rattle.rules.specs.Good.{ascending}
use Rattle.rules.proofs.Orders.{numbers_ordered}
use Rattle.rules.proofs.Index.{at_or_above}
use Rattle.rules.proofs.Targets.{own_cover}
use Rattle.rules.proofs.Did.{target_in, itself_is}
use Rattle.keys.specs.declared.Key.{Key}
use Rattle.entries.specs.declared.Entry as E
use Rattle.answers.specs.declared.Says as D
use Rattle.entries.specs.EntryMeaning.{book_entry}
use Rattle.answers.specs.AnswerMeaning.{book_says}
use Rattle.queue.specs.QueueLayout.{queued, in_place}
use Rattle.locks.specs.SlotLayout.{name_in}
use Rattle.locks.specs.SlotMoves.{held_in, free_in, taken_at, lock_taken}
use Rattle.queue.specs.QueueMoves.{queue_left}
use Rattle.locks.proofs.Takes.{taken_there}
use Rattle.queue.proofs.Frames.{only_taken, queued_beside, place_beside}
use Rattle.index.specs.Pictures.{Item, index_of, entries_in}
use Rattle.index.specs.Searches.{book_found}
use Rattle.index.specs.Changes.{replaced, Becomes}
use Rattle.index.proofs.EntriesIn.{entries_replaced, shape_replaced}
use Rattle.states.specs.States.{book, state_of}
use Rattle.states.specs.Whole.{Whole}
use Rattle.states.specs.Fitting.{NameFits}
use Rattle.states.proofs.ValuesFit.{name_read}
use Rattle.runs.proofs.RunsSay.{Done}
use Rattle.runs.proofs.Looks.{target_fits}

-- ---- the entries
module _ (es : List Item) (h : ascending book es ≡ true) (e : Item) (i : In e es) where
  alone : (y : Item) → In y es → y.key ≡ e.key → y ≡ e
  alone y j k =
      let z : some y ≡ some e = sym (own_cover book numbers_ordered es y h j) ∙ ap (λ x. at_or_above book x es) k ∙ own_cover book numbers_ordered es e h i in
      cc

  exchanged_changed : (f : Item → Item) → (f e).key ≡ e.key → map (λ (y : Item). cond (eqb y.key (f e).key) (f e) y) es ≡ changed book e.key f es
  unfolding changed
  exchanged_changed f g =
      map_same (λ (y : Item). cond (eqb y.key (f e).key) (f e) y) (λ (y : Item). cond (same book y.key e.key) (f y) y) es
      (λ y j. ap (λ k. cond (eqb y.key k) (f e) y) g ∙ go y j (eqb y.key e.key) refl)
    where
      go : (y : Item) → In y es → (b : Bool) → eqb y.key e.key ≡ b → cond b (f e) y ≡ cond b (f y) y
      go y j true q = ap f (sym (alone y j (eqb-true y.key e.key q)))
      go y j false q = refl

module _ (p p' : List ℕ) where
  pub entries_changed : ascending book (entries_in p) ≡ true → (e : Item) → In e (entries_in p) → (f : Item → Item) → (f e).key ≡ e.key
      → Becomes p' (replaced (f e) (index_of p)) → entries_in p' ≡ changed book e.key f (entries_in p)
  entries_changed h e i f g b = entries_replaced p p' (f e) b ∙ exchanged_changed (entries_in p) h e i f g

-- ---- one entry changed under the lock
pub one_changed : (p d : List ℕ) → Whole p d → (m : Sy book) (x : D.Says) → book_says x ≡ m → (p' : List ℕ) (e : Item) → In e (entries_in p)
    → (f : Item → Item) → (f e).key ≡ e.key → Becomes p' (replaced (f e) (index_of p))
    → Done p' (λ ks. record { says = m; entries = changed book e.key f (state_of p d).entries; pages = (state_of p d).pages; slots = ks }) x
unfolding state_of
one_changed p d w m x h p' e i f g b =
    record {
      whole = b.whole;
      slots = λ ks. refl;
      entries = λ ks. entries_changed p p' w.values.keys e i f g b;
      pages = λ ks. shape_replaced p p' (f e) b;
      says = λ ks. h;
    }

-- ---- the entry of the key, where the target is of that key
module _ (p d : List ℕ) (w : Whole p d) (t : ℕ) (ask : Ask ℕ ℕ) (found : Code.Option E.Entry) (f : book_found found ≡ target book (entries_in p) t ask) (key : Key)
    (there : Code.Option E.Entry) (i : book_found there ≡ itself book key.0 (book_found found)) (e : E.Entry) (h : there ≡ Code.Some e) where
  is_target : (book_found found ≡ some (book_entry e)) × (eqb e.key.0 key.0 ≡ true)
  is_target = itself_is book key.0 (book_found found) (book_entry e) (sym i ∙ ap book_found h)

  pub stands_in : In (book_entry e) (entries_in p)
  stands_in = target_in book (entries_in p) t ask (book_entry e) (sym f ∙ is_target.0)

  pub stands_fits : NameFits (on e.key.0)
  stands_fits = target_fits p d w t ask (Code.Some e) (sym is_target.0 ∙ f)

  pub stands_name : name_in key.0 ≡ on e.key.0
  stands_name = ap name_in (sym (eqb-true e.key.0 key.0 is_target.1)) ∙ name_read (on e.key.0) stands_fits

  pub stands_named : named book (book_found found) ≡ name_in key.0
  stands_named = ap (named book) is_target.0 ∙ sym stands_name

-- ---- what the lock leaves of the queue
module _ (d : List ℕ) (q own free t : ℕ) (n : Name ℕ) (m : Mode) (o : own ≡ held_in d t n) (f : free ≡ free_in d) (d₁ : List ℕ)
    (taken : d₁ ≡ taken_at d own free t n m) where
  locked : d₁ ≡ lock_taken d t n m
  locked = taken_there d own free t n o f m d₁ taken

  pub locked_inside : q < queued d → q < queued d₁
  locked_inside h = omega (arith, ap queued locked ∙ queued_beside (only_taken d t n m) (omega arith))

  pub locked_few : queued d ≤ transactions_most → queued d₁ ≤ transactions_most
  locked_few h = omega (arith, ap queued locked ∙ queued_beside (only_taken d t n m) (omega arith))

  pub locked_asker : q < queued d → queued d ≤ transactions_most → in_place d q ≤ transactions_most → in_place d₁ q ≤ transactions_most
  locked_asker h few l =
      let i : q < transactions_most = omega arith in
      let s = ap (λ x. in_place x q) locked ∙ place_beside (only_taken d t n m) q (omega (arith, i)) in
      omega (arith, s, l)

  pub locked_left : (d₂ : List ℕ) → d₂ ≡ queue_left d₁ q → d₂ ≡ queue_left (lock_taken d t n m) q
  locked_left d₂ h = h ∙ ap (λ x. queue_left x q) locked
