-- What one way through the tests of the locks comes to, in the very facts that the code has there: two slots, a slot and an entry, an
-- entry's key, all locks. Assumes nothing.
use mathlib.Core.Path.{◌≡◌, refl, sym, ap, ap₂, ◌∙◌}
use Rattle.std.specs.Prelude as Code
use mathlib.Core.Bool.{Bool, true, false, not, ◌&&◌, ◌||◌}
use mathlib.Core.List.{List}
use mathlib.Core.Option.{Option, none, some}
use Prim.Native.Nat.{ℕ, zero, suc, ◌+◌, ◌-◌, compare}
use native.Mathlib.Omega.{arith}
use borrow.Author.Tests.{not-true, not-false, eq-eqb, ne_eqb}
use lib.Dec.{eqb}
use Rattle.limits.specs.Limits.{locks_most}
use Rattle.lists.specs.Lists.{tab, all, any, pairs}
use Rattle.rules.specs.Kinds.{Lock}
use Rattle.rules.specs.Entries.{is_there}
use Rattle.rules.specs.Locks.{conflict}
use Rattle.rules.specs.Good.{together}
use Rattle.entries.specs.EntryMeaning.{book_entry}
use Rattle.entries.specs.declared.Entry as E
use Rattle.locks.specs.SlotLayout.{slot_at, slots_of, name_in, book_mode, book_slot}
use Rattle.locks.specs.SlotMoves.{is_slot_of}
use Rattle.locks.proofs.LockValues.{same_name_lem}
use Rattle.locks.specs.declared.Lock as L
use Rattle.trees.specs.Shapes.{tree_paging}
use Rattle.trees.specs.Trees.{document_sizes}
use Rattle.pages.specs.PageLayout.{entry_at}
use Rattle.index.specs.Pictures.{page_at}
use Rattle.judging_locks.specs.LockChecks.{slot_together, slot_has_x, slot_holds, entry_held, has_key, owners_at, slot_named, locks_ok}

-- ---- two slots
module _ (a b : Code.Option L.Lock) where
  pub held_both : (k l : L.Lock) (s c : Bool) → a ≡ Code.Some k → b ≡ Code.Some l → s ≡ eqb k.name.0 l.name.0 → c ≡ conflict (book_mode k.mode) (book_mode l.mode)
      → (not s || (not (eqb k.holder l.holder) && not c)) ≡ slot_together (book_slot a) (book_slot b)
  unfolding together
  held_both k l s c e f g h =
      ap₂ (λ x y. not x || (not (eqb k.holder l.holder) && not y)) (g ∙ sym (same_name_lem (tree_paging compare 0 document_sizes) k.name.0 l.name.0)) h
      ∙ sym (ap₂ (λ x y. slot_together (book_slot x) (book_slot y)) e f)

all_free : (d : List ℕ) (x : Option (Lock ℕ)) (n i : ℕ) → is_there x ≡ false → all (slot_together x) (tab n i (slot_at d)) ≡ true
unfolding all tab
all_free d none zero i h = refl
all_free d none (suc n) i h = all_free d none n (i + 1) h
all_free d (some l) n i h = absurd (let z : ◌≡◌ {A = ℕ} 0 1 = cc in omega arith)

-- a slot and an owner
pub slot_holds_lem : (d : List ℕ) (i t k : ℕ) (s : Code.Option L.Lock) (a b : Bool) → book_slot s ≡ slot_at d i → a ≡ is_slot_of t (name_in k) (book_slot s)
    → b ≡ slot_has_x (book_slot s) → (a && b) ≡ slot_holds t k (slot_at d i)
slot_holds_lem d i t k s a b e f g = ap₂ (λ x y. x && y) f g ∙ ap (slot_holds t k) e

-- whether a slot is in use, as the code asks for it
pub book_there : (a : Code.Option L.Lock) → is_there (book_slot a) ≡ Code.is_some a
book_there Code.None = refl
book_there (Code.Some l) = refl

pub later_free : (d : List ℕ) (i : ℕ) (a : Code.Option L.Lock) (b : Bool) → book_slot a ≡ slot_at d i → Code.is_some a ≡ not b → b ≡ true
    → b ≡ all (slot_together (slot_at d i)) (tab (locks_most - (i + 1)) (i + 1) (slot_at d))
later_free d i a b e f t = t ∙ sym (all_free d (slot_at d i) (locks_most - (i + 1)) (i + 1) (ap is_there (sym e) ∙ book_there a ∙ f ∙ ap not t))

-- ---- every two slots
pub pairs_later : (d : List ℕ) (n i : ℕ) → i + n ≡ locks_most → pairs slot_together (tab n i (slot_at d))
    ≡ all (λ k. all (slot_together (slot_at d k)) (tab (locks_most - (k + 1)) (k + 1) (slot_at d))) (tab n i (λ k. k))
unfolding pairs all tab
pairs_later d zero i e = refl
pairs_later d (suc n) i e =
    let m : n ≡ locks_most - (i + 1) = omega arith in
    ap₂ (λ x y. x && y) (ap (λ k. all (slot_together (slot_at d i)) (tab k (i + 1) (slot_at d))) m) (pairs_later d n (i + 1) (omega arith))

-- ---- a slot and an owner
module _ (s d : List ℕ) (q i : ℕ) (e : E.Entry) (p : List ℕ) (l : p ≡ page_at s q) (f : book_entry e ≡ entry_at p i) where
  read_there : book_entry e ≡ entry_at (page_at s q) i
  read_there = f ∙ ap (λ x. entry_at x i) l

  pub unowned : e.owner ≡ 0 → true ≡ entry_held d (entry_at (page_at s q) i)
  unfolding entry_held
  unowned z =
      sym (ap (entry_held d) (sym read_there) ∙ ap (λ b. b || any (slot_holds e.owner e.key.0) (slots_of d)) (eq-eqb e.owner 0 z))

  pub owned : (r : Bool) → (e.owner ≡ 0 → ⊥) → r ≡ any (slot_holds e.owner e.key.0) (slots_of d) → r ≡ entry_held d (entry_at (page_at s q) i)
  unfolding entry_held
  owned r z g =
      g ∙ sym (ap (entry_held d) (sym read_there) ∙ ap (λ b. b || any (slot_holds e.owner e.key.0) (slots_of d)) (ne_eqb e.owner 0 z))

pub key_lent : (s p : List ℕ) (q i k r : ℕ) (b : Bool) → p ≡ page_at s q → r ≡ (entry_at p i).key → b ≡ eqb r k
    → b ≡ has_key k (entry_at (page_at s q) i)
key_lent s p q i k r b l e f = f ∙ ap (λ x. eqb x k) (e ∙ ap (λ x. (entry_at x i).key) l)

-- ---- all locks
module _ (n : ℕ) (s d : List ℕ) (q : ℕ) (a : Bool) (e : a ≡ pairs slot_together (slots_of d)) where
  pub locks_apart : not a ≡ true → false ≡ locks_ok n s d q
  unfolding locks_ok
  locks_apart t = sym (ap (λ x. (x && all (slot_named n s q) (slots_of d)) && owners_at n s d q) (sym e ∙ not-true a t))

  module _ (t : not a ≡ false) (b : Bool) (f : b ≡ all (slot_named n s q) (slots_of d)) where
    pub locks_unnamed : not b ≡ true → false ≡ locks_ok n s d q
    unfolding locks_ok
    locks_unnamed u = sym (ap₂ (λ x y. (x && y) && owners_at n s d q) (sym e ∙ not-false a t) (sym f ∙ not-true b u))

    pub locks_done : (c : Bool) → not b ≡ false → c ≡ owners_at n s d q → c ≡ locks_ok n s d q
    unfolding locks_ok
    locks_done c u g = g ∙ sym (ap₂ (λ x y. (x && y) && owners_at n s d q) (sym e ∙ not-false a t) (sym f ∙ not-false b u))
