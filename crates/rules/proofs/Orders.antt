-- The keys of document 01 are ordered: the five laws of the comparison of numbers. A comparison that says less or more is turned into
-- an inequality and back. Assumes nothing.
use Prim.Native.Nat.compare
use Prim.Native.Nat.{Ordering}
use Prim.Native.Nat.{ℕ, zero, suc, ◌≤◌, ◌<◌, compare}
use mathlib.Core.Path.{◌≡◌, ap, ◌∙◌}
use native.Mathlib.Nat.{le_of_suc-le-suc, not-suc-le-zero}
use native.Mathlib.Omega.{arith}
use lib.Dec.{is_le, compare_is_eq}
use borrow.Author.Tests.{leb-true, leb-false, eqb-true, eqb-false}
use Rattle.rules.specs.Kinds.{Ordered}

itself : (a : ℕ) → compare a a ≡ Ordering.eq
itself zero = compare.zero-zero
itself (suc a) = compare.suc-suc a a ∙ itself a

compared : (a b : ℕ) → a < b → (compare a b ≡ Ordering.lt) × (compare b a ≡ Ordering.gt)
compared a zero h = absurd (not-suc-le-zero h)
compared zero (suc b) h = (compare.zero-suc b, compare.suc-zero b)
compared (suc a) (suc b) h = let w = compared a b (le_of_suc-le-suc h) in (compare.suc-suc a b ∙ w.0, compare.suc-suc b a ∙ w.1)

less : (a b : ℕ) → compare a b ≡ Ordering.lt → a < b
less a b e =
    let l : a ≤ b = leb-true a b (ap is_le e) in
    let n : a ≡ b → ⊥ = eqb-false a b (ap compare_is_eq e) in omega arith

more : (a b : ℕ) → compare a b ≡ Ordering.gt → b < a
more a b e = leb-false a b (ap is_le e)

pub numbers_ordered : Ordered ℕ compare
numbers_ordered = record {
  equal = λ a b e. eqb-true a b (ap compare_is_eq e);
  itself = itself;
  below = λ a b e. (compared a b (less a b e)).1;
  above = λ a b e. (compared b a (more a b e)).0;
  along = λ a b c d e. let p : a < b = less a b d in let q : b < c = less b c e in (compared a c (omega arith)).0;
}
