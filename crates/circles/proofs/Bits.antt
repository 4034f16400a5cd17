-- Who is in a set: in the empty one nobody, in a union whoever is in either, in a set with t added t and whoever was in it.
-- By the laws of words, with number t - 1 for transaction t. Assumes nothing.
use Prim.Native.Nat.{ℕ, zero, suc, ◌-◌, ◌≤◌}
use mathlib.Core.Path.{◌≡◌, refl, sym, ap, ◌∙◌}
use mathlib.Core.Bool.{Bool, false, ◌||◌}
use native.Mathlib.Omega.{arith}
use borrow.Author.Tests.{ne_eqb}
use lib.Bits.{bit_or}
use lib.Dec.{eqb, eqb-suc-suc}
use Rattle.sets.specs.Sets.{word_has}
use Rattle.sets.proofs.Words.{word_none, word_union, word_with_lem}
use Rattle.circles.specs.CircleSets.{has}
use Rattle.circles.specs.Search.{with_one}

one_less : (t : ℕ) → 1 ≤ t → suc (t - 1) ≡ t
one_less t h = omega arith

-- what the code's look at the word gives
pub word_at : (m t : ℕ) (b : Bool) → 1 ≤ t → b ≡ word_has m (t - 1) → b ≡ has m t
unfolding has
word_at m t b h e = e ∙ ap (has m) (one_less t h)

pub has_none : (t : ℕ) → has 0 t ≡ false
unfolding has
has_none zero = refl
has_none (suc t) = word_none t

pub has_union : (m n t : ℕ) → has (bit_or m n) t ≡ (has m t || has n t)
unfolding has
has_union m n zero = refl
has_union m n (suc t) = word_union m n t

pub has_with : (m t u : ℕ) → 1 ≤ t → has (with_one m t) u ≡ (has m u || eqb t u)
unfolding has with_one
has_with m t zero h = sym (ne_eqb t 0 (λ e. omega arith))
has_with m t (suc u) h =
    word_with_lem m (t - 1) u ∙ ap (λ b. word_has m u || b) (sym (eqb-suc-suc (t - 1) u) ∙ ap (λ k. eqb k (suc u)) (one_less t h))
