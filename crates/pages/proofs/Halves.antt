-- A list searched by halves for the first element that passes a test: where one passes, the first is no further; where one fails and the test,
-- once passed, passes on, the first lies beyond it. By induction on the list. And how many are looked at. Assumes nothing.
use Prim.Native.Nat.{ℕ, zero, suc, ◌+◌, ◌-◌, ◌/◌, ◌≤◌, ◌<◌}
use mathlib.Core.Path.{◌≡◌, refl, sym, ◌∙◌}
use mathlib.Core.Bool.{Bool, true, false, cond, true≢false}
use mathlib.Core.List.{List, [], ◌∷◌}
use native.Mathlib.Nat.{not-suc-le-zero, le_of_suc-le-suc}
use native.Mathlib.Omega.{arith}
use lib.ListN.{length, get_or}
use Rattle.limits.specs.Limits.{leaf_most}
use Rattle.lists.specs.Lists.{place, pairs}
use Rattle.lists.proofs.Elements.{all_in, in_place_lem}
use Rattle.lists.proofs.Pairs.{pairs_head, pairs_tail}

module _ {A : Type 0} (q : A → Bool) where
  pub place_within : (xs : List A) → place q xs ≤ length xs
  unfolding place
  place_within [] = omega arith
  place_within (x ∷ xs) = go (q x) (place_within xs)
    where
      go : (b : Bool) → place q xs ≤ length xs → cond b 0 (suc (place q xs)) ≤ suc (length xs)
      go true h = omega arith
      go false h = omega arith

  pub place_upto : (xs : List A) (i : ℕ) (d : A) → i < length xs → q (get_or xs i d) ≡ true → place q xs ≤ i
  unfolding place
  place_upto [] i d h e = absurd (not-suc-le-zero h)
  place_upto (x ∷ xs) zero d h e = rw e (omega arith)
  place_upto (x ∷ xs) (suc i) d h e = go (q x) (place_upto xs i d (le_of_suc-le-suc h) e)
    where
      go : (b : Bool) → place q xs ≤ i → cond b 0 (suc (place q xs)) ≤ suc i
      go true l = omega arith
      go false l = omega arith

  module _ (r : A → A → Bool) (on : (a b : A) → r a b ≡ true → q a ≡ true → q b ≡ true) where
    pub place_beyond : (xs : List A) (i : ℕ) (d : A) → pairs r xs ≡ true → i < length xs → q (get_or xs i d) ≡ false → i < place q xs
    unfolding place
    place_beyond [] i d o h e = absurd (not-suc-le-zero h)
    place_beyond (x ∷ xs) zero d o h e = rw e (omega arith)
    place_beyond (x ∷ xs) (suc i) d o h e = go (q x) refl (place_beyond xs i d (pairs_tail r x xs o) l e)
      where
        l : i < length xs
        l = le_of_suc-le-suc h

        go : (b : Bool) → q x ≡ b → i < place q xs → suc i < cond b 0 (suc (place q xs))
        go true p m =
            absurd (true≢false (sym (on x (get_or xs i d) (all_in (r x) xs (get_or xs i d) (pairs_head r x xs o) (in_place_lem xs i d l)) p) ∙ e))
        go false p m = omega arith

-- Of the places from low to high a look at the middle one leaves at most half, below it or above it; so five looks leave none of a full leaf's.
pub record AtMostHalf (low high : ℕ) : Type 0 where
  pub below : low + (high - low) / 2 - low ≤ (high - low) / 2
  pub above : high - (low + (high - low) / 2 + 1) ≤ (high - low) / 2

pub at_most_half : (low high : ℕ) → AtMostHalf low high
at_most_half low high = record { below = omega arith; above = omega arith }

pub five_looks : (n : ℕ) → n ≤ leaf_most → n / 2 / 2 / 2 / 2 / 2 ≡ 0
five_looks n h = omega arith
