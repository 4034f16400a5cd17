-- How many elements a list has: no more are kept than there are, fewer where one fails, one less where it alone does; and a list without
-- repeats is no longer than one that has all its elements, since each takes one of its own away from it. Assumes nothing.
use mathlib.Core.Path.{◌≡◌, refl, ap, subst, ◌∙◌}
use mathlib.Core.Logic.{inl, inr}
use mathlib.Core.Bool.{Bool, true, false, cond, not}
use mathlib.Core.List.{List, [], ◌∷◌}
use Prim.Native.Nat.{ℕ, suc, ◌≤◌, ◌<◌}
use native.Mathlib.Omega.{arith}
use borrow.Author.Tests.{eq-eqb}
use lib.Dec.{eqb}
use lib.ListN.{length}
use Rattle.lists.specs.Lists.{all, keep, pairs, In}
use Rattle.lists.proofs.Tests.{eqb_turn, keep_all}
use Rattle.lists.proofs.Elements.{in_all, in_keep, all_in}
use Rattle.lists.proofs.Pairs.{pairs_head, pairs_tail}

module _ {A : Type 0} where
  keep_no_longer : (p : A → Bool) (xs : List A) → length (keep p xs) ≤ length xs
  unfolding keep
  keep_no_longer p [] = omega arith
  keep_no_longer p (y ∷ ys) = go (p y) (keep_no_longer p ys)
    where
      go : (b : Bool) → length (keep p ys) ≤ length ys → length (cond b (y ∷ keep p ys) (keep p ys)) ≤ suc (length ys)
      go true h = omega arith
      go false h = omega arith

  pub keep_shorter : (p : A → Bool) (xs : List A) (x : A) → In x xs → p x ≡ false → length (keep p xs) < length xs
  unfolding keep
  keep_shorter p [] x x4 h = elim x4 [ ]
  keep_shorter p (y ∷ ys) x (inl e) h = rw (ap p e ∙ h) (omega (arith, keep_no_longer p ys))
  keep_shorter p (y ∷ ys) x (inr i) h = go (p y) (keep_shorter p ys x i h)
    where
      go : (b : Bool) → length (keep p ys) < length ys → length (cond b (y ∷ keep p ys) (keep p ys)) < suc (length ys)
      go true q = omega arith
      go false q = omega arith

  -- x alone fails: r holds between every two, and whatever stands in r to x passes
  pub keep_but_one : (r : A → A → Bool) (p : A → Bool) (xs : List A) (x : A) → pairs r xs ≡ true
      → ((y : A) → r x y ≡ true → p y ≡ true) → ((y : A) → r y x ≡ true → p y ≡ true)
      → In x xs → p x ≡ false → suc (length (keep p xs)) ≡ length xs
  unfolding keep
  keep_but_one r p [] x d after before x7 h = elim x7 [ ]
  keep_but_one r p (y ∷ ys) x d after before (inl e) h =
      let others : all p ys ≡ true = in_all p ys (λ z j. after z (subst (λ w. r w z ≡ true) e (all_in (r y) ys z (pairs_head r y ys d) j))) in
      rw (ap p e ∙ h, keep_all p ys others)
  keep_but_one r p (y ∷ ys) x d after before (inr i) h =
      rw (before y (all_in (r y) ys x (pairs_head r y ys d) i)) (ap suc (keep_but_one r p ys x (pairs_tail r y ys d) after before i h))

module _ {A : Type 0} where
  -- what has a number of its own in a list is no more than the list is long
  pub no_more : (f : A → ℕ) (xs : List A) (ys : List ℕ) → pairs (λ a b. not (eqb (f a) (f b))) xs ≡ true
      → ((x : A) → In x xs → In (f x) ys) → length xs ≤ length ys
  no_more f [] ys d i = omega arith
  no_more f (x ∷ xs) ys d i =
      let others : ℕ → Bool = λ y. not (eqb y (f x)) in
      let differ : A → A → Bool = λ a b. not (eqb (f a) (f b)) in
      let shorter : length (keep others ys) < length ys =
      keep_shorter others ys (f x) (i x (inl refl)) (ap not (eq-eqb (f x) (f x) refl)) in
      let rest : length xs ≤ length (keep others ys) =
      no_more f xs (keep others ys) (pairs_tail differ x xs d)
      (λ y j. in_keep others ys (f y) (i y (inr j)) (ap not (eqb_turn (f y) (f x)) ∙ all_in (differ x) xs y (pairs_head differ x xs d) j)) in
      omega arith
