-- The order of keys as tests: what at most, under and inside say together. From the five laws of the order, by the answers that a
-- comparison gives. Assumes nothing.
use Prim.Native.Nat.{Ordering}
use mathlib.Core.Path.{◌≡◌, refl, sym, ap, subst, ◌∙◌}
use mathlib.Core.Logic.{◌⊎◌, inl, inr, ⊎_elim}
use mathlib.Core.Bool.{true, false, not, true≢false, false≢true}
use mathlib.Core.Option.{Option, none, some}
use lib.Dec.{is_le, compare_is_eq}
use Rattle.rules.specs.Kinds.{Ordered}
use Rattle.trees.specs.Trees.{at_most, under, inside}

module _ {K : Type 0} {compare : K → K → Ordering} (L : Ordered K compare) where
  under_lt : (a b : K) → under compare a b ≡ true → compare a b ≡ Ordering.lt
  under_lt a b h = go (compare b a) refl h
    where
      go : (o : Ordering) → compare b a ≡ o → not (is_le o) ≡ true → compare a b ≡ Ordering.lt
      go Ordering.lt e h = absurd (false≢true h)
      go Ordering.eq e h = absurd (false≢true h)
      go Ordering.gt e h = L.above b a e

  lt_under : (a b : K) → compare a b ≡ Ordering.lt → under compare a b ≡ true
  lt_under a b e = ap (λ o. not (is_le o)) (L.below a b e)

  at_most_cases : (a b : K) → at_most compare a b ≡ true → (under compare a b ≡ true) ⊎ (a ≡ b)
  at_most_cases a b h = go (compare a b) refl h
    where
      go : (o : Ordering) → compare a b ≡ o → is_le o ≡ true → (under compare a b ≡ true) ⊎ (a ≡ b)
      go Ordering.lt e h = inl (lt_under a b e)
      go Ordering.eq e h = inr (L.equal a b e)
      go Ordering.gt e h = absurd (false≢true h)

  pub at_most_itself : (a : K) → at_most compare a a ≡ true
  at_most_itself a = ap is_le (L.itself a)

  pub same_itself : (a : K) → compare_is_eq (compare a a) ≡ true
  same_itself a = ap compare_is_eq (L.itself a)

  pub under_at_most : (a b : K) → under compare a b ≡ true → at_most compare a b ≡ true
  under_at_most a b h = ap is_le (under_lt a b h)

  pub under_along : (a b c : K) → under compare a b ≡ true → under compare b c ≡ true → under compare a c ≡ true
  under_along a b c h k = lt_under a c (L.along a b c (under_lt a b h) (under_lt b c k))

  pub under_then : (a b c : K) → under compare a b ≡ true → at_most compare b c ≡ true → under compare a c ≡ true
  under_then a b c h k = ⊎_elim (under_along a b c h) (λ e. subst (λ z. under compare a z ≡ true) e h) (at_most_cases b c k)

  pub then_under : (a b c : K) → at_most compare a b ≡ true → under compare b c ≡ true → under compare a c ≡ true
  then_under a b c h k = ⊎_elim (λ u. under_along a b c u k) (λ e. subst (λ z. under compare z c ≡ true) (sym e) k) (at_most_cases a b h)

  pub at_most_along : (a b c : K) → at_most compare a b ≡ true → at_most compare b c ≡ true → at_most compare a c ≡ true
  at_most_along a b c h k =
      ⊎_elim (λ u. under_at_most a c (under_then a b c u k)) (λ e. subst (λ z. at_most compare z c ≡ true) (sym e) k) (at_most_cases a b h)

  -- at most, and not the same
  pub at_most_other : (a b : K) → at_most compare a b ≡ true → compare_is_eq (compare b a) ≡ false → under compare a b ≡ true
  at_most_other a b h d =
      ⊎_elim (λ u. u) (λ e. absurd (true≢false (sym (same_itself b) ∙ subst (λ z. compare_is_eq (compare b z) ≡ false) e d))) (at_most_cases a b h)

  -- one under another is not the same, whichever way round
  pub under_other : (a b : K) → under compare a b ≡ true → compare_is_eq (compare a b) ≡ false
  under_other a b h = ap compare_is_eq (under_lt a b h)

  pub other_under : (a b : K) → under compare a b ≡ true → compare_is_eq (compare b a) ≡ false
  other_under a b h = ap compare_is_eq (L.below a b (under_lt a b h))

  pub inside_under : (a m : K) (hi : Option K) → under compare a m ≡ true → inside compare m hi ≡ true → inside compare a hi ≡ true
  inside_under a m none h k = refl
  inside_under a m (some hi) h k = under_along a m hi h k
