-- Search: the first item that passes a test, if no item under k does, is found among the children from the one on that k belongs to, one
-- child after the other. From the ranges: the items of the children before lie under k. Assumes nothing.
use Prim.Native.Nat.{ℕ, suc, Ordering}
use mathlib.Core.Path.{◌≡◌, refl, sym, ap, ◌∙◌}
use mathlib.Core.Bool.{Bool, true, false, cond, not}
use mathlib.Core.List.{List, [], ◌∷◌, ◌++◌}
use mathlib.Core.Option.{Option, some}
use lib.Dec.{compare_is_eq}
use lib.ListN.{drop}
use lib.Seq.{drop-append_seam}
use Rattle.lists.specs.Lists.{all, pairs, join, first, first_some}
use Rattle.lists.proofs.Tests.{all_cons, all_weaker, first_past}
use Rattle.lists.proofs.Pairs.{pairs_head, pairs_tail}
use Rattle.lists.proofs.Joins.{join_append, first_join}
use Rattle.rules.specs.Kinds.{Ordered}
use Rattle.trees.specs.Trees.{Child, Tree, flat, at_most, under, ranges, ranged}
use Rattle.trees.specs.Growth.{place, missing}
use Rattle.trees.proofs.KeyOrder.{at_most_itself, then_under, under_other, other_under}
use Rattle.trees.proofs.Spots.{Lies, at_spot}
use Rattle.trees.proofs.Sorted.{ascends}
use Rattle.trees.proofs.ChildRanges.{ranged_in, before_under}
use Rattle.trees.proofs.ItemOrder.{flat_sorted}

module _ {K A : Type 0} {compare : K → K → Ordering} (L : Ordered K compare) (key : A → K) (lowest : K) where
  pub first_from : (k : K) (p : A → Bool) → ((x : A) → under compare (key x) k ≡ true → p x ≡ false)
      → (n : ℕ) (lo : K) (hi : Option K) (t : Tree K A (suc n)) → ranged compare key lowest (suc n) lo hi t ≡ true
      → first p (flat K A (suc n) t) ≡ first p (join (λ c. flat K A n c.tree) (drop (place compare k t.holds) t.holds))
  unfolding flat place
  first_from k p fails n lo hi t h =
      at_spot compare k (λ cs. ranges compare f lo hi cs ≡ true → first p (items cs) ≡ first p (items (drop (place compare k cs) cs)))
      (λ e. refl) step t.holds (ranged_in compare key lowest n lo hi t h).each
    where
      f : K → Option K → Tree K A n → Bool
      f = ranged compare key lowest n

      items : List (Child K (Tree K A n)) → List A
      items = join (λ c. flat K A n c.tree)

      step : (b : List (Child K (Tree K A n))) (c : Child K (Tree K A n)) (a : List (Child K (Tree K A n))) → Lies compare k (b ++ c ∷ a) b c a
          → ranges compare f lo hi (b ++ c ∷ a) ≡ true
          → first p (items (b ++ c ∷ a)) ≡ first p (items (drop (place compare k (b ++ c ∷ a)) (b ++ c ∷ a)))
      step b c a lies e =
          ap (first p) (join_append (λ c. flat K A n c.tree) b (c ∷ a))
          ∙ (first_past p (items b) (items (c ∷ a))
          (all_weaker (λ x. under compare (key x) k) (λ x. not (p x)) (λ x u. ap not (fails x u)) (items b)
          (before_under L f key (flat K A n) (flat_sorted L key lowest n) k lo k hi b c a e (lies.from k (at_most_itself L k))))
          ∙ ap (λ cs. first p (items cs)) (sym (ap (λ m. drop m (b ++ c ∷ a)) lies.at ∙ drop-append_seam b (c ∷ a))))

  pub first_child_by_child : (k : K) (p : A → Bool) → ((x : A) → under compare (key x) k ≡ true → p x ≡ false)
      → (n : ℕ) (lo : K) (hi : Option K) (t : Tree K A (suc n)) → ranged compare key lowest (suc n) lo hi t ≡ true
      → first p (flat K A (suc n) t) ≡ first_some (λ c. first p (flat K A n c.tree)) (drop (place compare k t.holds) t.holds)
  first_child_by_child k p fails n lo hi t h =
      first_from k p fails n lo hi t h ∙ first_join p (λ c. flat K A n c.tree) (drop (place compare k t.holds) t.holds)

  -- a key that the first item at or above it does not have is missing
  pub first_missing : (k : K) (xs : List A) → pairs (ascends compare key) xs ≡ true
      → ((y : A) → first (λ x. at_most compare k (key x)) xs ≡ some y → compare_is_eq (compare (key y) k) ≡ false) → missing compare key k xs ≡ true
  unfolding pairs first all
  first_missing k [] h f = refl
  first_missing k (x ∷ xs) h f = go (at_most compare k (key x)) refl f (first_missing k xs (pairs_tail (ascends compare key) x xs h))
    where
      other : A → Bool
      other y = not (compare_is_eq (compare (key y) k))

      go : (b : Bool) → at_most compare k (key x) ≡ b
          → ((y : A) → cond b (some x) (first (λ x. at_most compare k (key x)) xs) ≡ some y → compare_is_eq (compare (key y) k) ≡ false)
          → (((y : A) → first (λ x. at_most compare k (key x)) xs ≡ some y → compare_is_eq (compare (key y) k) ≡ false) → all other xs ≡ true)
          → all other (x ∷ xs) ≡ true
      go true e f r =
          all_cons other x xs (ap not (f x refl))
          (all_weaker (ascends compare key x) other (λ y u. ap not (other_under L k (key y) (then_under L k (key x) (key y) e u))) xs
          (pairs_head (ascends compare key) x xs h))
      go false e f r = all_cons other x xs (ap not (under_other L (key x) k (ap not e))) (r f)
