-- Items in strictly ascending order within a range: two such lists one behind the other, such a list cut in two, and with an item put in.
-- From the laws of the order and of pairs. Assumes nothing.
use Prim.Native.Nat.{Ordering}
use mathlib.Core.Path.{◌≡◌, refl, ap}
use mathlib.Core.Bool.{Bool, true, false, cond, not, ◌&&◌}
use mathlib.Core.List.{List, [], ◌∷◌, ◌++◌}
use mathlib.Core.Option.{Option, some}
use lib.Dec.{compare_is_eq}
use borrow.Author.Tests.{not-true}
use Rattle.lists.specs.Lists.{all, pairs, insert_before}
use Rattle.lists.proofs.Tests.{and_left, and_right, and_both, all_head, all_tail, all_cons, all_left, all_right, all_both, all_weaker, all_also}
use Rattle.lists.proofs.Pairs.{pairs_head, pairs_tail, pairs_cons, pairs_apart, pairs_together}
use Rattle.lists.proofs.Places.{all_insert_before}
use Rattle.rules.specs.Kinds.{Ordered}
use Rattle.trees.specs.Trees.{at_most, under, inside}
use Rattle.trees.specs.Growth.{missing}
use Rattle.trees.proofs.KeyOrder.{at_most_itself, at_most_along, at_most_other, under_at_most, under_along, under_then, then_under, inside_under}

module _ {K A : Type 0} (compare : K → K → Ordering) (key : A → K) where
  abbrev pub ascends : A → A → Bool
  ascends a b = under compare (key a) (key b)

  pub record Sorted (lo : K) (hi : Option K) (xs : List A) : Type 0 where
    pub low : all (λ x. at_most compare lo (key x)) xs ≡ true
    pub high : all (λ x. inside compare (key x) hi) xs ≡ true
    pub order : pairs ascends xs ≡ true

  -- the same as a test of a leaf
  abbrev within : K → Option K → A → Bool
  within lo hi x = at_most compare lo (key x) && inside compare (key x) hi

  pub sorted_test : (lo : K) (hi : Option K) (xs : List A) → Sorted lo hi xs → (all (within lo hi) xs && pairs ascends xs) ≡ true
  sorted_test lo hi xs s =
      and_both (all (within lo hi) xs) (pairs ascends xs)
      (all_also (λ x. at_most compare lo (key x)) (λ x. inside compare (key x) hi) xs s.low s.high) s.order

  pub test_sorted : (lo : K) (hi : Option K) (xs : List A) → (all (within lo hi) xs && pairs ascends xs) ≡ true → Sorted lo hi xs
  test_sorted lo hi xs h =
      let w = and_left (all (within lo hi) xs) (pairs ascends xs) h in
      record {
        low = all_weaker (within lo hi) (λ x. at_most compare lo (key x))
            (λ x. and_left (at_most compare lo (key x)) (inside compare (key x) hi)) xs w;
        high = all_weaker (within lo hi) (λ x. inside compare (key x) hi)
            (λ x. and_right (at_most compare lo (key x)) (inside compare (key x) hi)) xs w;
        order = and_right (all (within lo hi) xs) (pairs ascends xs) h;
      }

module _ {K A : Type 0} {compare : K → K → Ordering} (L : Ordered K compare) (key : A → K) where
  pub sorted_glue : (lo m : K) (hi : Option K) (xs ys : List A) → at_most compare lo m ≡ true → inside compare m hi ≡ true
      → Sorted compare key lo (some m) xs → Sorted compare key m hi ys → Sorted compare key lo hi (xs ++ ys)
  sorted_glue lo m hi xs ys l h s t =
      record {
        low = all_both (λ x. at_most compare lo (key x)) xs ys s.low
            (all_weaker (λ y. at_most compare m (key y)) (λ y. at_most compare lo (key y)) (λ y. at_most_along L lo m (key y) l) ys t.low);
        high = all_both (λ x. inside compare (key x) hi) xs ys
            (all_weaker (λ x. under compare (key x) m) (λ x. inside compare (key x) hi) (λ x u. inside_under L (key x) m hi u h) xs s.high)
            t.high;
        order = pairs_together (ascends compare key) xs ys (record { left = s.order; right = t.order; across = across });
      }
    where
      across : all (λ x. all (ascends compare key x) ys) xs ≡ true
      across =
          all_weaker (λ x. under compare (key x) m) (λ x. all (ascends compare key x) ys)
          (λ x u. all_weaker (λ y. at_most compare m (key y)) (ascends compare key x) (λ y. under_then L (key x) m (key y) u) ys t.low) xs s.high

  pub record Cuts (lo : K) (hi : Option K) (xs : List A) (y : A) (ys : List A) : Type 0 where
    pub left : Sorted compare key lo (some (key y)) xs
    pub right : Sorted compare key (key y) hi (y ∷ ys)
    pub upto : inside compare (key y) hi ≡ true

  pub sorted_cut : (lo : K) (hi : Option K) (xs : List A) (y : A) (ys : List A) → Sorted compare key lo hi (xs ++ y ∷ ys) → Cuts lo hi xs y ys
  sorted_cut lo hi xs y ys s =
      let p = pairs_apart (ascends compare key) xs (y ∷ ys) s.order in
      let high = all_right (λ x. inside compare (key x) hi) xs (y ∷ ys) s.high in
      record {
        left = record {
          low = all_left (λ x. at_most compare lo (key x)) xs (y ∷ ys) s.low;
          high = all_weaker (λ x. all (ascends compare key x) (y ∷ ys)) (λ x. ascends compare key x y)
              (λ x. all_head (ascends compare key x) y ys) xs p.across;
          order = p.left;
        };
        right = record {
          low = all_cons (λ z. at_most compare (key y) (key z)) y ys (at_most_itself L (key y))
              (all_weaker (ascends compare key y) (λ z. at_most compare (key y) (key z)) (λ z. under_at_most L (key y) (key z)) ys
              (pairs_head (ascends compare key) y ys p.right));
          high = high;
          order = p.right;
        };
        upto = all_head (λ x. inside compare (key x) hi) y ys high;
      }

  -- the lowest key of the right part lies above the low end where the left part has an item
  pub sorted_above : (lo : K) (hi : Option K) (x y : A) (xs ys : List A) → Sorted compare key lo hi ((x ∷ xs) ++ y ∷ ys)
      → under compare lo (key y) ≡ true
  sorted_above lo hi x y xs ys s =
      let c = sorted_cut lo hi (x ∷ xs) y ys s in
      then_under L lo (key x) (key y) (all_head (λ z. at_most compare lo (key z)) x xs c.left.low)
      (all_head (λ z. ascends compare key z y) x xs c.left.high)

  -- a missing key put in
  insert_ascends : (a : A) (xs : List A) → pairs (ascends compare key) xs ≡ true → missing compare key (key a) xs ≡ true
      → pairs (ascends compare key) (insert_before (λ x. at_most compare (key a) (key x)) a xs) ≡ true
  unfolding insert_before pairs all
  insert_ascends a [] h m = refl
  insert_ascends a (x ∷ xs) h m = go (p x) refl (insert_ascends a xs (pairs_tail r x xs h) (all_tail other x xs m))
    where
      r : A → A → Bool
      r = ascends compare key

      p : A → Bool
      p z = at_most compare (key a) (key z)

      other : A → Bool
      other z = not (compare_is_eq (compare (key z) (key a)))

      go : (b : Bool) → p x ≡ b → pairs r (insert_before p a xs) ≡ true → pairs r (cond b (a ∷ x ∷ xs) (x ∷ insert_before p a xs)) ≡ true
      go true e i =
          let u = at_most_other L (key a) (key x) e (not-true (compare_is_eq (compare (key x) (key a))) (all_head other x xs m)) in
          pairs_cons r a (x ∷ xs)
          (all_cons (r a) x xs u (all_weaker (r x) (r a) (λ z. under_along L (key a) (key x) (key z) u) xs (pairs_head r x xs h))) h
      go false e i = pairs_cons r x (insert_before p a xs) (all_insert_before (r x) p a xs (ap not e) (pairs_head r x xs h)) i

  pub sorted_insert : (lo : K) (hi : Option K) (a : A) (xs : List A) → at_most compare lo (key a) ≡ true → inside compare (key a) hi ≡ true
      → missing compare key (key a) xs ≡ true → Sorted compare key lo hi xs
      → Sorted compare key lo hi (insert_before (λ x. at_most compare (key a) (key x)) a xs)
  sorted_insert lo hi a xs l h m s =
      let p : A → Bool = λ x. at_most compare (key a) (key x) in
      record {
        low = all_insert_before (λ x. at_most compare lo (key x)) p a xs l s.low;
        high = all_insert_before (λ x. inside compare (key x) hi) p a xs h s.high;
        order = insert_ascends a xs s.order m;
      }
