-- How many a page holds: an insert keeps every page within its bounds, and both halves of a divided page have enough. By induction on the
-- level; of the children only how many they are, and that each is within its bounds, is known. Assumes nothing.
use Prim.Native.Nat.{ℕ, zero, suc, ◌+◌, ◌≤◌, Ordering}
use mathlib.Core.Path.{◌≡◌, refl, sym, ap, subst, ◌∙◌}
use mathlib.Core.Bool.{Bool, true, false, ◌&&◌}
use mathlib.Core.List.{List, [], ◌∷◌, ◌++◌}
use mathlib.Core.Option.{Option, none, some}
use native.Mathlib.Omega.{arith}
use lib.Dec.{leb}
use lib.ListN.{length, take, drop, length-append, length-take, length-drop, take-append-drop}
use borrow.Author.Tests.{leb-true, leb-false, le-leb}
use Rattle.lists.specs.Lists.{insert_before, all}
use Rattle.lists.proofs.Tests.{and_left, and_right, and_both, all_head, all_tail, all_left, all_right, all_both}
use Rattle.lists.proofs.Places.{length_insert_before}
use Rattle.trees.specs.Trees.{Sizes, Child, Tree, Index, Fair, counted, at_most}
use Rattle.trees.specs.Growth.{Grown, halves, beside, parts, from_lowest, low_key, low_of, widened, grown, rooted, with_item}
use Rattle.trees.proofs.Spots.{Lies, widen}

module _ (K A : Type 0) (Z : Sizes) where
  -- what `counted` says of an inner page
  pub record Filled (least n : ℕ) (cs : List (Child K (Tree K A n))) : Type 0 where
    pub few : least ≤ length cs
    pub many : length cs ≤ Z.inner_most
    pub each : all (λ c. counted K A Z Z.fewest n c.tree) cs ≡ true

  pub counted_filled : (least n : ℕ) (t : Tree K A (suc n)) → counted K A Z least (suc n) t ≡ true → Filled least n t.holds
  unfolding counted
  counted_filled least n t h =
      let m = length t.holds in
      let b = and_left (leb least m && leb m Z.inner_most) (all (λ c. counted K A Z Z.fewest n c.tree) t.holds) h in
      record {
        few = leb-true least m (and_left (leb least m) (leb m Z.inner_most) b);
        many = leb-true m Z.inner_most (and_right (leb least m) (leb m Z.inner_most) b);
        each = and_right (leb least m && leb m Z.inner_most) (all (λ c. counted K A Z Z.fewest n c.tree) t.holds) h;
      }

  pub filled_counted : (least n : ℕ) (t : Tree K A (suc n)) → Filled least n t.holds → counted K A Z least (suc n) t ≡ true
  unfolding counted
  filled_counted least n t f =
      let m = length t.holds in
      and_both (leb least m && leb m Z.inner_most) (all (λ c. counted K A Z Z.fewest n c.tree) t.holds)
      (and_both (leb least m) (leb m Z.inner_most) (le-leb least m f.few) (le-leb m Z.inner_most f.many)) f.each

  -- a tree that has grown is within its bounds: the same if it is whole, those of any page but the root if it was divided
  abbrev pub Kept : (least n : ℕ) → Tree K A n → Option (Child K (Tree K A n)) → Type 0
  Kept least n t none = counted K A Z least n t ≡ true
  Kept least n t (some c) = (counted K A Z Z.fewest n t ≡ true) × (counted K A Z Z.fewest n c.tree ≡ true)

  kept_parts : (n : ℕ) (low : K) (t : Tree K A n) (o : Option (Child K (Tree K A n))) → Kept Z.fewest n t o
      → all (λ c. counted K A Z Z.fewest n c.tree) (record { low = low; tree = t } ∷ beside o) ≡ true
  unfolding all
  kept_parts n low t none h = and_both (counted K A Z Z.fewest n t) true h refl
  kept_parts n low t (some c) h =
      and_both (counted K A Z Z.fewest n t) (counted K A Z Z.fewest n c.tree && true) h.0
      (and_both (counted K A Z Z.fewest n c.tree) true h.1 refl)

  module _ (fair : Fair Z) where
    leaf_kept : (least : ℕ) (low : List A → K) (used number : ℕ) (xs : List A) → length xs ≤ suc Z.leaf_most
        → let g = halves (leb (length xs) Z.leaf_most) Z.leaf_stay low (λ ys. ys) used number xs in Kept least 0 g.tree g.beside
    unfolding counted
    leaf_kept least low used number xs h = go (leb (length xs) Z.leaf_most) refl
      where
        go : (b : Bool) → leb (length xs) Z.leaf_most ≡ b
            → let g = halves b Z.leaf_stay low (λ ys. ys) used number xs in Kept least 0 g.tree g.beside
        go true e = e
        go false e = (
          le-leb (length (take Z.leaf_stay xs)) Z.leaf_most (omega (arith, length-take Z.leaf_stay xs, fair.leaf_left)),
          le-leb (length (drop Z.leaf_stay xs)) Z.leaf_most (omega (arith, length-drop Z.leaf_stay xs, fair.leaf_some)),
        )

    from_lowest_counted : {T : Type 0} (p : T → Bool) (lowest : K) (cs : List (Child K T)) → all (λ c. p c.tree) cs ≡ true
        → all (λ c. p c.tree) (from_lowest lowest cs) ≡ true
    unfolding all
    from_lowest_counted p lowest [] h = h
    from_lowest_counted p lowest (c ∷ cs) h = h

    from_lowest_length : {T : Type 0} (lowest : K) (cs : List (Child K T)) → length (from_lowest lowest cs) ≡ length cs
    from_lowest_length lowest [] = refl
    from_lowest_length lowest (c ∷ cs) = refl

    inner_kept : (least n : ℕ) (lowest : K) (used number : ℕ) (cs : List (Child K (Tree K A n))) → least ≤ length cs
        → length cs ≤ suc Z.inner_most → all (λ c. counted K A Z Z.fewest n c.tree) cs ≡ true
        → let g = halves (leb (length cs) Z.inner_most) Z.inner_stay (low_of lowest) (from_lowest lowest) used number cs in
        Kept least (suc n) g.tree g.beside
    inner_kept least n lowest used number cs few many each = go (leb (length cs) Z.inner_most) refl
      where
        stay : ℕ
        stay = Z.inner_stay

        p : Child K (Tree K A n) → Bool
        p c = counted K A Z Z.fewest n c.tree

        both : all p (take stay cs ++ drop stay cs) ≡ true
        both = subst (λ zs. all p zs ≡ true) (sym (take-append-drop stay cs)) each

        go : (b : Bool) → leb (length cs) Z.inner_most ≡ b
            → let g = halves b stay (low_of lowest) (from_lowest lowest) used number cs in Kept least (suc n) g.tree g.beside
        go true e =
            filled_counted least n (record { number = number; holds = cs })
            (record { few = few; many = leb-true (length cs) Z.inner_most e; each = each })
        go false e =
            let m = leb-false (length cs) Z.inner_most e in (
              filled_counted Z.fewest n (record { number = number; holds = take stay cs })
                  (record {
                    few = omega (arith, length-take stay cs, fair);
                    many = omega (arith, length-take stay cs, fair);
                    each = all_left p (take stay cs) (drop stay cs) both;
                  }),
              filled_counted Z.fewest n (record { number = used; holds = from_lowest lowest (drop stay cs) })
                  (record {
                    few = omega (arith, from_lowest_length lowest (drop stay cs), length-drop stay cs, fair);
                    many = omega (arith, from_lowest_length lowest (drop stay cs), length-drop stay cs, fair);
                    each = from_lowest_counted (counted K A Z Z.fewest n) lowest (drop stay cs) (all_right p (take stay cs) (drop stay cs) both);
                  }),
            )

    -- a row of children, one of which has grown: at most one more of them, and each within its bounds
    record Kept-row {T : Type 0} (p : T → Bool) (cs row : List (Child K T)) : Type 0 where
      few : length cs ≤ length row
      many : length row ≤ suc (length cs)
      each : all (λ c. p c.tree) row ≡ true

    one_at_most : {T : Type 0} (o : Option (Child K T)) → length (beside o) ≤ 1
    one_at_most none = omega arith
    one_at_most (some c) = omega arith

    widened_kept : {T : Type 0} (compare : K → K → Ordering) (k : K) (p : T → Bool) (f : T → Grown K T) (used : ℕ)
        → ((low : K) (t : T) → p t ≡ true → all (λ c. p c.tree) (parts low (f t)) ≡ true)
        → (cs : List (Child K T)) → all (λ c. p c.tree) cs ≡ true → Kept-row p cs (widened compare k f used cs).children
    unfolding all
    widened_kept {T} compare k p f used h =
        widen compare k f used (λ cs r. all (λ c. p c.tree) cs ≡ true → Kept-row p cs r.children)
        (λ e. record { few = omega arith; many = omega arith; each = refl }) step
      where
        q : Child K T → Bool
        q c = p c.tree

        step : (b : List (Child K T)) (c : Child K T) (a : List (Child K T)) → Lies compare k (b ++ c ∷ a) b c a
            → all q (b ++ c ∷ a) ≡ true → Kept-row p (b ++ c ∷ a) (b ++ (parts c.low (f c.tree) ++ a))
        step b c a l e =
            let new = parts c.low (f c.tree) in
            let here = all_right q b (c ∷ a) e in
            let m : length (b ++ (new ++ a)) ≡ length b + suc (length (beside (f c.tree).beside) + length a) =
            length-append b (new ++ a) ∙ ap (λ n. length b + suc n) (length-append (beside (f c.tree).beside) a) in
            record {
              few = omega (arith, m, length-append b (c ∷ a));
              many = omega (arith, m, length-append b (c ∷ a), one_at_most (f c.tree).beside);
              each = all_both q b (new ++ a) (all_left q b (c ∷ a) e)
                  (all_both q new a (h c.low c.tree (all_head q c a here)) (all_tail q c a here));
            }

    pub grown_kept : (compare : K → K → Ordering) (key : A → K) (lowest : K) (least n : ℕ) (a : A) (used : ℕ) (t : Tree K A n)
        → counted K A Z least n t ≡ true → let g = grown compare key lowest Z n a used t in Kept least n g.tree g.beside
    unfolding grown counted
    grown_kept compare key lowest least zero a used t h =
        leaf_kept least (low_key key lowest) used t.number (insert_before (λ x. at_most compare (key a) (key x)) a t.holds)
        (omega (arith, length_insert_before (λ x. at_most compare (key a) (key x)) a t.holds, leb-true (length t.holds) Z.leaf_most h))
    grown_kept compare key lowest least (suc n) a used t h =
        let f = grown compare key lowest Z n a used in
        let r = widened compare (key a) f used t.holds in
        let c = counted_filled least n t h in
        let w = widened_kept compare (key a) (counted K A Z Z.fewest n) f used
        (λ low u e. kept_parts n low (f u).tree (f u).beside (grown_kept compare key lowest Z.fewest n a used u e)) t.holds c.each in
        inner_kept least n lowest r.used t.number r.children (omega arith) (omega arith) w.each

    rooted_counted : (compare : K → K → Ordering) (key : A → K) (lowest : K) (n : ℕ) (g : Grown K (Tree K A n)) (o : Option (Child K (Tree K A n)))
        → Kept 2 n g.tree o → let x = rooted compare key lowest Z n g o in counted K A Z 2 x.level x.tree ≡ true
    unfolding rooted
    rooted_counted compare key lowest n g none h = h
    rooted_counted compare key lowest n g (some c) h =
        filled_counted 2 n (record { number = g.used; holds = record { low = lowest; tree = g.tree } ∷ c ∷ [] })
        (record { few = omega arith; many = omega (arith, fair); each = kept_parts n lowest g.tree (some c) h })

    pub with_counted : (compare : K → K → Ordering) (key : A → K) (lowest : K) (a : A) (x : Index K A)
        → counted K A Z 2 x.level x.tree ≡ true → let y = with_item compare key lowest Z a x in counted K A Z 2 y.level y.tree ≡ true
    unfolding with_item
    with_counted compare key lowest a x h =
        let g = grown compare key lowest Z x.level a x.used x.tree in
        rooted_counted compare key lowest x.level g g.beside (grown_kept compare key lowest 2 x.level a x.used x.tree h)
