-- The ranges of the children of a page: cut at a child and glued again, one child changed for others, and what they say of the items of
-- all children. By induction on the children, for any test f of a range and a tree. Assumes nothing.
use Prim.Native.Nat.{ℕ, suc, Ordering}
use mathlib.Core.Path.{◌≡◌, refl, sym, ap, subst}
use mathlib.Core.Bool.{Bool, true, ◌&&◌}
use mathlib.Core.List.{List, [], ◌∷◌, ◌++◌, map, append-nil}
use mathlib.Core.Option.{Option, some}
use Rattle.lists.specs.Lists.{all, pairs, join}
use Rattle.lists.proofs.Tests.{and_left, and_right, and_both, all_weaker}
use Rattle.rules.specs.Kinds.{Ordered}
use Rattle.trees.specs.Trees.{Child, Tree, at_most, under, inside, first_low, ranges, ranged}
use Rattle.trees.specs.Growth.{with_tree}
use Rattle.trees.proofs.KeyOrder.{under_at_most, under_along, under_then, inside_under}
use Rattle.trees.proofs.Spots.{start_of, end_of}
use Rattle.trees.proofs.Sorted.{Sorted, sorted_glue}

-- the ranges of children whose trees are changed by h, and by a weaker test
pub ranges_map : {K T U : Type 0} (compare : K → K → Ordering) (f : K → Option K → U → Bool) (h : T → U) (lo : K) (hi : Option K)
    (cs : List (Child K T)) → ranges compare f lo hi (map (with_tree h) cs) ≡ ranges compare (λ lo hi t. f lo hi (h t)) lo hi cs
unfolding ranges
ranges_map compare f h lo hi [] = refl
ranges_map compare f h lo hi (c ∷ []) = refl
ranges_map compare f h lo hi (c ∷ d ∷ cs) =
    ap (λ b. (f lo (some d.low) (h c.tree) && (under compare lo d.low && inside compare d.low hi)) && b)
    (ranges_map compare f h d.low hi (d ∷ cs))

module _ {K T : Type 0} (compare : K → K → Ordering) where
  -- what the test of a child and of those behind it says, the first of which begins at m
  record First (f : K → Option K → T → Bool) (lo m : K) (hi : Option K) (t : T) (rest : Bool) : Type 0 where
    own : f lo (some m) t ≡ true
    over : under compare lo m ≡ true
    upto : inside compare m hi ≡ true
    behind : rest ≡ true

  apart : (f : K → Option K → T → Bool) (lo m : K) (hi : Option K) (t : T) (rest : Bool)
      → ((f lo (some m) t && (under compare lo m && inside compare m hi)) && rest) ≡ true → First f lo m hi t rest
  apart f lo m hi t rest h =
      let sep = under compare lo m && inside compare m hi in
      let p = and_left (f lo (some m) t && sep) rest h in
      let q = and_right (f lo (some m) t) sep p in
      record {
        own = and_left (f lo (some m) t) sep p;
        over = and_left (under compare lo m) (inside compare m hi) q;
        upto = and_right (under compare lo m) (inside compare m hi) q;
        behind = and_right (f lo (some m) t && sep) rest h;
      }

  together : (f : K → Option K → T → Bool) (lo m : K) (hi : Option K) (t : T) (rest : Bool) → First f lo m hi t rest
      → ((f lo (some m) t && (under compare lo m && inside compare m hi)) && rest) ≡ true
  together f lo m hi t rest p =
      let sep = under compare lo m && inside compare m hi in
      and_both (f lo (some m) t && sep) rest
      (and_both (f lo (some m) t) sep p.own (and_both (under compare lo m) (inside compare m hi) p.over p.upto)) p.behind

  pub ranges_weaker : (f g : K → Option K → T → Bool) → ((lo : K) (hi : Option K) (t : T) → f lo hi t ≡ true → g lo hi t ≡ true)
      → (lo : K) (hi : Option K) (cs : List (Child K T)) → ranges compare f lo hi cs ≡ true → ranges compare g lo hi cs ≡ true
  unfolding ranges
  ranges_weaker f g w lo hi [] h = refl
  ranges_weaker f g w lo hi (c ∷ []) h = w lo hi c.tree h
  ranges_weaker f g w lo hi (c ∷ d ∷ cs) h =
      let p = apart f lo d.low hi c.tree (ranges compare f d.low hi (d ∷ cs)) h in
      together g lo d.low hi c.tree (ranges compare g d.low hi (d ∷ cs))
      (record {
        own = w lo (some d.low) c.tree p.own;
        over = p.over;
        upto = p.upto;
        behind = ranges_weaker f g w d.low hi (d ∷ cs) p.behind;
      })

module _ {K T : Type 0} {compare : K → K → Ordering} (L : Ordered K compare) (f : K → Option K → T → Bool) where
  -- two rows of children, the second of which begins at m
  pub record Halves (lo m : K) (hi : Option K) (xs ys : List (Child K T)) : Type 0 where
    pub left : ranges compare f lo (some m) xs ≡ true
    pub right : ranges compare f m hi ys ≡ true
    pub over : under compare lo m ≡ true
    pub upto : inside compare m hi ≡ true

  pub ranges_cut : (lo : K) (hi : Option K) (b : Child K T) (bs : List (Child K T)) (c : Child K T) (cs : List (Child K T))
      → ranges compare f lo hi ((b ∷ bs) ++ c ∷ cs) ≡ true → Halves lo c.low hi (b ∷ bs) (c ∷ cs)
  unfolding ranges
  ranges_cut lo hi b [] c cs h =
      let p = apart compare f lo c.low hi b.tree (ranges compare f c.low hi (c ∷ cs)) h in
      record { left = p.own; right = p.behind; over = p.over; upto = p.upto }
  ranges_cut lo hi b (d ∷ bs) c cs h =
      let p = apart compare f lo d.low hi b.tree (ranges compare f d.low hi ((d ∷ bs) ++ c ∷ cs)) h in
      let q = ranges_cut d.low hi d bs c cs p.behind in
      record {
        left = together compare f lo d.low (some c.low) b.tree (ranges compare f d.low (some c.low) (d ∷ bs))
            (record { own = p.own; over = p.over; upto = q.over; behind = q.left });
        right = q.right;
        over = under_along L lo d.low c.low p.over q.over;
        upto = q.upto;
      }

  pub ranges_glue : (lo : K) (hi : Option K) (b : Child K T) (bs : List (Child K T)) (c : Child K T) (cs : List (Child K T))
      → Halves lo c.low hi (b ∷ bs) (c ∷ cs) → ranges compare f lo hi ((b ∷ bs) ++ c ∷ cs) ≡ true
  unfolding ranges
  ranges_glue lo hi b [] c cs p =
      together compare f lo c.low hi b.tree (ranges compare f c.low hi (c ∷ cs))
      (record { own = p.left; over = p.over; upto = p.upto; behind = p.right })
  ranges_glue lo hi b (d ∷ bs) c cs p =
      let q = apart compare f lo d.low (some c.low) b.tree (ranges compare f d.low (some c.low) (d ∷ bs)) p.left in
      together compare f lo d.low hi b.tree (ranges compare f d.low hi ((d ∷ bs) ++ c ∷ cs))
      (record {
        own = q.own;
        over = q.over;
        upto = inside_under L d.low c.low hi q.upto p.upto;
        behind = ranges_glue d.low hi d bs c cs (record { left = q.behind; right = p.right; over = q.upto; upto = p.upto });
      })

  -- the child between b and a, in its own range
  first_child : (lo : K) (hi : Option K) (c : Child K T) (a : List (Child K T)) → ranges compare f lo hi (c ∷ a) ≡ true
      → f lo (end_of hi a) c.tree ≡ true
  unfolding ranges
  first_child lo hi c [] h = h
  first_child lo hi c (d ∷ a) h = (apart compare f lo d.low hi c.tree (ranges compare f d.low hi (d ∷ a)) h).own

  pub child_range : (lo : K) (hi : Option K) (b : List (Child K T)) (c : Child K T) (a : List (Child K T))
      → ranges compare f lo hi (b ++ c ∷ a) ≡ true → f (start_of lo b c) (end_of hi a) c.tree ≡ true
  child_range lo hi [] c a h = first_child lo hi c a h
  child_range lo hi (b ∷ bs) c a h = first_child c.low hi c a (ranges_cut lo hi b bs c a h).right

  -- and changed for others in that range, the first of them with its separator
  first_changed : (lo : K) (hi : Option K) (c : Child K T) (a : List (Child K T)) (x : Child K T) (xs : List (Child K T))
      → ranges compare f lo hi (c ∷ a) ≡ true → ranges compare f lo (end_of hi a) (x ∷ xs) ≡ true
      → ranges compare f lo hi ((x ∷ xs) ++ a) ≡ true
  unfolding ranges
  first_changed lo hi c [] x xs h k = subst (λ zs. ranges compare f lo hi zs ≡ true) (sym (append-nil (x ∷ xs))) k
  first_changed lo hi c (d ∷ a) x xs h k =
      let p = apart compare f lo d.low hi c.tree (ranges compare f d.low hi (d ∷ a)) h in
      ranges_glue lo hi x xs d a (record { left = k; right = p.behind; over = p.over; upto = p.upto })

  pub child_changed : (lo : K) (hi : Option K) (b : List (Child K T)) (c : Child K T) (a : List (Child K T)) (t : T) (xs : List (Child K T))
      → ranges compare f lo hi (b ++ c ∷ a) ≡ true → ranges compare f (start_of lo b c) (end_of hi a) (record { low = c.low; tree = t } ∷ xs) ≡ true
      → ranges compare f lo hi (b ++ ((record { low = c.low; tree = t } ∷ xs) ++ a)) ≡ true
  child_changed lo hi [] c a t xs h k = first_changed lo hi c a (record { low = c.low; tree = t }) xs h k
  child_changed lo hi (b ∷ bs) c a t xs h k =
      let p = ranges_cut lo hi b bs c a h in
      ranges_glue lo hi b bs (record { low = c.low; tree = t }) (xs ++ a)
      (record {
        left = p.left;
        right = first_changed c.low hi c a (record { low = c.low; tree = t }) xs p.right k;
        over = p.over;
        upto = p.upto;
      })

  -- the items that g gives of the trees, where f says that they ascend within the range
  module _ {A : Type 0} (key : A → K) (g : T → List A)
      (ascend : (lo : K) (hi : Option K) (t : T) → f lo hi t ≡ true → Sorted compare key lo hi (g t)) where
    pub ranges_sorted : (lo : K) (hi : Option K) (cs : List (Child K T)) → ranges compare f lo hi cs ≡ true
        → Sorted compare key lo hi (join (λ c. g c.tree) cs)
    unfolding ranges join all pairs
    ranges_sorted lo hi [] h = record { low = refl; high = refl; order = refl }
    ranges_sorted lo hi (c ∷ []) h = subst (Sorted compare key lo hi) (sym (append-nil (g c.tree))) (ascend lo hi c.tree h)
    ranges_sorted lo hi (c ∷ d ∷ cs) h =
        let p = apart compare f lo d.low hi c.tree (ranges compare f d.low hi (d ∷ cs)) h in
        sorted_glue L key lo d.low hi (g c.tree) (join (λ c. g c.tree) (d ∷ cs)) (under_at_most L lo d.low p.over) p.upto
        (ascend lo (some d.low) c.tree p.own) (ranges_sorted d.low hi (d ∷ cs) p.behind)

    -- those before the child that k belongs to lie under k, those after it above
    pub before_under : (k lo m : K) (hi : Option K) (b : List (Child K T)) (c : Child K T) (a : List (Child K T))
        → ranges compare f lo hi (b ++ c ∷ a) ≡ true → at_most compare (start_of m b c) k ≡ true
        → all (λ x. under compare (key x) k) (join (λ c. g c.tree) b) ≡ true
    unfolding join all
    before_under k lo m hi [] c a h l = refl
    before_under k lo m hi (b ∷ bs) c a h l =
        all_weaker (λ x. under compare (key x) c.low) (λ x. under compare (key x) k) (λ x u. under_then L (key x) c.low k u l)
        (join (λ c. g c.tree) (b ∷ bs)) (ranges_sorted lo (some c.low) (b ∷ bs) (ranges_cut lo hi b bs c a h).left).high

    first_after : (k lo : K) (hi : Option K) (c : Child K T) (a : List (Child K T)) → ranges compare f lo hi (c ∷ a) ≡ true
        → inside compare k (end_of hi a) ≡ true → all (λ x. at_most compare k (key x)) (join (λ c. g c.tree) a) ≡ true
    unfolding join all
    first_after k lo hi c [] h u = refl
    first_after k lo hi c (d ∷ a) h u =
        all_weaker (λ x. at_most compare d.low (key x)) (λ x. at_most compare k (key x))
        (λ x l. under_at_most L k (key x) (under_then L k d.low (key x) u l))
        (join (λ c. g c.tree) (d ∷ a)) (ranges_sorted d.low hi (d ∷ a) (ranges_cut lo hi c [] d a h).right).low

    pub after_above : (k lo : K) (hi : Option K) (b : List (Child K T)) (c : Child K T) (a : List (Child K T))
        → ranges compare f lo hi (b ++ c ∷ a) ≡ true → inside compare k (end_of hi a) ≡ true
        → all (λ x. at_most compare k (key x)) (join (λ c. g c.tree) a) ≡ true
    after_above k lo hi [] c a h u = first_after k lo hi c a h u
    after_above k lo hi (b ∷ bs) c a h u = first_after k c.low hi c a (ranges_cut lo hi b bs c a h).right u

-- what `ranged` says of an inner page
module _ {K A : Type 0} (compare : K → K → Ordering) (key : A → K) (lowest : K) where
  pub record InRange (n : ℕ) (lo : K) (hi : Option K) (cs : List (Child K (Tree K A n))) : Type 0 where
    pub first : first_low compare lowest cs ≡ true
    pub each : ranges compare (ranged compare key lowest n) lo hi cs ≡ true

  pub ranged_in : (n : ℕ) (lo : K) (hi : Option K) (t : Tree K A (suc n)) → ranged compare key lowest (suc n) lo hi t ≡ true
      → InRange n lo hi t.holds
  unfolding ranged
  ranged_in n lo hi t h =
      let each = ranges compare (ranged compare key lowest n) lo hi t.holds in
      record { first = and_left (first_low compare lowest t.holds) each h; each = and_right (first_low compare lowest t.holds) each h }

  pub in_ranged : (n : ℕ) (lo : K) (hi : Option K) (t : Tree K A (suc n)) → InRange n lo hi t.holds
      → ranged compare key lowest (suc n) lo hi t ≡ true
  unfolding ranged
  in_ranged n lo hi t r =
      and_both (first_low compare lowest t.holds) (ranges compare (ranged compare key lowest n) lo hi t.holds) r.first r.each
