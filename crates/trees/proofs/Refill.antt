-- A tree is its shape and its items: two trees of one shape with the same items are the same. By induction on the level; the shapes say how
-- many items each child has, and so where the items part. Assumes nothing.
use Prim.Native.Nat.{ℕ, zero, suc}
use mathlib.Core.Path.{◌≡◌, PathP, refl, sym, ap, ap₂, path_j, ◌∙◌}
use mathlib.Core.List.{List, [], ◌∷◌, map, nil≢cons, cons≢nil, head-eq_of_cons-eq, tail-eq_of_cons-eq}
use lib.ListN.{length, length-map}
use Rattle.lists.specs.Lists.{join}
use Rattle.lists.proofs.Joins.{map_append, append_apart}
use Rattle.trees.specs.Trees.{Child, Tree, Index, flat}
use Rattle.trees.specs.Growth.{with_tree, leaves, in_leaves}
use Rattle.trees.specs.Shapes.{shaped, shape}
use Rattle.trees.proofs.Thinning.{flat_leaves}

module _ {K A : Type 0} (key : A → K) where
  -- as many items as keys
  same_length : (n : ℕ) (t u : Tree K A n) → shaped key n t ≡ shaped key n u → length (flat K A n t) ≡ length (flat K A n u)
  same_length n t u e =
      let keys : (v : Tree K A n) → length (flat K K n (shaped key n v)) ≡ length (flat K A n v)
      = λ v. ap length (flat_leaves K (map key) refl (map_append key) n v) ∙ length-map (flat K A n v) key in
      sym (keys t) ∙ (ap (λ s. length (flat K K n s)) e ∙ keys u)

  same_children : {T U : Type 0} (h : T → U) (g : T → List A) → ((t u : T) → h t ≡ h u → length (g t) ≡ length (g u))
      → ((t u : T) → h t ≡ h u → g t ≡ g u → t ≡ u)
      → (cs ds : List (Child K T)) → map (with_tree h) cs ≡ map (with_tree h) ds → join (λ c. g c.tree) cs ≡ join (λ c. g c.tree) ds → cs ≡ ds
  unfolding join
  same_children h g many same [] [] e i = refl
  same_children h g many same [] (d ∷ ds) e i = absurd (nil≢cons e)
  same_children h g many same (c ∷ cs) [] e i = absurd (cons≢nil e)
  same_children h g many same (c ∷ cs) (d ∷ ds) e i =
      let own = head-eq_of_cons-eq e in
      let shapes : h c.tree ≡ h d.tree = ap (λ x. x.tree) own in
      let parts = append_apart (g c.tree) (g d.tree) (join (λ c. g c.tree) cs) (join (λ c. g c.tree) ds)
      (many c.tree d.tree shapes) i in
      ap₂ (λ z zs. z ∷ zs) (λ j. record { low = (own j).low; tree = same c.tree d.tree shapes parts.0 j })
      (same_children h g many same cs ds (tail-eq_of_cons-eq e) parts.1)

  pub refill : (n : ℕ) (t u : Tree K A n) → shaped key n t ≡ shaped key n u → flat K A n t ≡ flat K A n u → t ≡ u
  unfolding leaves flat
  refill zero t u e i = λ j. record { number = (e j).number; holds = i j }
  refill (suc n) t u e i =
      let h = shaped key n in
      let cs = same_children h (flat K A n) (same_length n) (refill n) t.holds u.holds (ap (λ p. p.holds) e) i in
      λ j. record { number = (e j).number; holds = cs j }

  refill_at : (n : ℕ) (t : Tree K A n) (m : ℕ) (p : n ≡ m) (u : Tree K A m)
      → PathP (λ i. Tree K K (p i)) (shaped key n t) (shaped key m u) → flat K A n t ≡ flat K A m u
      → PathP (λ i. Tree K A (p i)) t u
  refill_at n t m p =
      path_j (λ m p. (u : Tree K A m) → PathP (λ i. Tree K K (p i)) (shaped key n t) (shaped key m u) → flat K A n t ≡ flat K A m u
      → PathP (λ i. Tree K A (p i)) t u)
      (refill n t) p

  pub refill_index : (x y : Index K A) → shape key x ≡ shape key y → flat K A x.level x.tree ≡ flat K A y.level y.tree → x ≡ y
  unfolding shape in_leaves
  refill_index x y e i =
      let t = refill_at x.level x.tree y.level (λ j. (e j).level) y.tree (λ j. (e j).tree) i in
      λ j. record { level = (e j).level; used = (e j).used; tree = t j }
