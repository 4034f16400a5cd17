-- The shape when items are taken out: the shape without their keys; and when items are changed but not their keys: the same shape.
-- Keys that ascend are different, so that a key says whether its item is taken out. Assumes nothing.
use Prim.Native.Nat.{ℕ, zero, suc, Ordering}
use mathlib.Core.Path.{◌≡◌, refl, sym, ap, ap₂, subst, fun_ext, ◌∙◌}
use mathlib.Core.Logic.{inl, inr}
use mathlib.Core.Bool.{Bool, true, false, cond, not, ◌&&◌, ◌||◌}
use mathlib.Core.List.{List, [], ◌∷◌, ◌++◌, map, map-id, map-map}
use lib.Dec.{compare_is_eq, eqb}
use Rattle.lists.specs.Lists.{all, any, pairs, keep, join, In}
use Rattle.lists.proofs.Tests.{all_head, all_tail, keep_append}
use Rattle.lists.proofs.Pairs.{pairs_head, pairs_tail}
use Rattle.lists.proofs.Elements.{all_in}
use Rattle.lists.proofs.Joins.{map_same, map_alike, map_append, join_append}
use Rattle.rules.specs.Kinds.{Book, Ordered, Entry}
use Rattle.rules.specs.Entries.{present, left, settled, taken_out, changed}
use Rattle.trees.specs.Trees.{Tree, Index, flat}
use Rattle.trees.specs.Growth.{with_tree, leaves, in_leaves}
use Rattle.trees.specs.Shapes.{shape, without}
use Rattle.trees.proofs.KeyOrder.{same_itself, under_other, other_under}
use Rattle.trees.proofs.Sorted.{ascends}
use Rattle.trees.proofs.Thinning.{changed_key}

-- f and then g in every leaf
pub leaves_twice : (K : Type 0) {A B C : Type 0} (g : List B → List C) (f : List A → List B) (n : ℕ) (t : Tree K A n)
    → leaves K B C g n (leaves K A B f n t) ≡ leaves K A C (λ xs. g (f xs)) n t
unfolding leaves
leaves_twice K g f zero t = refl
leaves_twice K {A} {B} {C} g f (suc n) t =
    ap (λ cs. record { number = t.number; holds = cs })
    (map-map (with_tree (leaves K B C g n)) (with_tree (leaves K A B f n)) t.holds
    ∙ ap (λ h. map (with_tree h) t.holds) (fun_ext (leaves_twice K g f n)))

-- what changes no list changes no tree
leaves_itself : (K A : Type 0) (n : ℕ) (t : Tree K A n) → leaves K A A (λ xs. xs) n t ≡ t
unfolding leaves
leaves_itself K A zero t = refl
leaves_itself K A (suc n) t =
    ap (λ cs. record { number = t.number; holds = cs })
    (map_same (with_tree (leaves K A A (λ xs. xs) n)) (λ c. c) t.holds (λ c i. ap (λ u. record { low = c.low; tree = u }) (leaves_itself K A n c.tree))
    ∙ map-id t.holds)

-- two functions that take a list piece by piece, and are the same at every item of the tree
module _ {A B : Type 0} (f g : List A → List B) (e : f [] ≡ g []) (pf : (xs ys : List A) → f (xs ++ ys) ≡ f xs ++ f ys)
    (pg : (xs ys : List A) → g (xs ++ ys) ≡ g xs ++ g ys) where
  pieces_alike : (xs : List A) → ((x : A) → In x xs → f (x ∷ []) ≡ g (x ∷ [])) → f xs ≡ g xs
  pieces_alike [] h = e
  pieces_alike (x ∷ xs) h =
      pf (x ∷ []) xs ∙ (ap₂ ◌++◌ (h x (inl refl)) (pieces_alike xs (λ y i. h y (inr i))) ∙ sym (pg (x ∷ []) xs))

  leaves_alike : (K : Type 0) (n : ℕ) (t : Tree K A n) → ((x : A) → In x (flat K A n t) → f (x ∷ []) ≡ g (x ∷ []))
      → leaves K A B f n t ≡ leaves K A B g n t
  unfolding leaves flat
  leaves_alike K zero t h = ap (λ xs. record { number = t.number; holds = xs }) (pieces_alike t.holds h)
  leaves_alike K (suc n) t h =
      ap (λ cs. record { number = t.number; holds = cs })
      (map_alike (with_tree (leaves K A B f n)) (with_tree (leaves K A B g n)) (λ c. flat K A n c.tree) (λ x. f (x ∷ []) ≡ g (x ∷ []))
      (λ c i. ap (λ u. record { low = c.low; tree = u }) (leaves_alike K n c.tree i)) t.holds h)

-- what leaves every item of the index as it is leaves the index
pub leaves_none : (K A : Type 0) (f : List A → List A) → f [] ≡ [] → ((xs ys : List A) → f (xs ++ ys) ≡ f xs ++ f ys) → (x : Index K A)
    → ((a : A) → In a (flat K A x.level x.tree) → f (a ∷ []) ≡ a ∷ []) → in_leaves K A A f x ≡ x
unfolding in_leaves
leaves_none K A f e pieces x h =
    ap (λ t. record { level = x.level; used = x.used; tree = t })
    (leaves_alike f (λ xs. xs) e pieces (λ xs ys. refl) K x.level x.tree h ∙ leaves_itself K A x.level x.tree)

-- whether an item's key is among those of the items that pass p
module _ {K A : Type 0} {compare : K → K → Ordering} (L : Ordered K compare) (key : A → K) where
  not_among : (x : A) (p : A → Bool) (xs : List A) → all (ascends compare key x) xs ≡ true
      → any (λ j. compare_is_eq (compare j (key x))) (map key (keep p xs)) ≡ false
  unfolding all any keep
  not_among x p [] h = refl
  not_among x p (y ∷ ys) h = go (p y) (not_among x p ys (all_tail (ascends compare key x) y ys h))
    where
      go : (b : Bool) → any (λ j. compare_is_eq (compare j (key x))) (map key (keep p ys)) ≡ false
          → any (λ j. compare_is_eq (compare j (key x))) (map key (cond b (y ∷ keep p ys) (keep p ys))) ≡ false
      go true e =
          ap (λ b. b || any (λ j. compare_is_eq (compare j (key x))) (map key (keep p ys)))
          (other_under L (key x) (key y) (all_head (ascends compare key x) y ys h)) ∙ e
      go false e = e

  among : (x : A) (p : A → Bool) (xs : List A) → pairs (ascends compare key) xs ≡ true → In x xs
      → any (λ j. compare_is_eq (compare j (key x))) (map key (keep p xs)) ≡ p x
  unfolding pairs any keep
  among x p [] h x3 = elim x3 [ ]
  among x p (y ∷ ys) h (inl e) =
      subst (λ z. any (λ j. compare_is_eq (compare j (key z))) (map key (keep p (y ∷ ys))) ≡ p z) e (go (p y))
    where
      go : (b : Bool) → any (λ j. compare_is_eq (compare j (key y))) (map key (cond b (y ∷ keep p ys) (keep p ys))) ≡ b
      go true = ap (λ b. b || any (λ j. compare_is_eq (compare j (key y))) (map key (keep p ys))) (same_itself L (key y))
      go false = not_among y p ys (pairs_head (ascends compare key) y ys h)
  among x p (y ∷ ys) h (inr i) =
      go (p y) (among x p ys (pairs_tail (ascends compare key) y ys h) i)
    where
      go : (b : Bool) → any (λ j. compare_is_eq (compare j (key x))) (map key (keep p ys)) ≡ p x
          → any (λ j. compare_is_eq (compare j (key x))) (map key (cond b (y ∷ keep p ys) (keep p ys))) ≡ p x
      go true e =
          ap (λ b. b || any (λ j. compare_is_eq (compare j (key x))) (map key (keep p ys)))
          (under_other L (key y) (key x)
          (all_in (ascends compare key y) ys x (pairs_head (ascends compare key) y ys h) i)) ∙ e
      go false e = e

  turned : (b : Bool) (ks : List K) → cond b [] ks ≡ cond (not b) ks []
  turned true ks = refl
  turned false ks = refl

  -- f leaves the items that are not out, with their keys
  pub shape_without : (f : List A → List A) → f [] ≡ [] → ((xs ys : List A) → f (xs ++ ys) ≡ f xs ++ f ys)
      → (out : A → Bool) → ((x : A) → map key (f (x ∷ [])) ≡ cond (out x) [] (key x ∷ []))
      → (x : Index K A) → pairs (ascends compare key) (flat K A x.level x.tree) ≡ true
      → shape key (in_leaves K A A f x) ≡ without compare (map key (keep out (flat K A x.level x.tree))) (shape key x)
  unfolding shape in_leaves keep
  shape_without f e pieces out one x h =
      let items = flat K A x.level x.tree in
      let q : K → Bool = λ k. not (any (λ j. compare_is_eq (compare j k)) (map key (keep out items))) in
      ap (λ t. record { level = x.level; used = x.used; tree = t })
      (leaves_twice K (map key) f x.level x.tree
      ∙ (leaves_alike (λ xs. map key (f xs)) (λ xs. keep q (map key xs)) (ap (map key) e)
      (λ xs ys. ap (map key) (pieces xs ys) ∙ map_append key (f xs) (f ys))
      (λ xs ys. ap (keep q) (map_append key xs ys) ∙ keep_append q (map key xs) (map key ys))
      K x.level x.tree (λ y i. one y ∙ (turned (out y) (key y ∷ []) ∙ ap (λ b. cond (not b) (key y ∷ []) []) (sym (among y out items h i))))
      ∙ sym (leaves_twice K (keep q) (map key) x.level x.tree)))

-- the rule book's entries: a transaction's end
pub shape_settled : {K R : Type 0} {compare : K → K → Ordering} → Ordered K compare
    → (f : Entry K R → Entry K R) → ((e : Entry K R) → (f e).key ≡ e.key)
    → (t : ℕ) (x : Index K (Entry K R)) → pairs (ascends compare (λ e. e.key)) (flat K (Entry K R) x.level x.tree) ≡ true
    → shape (λ e. e.key) (in_leaves K (Entry K R) (Entry K R) (settled f t) x)
    ≡ without compare (taken_out f t (flat K (Entry K R) x.level x.tree)) (shape (λ e. e.key) x)
unfolding settled left taken_out join
shape_settled {K} {R} L f same t x h =
    shape_without L (λ e. e.key) (settled f t) refl (join_append (left f t)) (λ e. eqb e.owner t && not (present (f e)))
    (λ e. go e (eqb e.owner t) (present (f e))) x h
  where
    go : (e : Entry K R) (b c : Bool) → map (λ e. e.key) (cond b (cond c (f e ∷ []) []) (e ∷ []) ++ []) ≡ cond (b && not c) [] (e.key ∷ [])
    go e true true = ap (λ k. k ∷ []) (same e)
    go e true false = refl
    go e false c = refl

-- a change that keeps the keys
pub shape_same : {K A : Type 0} (key : A → K) (f : A → A) → ((y : A) → key (f y) ≡ key y) → (x : Index K A)
    → shape key (in_leaves K A A (map f) x) ≡ shape key x
unfolding shape in_leaves
shape_same {K} {A} key f same x =
    ap (λ t. record { level = x.level; used = x.used; tree = t })
    (leaves_twice K (map key) (map f) x.level x.tree
    ∙ ap (λ g. leaves K A K g x.level x.tree) (fun_ext (λ xs. map-map key f xs ∙ ap (λ g. map g xs) (fun_ext same))))

pub shape_changed : (B : Book) (k : B.Key) (f : Entry B.Key B.Rec → Entry B.Key B.Rec)
    → ((e : Entry B.Key B.Rec) → (f e).key ≡ e.key)
    → (x : Index B.Key (Entry B.Key B.Rec))
    → shape (λ e. e.key) (in_leaves B.Key (Entry B.Key B.Rec) (Entry B.Key B.Rec) (changed B k f) x) ≡ shape (λ e. e.key) x
unfolding changed
shape_changed B k f same x = shape_same (λ e. e.key) (λ e. cond (compare_is_eq (B.compare e.key k)) (f e) e) (changed_key B k f same) x
