-- Taking out: a function that takes a list piece by piece and leaves of one item at most one with its key, used in every leaf, keeps the
-- index whole and does to its items what it does to a list. By induction on the level and on the lists. Assumes nothing.
use Prim.Native.Nat.{ℕ, zero, suc, ◌+◌, ◌≤◌, Ordering}
use mathlib.Core.Path.{◌≡◌, refl, sym, ap, subst, fun_ext, ◌∙◌}
use mathlib.Core.Bool.{Bool, true, false, cond}
use mathlib.Core.List.{List, [], ◌∷◌, ◌++◌, map}
use mathlib.Core.Option.{Option}
use native.Mathlib.Omega.{arith}
use lib.Dec.{compare_is_eq, eqb}
use lib.ListN.{length, length-map}
use borrow.Author.Tests.{leb-true, le-leb}
use Rattle.lists.specs.Lists.{all, pairs, keep, join}
use Rattle.lists.proofs.Tests.{all_head, all_tail, all_cons, all_weaker, all_map, keep_append}
use Rattle.lists.proofs.Pairs.{pairs_head, pairs_tail, pairs_cons}
use Rattle.lists.proofs.Joins.{map_append, join_append, join_map, pieces_join}
use Rattle.rules.specs.Kinds.{Book, Entry}
use Rattle.rules.specs.Entries.{present, left, settled, changed}
use Rattle.trees.specs.Trees.{Sizes, Child, Tree, Index, WholeIndex, summed, is_page, above, flat, times, counted, at_most, under, inside, first_low, ranged}
use Rattle.trees.specs.Growth.{with_tree, leaves, in_leaves}
use Rattle.trees.proofs.PageCounts.{summed_map}
use Rattle.trees.proofs.Sorted.{Sorted, sorted_test, test_sorted}
use Rattle.trees.proofs.ChildRanges.{ranges_map, ranges_weaker, ranged_in, in_ranged}
use Rattle.trees.proofs.Counts.{counted_filled, filled_counted}

module _ {K A B : Type 0} (keyA : A → K) (keyB : B → K) where
  -- at most one, with the key of x
  abbrev pub AtMostOne : A → List B → Type 0
  AtMostOne x [] = Unit
  AtMostOne x (y ∷ []) = keyB y ≡ keyA x
  AtMostOne x (y ∷ z ∷ zs) = ⊥

  pub record Thins (f : List A → List B) : Type 0 where
    pub nothing : f [] ≡ []
    pub pieces : (xs ys : List A) → f (xs ++ ys) ≡ f xs ++ f ys
    pub one : (x : A) → AtMostOne x (f (x ∷ []))

  -- no more of them, and every test of keys and of pairs of keys still passes
  pub record Thinner (xs : List A) (ys : List B) : Type 0 where
    pub fewer : length ys ≤ length xs
    pub tests : (p : K → Bool) → all (λ x. p (keyA x)) xs ≡ true → all (λ y. p (keyB y)) ys ≡ true
    pub orders : (r : K → K → Bool) → pairs (λ x z. r (keyA x) (keyA z)) xs ≡ true → pairs (λ y z. r (keyB y) (keyB z)) ys ≡ true

  thinner_out : (x : A) (xs : List A) (ys : List B) → Thinner xs ys → Thinner (x ∷ xs) ys
  unfolding all pairs
  thinner_out x xs ys t =
      record {
        fewer = omega arith;
        tests = λ p h. t.tests p (all_tail (λ x. p (keyA x)) x xs h);
        orders = λ r h. t.orders r (pairs_tail (λ x z. r (keyA x) (keyA z)) x xs h);
      }

  thinner_stay : (x : A) (xs : List A) (y : B) (ys : List B) → keyB y ≡ keyA x → Thinner xs ys → Thinner (x ∷ xs) (y ∷ ys)
  unfolding all pairs
  thinner_stay x xs y ys e t =
      record {
        fewer = omega arith;
        tests = λ p h. all_cons (λ y. p (keyB y)) y ys (subst (λ k. p k ≡ true) (sym e) (all_head (λ x. p (keyA x)) x xs h))
            (t.tests p (all_tail (λ x. p (keyA x)) x xs h));
        orders = λ r h. pairs_cons (λ y z. r (keyB y) (keyB z)) y ys
            (subst (λ k. all (λ z. r k (keyB z)) ys ≡ true) (sym e) (t.tests (r (keyA x)) (pairs_head (λ x z. r (keyA x) (keyA z)) x xs h)))
            (t.orders r (pairs_tail (λ x z. r (keyA x) (keyA z)) x xs h));
      }

  pub thinner : (f : List A → List B) → Thins f → (xs : List A) → Thinner xs (f xs)
  unfolding all pairs
  thinner f h [] = subst (Thinner []) (sym h.nothing) (record { fewer = omega arith; tests = λ p e. e; orders = λ r e. e })
  thinner f h (x ∷ xs) = subst (Thinner (x ∷ xs)) (sym (h.pieces (x ∷ []) xs)) (go (f (x ∷ [])) (h.one x) (thinner f h xs))
    where
      go : (zs : List B) → AtMostOne x zs → Thinner xs (f xs) → Thinner (x ∷ xs) (zs ++ f xs)
      go [] u t = thinner_out x xs (f xs) t
      go (y ∷ []) u t = thinner_stay x xs y (f xs) u t
      go (y ∷ z ∷ zs) u t = absurd u

-- those that are used: some items kept; each changed, but not its key; what a transaction's end leaves; one entry changed
pub keep_thins : {K A : Type 0} (key : A → K) (p : A → Bool) → Thins key key (keep p)
unfolding keep
keep_thins {K} {A} key p = record { nothing = refl; pieces = keep_append p; one = λ x. go x (p x) }
  where
    go : (x : A) (b : Bool) → AtMostOne key key x (cond b (x ∷ []) [])
    go x true = refl
    go x false = tt

pub map_thins : {K A B : Type 0} (keyA : A → K) (keyB : B → K) (f : A → B) → ((x : A) → keyB (f x) ≡ keyA x) → Thins keyA keyB (map f)
map_thins keyA keyB f e = record { nothing = refl; pieces = map_append f; one = e }

pub settled_thins : {K R : Type 0} (f : Entry K R → Entry K R) → ((e : Entry K R) → (f e).key ≡ e.key) → (t : ℕ)
    → Thins (λ e. e.key) (λ e. e.key) (settled f t)
unfolding settled left join
settled_thins {K} {R} f same t =
    record { nothing = refl; pieces = join_append (left f t); one = λ e. go e (eqb e.owner t) (present (f e)) }
  where
    go : (e : Entry K R) (b c : Bool) → AtMostOne (λ x. x.key) (λ x. x.key) e (cond b (cond c (f e ∷ []) []) (e ∷ []) ++ [])
    go e true true = same e
    go e true false = tt
    go e false c = refl

module _ (B : Book) (k : B.Key) (f : Entry B.Key B.Rec → Entry B.Key B.Rec)
    (same : (e : Entry B.Key B.Rec) → (f e).key ≡ e.key) where
  pub changed_key : (e : Entry B.Key B.Rec) → (cond (compare_is_eq (B.compare e.key k)) (f e) e).key ≡ e.key
  changed_key e = go (compare_is_eq (B.compare e.key k))
    where
      go : (b : Bool) → (cond b (f e) e).key ≡ e.key
      go true = same e
      go false = refl

  pub changed_thins : Thins (λ e. e.key) (λ e. e.key) (changed B k f)
  unfolding changed
  changed_thins = map_thins (λ e. e.key) (λ e. e.key) (λ e. cond (compare_is_eq (B.compare e.key k)) (f e) e) changed_key

pub first_low_map : {K T U : Type 0} (compare : K → K → Ordering) (lowest : K) (h : T → U) (cs : List (Child K T))
    → first_low compare lowest (map (with_tree h) cs) ≡ first_low compare lowest cs
first_low_map compare lowest h [] = refl
first_low_map compare lowest h (c ∷ cs) = refl

-- in every leaf
module _ (K : Type 0) {A B : Type 0} (f : List A → List B) where
  pub flat_leaves : f [] ≡ [] → ((xs ys : List A) → f (xs ++ ys) ≡ f xs ++ f ys)
      → (n : ℕ) (t : Tree K A n) → flat K B n (leaves K A B f n t) ≡ f (flat K A n t)
  unfolding flat leaves
  flat_leaves e pieces zero t = refl
  flat_leaves e pieces (suc n) t =
      join_map (λ c. flat K B n c.tree) (with_tree (leaves K A B f n)) t.holds
      ∙ (ap (λ g. join g t.holds) (fun_ext (λ c. flat_leaves e pieces n c.tree))
      ∙ pieces_join f e pieces (λ c. flat K A n c.tree) t.holds)

  pub times_leaves : (n q : ℕ) (t : Tree K A n) → times K B n q (leaves K A B f n t) ≡ times K A n q t
  unfolding times leaves
  times_leaves zero q t = refl
  times_leaves (suc n) q t =
      ap (λ m. is_page q t.number + m)
      (summed_map (λ c. times K B n q c.tree) (with_tree (leaves K A B f n)) t.holds
      ∙ ap (λ g. summed g t.holds) (fun_ext (λ c. times_leaves n q c.tree)))

  pub counted_leaves : (Z : Sizes) → ((xs : List A) → length (f xs) ≤ length xs) → (least n : ℕ) (t : Tree K A n)
      → counted K A Z least n t ≡ true → counted K B Z least n (leaves K A B f n t) ≡ true
  unfolding counted leaves
  counted_leaves Z h least zero t e =
      le-leb (length (f t.holds)) Z.leaf_most (omega (arith, h t.holds, leb-true (length t.holds) Z.leaf_most e))
  counted_leaves Z h least (suc n) t e =
      let c = counted_filled K A Z least n t e in
      let m = length-map t.holds (with_tree (leaves K A B f n)) in
      filled_counted K B Z least n (leaves K A B f (suc n) t)
      (record {
        few = omega (arith, m, c.few);
        many = omega (arith, m, c.many);
        each = all_map (λ c. counted K B Z Z.fewest n c.tree) (with_tree (leaves K A B f n)) t.holds
            ∙ all_weaker (λ c. counted K A Z Z.fewest n c.tree) (λ c. counted K B Z Z.fewest n (leaves K A B f n c.tree))
            (λ c. counted_leaves Z h Z.fewest n c.tree) t.holds c.each;
      })

  module _ (compare : K → K → Ordering) (keyA : A → K) (keyB : B → K) (h : Thins keyA keyB f) where
    sorted_thinned : (lo : K) (hi : Option K) (xs : List A) → Sorted compare keyA lo hi xs → Sorted compare keyB lo hi (f xs)
    sorted_thinned lo hi xs s =
        let t = thinner keyA keyB f h xs in
        record {
          low = t.tests (at_most compare lo) s.low;
          high = t.tests (λ k. inside compare k hi) s.high;
          order = t.orders (under compare) s.order;
        }

    pub ranged_leaves : (lowest : K) (n : ℕ) (lo : K) (hi : Option K) (t : Tree K A n)
        → ranged compare keyA lowest n lo hi t ≡ true → ranged compare keyB lowest n lo hi (leaves K A B f n t) ≡ true
    unfolding ranged leaves
    ranged_leaves lowest zero lo hi t e =
        sorted_test compare keyB lo hi (f t.holds) (sorted_thinned lo hi t.holds (test_sorted compare keyA lo hi t.holds e))
    ranged_leaves lowest (suc n) lo hi t e =
        let r = ranged_in compare keyA lowest n lo hi t e in
        let q = ranged compare keyB lowest n in
        in_ranged compare keyB lowest n lo hi (leaves K A B f (suc n) t)
        (record {
          first = first_low_map compare lowest (leaves K A B f n) t.holds ∙ r.first;
          each = ranges_map compare q (leaves K A B f n) lo hi t.holds
              ∙ ranges_weaker compare (ranged compare keyA lowest n) (λ lo hi u. q lo hi (leaves K A B f n u)) (ranged_leaves lowest n) lo hi
              t.holds r.each;
        })

    pub leaves_whole : (lowest : K) (top : Option K) (Z : Sizes) (x : Index K A)
        → WholeIndex compare keyA lowest top Z x → WholeIndex compare keyB lowest top Z (in_leaves K A B f x)
    unfolding in_leaves
    leaves_whole lowest top Z x w =
        record {
          pages = record { once = λ q. ap (λ m. m + above x.used q) (times_leaves x.level q x.tree) ∙ w.pages.once q };
          counts = counted_leaves Z (λ xs. (thinner keyA keyB f h xs).fewer) 2 x.level x.tree w.counts;
          keys = ranged_leaves lowest x.level lowest top x.tree w.keys;
          room = w.room;
        }
