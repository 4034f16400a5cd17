-- Pages whose leaves hold other entries and whose inner pages stay: the tree is the old one with its leaves so changed, it is laid again,
-- and the index is whole again where the change keeps it so. By the tree, page by page. Assumes nothing.
use Prim.Native.Nat.{ℕ, zero, suc, ◌-◌, ◌≤◌, ◌<◌, compare}
use mathlib.Core.Path.{◌≡◌, refl, sym, ap, subst, ◌∙◌}
use mathlib.Core.Bool.{Bool, true, false, cond}
use mathlib.Core.List.{List, map, map-map}
use mathlib.Core.Option.{some}
use native.Mathlib.Omega.{arith}
use lib.Dec.{eqb}
use lib.ListN.{length}
use borrow.Author.Tests.{eqb-true}
use Rattle.limits.specs.Limits.{pages_most, pages_size, leaf_most}
use Rattle.lists.specs.Lists.{In}
use Rattle.lists.proofs.Joins.{map_same}
use Rattle.rules.specs.Document.{end_mark}
use Rattle.pages.specs.declared.Child as P
use Rattle.rows.specs.PageHead.{kind_of, root_of, used_of, height_of}
use Rattle.pages.specs.PageLayout.{entries_of, children_of}
use Rattle.trees.specs.Trees.{is_page, times, document_sizes, WholeIndex}
use Rattle.trees.specs.Growth.{with_tree, leaves, in_leaves}
use Rattle.trees.proofs.Thinning.{Thins, leaves_whole}
use Rattle.trees.proofs.PageCounts.{summed_some}
use Rattle.index.specs.Pictures.{Item, key_of, page_at, tree_of, index_of, leaf_page, inner_page, head_page, Laid, WholePages}
use Rattle.index.specs.Changes.{Becomes}
use Rattle.index.specs.Descents.{Subtree}
use Rattle.index.proofs.BlankPages.{kind_leaf, kind_inner, kind_head}
use Rattle.index.proofs.LeafPages.{Smalls, leaf_entries, laid_small}
use Rattle.index.proofs.Frame.{kid, Times, own_page, times_inner, times_child}
use Rattle.index.proofs.Subtrees.{used_page, leaf_few, inner_filled, subtree_child, subtree_root}

-- a leaf with its entries changed, any other page as it is
abbrev pub refilled : (List Item → List Item) → List ℕ → List ℕ
refilled f p = cond (eqb (kind_of p) 2) (leaf_page (f (entries_of p))) p

-- ---- the kinds of a tree's pages
pub leaf_kind : (s : List ℕ) (pg u : ℕ) → Subtree s 0 pg u → kind_of (page_at s pg) ≡ 2
leaf_kind s pg u t = ap kind_of t.laid ∙ kind_leaf (entries_of (page_at s pg)) (leaf_few s pg u t)

pub inner_kind : (s : List ℕ) (n pg u : ℕ) → Subtree s (suc n) pg u → kind_of (page_at s pg) ≡ 3
inner_kind s n pg u t = ap kind_of t.laid.0 ∙ kind_inner (suc n) (children_of (page_at s pg)) (inner_filled s n pg u t).many

pub is_page_is : (q p : ℕ) → 0 < is_page q p → q ≡ p
is_page_is q p h = go (eqb q p) refl
  where
    go : (b : Bool) → eqb q p ≡ b → q ≡ p
    go true e = eqb-true q p e
    go false e = absurd (omega (arith, ap (λ b. cond {A = ℕ} b 1 0) e))

-- a leaf as it should be
pub record Good (p : List ℕ) : Type 0 where
  pub few : length (entries_of p) ≤ leaf_most
  pub laid : p ≡ leaf_page (entries_of p)

pub leaf_good : (s : List ℕ) (n pg u q : ℕ) → Subtree s n pg u → 0 < Times n q s pg → kind_of (page_at s q) ≡ 2 → Good (page_at s q)
unfolding times tree_of
leaf_good s zero pg u q t h k =
    subst (λ x. Good (page_at s x)) (sym (is_page_is q pg h)) (record { few = leaf_few s pg u t; laid = t.laid })
leaf_good s (suc n) pg u q t h k = go (is_page q pg) refl (λ c i l. leaf_good s n c.page u q (subtree_child s n pg u t c i) l k)
  where
    go : (m : ℕ) → is_page q pg ≡ m → ((c : P.Child) → In c (children_of (page_at s pg)) → 0 < Times n q s c.page → Good (page_at s q)) → Good (page_at s q)
    go (suc m) e r =
        let p = is_page_is q pg (omega arith) in
        absurd (omega (arith, inner_kind s n pg u t, ap (λ x. kind_of (page_at s x)) p))
    go zero e r =
        let c = summed_some (λ (c : P.Child). Times n q s c.page) (children_of (page_at s pg)) (omega (arith, times_inner n q s pg)) in
        r c.0 c.1 c.2

-- ---- the tree
module _ (f : List Item → List Item) (few : (es : List Item) → length (f es) ≤ length es) (small : (es : List Item) → Smalls es → Smalls (f es))
    (s s' : List ℕ) where
  pub record Refilled (n pg : ℕ) : Type 0 where
    pub tree : tree_of n s' pg ≡ leaves ℕ Item Item f n (tree_of n s pg)
    pub laid : Laid n s' pg

  pub refill_tree : (n pg u : ℕ) → Subtree s n pg u → ((q : ℕ) → 0 < Times n q s pg → page_at s' q ≡ refilled f (page_at s q)) → Refilled n pg
  unfolding tree_of leaves
  refill_tree zero pg u t h =
      let es = entries_of (page_at s pg) in
      let l = leaf_few s pg u t in
      let k = leaf_kind s pg u t in
      let e : page_at s' pg ≡ leaf_page (f es) = h pg (own_page zero s pg) ∙ ap (λ m. cond (eqb m 2) (leaf_page (f es)) (page_at s pg)) k in
      let g : entries_of (page_at s' pg) ≡ f es = ap entries_of e ∙ leaf_entries (f es) (omega (arith, few es)) (small es (laid_small (page_at s pg) t.laid l)) in
      record { tree = ap (λ xs. record { number = pg; holds = xs }) g; laid = e ∙ ap leaf_page (sym g) }
  refill_tree (suc n) pg u t h =
      let cs = children_of (page_at s pg) in
      let k = inner_kind s n pg u t in
      let e : page_at s' pg ≡ page_at s pg = h pg (own_page (suc n) s pg) ∙ ap (λ m. cond (eqb m 2) (leaf_page (f (entries_of (page_at s pg)))) (page_at s pg)) k in
      let r : (c : P.Child) → In c cs → Refilled n c.page =
      λ c i. refill_tree n c.page u (subtree_child s n pg u t c i) (λ q l. h q (omega (arith, times_child n q s pg c i))) in
      record {
        tree = ap (λ p. record { number = pg; holds = map (kid n s') (children_of p) }) e
            ∙ ap (λ xs. record { number = pg; holds = xs })
            (map_same (kid n s') (λ c. with_tree (leaves ℕ Item Item f n) (kid n s c)) cs (λ c i. ap (λ x. record { low = c.low.0; tree = x }) (r c i).tree)
            ∙ sym (map-map (with_tree (leaves ℕ Item Item f n)) (kid n s) cs));
        laid = (
          subst (λ p. p ≡ inner_page (suc n) (children_of p)) (sym e) t.laid.0,
          λ c i. (r c (subst (λ p. In c (children_of p)) e i)).laid,
        );
      }

  -- ---- the whole
  pub refill_whole : WholePages s → Thins key_of key_of f → length s' ≡ pages_size
      → ((q : ℕ) → q < used_of (page_at s 0) → page_at s' q ≡ refilled f (page_at s q))
      → ((q : ℕ) → used_of (page_at s 0) ≤ q → q < pages_most → page_at s' q ≡ page_at s q) → Becomes s' (in_leaves ℕ Item Item f (index_of s))
  unfolding index_of in_leaves
  refill_whole w thins size h k =
      let p = page_at s 0 in
      let t = subtree_root s w in
      let n = height_of p - 1 in
      let own = used_page (used_of p) (root_of p) (omega (arith, t.alone (root_of p), own_page n s (root_of p))) in
      let used : 0 < used_of p = omega arith in
      let e : page_at s' 0 ≡ p = h 0 used ∙ ap (λ m. cond (eqb m 2) (leaf_page (f (entries_of p))) p) (ap kind_of w.head ∙ kind_head (root_of p) (used_of p) (height_of p)) in
      let r = refill_tree n (root_of p) (used_of p) t (λ q l. h q (used_page (used_of p) q (omega (arith, t.alone q)))) in
      let x : index_of s' ≡ in_leaves ℕ Item Item f (index_of s) =
      ap (λ g. record { level = height_of g - 1; used = used_of g; tree = tree_of (height_of g - 1) s' (root_of g) }) e
      ∙ ap (λ y. record { level = n; used = used_of p; tree = y }) r.tree in
      record {
        whole = record {
          size = size;
          head = subst (λ g. g ≡ head_page (root_of g) (used_of g) (height_of g)) (sym e) w.head;
          tall = subst (λ g. 0 < height_of g) (sym e) w.tall;
          laid = subst (λ g. Laid (height_of g - 1) s' (root_of g)) (sym e) r.laid;
          spare = λ q i j.
              let a : used_of p ≤ q = subst (λ g. used_of g ≤ q) e i in
              k q a j ∙ w.spare q a j;
          index = subst (WholeIndex compare key_of 0 (some end_mark) document_sizes) (sym x)
              (leaves_whole ℕ f compare key_of key_of thins 0 (some end_mark) document_sizes (index_of s) w.index);
        };
        index = x;
      }
