-- What is known on the way down the tree, between the functions that go it: of a tree inside the index, of an inner page, and where in it a
-- key belongs. Not for readers of the promises. Assumes nothing.
use Prim.Native.Nat.{ℕ, ◌+◌, ◌-◌, ◌≤◌, ◌<◌, compare}
use Rattle.std.specs.Prelude.{◌≡◌, ◌≢◌, Bool, true, cond, List, map, eqb, length, set}
use Rattle.std.proofs.Math.Option.{Option}
use Rattle.limits.specs.Limits.{pages_most, page_size, pages_size, leaf_most, inner_most}
use Rattle.lists.specs.Lists.{remove_at}
use Rattle.rules.specs.Entries.{present}
use Rattle.rows.specs.PageHead.{kind_of, count_of, root_of, used_of, height_of}
use Rattle.pages.specs.PageLayout.{entries_of, child_at}
use Rattle.pages.specs.KeyPlaces.{keys_ascend, ChildPlace}
use Rattle.pages.specs.PageChanges.{leaf_settled}
use Rattle.trees.specs.Trees.{document_sizes, above, times, counted, ranged}
use Rattle.trees.specs.Growth.{missing, full_run}
use Rattle.index.specs.declared.Top.{Top}
use Rattle.index.specs.declared.Step.{Step}
use Rattle.index.specs.declared.Way.{Way}
use Rattle.index.specs.Pictures.{Item, key_of, page_at, tree_of, leaf_page, Laid}
use Rattle.index.specs.Changes.{put_over}

-- the tree of level n at page pg, in an index that uses u pages
pub record Subtree (s : List ℕ) (n pg u : ℕ) : Type 0 where
  pub size : length s ≡ pages_size
  pub which : pg < pages_most
  pub few : u ≤ pages_most
  pub laid : Laid n s pg
  pub least : ℕ
  pub enough : 2 ≤ least
  pub counts : counted ℕ Item document_sizes least n (tree_of n s pg) ≡ true
  pub low : ℕ
  pub high : Option ℕ
  pub keys : ranged compare key_of 0 n low high (tree_of n s pg) ≡ true
  pub alone : (q : ℕ) → times ℕ Item n q (tree_of n s pg) + above u q ≤ 1

-- an inner page in the buffer
pub record InnerIn (s : List ℕ) (pg : ℕ) : Type 0 where
  pub size : length s ≡ pages_size
  pub which : pg < pages_most
  pub some : 1 ≤ count_of (page_at s pg)
  pub few : count_of (page_at s pg) ≤ inner_most

-- the place of the child that k belongs to, and how many children there are
pub record Starts (s : List ℕ) (pg k : ℕ) (r : Step) : Type 0 where
  pub place : ChildPlace (page_at s pg) k r.slot
  pub count : r.count ≡ count_of (page_at s pg)
  pub few : r.count ≤ inner_most

-- the child that k belongs to
pub record Goes (s : List ℕ) (pg k : ℕ) (r : Way) : Type 0 where
  pub starts : Starts s pg k (record { slot = r.slot; count = count_of (page_at s pg) })
  pub page : r.page ≡ (child_at (page_at s pg) r.slot).page
  pub few : r.slot < inner_most

-- the root, its level and how many pages are used
pub record TopOf (s : List ℕ) (r : Top) : Type 0 where
  pub root : r.root ≡ root_of (page_at s 0)
  pub used : r.used ≡ used_of (page_at s 0)
  pub level : r.level ≡ height_of (page_at s 0) - 1
  pub low : r.level < 65535
  pub few : r.used ≤ pages_most

-- a leaf of a tree by itself, and in the buffer
pub record OwnLeaf (p : List ℕ) : Type 0 where
  pub size : length p ≡ page_size
  pub few : count_of p ≤ leaf_most
  pub order : keys_ascend (entries_of p) ≡ true
  pub laid : p ≡ leaf_page (entries_of p)

pub record LeafAt (s : List ℕ) (pg : ℕ) : Type 0 where
  pub size : length s ≡ pages_size
  pub which : pg < pages_most
  pub leaf : OwnLeaf (page_at s pg)

-- the leaf that k belongs to, in the tree of level n at page pg: no other leaf of the tree has k
pub record LeafFor (s : List ℕ) (n pg k r : ℕ) : Type 0 where
  pub at : LeafAt s r
  pub inside : 0 < times ℕ Item n r (tree_of n s pg)
  pub others : (q : ℕ) → 0 < times ℕ Item n q (tree_of n s pg) → q ≢ r → kind_of (page_at s q) ≡ 2
      → missing compare key_of k (entries_of (page_at s q)) ≡ true

-- the entries of a leaf with one put in the place of that with its key
unfoldable pub overwritten : Item → List Item → List Item
overwritten e es = map (λ (y : Item). put_over e y) es

-- the entries of a leaf with what an entry has become at place i: itself, or nothing if it is absent
abbrev pub left_in : ℕ → Item → List Item → List Item
left_in i e es = cond (present e) (set es i e) (remove_at i es)

-- a page of the buffer that may be a leaf
pub record LeafIn (s : List ℕ) (pg : ℕ) : Type 0 where
  pub size : length s ≡ pages_size
  pub which : pg < pages_most
  pub few : kind_of (page_at s pg) ≡ 2 → count_of (page_at s pg) ≤ leaf_most

-- a leaf settled; any other page stays
unfoldable pub settled_page : Bool → ℕ → List ℕ → List ℕ
settled_page commits t p = cond (eqb (kind_of p) 2) (leaf_settled commits t p) p

-- how many pages are full in an unbroken run from the leaf that k belongs to upward, in the tree of level n at page pg
abbrev pub run_of : ℕ → ℕ → List ℕ → ℕ → ℕ
run_of n k s pg = full_run compare key_of 0 document_sizes n k (tree_of n s pg)
