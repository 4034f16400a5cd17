-- The entries of the index in the rule book's words: what an insert, an exchange and a transaction's end make of them and of the shape,
-- that they ascend below the end, and when a key is missing among them. From the tree's laws. Assumes nothing.
use Prim.Native.Nat.{ℕ, ◌<◌, compare}
use mathlib.Core.Path.{◌≡◌, refl, sym, ap, ◌∙◌}
use mathlib.Core.Bool.{Bool, true, false, cond, not}
use mathlib.Core.List.{List, map}
use mathlib.Core.Option.{some}
use native.Mathlib.Omega.{arith}
use lib.Dec.{leb, eqb}
use borrow.Author.Tests.{le-leb, lt-leb, eqb-true}
use Rattle.lists.specs.Lists.{first, join, insert_before}
use Rattle.lists.proofs.Joins.{join_append, map_append}
use Rattle.rules.specs.Document.{end_mark}
use Rattle.rules.specs.Entries.{left, settled, taken_out}
use Rattle.rules.proofs.Orders.{numbers_ordered}
use Rattle.pages.specs.PageChanges.{end_of}
use Rattle.trees.specs.Trees.{Index, document_sizes, flat}
use Rattle.trees.specs.Growth.{with_item, in_leaves, missing}
use Rattle.trees.specs.Shapes.{shape, without}
use Rattle.trees.proofs.Sorted.{Sorted}
use Rattle.trees.proofs.ItemOrder.{flat_sorted}
use Rattle.trees.proofs.TreeSearch.{first_missing}
use Rattle.trees.proofs.Wholes.{with_flat, document_fair}
use Rattle.trees.proofs.Thinning.{flat_leaves}
use Rattle.trees.proofs.Shaped.{with_shape}
use Rattle.trees.proofs.ShapeSettling.{shape_same, shape_settled}
use Rattle.index.specs.Pictures.{Item, key_of, index_of, entries_in, WholePages}
use Rattle.index.specs.Changes.{with_entry, replaced, settled_in, Becomes}
use Rattle.index.proofs.LeafPages.{end_key}

-- strictly ascending, and below the end
pub entries_sorted : (s : List ℕ) → WholePages s → Sorted compare key_of 0 (some end_mark) (entries_in s)
unfolding entries_in
entries_sorted s w = flat_sorted numbers_ordered key_of 0 (index_of s).level 0 (some end_mark) (index_of s).tree w.index.keys

-- a key that the first entry at or above it does not have is missing
pub key_missing : (s : List ℕ) → WholePages s → (k : ℕ)
    → ((x : Item) → first (λ (y : Item). leb k y.key) (entries_in s) ≡ some x → eqb x.key k ≡ false) → missing compare key_of k (entries_in s) ≡ true
key_missing s w k = first_missing numbers_ordered key_of 0 k (entries_in s) (entries_sorted s w).order

-- ---- after each change
module _ (s s' : List ℕ) where
  pub entries_added : (e : Item) → WholePages s → e.key < end_mark → Becomes s' (with_entry e (index_of s))
      → entries_in s' ≡ insert_before (λ x. leb e.key x.key) e (entries_in s)
  unfolding entries_in with_entry
  entries_added e w h b =
      ap (λ (x : Index ℕ Item). flat ℕ Item x.level x.tree) b.index
      ∙ with_flat numbers_ordered key_of 0 (some end_mark) document_sizes document_fair e (index_of s) w.index (le-leb 0 e.key (omega arith))
      (ap not (lt-leb end_mark e.key h))

  pub entries_settled : (commits : Bool) (t : ℕ) → Becomes s' (settled_in commits t (index_of s)) → entries_in s' ≡ settled (end_of commits) t (entries_in s)
  unfolding entries_in settled_in in_leaves settled join
  entries_settled commits t b =
      ap (λ (x : Index ℕ Item). flat ℕ Item x.level x.tree) b.index
      ∙ flat_leaves ℕ (settled (end_of commits) t) refl (join_append (left (end_of commits) t)) (index_of s).level (index_of s).tree

  pub entries_replaced : (e : Item) → Becomes s' (replaced e (index_of s)) → entries_in s' ≡ map (λ (y : Item). cond (eqb y.key e.key) e y) (entries_in s)
  unfolding entries_in replaced in_leaves
  entries_replaced e b =
      ap (λ (x : Index ℕ Item). flat ℕ Item x.level x.tree) b.index
      ∙ flat_leaves ℕ (map (λ (y : Item). cond (eqb y.key e.key) e y)) refl (map_append (λ (y : Item). cond (eqb y.key e.key) e y)) (index_of s).level
      (index_of s).tree

  -- ---- and its shape
  pub shape_added : (e : Item) → Becomes s' (with_entry e (index_of s))
      → shape key_of (index_of s') ≡ with_item compare (λ k. k) 0 document_sizes e.key (shape key_of (index_of s))
  unfolding with_entry
  shape_added e b = ap (shape key_of) b.index ∙ with_shape compare key_of 0 document_sizes e (index_of s)

  pub shape_replaced : (e : Item) → Becomes s' (replaced e (index_of s)) → shape key_of (index_of s') ≡ shape key_of (index_of s)
  unfolding replaced
  shape_replaced e b =
      ap (shape key_of) b.index
      ∙ shape_same key_of (λ (y : Item). cond (eqb y.key e.key) e y) (λ y. go y (eqb y.key e.key) refl) (index_of s)
    where
      go : (y : Item) (c : Bool) → eqb y.key e.key ≡ c → key_of (cond c e y) ≡ key_of y
      go y true q = sym (eqb-true y.key e.key q)
      go y false q = refl

  pub shape_ended : (commits : Bool) (t : ℕ) → WholePages s → Becomes s' (settled_in commits t (index_of s))
      → shape key_of (index_of s') ≡ without compare (taken_out (end_of commits) t (entries_in s)) (shape key_of (index_of s))
  unfolding settled_in entries_in
  shape_ended commits t w b =
      ap (shape key_of) b.index ∙ shape_settled numbers_ordered (end_of commits) (end_key commits) t (index_of s) (entries_sorted s w).order
