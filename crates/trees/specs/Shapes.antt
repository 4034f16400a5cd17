-- What the rule book asks of the pages (rules, `Paging`), answered by the tree's shape: the tree with its keys alone. Entries stand beside
-- it in the rule book's list; the two together are the tree with its entries. Assumes nothing.
use Prim.Native.Nat.{ℕ, Ordering}
use Rattle.std.specs.Prelude.{not, List, [], map}
use Rattle.lists.specs.Lists.{keep, any}
use Rattle.rules.specs.Kinds.{Paging}
use Rattle.trees.specs.Trees.{Sizes, Tree, Index}
use Rattle.trees.specs.Growth.{with_item, fits, leaves, in_leaves}
use Rattle.std.proofs.Math.Dec.{compare_is_eq}

-- "Fresh: page 1 is an empty leaf and the root, used 2, height 1"
abbrev pub bare : {K A : Type 0} → Index K A
bare = record { level = 0; used = 2; tree = record { number = 1; holds = [] } }

-- the shape of a tree of items, and of an index
abbrev pub shaped : {K A : Type 0} → (A → K) → (n : ℕ) → Tree K A n → Tree K K n
shaped {K} {A} key n t = leaves K A K (map key) n t

unfoldable pub shape : {K A : Type 0} → (A → K) → Index K A → Index K K
shape {K} {A} key x = in_leaves K A K (map key) x

-- the shape without these keys
abbrev pub without : {K : Type 0} → (K → K → Ordering) → List K → Index K K → Index K K
without {K} compare ks x = in_leaves K K K (keep (λ k. not (any (λ j. compare_is_eq (compare j k)) ks))) x

abbrev pub tree_paging : {K : Type 0} → (K → K → Ordering) → K → Sizes → Paging K
tree_paging {K} compare lowest Z =
    record {
      Pages = Index K K;
      bare = bare;
      fits = λ x k. fits compare (λ j. j) lowest Z k x;
      grown = λ x k. with_item compare (λ j. j) lowest Z k x;
      shrunk = λ x ks. without compare ks x;
    }
