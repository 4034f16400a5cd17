-- Every element of a whole page buffer is a byte, and the entries in it fit their fields.
-- Page by page: page 0, the leaves and inner pages of the tree are written in bytes, every other page is zero. Assumes nothing.
use Prim.Native.Nat.{ℕ, zero, suc, ◌+◌, ◌-◌, ◌*◌, ◌/◌, ◌%◌, ◌≤◌, ◌<◌}
use mathlib.Core.Path.{◌≡◌, refl, sym, ap, subst}
use mathlib.Core.List.{List, [], ◌∷◌, map}
use native.Mathlib.Decide.{dec_lt}
use native.Mathlib.Omega.{arith}
use lib.ListN.{length, get_or, replicate}
use Rattle.limits.specs.Limits.{pages_most, page_size, head_size, entry_size, leaf_most, child_size, inner_most}
use Rattle.lists.specs.Lists.{In, join}
use Rattle.lists.proofs.Elements.{map_in}
use Rattle.lists.proofs.Joins.{join_map}
use Rattle.numbers.specs.Numbers.{put_part, Bytes}
use Rattle.numbers.proofs.BytesKept.{bytes_from, bytes_none, bytes_zeros, bytes_put_number, bytes_put_fields, bytes_append, bytes_join}
use Rattle.numbers.proofs.Parts.{get_d_part, agree_put_part, touches_put_part}
use Rattle.pages.specs.declared.Child as P
use Rattle.pages.specs.PageLayout.{EntryFits, entries_of, children_of}
use Rattle.rows.specs.PageHead.{count_of, root_of, used_of, height_of, root_widths, put_root}
use Rattle.rows.specs.PageRows.{with_rows}
use Rattle.pages.specs.PageChanges.{entry_row, child_row}
use Rattle.pages.proofs.EntryRows.{length_entry_row, bytes_entry_row}
use Rattle.pages.proofs.ChildRows.{length_child_row, bytes_child_row}
use Rattle.rows.proofs.WithRows.{strip, span}
use Rattle.pages.proofs.RowsWritten.{fit_rows}
use Rattle.trees.specs.Trees.{is_page, times, flat}
use Rattle.trees.proofs.PageCounts.{summed_some, above_no, above_yes}
use Rattle.index.specs.Pictures.{Item, page_at, tree_of, index_of, entries_in, blank_page, head_page, leaf_page, inner_page, WholePages}
use Rattle.index.specs.Descents.{Subtree}
use Rattle.index.proofs.Buffers.{page_none}
use Rattle.index.proofs.Frame.{kid, Times, times_inner}
use Rattle.index.proofs.LeafPages.{laid_small}
use Rattle.index.proofs.Refills.{is_page_is}
use Rattle.index.proofs.Subtrees.{leaf_few, inner_filled, subtree_child, subtree_root}
use Rattle.index.proofs.BlankPages.{bytes_blank, blank_page_lem}
use Rattle.pictures.proofs.Once.{join_in}

-- ---- the pages that are written
bytes_written : {A : Type 0} (z : ℕ) (row : A → List ℕ) → ((x : A) → length (row x) ≡ z) → ((x : A) → Bytes (row x)) → (kind level : ℕ) (xs : List A)
    → head_size + z * length xs ≤ page_size → length xs < 65536 → Bytes (with_rows z (blank_page kind level) (map row xs))
unfolding with_rows
bytes_written z row wide each kind level xs h l =
    let p = blank_page kind level in
    let rs = map row xs in
    let t = strip z p rs in
    let r = span z p rs (fit_rows z row wide (blank_page_lem kind level) xs h l) in
    let b : Bytes (join (λ r. r) rs) = subst Bytes (sym (join_map (λ r. r) row xs)) (bytes_join row each xs) in
    let zeros = replicate {A = ℕ} (z * (count_of p - length rs)) 0 in
    let c : Bytes t = bytes_append (join (λ r. r) rs) zeros b (bytes_zeros (z * (count_of p - length rs))) in
    bytes_put_number 2 (put_part head_size t p) 4 (length rs)
    (bytes_from (touches_put_part head_size t p r) (agree_put_part head_size t p (omega arith)) (bytes_blank kind level) c)

bytes_leaf : (es : List Item) → length es ≤ leaf_most → Bytes (leaf_page es)
unfolding leaf_page
bytes_leaf es h = bytes_written entry_size entry_row length_entry_row bytes_entry_row 2 0 es (omega arith) (omega arith)

bytes_inner : (level : ℕ) (cs : List P.Child) → length cs ≤ inner_most → Bytes (inner_page level cs)
unfolding inner_page
bytes_inner level cs h = bytes_written child_size child_row length_child_row bytes_child_row 3 level cs (omega arith) (omega arith)

bytes_head : (root used height : ℕ) → Bytes (head_page root used height)
unfolding head_page put_root
bytes_head root used height = bytes_put_fields root_widths (blank_page 1 0) head_size (root ∷ used ∷ height ∷ []) (bytes_blank 1 0)

-- ---- the pages of a tree
bytes_tree : (s : List ℕ) (n pg u q : ℕ) → Subtree s n pg u → 0 < Times n q s pg → Bytes (page_at s q)
unfolding times tree_of
bytes_tree s zero pg u q t h =
    subst (λ x. Bytes (page_at s x)) (sym (is_page_is q pg h)) (subst Bytes (sym t.laid) (bytes_leaf (entries_of (page_at s pg)) (leaf_few s pg u t)))
bytes_tree s (suc n) pg u q t h = go (is_page q pg) refl (λ c i. bytes_tree s n c.page u q (subtree_child s n pg u t c i))
  where
    go : (m : ℕ) → is_page q pg ≡ m → ((c : P.Child) → In c (children_of (page_at s pg)) → 0 < Times n q s c.page → Bytes (page_at s q))
        → Bytes (page_at s q)
    go (suc m) e r =
        subst (λ x. Bytes (page_at s x)) (sym (is_page_is q pg (omega arith)))
        (subst Bytes (sym t.laid.0) (bytes_inner (suc n) (children_of (page_at s pg)) (inner_filled s n pg u t).many))
    go zero e r =
        let c = summed_some (λ (c : P.Child). Times n q s c.page) (children_of (page_at s pg)) (omega (arith, times_inner n q s pg)) in
        r c.0 c.1 c.2

-- ---- every page
bytes_page : (s : List ℕ) → WholePages s → (q : ℕ) → Bytes (page_at s q)
unfolding index_of
bytes_page s w zero = subst Bytes (sym w.head) (bytes_head (root_of (page_at s 0)) (used_of (page_at s 0)) (height_of (page_at s 0)))
bytes_page s w (suc q) = go (dec_lt (suc q) (used_of (page_at s 0))) (dec_lt (suc q) pages_most)
  where
    go : Dec (suc q < used_of (page_at s 0)) → Dec (suc q < pages_most) → Bytes (page_at s (suc q))
    go (yes l) k =
        bytes_tree s (height_of (page_at s 0) - 1) (root_of (page_at s 0)) (used_of (page_at s 0)) (suc q) (subtree_root s w)
        (omega (arith, w.index.pages.once (suc q), above_no (used_of (page_at s 0)) (suc q) l, above_yes 1 (suc q) (omega arith)))
    go (no l) (yes k) = subst Bytes (sym (w.spare (suc q) (omega arith) k)) (bytes_zeros page_size)
    go (no l) (no k) = subst Bytes (sym (page_none s w.size (suc q) (omega arith))) bytes_none

pub whole_pages_bytes : (s : List ℕ) → WholePages s → Bytes s
unfolding page_at
whole_pages_bytes s w = record { below = at }
  where
    at : (i : ℕ) → get_or s i 0 < 256
    at i =
        let e : page_size * (i / page_size) + i % page_size ≡ i = omega arith in
        omega (arith, (bytes_page s w (i / page_size)).below (i % page_size), get_d_part (page_size * (i / page_size)) page_size s (i % page_size) (omega arith), ap (λ k. get_or s k 0) e)

-- ---- the entries
tree_fits : (s : List ℕ) (n pg u : ℕ) → Subtree s n pg u → (e : Item) → In e (flat ℕ Item n (tree_of n s pg)) → EntryFits e
unfolding tree_of flat
tree_fits s zero pg u t e i = laid_small (page_at s pg) t.laid (leaf_few s pg u t) e i
tree_fits s (suc n) pg u t e i =
    let cs = children_of (page_at s pg) in
    let k = join_in (λ c. flat ℕ Item n c.tree) (map (kid n s) cs) e i in
    let c = map_in (kid n s) cs k.0 k.1 in
    tree_fits s n c.0.page u (subtree_child s n pg u t c.0 c.1) e (subst (λ d. In e (flat ℕ Item n d.tree)) (sym c.2) k.2)

pub whole_entries_fit : (s : List ℕ) → WholePages s → (e : Item) → In e (entries_in s) → EntryFits e
unfolding entries_in index_of
whole_entries_fit s w e i = tree_fits s (height_of (page_at s 0) - 1) (root_of (page_at s 0)) (used_of (page_at s 0)) (subtree_root s w) e i
