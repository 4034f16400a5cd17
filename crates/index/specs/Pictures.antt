-- Document 01, "Records and pages": the page buffer read as a tree of pages with the rule book's entries, and when its bytes are exactly
-- those that the tree writes. Assumes nothing.
use Prim.Native.Nat.{ℕ, zero, suc, ◌*◌, ◌-◌, ◌≤◌, ◌<◌, compare}
use Rattle.std.specs.Prelude.{◌≡◌, List, [], ◌∷◌, map, length, replicate}
use Rattle.std.proofs.Math.Option.{some}
use Rattle.limits.specs.Limits.{pages_most, page_size, pages_size, entry_size, child_size}
use Rattle.lists.specs.Lists.{In}
use Rattle.numbers.specs.Numbers.{part, put_part}
use Rattle.rules.specs.Kinds.{Entry}
use Rattle.rules.specs.Document.{end_mark}
use Rattle.trees.specs.Trees.{Tree, Index, WholeIndex, document_sizes, flat}
use Rattle.pages.specs.declared.Child as P
use Rattle.rows.specs.PageHead.{put_head, put_root, root_of, used_of, height_of}
use Rattle.pages.specs.PageLayout.{entries_of, children_of}
use Rattle.rows.specs.PageRows.{with_rows}
use Rattle.pages.specs.PageChanges.{entry_row, child_row}

abbrev pub Item : Type 0
Item = Entry ℕ ℕ

abbrev pub key_of : Item → ℕ
key_of e = e.key

-- page q of the buffer, and the buffer with another page there
unfoldable pub page_at : List ℕ → ℕ → List ℕ
page_at s q = part (page_size * q) page_size s

unfoldable pub put_page : List ℕ → ℕ → List ℕ → List ℕ
put_page s q g = put_part (page_size * q) g s

-- the tree of level n whose root is page q
unfoldable pub tree_of : (n : ℕ) → List ℕ → ℕ → Tree ℕ Item n
tree_of zero s q = record { number = q; holds = entries_of (page_at s q) }
tree_of (suc n) s q =
    record {
      number = q;
      holds = map (λ (c : P.Child). record { low = c.low.0; tree = tree_of n s c.page }) (children_of (page_at s q));
    }

-- the index in the buffer: root, used and height stand in page 0
unfoldable pub index_of : List ℕ → Index ℕ Item
index_of s =
    let n = height_of (page_at s 0) - 1 in
    record { level = n; used = used_of (page_at s 0); tree = tree_of n s (root_of (page_at s 0)) }

-- its entries in order
unfoldable pub entries_in : List ℕ → List Item
entries_in s = let x = index_of s in flat ℕ Item x.level x.tree

-- the bytes that document 01 gives a page
unfoldable pub blank_page : ℕ → ℕ → List ℕ
blank_page kind level = put_head (replicate page_size 0) kind 0 level

unfoldable pub head_page : ℕ → ℕ → ℕ → List ℕ
head_page root used height = put_root (blank_page 1 0) root used height

unfoldable pub leaf_page : List Item → List ℕ
leaf_page es = with_rows entry_size (blank_page 2 0) (map entry_row es)

unfoldable pub inner_page : ℕ → List P.Child → List ℕ
inner_page level cs = with_rows child_size (blank_page 3 level) (map child_row cs)

-- in a new inner page "the first separator is 0"; the one that it had goes up
abbrev pub zero_first : List P.Child → List P.Child
zero_first [] = []
zero_first (c ∷ cs) = record { low = record { 0 = 0 }; page = c.page } ∷ cs

abbrev pub low_first : List P.Child → ℕ
low_first [] = 0
low_first (c ∷ cs) = c.low.0

-- the pages of the tree at page q are those that its entries and children write
abbrev pub Laid : (n : ℕ) → List ℕ → ℕ → Type 0
Laid zero s q = page_at s q ≡ leaf_page (entries_of (page_at s q))
Laid (suc n) s q =
    (page_at s q ≡ inner_page (suc n) (children_of (page_at s q)))
    × ((c : P.Child) → In c (children_of (page_at s q)) → Laid n s c.page)

-- a whole page buffer: its bytes are those of its index, pages that are not used are zero, and the index is whole
pub record WholePages (s : List ℕ) : Type 0 where
  pub size : length s ≡ pages_size
  pub head : page_at s 0 ≡ head_page (root_of (page_at s 0)) (used_of (page_at s 0)) (height_of (page_at s 0))
  pub tall : 0 < height_of (page_at s 0)
  pub laid : Laid (index_of s).level s (root_of (page_at s 0))
  pub spare : (q : ℕ) → used_of (page_at s 0) ≤ q → q < pages_most → page_at s q ≡ replicate page_size 0
  pub index : WholeIndex compare key_of 0 (some end_mark) document_sizes (index_of s)
