-- A blank page: what is read of it, and that behind its head it is zero; and the kinds of the pages that are written on one.
-- By the laws of records, each field at its place. Assumes nothing.
use Prim.Native.Nat.{ℕ, ◌+◌, ◌*◌, ◌≤◌, ◌<◌}
use mathlib.Core.Path.{◌≡◌, sym, ap, ◌∙◌}
use mathlib.Core.List.{List, [], ◌∷◌, map}
use native.Mathlib.Nat.{mul-zero}
use native.Mathlib.Omega.{arith}
use lib.Dec.{lit<}
use lib.ListN.{length, get_or, replicate, length-replicate}
use Rattle.limits.specs.Limits.{page_size, head_size, body_size, entry_size, leaf_most, child_size, inner_most}
use Rattle.lists.specs.Lists.{tab}
use Rattle.lists.proofs.Places.{get_d_alike}
use Rattle.numbers.specs.Numbers.{put_number, put_fields, width_of, Bytes}
use Rattle.numbers.proofs.Numbers.{number_apart, number_other, number_same, length_put_number}
use Rattle.numbers.proofs.Fields.{touches_put_fields, length_put_fields}
use Rattle.numbers.proofs.BytesKept.{bytes_put_fields, bytes_zeros}
use Rattle.numbers.proofs.ByteMoves.{zero_at_is}
use Rattle.pages.specs.declared.Child.{Child}
use Rattle.rows.specs.PageHead.{kind_of, count_of, head_widths, put_head, root_widths, put_root}
use Rattle.rows.specs.PageRows.{row_at, rows_of, with_rows}
use Rattle.pages.specs.PageChanges.{entry_row, child_row}
use Rattle.pages.proofs.EntryRows.{length_entry_row}
use Rattle.pages.proofs.ChildRows.{length_child_row}
use Rattle.rows.proofs.WithRows.{kind_with, with_own}
use Rattle.pages.proofs.RowsWritten.{Blank, fit_rows}
use Rattle.index.specs.Pictures.{Item, blank_page, head_page, leaf_page, inner_page}

-- ---- the blank page
count_head : (s : List ℕ) (kind count level : ℕ) → count < 65536 → 6 ≤ length s → count_of (put_head s kind count level) ≡ count
unfolding put_head put_fields
count_head s kind count level h l =
    let a = put_number 2 s 0 page_size in
    let b = put_number 2 a 2 kind in
    let c = put_number 2 b 4 count in
    number_other 2 4 8 (put_number 2 c 6 level) 8 0 (omega arith)
    ∙ number_other 2 4 2 c 6 level (omega arith)
    ∙ number_same 2 b 4 count (omega arith) (omega (arith, length_put_number 2 s 0 page_size, length_put_number 2 a 2 kind))

kind_of_head : (s : List ℕ) (kind count level : ℕ) → kind < 65536 → 4 ≤ length s → kind_of (put_head s kind count level) ≡ kind
unfolding put_head put_fields
kind_of_head s kind count level h l =
    let a = put_number 2 s 0 page_size in
    let b = put_number 2 a 2 kind in
    let c = put_number 2 b 4 count in
    number_other 2 2 8 (put_number 2 c 6 level) 8 0 (omega arith)
    ∙ number_other 2 2 2 c 6 level (omega arith)
    ∙ number_other 2 2 2 b 4 count (omega arith)
    ∙ number_same 2 a 2 kind (omega arith) (omega (arith, length_put_number 2 s 0 page_size))

module _ (kind level : ℕ) where
  pub length_blank : length (blank_page kind level) ≡ page_size
  unfolding blank_page put_head
  length_blank = length_put_fields head_widths (replicate page_size 0) 0 (page_size ∷ kind ∷ 0 ∷ level ∷ 0 ∷ []) ∙ length-replicate {A = ℕ} page_size 0

  pub blank_zero : (k : ℕ) → head_size ≤ k → get_or (blank_page kind level) k 0 ≡ 0
  unfolding blank_page put_head width_of
  blank_zero k h = (touches_put_fields head_widths (replicate page_size 0) 0 (page_size ∷ kind ∷ 0 ∷ level ∷ 0 ∷ [])).rest k (omega arith) ∙ get_d_alike page_size k 0

  pub count_blank : count_of (blank_page kind level) ≡ 0
  unfolding blank_page
  count_blank = count_head (replicate page_size 0) kind 0 level (lit< tt) (omega (arith, length-replicate {A = ℕ} page_size 0))

  pub kind_blank : kind < 65536 → kind_of (blank_page kind level) ≡ kind
  unfolding blank_page
  kind_blank h = kind_of_head (replicate page_size 0) kind 0 level h (omega (arith, length-replicate {A = ℕ} page_size 0))

  pub bytes_blank : Bytes (blank_page kind level)
  unfolding blank_page put_head
  bytes_blank = bytes_put_fields head_widths (replicate page_size 0) 0 (page_size ∷ kind ∷ 0 ∷ level ∷ 0 ∷ []) (bytes_zeros page_size)

  pub blank_page_lem : Blank (blank_page kind level)
  blank_page_lem =
      record {
        size = length_blank;
        none = count_blank;
        zero = zero_at_is body_size head_size (blank_page kind level) (omega (arith, length_blank)) (record { byte = λ k h. blank_zero (head_size + k) (omega arith) });
      }

-- a page with no rows is blank
pub blank_none : (z kind n : ℕ) → blank_page kind n ≡ with_rows z (blank_page kind n) []
unfolding rows_of tab
blank_none z kind n =
    let p = blank_page kind n in
    sym (ap (λ m. with_rows z p (tab m 0 (row_at z p))) (sym (count_blank kind n))
    ∙ with_own z p (bytes_blank kind n) (omega (arith, length_blank kind n, ap (λ m. z * m) (count_blank kind n) ∙ mul-zero z)))

-- ---- the kinds of pages
pub kind_leaf : (es : List Item) → length es ≤ leaf_most → kind_of (leaf_page es) ≡ 2
unfolding leaf_page
kind_leaf es h =
    kind_with entry_size (blank_page 2 0) (map entry_row es) (fit_rows entry_size entry_row length_entry_row (blank_page_lem 2 0) es (omega arith) (omega arith))
    ∙ kind_blank 2 0 (lit< tt)

pub kind_inner : (level : ℕ) (cs : List Child) → length cs ≤ inner_most → kind_of (inner_page level cs) ≡ 3
unfolding inner_page
kind_inner level cs h =
    kind_with child_size (blank_page 3 level) (map child_row cs) (fit_rows child_size child_row length_child_row (blank_page_lem 3 level) cs (omega arith) (omega arith))
    ∙ kind_blank 3 level (lit< tt)

pub kind_head : (root used height : ℕ) → kind_of (head_page root used height) ≡ 1
unfolding head_page put_root width_of
kind_head root used height =
    number_apart 2 2 (touches_put_fields root_widths (blank_page 1 0) head_size (root ∷ used ∷ height ∷ [])) (lit< tt) ∙ kind_blank 1 0 (lit< tt)
