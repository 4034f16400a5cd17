-- A list written on a blank page, each element as a row: what is read of it, and that every change leaves such a page, of the changed list.
-- Rows put over rows of a page whose unused bytes are zero. Once for every width and kind of row. Assumes nothing.
use mathlib.Core.Path.{◌≡◌, refl, sym, ap, ap₂, ◌∙◌}
use mathlib.Core.Bool.{true}
use mathlib.Core.List.{List, [], ◌∷◌, ◌++◌, map}
use Prim.Native.Nat.{ℕ, ◌+◌, ◌*◌, ◌-◌, ◌/◌, ◌%◌, ◌≤◌, ◌<◌}
use native.Mathlib.Nat.{mul-zero, mul-le-mul_left}
use native.Mathlib.Omega.{arith}
use lib.ListN.{length, set, length-set, length-map, take, drop}
use lib.Seq.{length-take-le}
use Rattle.limits.specs.Limits.{page_size, head_size, body_size, entry_size, leaf_most}
use Rattle.lists.specs.Lists.{all, insert_at, remove_at}
use Rattle.lists.proofs.Places.{map_set, length_insert_at, map_insert_at, remove_at_is, length_remove_at}
use Rattle.lists.proofs.Joins.{map_append, map_take, map_drop}
use Rattle.numbers.specs.Numbers.{width_of, put_part, zero_at}
use Rattle.numbers.proofs.Splices.{put_row}
use Rattle.rules.specs.Kinds.{Entry}
use Rattle.rows.specs.PageHead.{count_of}
use Rattle.pages.specs.PageLayout.{entry_widths, entry_fields, put_entry}
use Rattle.rows.specs.PageRows.{rows_of, with_rows}
use Rattle.pages.specs.PageChanges.{entry_row}
use Rattle.rows.proofs.PageRows.{Wide, wide_more}
use Rattle.rows.proofs.WithRows.{Fit, holds_with, length_with, count_with, rows_with, with_blank}
use Rattle.rows.proofs.RowMoves.{row_over}
use Rattle.pages.proofs.EntryRows.{length_entry_row}

-- a page with no row and no other byte behind its head
pub record Blank (b : List ℕ) : Type 0 where
  pub size : length b ≡ page_size
  pub none : count_of b ≡ 0
  pub zero : zero_at body_size head_size b ≡ true

module _ {A : Type 0} (z : ℕ) (row : A → List ℕ) (wide : (x : A) → length (row x) ≡ z) {b : List ℕ} (o : Blank b) where
  wide_rows : (xs : List A) → Wide z (map row xs)
  unfolding all
  wide_rows [] = refl
  wide_rows (x ∷ xs) = wide_more z (row x) (map row xs) (wide x) (wide_rows xs)

  abbrev pub written : List A → List ℕ
  written xs = with_rows z b (map row xs)

  pub fit_rows : (xs : List A) → head_size + z * length xs ≤ page_size → length xs < 65536 → Fit z b (map row xs)
  fit_rows xs h l =
      let e = length-map xs row in
      record {
        wide = wide_rows xs;
        own = rw o.none (omega (arith, o.size));
        room = rw e (omega (arith, o.size));
        few = omega arith;
      }

  module _ (xs : List A) (h : head_size + z * length xs ≤ page_size) (l : length xs < 65536) where
    pub rows_written : rows_of z (written xs) ≡ map row xs
    rows_written = rows_with z b (map row xs) (fit_rows xs h l)

    pub count_written : count_of (written xs) ≡ length xs
    count_written = count_with z b (map row xs) (fit_rows xs h l) ∙ length-map xs row

    pub length_written : length (written xs) ≡ page_size
    length_written = length_with z b (map row xs) (fit_rows xs h l) ∙ o.size

    -- with other rows it is those values, written
    pub written_again : (ys : List A) → head_size + z * length ys ≤ page_size → length ys < 65536 → with_rows z (written xs) (map row ys) ≡ written ys
    written_again ys k m =
        with_blank z b (map row xs) (map row ys) (fit_rows xs h l) (fit_rows ys k m) (rw (o.none, mul-zero, o.size) o.zero)

    -- ---- one written over
    pub set_written : (i : ℕ) (x : A) → i < length xs → put_part (head_size + z * i) (row x) (written xs) ≡ written (set xs i x)
    set_written i x m =
        let f = fit_rows xs h l in
        let c = count_written in
        let d = length_written in
        let k = length-set xs i x in
        let n : length (map row xs) ≡ count_of (written xs) = length-map xs row ∙ sym c in
        row_over z (written xs) i (row x) (omega arith) (rw c (omega arith)) (wide x) ((holds_with z b (map row xs) f).low ∙ ap (λ v. v % 256) n)
        ((holds_with z b (map row xs) f).high ∙ ap (λ v. v / 256 % 256) n)
        ∙ ap (λ rs. with_rows z (written xs) (set rs i (row x))) rows_written
        ∙ ap (with_rows z (written xs)) (sym (map_set row xs i x))
        ∙ written_again (set xs i x) (rw k h) (rw k l)

    -- ---- one taken out
    pub taken_written : (i : ℕ) → i < length xs → with_rows z (written xs) (remove_at i (rows_of z (written xs))) ≡ written (remove_at i xs)
    taken_written i m =
        let e = length_remove_at i xs m in
        let n : length xs - 1 ≤ length xs = omega arith in
        ap (λ rs. with_rows z (written xs) (remove_at i rs)) rows_written
        ∙ ap (with_rows z (written xs)) (remove_at_is i (map row xs) ∙ ap₂ ◌++◌ (sym (map_take row i xs)) (sym (map_drop row (i + 1) xs))
        ∙ sym (map_append row (take i xs) (drop (i + 1) xs)) ∙ ap (map row) (sym (remove_at_is i xs)))
        ∙ written_again (remove_at i xs) (rw e (omega (arith, mul-le-mul_left z n))) (rw e (omega arith))

    -- ---- one more put in, and what stays or moves when the page is divided
    inserted_rows : (i : ℕ) (x : A) → insert_at i (row x) (rows_of z (written xs)) ≡ map row (insert_at i x xs)
    inserted_rows i x = ap (insert_at i (row x)) rows_written ∙ sym (map_insert_at row i x xs)

    pub put_written : (i : ℕ) (x : A) → head_size + z * (length xs + 1) ≤ page_size → length xs + 1 < 65536
        → with_rows z (written xs) (insert_at i (row x) (rows_of z (written xs))) ≡ written (insert_at i x xs)
    put_written i x k t =
        let e = length_insert_at i x xs in
        ap (with_rows z (written xs)) (inserted_rows i x) ∙ written_again (insert_at i x xs) (rw e k) (rw e t)

    pub stay_written : (i c : ℕ) (x : A) → head_size + z * c ≤ page_size → c < 65536 → c ≤ length xs
        → with_rows z (written xs) (take c (insert_at i (row x) (rows_of z (written xs)))) ≡ written (take c (insert_at i x xs))
    stay_written i c x k t m =
        let e : length (take c (insert_at i x xs)) ≡ c = length-take-le c (insert_at i x xs) (omega (arith, length_insert_at i x xs)) in
        ap (λ rs. with_rows z (written xs) (take c rs)) (inserted_rows i x)
        ∙ ap (with_rows z (written xs)) (sym (map_take row c (insert_at i x xs)))
        ∙ written_again (take c (insert_at i x xs)) (rw e k) (rw e t)

    pub go_written : (i c : ℕ) (x : A) → drop c (insert_at i (row x) (rows_of z (written xs))) ≡ map row (drop c (insert_at i x xs))
    go_written i c x = ap (drop c) (inserted_rows i x) ∙ sym (map_drop row c (insert_at i x xs))

-- ---- a leaf, one entry written over
pub leaf_set : (b p : List ℕ) (es : List (Entry ℕ ℕ)) → Blank b → length es ≤ leaf_most → p ≡ with_rows entry_size b (map entry_row es) → (i : ℕ) (x : Entry ℕ ℕ)
    → i < length es → put_entry p i x ≡ with_rows entry_size b (map entry_row (set es i x))
unfolding put_entry entry_row width_of
leaf_set b p es o h e i x m =
    let d = length_written entry_size entry_row length_entry_row o es (omega arith) (omega arith) in
    ap (λ v. put_entry v i x) e
    ∙ put_row entry_widths (with_rows entry_size b (map entry_row es)) (head_size + entry_size * i) (entry_fields x) entry_size refl (omega arith)
    ∙ set_written entry_size entry_row length_entry_row o es (omega arith) (omega arith) i x m
