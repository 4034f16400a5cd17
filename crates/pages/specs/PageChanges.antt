-- An entry and a child as rows, and what is put in, taken out, settled or divided, said of the list of rows: every byte of the page follows.
-- Assumes nothing.
use Rattle.std.specs.Prelude.{ℕ, Bool, cond, List, [], ◌∷◌, map, eqb, replicate}
use Rattle.limits.specs.Limits.{key_size, entry_size, child_size}
use Rattle.lists.specs.Lists.{join, insert_at, remove_at}
use Rattle.numbers.specs.Numbers.{number_at, put_number, fields_at, put_fields}
use Rattle.rules.specs.Kinds.{Entry}
use Rattle.rules.specs.Entries.{left, committed, rolled_back}
use Rattle.pages.specs.declared.Child.{Child}
use Rattle.pages.specs.PageLayout.{entry_widths, entry_in, entry_fields, child_widths, child_fields}
use Rattle.rows.specs.PageRows.{rows_of, with_rows}

-- an entry and a child as rows
unfoldable pub entry_row : Entry ℕ ℕ → List ℕ
entry_row e = put_fields entry_widths (replicate entry_size 0) 0 (entry_fields e)

unfoldable pub child_row : Child → List ℕ
child_row c = put_fields child_widths (replicate child_size 0) 0 (child_fields c)

-- an entry put in and taken out; a child put in
unfoldable pub entry_put : List ℕ → ℕ → Entry ℕ ℕ → List ℕ
entry_put p i e = with_rows entry_size p (insert_at i (entry_row e) (rows_of entry_size p))

unfoldable pub entry_taken : List ℕ → ℕ → List ℕ
entry_taken p i = with_rows entry_size p (remove_at i (rows_of entry_size p))

unfoldable pub child_put : List ℕ → ℕ → Child → List ℕ
child_put p i c = with_rows child_size p (insert_at i (child_row c) (rows_of child_size p))

-- the leaf when transaction t has ended, committed or rolled back: its own rows settled or gone, the others as they are
abbrev pub end_of : Bool → Entry ℕ ℕ → Entry ℕ ℕ
end_of commits e = cond commits (committed e) (rolled_back e)

unfoldable pub row_left : Bool → ℕ → List ℕ → List (List ℕ)
row_left commits t r =
    let e = entry_in (fields_at entry_widths r 0) in
    cond (eqb e.owner t) (map entry_row (left (end_of commits) t e)) (r ∷ [])

unfoldable pub leaf_settled : Bool → ℕ → List ℕ → List ℕ
leaf_settled commits t p = with_rows entry_size p (join (row_left commits t) (rows_of entry_size p))

-- the rows of a new inner page, and the separator that goes up
abbrev pub from_zero : List (List ℕ) → List (List ℕ)
from_zero [] = []
from_zero (r ∷ rs) = put_number key_size r 0 0 ∷ rs

abbrev pub first_low : List (List ℕ) → ℕ
first_low [] = 0
first_low (r ∷ rs) = number_at key_size r 0
