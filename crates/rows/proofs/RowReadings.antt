-- A page's rows read as a list of values, and what is read of a page that is given other rows.
-- Once for every list of widths and every reading of fields; entries and children are instances. Assumes nothing.
use mathlib.Core.Path.{◌≡◌, sym, ap, ◌∙◌}
use mathlib.Core.List.{List, map}
use Prim.Native.Nat.{ℕ, ◌+◌, ◌*◌}
use native.Mathlib.Nat.{add-zero}
use native.Mathlib.Omega.{arith}
use Rattle.limits.specs.Limits.{head_size}
use Rattle.lists.specs.Lists.{tab}
use Rattle.lists.proofs.Tables.{tab_ext, map_tab}
use Rattle.numbers.specs.Numbers.{width_of, fields_at}
use Rattle.numbers.proofs.Parts.{fields_at_part}
use Rattle.rows.specs.PageHead.{count_of}
use Rattle.rows.specs.PageRows.{row_at, rows_of, with_rows}
use Rattle.rows.proofs.WithRows.{Fit, rows_with}

-- ---- one row of a page
module _ {A : Type 0} (ws : List ℕ) (z : ℕ) (dec : List ℕ → A) where
  -- what a row says, and a page
  abbrev pub said : List ℕ → A
  said r = dec (fields_at ws r 0)

  abbrev pub said_at : List ℕ → ℕ → A
  said_at p i = dec (fields_at ws p (head_size + z * i))

  abbrev pub list_of : List ℕ → List A
  list_of p = tab (count_of p) 0 (said_at p)

  module _ (w : width_of ws ≡ z) where
    fields_row : (p : List ℕ) (i : ℕ) → fields_at ws (row_at z p i) 0 ≡ fields_at ws p (head_size + z * i)
    unfolding row_at
    fields_row p i = fields_at_part ws (head_size + z * i) z p 0 (omega arith) ∙ ap (fields_at ws p) (add-zero (head_size + z * i))

    pub said_row : (p : List ℕ) (i : ℕ) → said (row_at z p i) ≡ said_at p i
    said_row p i = ap dec (fields_row p i)

    pub said_rows : (p : List ℕ) → map said (rows_of z p) ≡ list_of p
    unfolding rows_of
    said_rows p =
        map_tab said (count_of p) 0 (row_at z p) ∙ tab_ext (count_of p) 0 (λ i. said (row_at z p i)) (said_at p) (λ i _ _. said_row p i)

    pub said_with : (p : List ℕ) (rs : List (List ℕ)) → Fit z p rs → list_of (with_rows z p rs) ≡ map said rs
    said_with p rs f = sym (said_rows (with_rows z p rs)) ∙ ap (map said) (rows_with z p rs f)
