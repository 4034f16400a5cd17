-- An inner page's rows as children: a child that fits is read back as it was written, and a page with other rows has the children that they
-- say. The laws of readings at a child's widths. Assumes nothing.
use mathlib.Core.Path.{◌≡◌, refl, ap, ap₂}
use mathlib.Core.List.{List, map}
use Prim.Native.Nat.{ℕ, ◌+◌, ◌*◌}
use native.Mathlib.Omega.{arith}
use lib.Dec.{lit<, lit≤}
use lib.ListN.{length, replicate}
use Rattle.limits.specs.Limits.{key_size, page_size, head_size, child_size, inner_most}
use Rattle.lists.proofs.Tables.{length_tab}
use Rattle.numbers.specs.Numbers.{number_at, width_of, Fits, Bytes, fields_at}
use Rattle.numbers.proofs.Fields.{length_put_fields, fields_same, fields_fit}
use Rattle.numbers.proofs.BytesKept.{bytes_put_fields, bytes_zeros}
use Rattle.keys.specs.declared.Key.{Key}
use Rattle.pages.specs.declared.Child.{Child}
use Rattle.pages.specs.PageLayout.{ChildFits, child_widths, child_in, child_fields, child_at, children_of}
use Rattle.rows.specs.PageHead.{count_of}
use Rattle.rows.specs.PageRows.{with_rows}
use Rattle.pages.specs.PageChanges.{child_row}
use Rattle.rows.proofs.WithRows.{Fit}
use Rattle.rows.proofs.RowDivisions.{OneMore}
use Rattle.rows.proofs.RowReadings.{said, said_with}

-- ---- one child
pub child_fits : (c : Child) → ChildFits c → Fits child_widths (child_fields c)
unfolding child_fields
child_fits c s = (s.low, (s.page, (lit< tt, (lit< tt, tt))))

-- what is read as one is the child at that place
pub child_read : (p : List ℕ) (i : ℕ) (k : Key) (g : ℕ) → k.0 ≡ number_at key_size p (head_size + child_size * i)
    → g ≡ number_at 2 p (head_size + child_size * i + key_size) → ◌≡◌ {A = Child} (record { low = k; page = g }) (child_at p i)
unfolding child_at child_in fields_at
child_read p i k g a b = ap₂ (λ x y. record { low = record { 0 = x }; page = y }) a b

-- what a row says
abbrev pub row_child : List ℕ → Child
row_child r = said child_widths child_size child_in r

pub child_row_lem : (c : Child) → ChildFits c → row_child (child_row c) ≡ c
unfolding child_row width_of child_in child_fields
child_row_lem c s = ap child_in (fields_same child_widths (replicate child_size 0) 0 (child_fields c) (child_fits c s) (lit≤ tt))

pub length_child_row : (c : Child) → length (child_row c) ≡ child_size
unfolding child_row
length_child_row c = length_put_fields child_widths (replicate child_size 0) 0 (child_fields c)

pub bytes_child_row : (c : Child) → Bytes (child_row c)
unfolding child_row
bytes_child_row c = bytes_put_fields child_widths (replicate child_size 0) 0 (child_fields c) (bytes_zeros child_size)

-- a row of bytes says a child that fits
pub row_fits : (r : List ℕ) → Bytes r → ChildFits (row_child r)
unfolding child_in fields_at
row_fits r b = let f = fields_fit child_widths r 0 b in record { low = f.0; page = f.1.0 }

-- ---- an inner page's children
width : width_of child_widths ≡ child_size
unfolding width_of
width = refl

pub length_children : (p : List ℕ) → length (children_of p) ≡ count_of p
unfolding children_of
length_children p = length_tab (count_of p) 0 (child_at p)

pub children_with : (p : List ℕ) (rs : List (List ℕ)) → Fit child_size p rs → children_of (with_rows child_size p rs) ≡ map row_child rs
unfolding children_of child_at
children_with p rs f = said_with child_widths child_size child_in width p rs f

-- ---- a full inner page and one child more
pub one_child : (l r : List ℕ) (x : Child) → length l ≡ page_size → length r ≡ page_size → count_of l ≡ inner_most → count_of r ≡ 0 → OneMore child_size inner_most l r (child_row x)
one_child l r x a b c n =
    record { full = c; bare = n; left = omega arith; right = omega arith; row = length_child_row x; few = lit< tt }
