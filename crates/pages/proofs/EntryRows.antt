-- A leaf's rows as the rule book's entries: an entry that fits is read back as it was written, and a page with other rows has the entries
-- that they say. The laws of readings at an entry's widths. Assumes nothing.
use mathlib.Core.Path.{◌≡◌, refl, ap, ◌∙◌}
use mathlib.Core.List.{List, map}
use mathlib.Core.Option.{Option, none, some}
use Prim.Native.Nat.{ℕ, ◌%◌, ◌≤◌, ◌/◌, ◌<◌}
use native.Mathlib.Omega.{arith}
use lib.Dec.{lit<, lit≤, eqb}
use lib.ListN.{length, replicate, get_or}
use borrow.Author.Tests.{eq-eqb, ne_eqb}
use mathlib.Core.Bool.{Bool, true, false, cond}
use Rattle.limits.specs.Limits.{page_size, entry_size, leaf_most}
use Rattle.lists.proofs.Tables.{length_tab}
use Rattle.numbers.specs.Numbers.{width_of, Fits, Bytes, fields_at}
use Rattle.numbers.proofs.Fields.{length_put_fields, fields_same, fields_fit}
use Rattle.numbers.proofs.BytesKept.{bytes_put_fields, bytes_zeros}
use Rattle.rules.specs.Kinds.{Entry}
use Rattle.entries.specs.Absent.{or_zero}
use Rattle.pages.specs.PageLayout.{EntryFits, entry_widths, if_bit, entry_in, bit, entry_fields, entry_at, entries_of}
use Rattle.rows.specs.PageHead.{count_of}
use Rattle.rows.specs.PageRows.{row_at, with_rows}
use Rattle.pages.specs.PageChanges.{entry_row}
use Rattle.rows.proofs.WithRows.{Fit}
use Rattle.rows.proofs.RowDivisions.{OneMore}
use Rattle.rows.proofs.RowReadings.{said, said_row, said_with}

-- ---- a value's bit
pub value_there : (b r : ℕ) → b % 2 ≡ 1 → some r ≡ if_bit b r
value_there b r h = rw (eq-eqb (b % 2) 1 h)

pub value_gone : (b r : ℕ) → (b % 2 ≡ 1 → ⊥) → none ≡ if_bit b r
value_gone b r h = rw (ne_eqb (b % 2) 1 h)

-- ---- one entry
pub bit_small : (r : Option ℕ) → bit r ≤ 1
bit_small none = lit≤ tt
bit_small (some r) = lit≤ tt

pub entry_fits_lem : (e : Entry ℕ ℕ) → EntryFits e → Fits entry_widths (entry_fields e)
unfolding entry_fields
entry_fits_lem e s =
    (s.key, (s.now, (s.before, (s.owner, (omega (arith, bit_small e.now, bit_small e.before), tt)))))

fields_in : (k o : ℕ) (n b : Option ℕ)
    → entry_in (entry_fields (record { key = k; owner = o; now = n; before = b })) ≡ record { key = k; owner = o; now = n; before = b }
unfolding entry_in entry_fields
fields_in k o none none = refl
fields_in k o none (some b) = refl
fields_in k o (some n) none = refl
fields_in k o (some n) (some b) = refl

-- what an entry's fields say is the entry
pub entry_back : (e : Entry ℕ ℕ) → entry_in (entry_fields e) ≡ e
entry_back e = fields_in e.key e.owner e.now e.before

-- what a row says
abbrev pub row_entry : List ℕ → Entry ℕ ℕ
row_entry r = said entry_widths entry_size entry_in r

pub entry_row_lem : (e : Entry ℕ ℕ) → EntryFits e → row_entry (entry_row e) ≡ e
unfolding entry_row width_of
entry_row_lem e s = ap entry_in (fields_same entry_widths (replicate entry_size 0) 0 (entry_fields e) (entry_fits_lem e s) (lit≤ tt)) ∙ entry_back e

pub length_entry_row : (e : Entry ℕ ℕ) → length (entry_row e) ≡ entry_size
unfolding entry_row
length_entry_row e = length_put_fields entry_widths (replicate entry_size 0) 0 (entry_fields e)

pub bytes_entry_row : (e : Entry ℕ ℕ) → Bytes (entry_row e)
unfolding entry_row
bytes_entry_row e = bytes_put_fields entry_widths (replicate entry_size 0) 0 (entry_fields e) (bytes_zeros entry_size)

-- a row of bytes says an entry that fits
pub or_small : (c : Bool) (r m : ℕ) → r < m → or_zero (cond c (some r) none) < m
or_small true r m h = h
or_small false r m h = omega arith

pub row_fits : (r : List ℕ) → Bytes r → EntryFits (row_entry r)
unfolding entry_in fields_at
row_fits r b =
    let f = fields_fit entry_widths r 0 b in
    record {
      key = f.0;
      owner = f.1.1.1.0;
      now = or_small (eqb (get_or (fields_at entry_widths r 0) 4 0 % 2) 1) (get_or (fields_at entry_widths r 0) 1 0) 4294967296 f.1.0;
      before = or_small (eqb (get_or (fields_at entry_widths r 0) 4 0 / 2 % 2) 1) (get_or (fields_at entry_widths r 0) 2 0) 4294967296 f.1.1.0;
    }

-- ---- a leaf's entries
width : width_of entry_widths ≡ entry_size
unfolding width_of
width = refl

pub length_entries : (p : List ℕ) → length (entries_of p) ≡ count_of p
unfolding entries_of
length_entries p = length_tab (count_of p) 0 (entry_at p)

pub row_entry_lem : (p : List ℕ) (i : ℕ) → row_entry (row_at entry_size p i) ≡ entry_at p i
unfolding entry_at
row_entry_lem p i = said_row entry_widths entry_size entry_in width p i

pub entries_with : (p : List ℕ) (rs : List (List ℕ)) → Fit entry_size p rs → entries_of (with_rows entry_size p rs) ≡ map row_entry rs
unfolding entries_of entry_at
entries_with p rs f = said_with entry_widths entry_size entry_in width p rs f

-- ---- a full leaf and one entry more
pub one_entry : (l r : List ℕ) (e : Entry ℕ ℕ) → length l ≡ page_size → length r ≡ page_size → count_of l ≡ leaf_most → count_of r ≡ 0 → OneMore entry_size leaf_most l r (entry_row e)
one_entry l r e a b c n =
    record { full = c; bare = n; left = omega arith; right = omega arith; row = length_entry_row e; few = lit< tt }
