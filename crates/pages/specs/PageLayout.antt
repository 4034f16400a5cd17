-- Document 01, "Records and pages": the entries of a leaf and the children of an inner page. Entries are read as the rule book's.
-- Assumes nothing.
use Rattle.std.specs.Prelude.{ℕ, ◌+◌, ◌*◌, ◌/◌, ◌%◌, ◌<◌, cond, List, [], ◌∷◌, eqb, get_or}
use Rattle.std.proofs.Math.Option.{Option, none, some}
use Rattle.limits.specs.Limits.{key_size, head_size, entry_size, child_size}
use Rattle.lists.specs.Lists.{tab}
use Rattle.numbers.specs.Numbers.{fields_at, put_fields}
use Rattle.rules.specs.Kinds.{Entry}
use Rattle.rules.specs.Entries.{is_there}
use Rattle.entries.specs.Absent.{or_zero}
use Rattle.pages.specs.declared.Child.{Child}
use Rattle.rows.specs.PageHead.{count_of}

-- "Leaf: .. entries of 20 bytes (key, record now, record before, owner 2, presence 1 with bit 0 now and bit 1 before, one zero)". Presence
-- and the zero are one number. "An absent record is 0."
abbrev pub entry_widths : List ℕ
entry_widths = key_size ∷ 4 ∷ 4 ∷ 2 ∷ 2 ∷ []

abbrev pub if_bit : ℕ → ℕ → Option ℕ
if_bit b r = cond (eqb (b % 2) 1) (some r) none

unfoldable pub entry_in : List ℕ → Entry ℕ ℕ
entry_in vs =
    record {
      key = get_or vs 0 0;
      owner = get_or vs 3 0;
      now = if_bit (get_or vs 4 0) (get_or vs 1 0);
      before = if_bit (get_or vs 4 0 / 2) (get_or vs 2 0);
    }

abbrev pub bit : Option ℕ → ℕ
bit r = cond (is_there r) 1 0

unfoldable pub entry_fields : Entry ℕ ℕ → List ℕ
entry_fields e =
    e.key ∷ or_zero e.now ∷ or_zero e.before ∷ e.owner ∷ (bit e.now + 2 * bit e.before) ∷ []

-- its numbers fit their widths, as those of every value of type Entry do
pub record EntryFits (e : Entry ℕ ℕ) : Type 0 where
  pub key : e.key < 18446744073709551616
  pub owner : e.owner < 65536
  pub now : or_zero e.now < 4294967296
  pub before : or_zero e.before < 4294967296

unfoldable pub entry_at : List ℕ → ℕ → Entry ℕ ℕ
entry_at p i = entry_in (fields_at entry_widths p (head_size + entry_size * i))

unfoldable pub put_entry : List ℕ → ℕ → Entry ℕ ℕ → List ℕ
put_entry p i e = put_fields entry_widths p (head_size + entry_size * i) (entry_fields e)

unfoldable pub entries_of : List ℕ → List (Entry ℕ ℕ)
entries_of p = tab (count_of p) 0 (entry_at p)

-- "Inner: .. children of 16 bytes (separator 8, page 2, six zeros)"
abbrev pub child_widths : List ℕ
child_widths = key_size ∷ 2 ∷ 2 ∷ 4 ∷ []

unfoldable pub child_in : List ℕ → Child
child_in vs = record { low = record { 0 = get_or vs 0 0 }; page = get_or vs 1 0 }

unfoldable pub child_fields : Child → List ℕ
child_fields c = c.low.0 ∷ c.page ∷ 0 ∷ 0 ∷ []

pub record ChildFits (c : Child) : Type 0 where
  pub low : c.low.0 < 18446744073709551616
  pub page : c.page < 65536

unfoldable pub child_at : List ℕ → ℕ → Child
child_at p i = child_in (fields_at child_widths p (head_size + child_size * i))

unfoldable pub put_child : List ℕ → ℕ → Child → List ℕ
put_child p i c = put_fields child_widths p (head_size + child_size * i) (child_fields c)

unfoldable pub children_of : List ℕ → List Child
children_of p = tab (count_of p) 0 (child_at p)
