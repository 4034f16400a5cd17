-- What single steps of the leaf code leave, said of bytes. What a leaf's functions promise is said of rows; this is between them and their
-- parts. Assumes nothing.
use Rattle.std.specs.Prelude.{ℕ, ◌+◌, ◌*◌, ◌≤◌, ◌≡◌, Bool, List, length}
use Rattle.limits.specs.Limits.{head_size, entry_size}
use Rattle.lists.specs.Lists.{join}
use Rattle.numbers.specs.Numbers.{put_part}
use Rattle.rules.specs.Kinds.{Entry}
use Rattle.entries.specs.Absent.{or_zero}
use Rattle.pages.specs.PageLayout.{bit, EntryFits}
use Rattle.rows.specs.PageRows.{row_at}
use Rattle.pages.specs.PageChanges.{row_left}

-- what is left of row i when t has ended stands at place j, and `next` is the place behind it
pub record RowSettled (commits : Bool) (t i j : ℕ) (p p' : List ℕ) (next : ℕ) : Type 0 where
  pub bytes : p' ≡ put_part (head_size + entry_size * j) (join (λ r. r) (row_left commits t (row_at entry_size p i))) p
  pub place : next ≡ j + length (row_left commits t (row_at entry_size p i))
  pub most : next ≤ j + 1

-- the records and the presence of an entry as its row has them
pub record PackedAs (e : Entry ℕ ℕ) (n b x : ℕ) : Type 0 where
  pub now : n ≡ or_zero e.now
  pub before : b ≡ or_zero e.before
  pub there : x ≡ bit e.now + 2 * bit e.before
  pub fits : EntryFits e
