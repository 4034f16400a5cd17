-- A page as its rows of one width z: what is put in, taken out or divided is said of the list of rows, and every byte of the page follows.
-- What a row holds is not known here. Assumes nothing.
use Rattle.std.specs.Prelude.{ℕ, ◌+◌, ◌*◌, ◌-◌, ◌≡◌, List, ◌++◌, length, replicate, take, drop}
use Rattle.limits.specs.Limits.{head_size}
use Rattle.lists.specs.Lists.{tab, join}
use Rattle.numbers.specs.Numbers.{put_number, part, put_part}
use Rattle.rows.specs.PageHead.{count_of}

unfoldable pub row_at : ℕ → List ℕ → ℕ → List ℕ
row_at z p i = part (head_size + z * i) z p

unfoldable pub rows_of : ℕ → List ℕ → List (List ℕ)
rows_of z p = tab (count_of p) 0 (row_at z p)

-- the page with these rows in place of its own: its count is theirs, and what its own rows had beyond them is zero
unfoldable pub with_rows : ℕ → List ℕ → List (List ℕ) → List ℕ
with_rows z p rs =
    put_number 2 (put_part head_size (join (λ r. r) rs ++ replicate (z * (count_of p - length rs)) 0) p) 4 (length rs)

-- "A full leaf with one more (25): the lowest 13 stay, 12 move to a new page. Inner (31): 16 stay, 15 move." The new page has its head and
-- no row yet. In a new inner page "the first separator is 0"; the one that it had goes up.
pub record Divided (z stay : ℕ) (first : List (List ℕ) → List (List ℕ)) (rs : List (List ℕ)) (l r l' r' : List ℕ) : Type 0 where
  pub left : l' ≡ with_rows z l (take stay rs)
  pub right : r' ≡ with_rows z r (first (drop stay rs))

abbrev pub as_they_are : List (List ℕ) → List (List ℕ)
as_they_are rs = rs
