-- What the parting of a page's rows leaves, said of bytes. What a page's functions promise is said of rows; this is between them and
-- their parts. Assumes nothing.
use Rattle.std.specs.Prelude.{ℕ, ◌+◌, ◌≡◌, List}
use Rattle.limits.specs.Limits.{head_size}
use Rattle.numbers.specs.Numbers.{put_number}
use Rattle.rows.specs.RowMoves.{cut, rows_copied}
use Rattle.rows.specs.PageHead.{count_of}

-- of rows of z bytes the first, `stay` of them, have stayed in one page, and the others, `go` of them, have gone to another
pub record Parted (z stay go : ℕ) (l r l' r' : List ℕ) : Type 0 where
  pub left : l' ≡ put_number 2 (cut head_size z stay (stay + go) l) 4 stay
  pub right : r' ≡ put_number 2 (rows_copied head_size z stay go l r) 4 go
  pub stays : count_of l' ≡ stay
  pub goes : count_of r' ≡ go
