-- Rows of one width: where those before and those from a place on lie, in the very facts that the code has there. The width is a variable,
-- so each product is given with what it is together with the others. Assumes nothing.
use mathlib.Core.Path.{◌≡◌, sym, ap}
use mathlib.Core.List.{List}
use Prim.Native.Nat.{ℕ, ◌+◌, ◌-◌, ◌*◌, ◌≤◌, ◌<◌}
use native.Mathlib.Nat.{mul-le-mul_left, mul-sub}
use native.Mathlib.Omega.{arith}
use lib.ListN.{length}
use Rattle.numbers.specs.Numbers.{copied}
use Rattle.rows.specs.RowMoves.{row_moved}
use Rattle.numbers.proofs.Parts.{put_part_part}

-- n rows are the first i and the others
pub rows_halves : (z i n : ℕ) → i ≤ n → z * i + z * (n - i) ≡ z * n
rows_halves z i n h = omega (arith, mul-sub z n i, mul-le-mul_left z h)

-- and they are the first i, one row and those behind it
pub row_behind : (z i n : ℕ) → i < n → z * i + z + z * (n - 1 - i) ≡ z * n
row_behind z i n h = let e : i + 1 + (n - 1 - i) ≡ n = omega arith in omega (arith, ap (λ x. z * x) e)

-- a row moved to its own place stays as it is
pub row_stays : (base z i j : ℕ) (s : List ℕ) → i ≡ j → base + z * (i + 1) ≤ length s → s ≡ row_moved base z i j s
unfolding copied
row_stays base z i j s e h = rw (← e) (sym (put_part_part (base + z * i) z s (omega arith)))
