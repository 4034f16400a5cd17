-- Rows of z bytes each, the first at base, each behind the one before: where they stand, and what it is to move them, take one out, cut them
-- off and copy them. Each is a matter of bytes moved, copied or set to zero, and is read as such. Assumes nothing.
use Rattle.std.specs.Prelude.{ℕ, ◌+◌, ◌-◌, ◌*◌, List}
use Rattle.numbers.specs.Numbers.{copied, moved, zeroed}

-- where row i starts
abbrev pub row_place : ℕ → ℕ → ℕ → ℕ
row_place base z i = base + z * i

-- of n rows those from i on moved up by one; what stands at place i stays
abbrev pub opened : ℕ → ℕ → ℕ → ℕ → List ℕ → List ℕ
opened base z i n s = moved (z * (n - i)) (row_place base z i) (row_place base z i + z) s

-- row i of n taken out: those behind it one down, the last one's bytes zero
abbrev pub closed : ℕ → ℕ → ℕ → ℕ → List ℕ → List ℕ
closed base z i n s = zeroed z (row_place base z (n - 1)) (moved (z * (n - 1 - i)) (row_place base z i + z) (row_place base z i) s)

-- row i moved to place j
abbrev pub row_moved : ℕ → ℕ → ℕ → ℕ → List ℕ → List ℕ
row_moved base z i j s = moved z (row_place base z i) (row_place base z j) s

-- of n rows those from `from` on zero
abbrev pub cut : ℕ → ℕ → ℕ → ℕ → List ℕ → List ℕ
cut base z from n s = zeroed (z * (n - from)) (row_place base z from) s

-- n rows of src from place start on become the first of s
abbrev pub rows_copied : ℕ → ℕ → ℕ → ℕ → List ℕ → List ℕ → List ℕ
rows_copied base z start n src s = copied (z * n) src (row_place base z start) base s
