-- The search for circles as the code does it, on sets that are numbers: what one link adds, what so many links reach, and whether a chain
-- comes back. (Document 01, "Working the queue"; the laws tie it to rules/specs/Queue.) Assumes nothing.
use Rattle.std.specs.Prelude.{ℕ, zero, suc, ◌+◌, ◌-◌, Bool, cond, List, length, get_or}
use Rattle.std.specs.Int.Bits.{bit_or}
use Rattle.sets.specs.Sets.{word_with}
use Rattle.circles.specs.CircleSets.{has}

-- a set with transaction t in it
unfoldable pub with_one : ℕ → ℕ → ℕ
with_one m t = word_with m (t - 1)

-- a set with those of the row's sets, at n places from t on, whose transaction is in m
unfoldable pub gathered : List ℕ → ℕ → ℕ → ℕ → ℕ → ℕ
gathered row m zero t r = r
gathered row m (suc n) t r = gathered row m n (t + 1) (cond (has m t) (bit_or r (get_or row t 0)) r)

-- one link further
unfoldable pub further_on : List ℕ → ℕ → ℕ
further_on row m = gathered row m (length row - 1) 1 m

-- so many links further
unfoldable pub reached_on : List ℕ → ℕ → ℕ → ℕ
reached_on row zero m = m
reached_on row (suc links) m = reached_on row links (further_on row m)

-- whether t's chain comes back to it: a row has one place more than there are transactions, and the first link is the row's own
unfoldable pub circle_on : List ℕ → ℕ → Bool
circle_on row t = has (reached_on row (length row - 2) (get_or row t 0)) t
