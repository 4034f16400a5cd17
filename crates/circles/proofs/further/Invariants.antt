-- `circles::further` meets its contract. The invariant: what those of the set from a number on add to r makes the whole. The measure is what
-- is left of the row. Assumes nothing.
use mathlib.Core.Path.{◌≡◌}
use Prim.Native.Nat.{◌-◌, ◌≤◌}
use lib.ListN.{length}
use Rattle.circles.specs.Search.{gathered, further_on}
use Rattle.circles.proofs.further.Given as goal

abbrev pub invariant-loop-t : goal.invariant-loop-t
invariant-loop-t l = (1 ≤ l.from) × (gathered l.row l.m (length l.row - l.from) l.from l.r ≡ further_on l.row l.m)

abbrev pub decreases-loop-t : goal.decreases-loop-t
decreases-loop-t l = length l.row - l.from
