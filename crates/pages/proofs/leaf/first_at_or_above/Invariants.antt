-- `pages::leaf::first_at_or_above` meets its contract. The invariant: where keys ascend, the place lies between low and high. The measure is
-- the number of places left. Assumes nothing.
use Prim.Native.Nat.{◌-◌}
use Rattle.pages.proofs.PageSearches.{EntryBetween}
use Rattle.pages.proofs.leaf.first_at_or_above.Given as goal

abbrev pub invariant-loop-low : goal.invariant-loop-low
invariant-loop-low l = EntryBetween l.p l.key.0 l.low l.high

abbrev pub decreases-loop-low : goal.decreases-loop-low
decreases-loop-low l = l.high - l.low
