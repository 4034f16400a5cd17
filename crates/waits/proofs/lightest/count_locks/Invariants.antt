-- `waits::lightest::count_locks` meets its contract. The invariant: the slots before i are counted. Assumes nothing.
use Rattle.waits.specs.Weights.{CountedTo}
use Rattle.waits.proofs.lightest.count_locks.Given as goal

abbrev pub invariant-loop-i : goal.invariant-loop-i
invariant-loop-i l = CountedTo l.desk l.counts l.i
