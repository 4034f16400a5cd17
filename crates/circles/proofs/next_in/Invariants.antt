-- `circles::next_in` meets its contract. The invariant: none of those passed is in the set.
-- Assumes nothing.
use Rattle.circles.specs.InTheWay.{NoneIn}
use Rattle.circles.proofs.next_in.Given as goal

abbrev pub invariant-loop-t : goal.invariant-loop-t
invariant-loop-t l = NoneIn l.m l.from l.t
