-- `settling::settling::settle` meets its contract. The loop's invariant: the pages below q are settled, the others as they were.
-- Assumes nothing.
use Rattle.settling.proofs.Settles.{SettledTo}
use Rattle.settling.proofs.settling.settle.Given as goal

abbrev pub invariant-loop-q : goal.invariant-loop-q
invariant-loop-q l = SettledTo l.commits l.owner l.initial.pages l.pages l.q
