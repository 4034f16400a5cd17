-- `waits::lightest::lightest_from` meets its contract. The invariant: the best is the lightest of those before q. Assumes nothing.
use Rattle.waits.specs.Weights.{BestTo}
use Rattle.waits.proofs.lightest.lightest_from.Given as goal

abbrev pub invariant-loop-q : goal.invariant-loop-q
invariant-loop-q l = BestTo l.pages l.desk l.q l.best
