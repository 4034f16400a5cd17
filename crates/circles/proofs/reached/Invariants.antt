-- `circles::reached` meets its contract. The invariant: the links left, which the loop counts down, lead from the set to the whole.
-- Assumes nothing.
use mathlib.Core.Path.{◌≡◌}
use Rattle.circles.specs.Search.{reached_on}
use Rattle.circles.proofs.reached.Given as goal

abbrev pub invariant-loop : goal.invariant-loop
invariant-loop l = reached_on l.row l.counter l.set ≡ reached_on l.row l.links l.m
