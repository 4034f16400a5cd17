-- `streams::go_through` stays in bounds: less than a record is left after each turn.
-- Assumes nothing.
use Rattle.std.proofs.Common.{◌≤◌}
use Rattle.limits.specs.Limits.{read_size}
use Rattle.streams.proofs.go_through.Given as goal

abbrev pub invariant-loop : goal.invariant-loop
invariant-loop g l = l.left ≤ read_size
