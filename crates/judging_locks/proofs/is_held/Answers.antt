-- `judging_locks::is_held` meets its contract.
-- Assumes nothing.
use borrow.Author.Rules.{rules}
use Rattle.judging_locks.proofs.LockTurns.{unowned, owned}
use Rattle.judging_locks.proofs.is_held.Goals as goal

pub returns-then-e-eq0 : goal.returns-then-e-eq0
returns-then-e-eq0 c = search (rules, unowned)

pub returns-else-e-eq0 : goal.returns-else-e-eq0
returns-else-e-eq0 c = search (rules, owned)
