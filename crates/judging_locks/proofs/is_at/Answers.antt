-- `judging_locks::is_at` meets its contract.
-- Assumes nothing.
use borrow.Author.Rules.{rules}
use Rattle.judging_locks.proofs.LockTurns.{key_lent}
use Rattle.judging_locks.proofs.is_at.Goals as goal

pub returns : goal.returns
returns c = search (rules, key_lent)
