-- `judging_locks::go_together` meets its contract: by which of the two slots are free.
-- Assumes nothing.
use borrow.Author.Rules.{rules}
use Rattle.judging_locks.proofs.LockTurns.{held_both}
use Rattle.judging_locks.proofs.go_together.Goals as goal

pub returns : goal.returns
returns c = search (rules, held_both)
