-- `judging_locks::are_locks` meets its contract: the tests are made in their order.
-- Assumes nothing.
use borrow.Author.Rules.{rules}
use Rattle.judging_locks.proofs.LockTurns.{locks_apart, locks_unnamed, locks_done}
use Rattle.judging_locks.proofs.are_locks.Goals as goal

pub returns-then-not-are_together : goal.returns-then-not-are_together
returns-then-not-are_together c = search (rules, locks_apart)

pub returns-then-not-are_named : goal.returns-then-not-are_named
returns-then-not-are_named c = search (rules, locks_unnamed)

pub returns : goal.returns
returns c = search (rules, locks_done)
