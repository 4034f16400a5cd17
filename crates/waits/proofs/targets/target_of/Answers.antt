-- `waits::targets::target_of` meets its contract, request by request.
-- Assumes nothing.
use borrow.Author.Rules.{rules}
use Rattle.waits.proofs.Wants.{read_target, change_target}
use Rattle.waits.proofs.targets.target_of.Goals as goal

pub returns-in-Read : goal.returns-in-Read
returns-in-Read c = search (rules, read_target)

pub returns-in-Insert : goal.returns-in-Insert
returns-in-Insert c = search (rules, change_target)
