-- `waits::targets::mode_of` meets its contract, request by request.
-- Assumes nothing.
use borrow.Author.Rules.{rules}
use Rattle.waits.proofs.Wants.{read_mode, insert_mode, delete_mode}
use Rattle.waits.proofs.targets.mode_of.Goals as goal

pub returns-in-Read : goal.returns-in-Read
returns-in-Read c = search (rules, read_mode)

pub returns-in-Insert : goal.returns-in-Insert
returns-in-Insert c = search (rules, insert_mode)

pub returns-in-Delete : goal.returns-in-Delete
returns-in-Delete c = search (rules, delete_mode)
