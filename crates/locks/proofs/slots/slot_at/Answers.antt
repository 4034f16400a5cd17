-- `locks::slot_at` meets its contract: a slot whose holder is 0 is free.
-- Assumes nothing.
use borrow.Author.Rules.{rules}
use Rattle.locks.proofs.LockValues.{read_free, read_held}
use Rattle.locks.proofs.slots.slot_at.Goals as goal

pub returns-then-holder-eq0 : goal.returns-then-holder-eq0
returns-then-holder-eq0 c = search (rules, read_free)

pub returns : goal.returns
returns c = search (rules, read_held)
