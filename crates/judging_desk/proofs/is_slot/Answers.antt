-- `judging_desk::is_slot` meets its contract: the fields are read in their order, and the test goes by the holder.
-- Assumes nothing.
use borrow.Author.Rules.{rules}
use Rattle.judging_desk.proofs.DeskTurns.{slot_free, slot_nobody, slot_held}
use Rattle.judging_desk.proofs.is_slot.Goals as goal

pub returns-then-holder-eq0 : goal.returns-then-holder-eq0
returns-then-holder-eq0 c = search (rules, slot_free)

pub returns-then-holder-gt-LAST_TRANSACTION : goal.returns-then-holder-gt-LAST_TRANSACTION
returns-then-holder-gt-LAST_TRANSACTION c = search (rules, slot_nobody)

pub returns : goal.returns
returns c = search (rules, slot_held)
