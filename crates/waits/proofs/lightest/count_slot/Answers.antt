-- `waits::lightest::count_slot` meets its contract: a slot adds one to its holder's.
-- Assumes nothing.
use borrow.Author.Rules.{rules}
use Rattle.waits.proofs.QueueKnown.{whole_holders}
use Rattle.waits.proofs.Counting.{holder_counted, counted_turn}
use Rattle.waits.proofs.lightest.count_slot.Goals as goal

pub bounds-counts-t : goal.bounds-counts-t
bounds-counts-t c = search (rules, holder_counted, whole_holders)

pub bounds-counts-t-2 : goal.bounds-counts-t-2
bounds-counts-t-2 c = search (rules, holder_counted, whole_holders)

pub returns : goal.returns
returns c = search (rules, counted_turn, whole_holders)
