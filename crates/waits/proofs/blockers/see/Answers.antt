-- `waits::blockers::see` meets its contract: what is collected with slot i is that of one slot more.
-- Assumes nothing.
use borrow.Author.Rules.{rules}
use Rattle.waits.proofs.QueueKnown.{whole_holders}
use Rattle.waits.proofs.BlockerSets.{holder_at, scan_turn}
use Rattle.waits.proofs.blockers.see.Goals as goal

pub collected_with-requires-clause-holder_known : goal.collected_with-requires-clause-holder_known
collected_with-requires-clause-holder_known c = search (rules, holder_at, whole_holders)

pub returns : goal.returns
returns c = search (rules, scan_turn, whole_holders)
