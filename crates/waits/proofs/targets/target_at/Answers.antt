-- `waits::targets::target_at` meets its contract: the request is the queue's.
-- Assumes nothing.
use borrow.Author.Rules.{rules}
use Rattle.waits.proofs.QueueKnown.{place_low, asker_low, asker_high}
use Rattle.waits.proofs.Wants.{target_queued}
use Rattle.waits.proofs.targets.target_at.Goals as goal

pub in_place-t-requires : goal.in_place-t-requires
in_place-t-requires c = search (rules, place_low)

pub ask_at-requires : goal.ask_at-requires
ask_at-requires c = search (rules, asker_high)

pub target_of-requires-clause-le_t : goal.target_of-requires-clause-le_t
target_of-requires-clause-le_t c = search (rules, asker_low)

pub returns : goal.returns
returns c = search (rules, target_queued)
