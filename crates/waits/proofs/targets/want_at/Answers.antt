-- `waits::targets::want_at` meets its contract: the request is the queue's, and a key of the index fits its name.
-- Assumes nothing.
use borrow.Author.Rules.{rules}
use Rattle.waits.proofs.QueueKnown.{whole_keys, place_low, asker_high}
use Rattle.waits.proofs.Wants.{want_queued}
use Rattle.waits.proofs.targets.want_at.Goals as goal

pub in_place-t-requires : goal.in_place-t-requires
in_place-t-requires c = search (rules, place_low)

pub ask_at-requires : goal.ask_at-requires
ask_at-requires c = search (rules, asker_high)

pub returns : goal.returns
returns c = search (rules, want_queued, whole_keys)
