-- `waits::blockers::with_rival` meets its contract: one that stands against the want is a transaction, and added.
-- Assumes nothing.
use borrow.Author.Rules.{rules}
use Rattle.waits.proofs.QueueKnown.{place_low, asker_low, asker_fits}
use Rattle.waits.proofs.Noting.{noted_asker, noted_want}
use Rattle.waits.proofs.BlockerSets.{rival_in, rival_out}
use Rattle.waits.proofs.blockers.with_rival.Goals as goal

pub offset_bounds-wants-i : goal.offset_bounds-wants-i
offset_bounds-wants-i c = search (rules, place_low)

pub bounds-wants-i : goal.bounds-wants-i
bounds-wants-i c = search (rules, place_low)

pub with-requires-clause-le_t : goal.with-requires-clause-le_t
with-requires-clause-le_t c = search (rules, asker_low, noted_asker)

pub with-requires-clause-t_bound : goal.with-requires-clause-t_bound
with-requires-clause-t_bound c = search (rules, asker_fits, noted_asker)

pub returns-then-clashes : goal.returns-then-clashes
returns-then-clashes c = search (rules, rival_in, noted_want)

pub returns : goal.returns
returns c = search (rules, rival_out, noted_want)
