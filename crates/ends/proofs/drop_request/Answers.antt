-- `ends::drop_request` meets its contract: a place before the end of the queue is that of t's request.
-- Assumes nothing.
use borrow.Author.Rules.{rules}
use Rattle.ends.proofs.Ended.{drop_asker, drop_there, drop_none}
use Rattle.ends.proofs.drop_request.Goals as goal

pub leave_queue-requires-clause-q_bound_2 : goal.leave_queue-requires-clause-q_bound_2
leave_queue-requires-clause-q_bound_2 c = search (rules, drop_asker)

pub returns-then-q-queued : goal.returns-then-q-queued
returns-then-q-queued c = search (rules, drop_there)

pub returns-else-q-queued : goal.returns-else-q-queued
returns-else-q-queued c = search (rules, drop_none)
