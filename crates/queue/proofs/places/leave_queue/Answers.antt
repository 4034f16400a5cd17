-- `queue::leave_queue` meets its contract: the request, the places behind it and the count are written.
-- Assumes nothing.
use borrow.Author.Rules.{rules}
use Rattle.queue.proofs.QueueBytes.{queue_closed}
use Rattle.queue.proofs.places.leave_queue.Goals as goal

pub returns : goal.returns
returns c = search (rules, queue_closed)
