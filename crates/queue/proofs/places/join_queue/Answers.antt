-- `queue::join_queue` meets its contract: the request, the place and the count are written.
-- Assumes nothing.
use Rattle.queue.specs.QueueMoves.{queue_joined}
use Rattle.queue.proofs.places.join_queue.Goals as goal

pub returns : goal.returns
unfolding queue_joined
returns c = cc
