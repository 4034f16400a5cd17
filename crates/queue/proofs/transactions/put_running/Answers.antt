-- `queue::transactions::put_running` meets its contract: one number is written.
-- Assumes nothing.
use Rattle.queue.specs.QueueMoves.{mark_put}
use Rattle.queue.proofs.transactions.put_running.Goals as goal

pub returns : goal.returns
unfolding mark_put
returns c = cc
