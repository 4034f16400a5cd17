-- `queue::transactions::put_request` meets its contract: four numbers are written, one behind the other.
-- Assumes nothing.
use Rattle.numbers.specs.Numbers.{put_fields}
use Rattle.queue.specs.QueueLayout.{put_ask}
use Rattle.queue.proofs.transactions.put_request.Goals as goal

pub returns : goal.returns
unfolding put_ask put_fields
returns c = cc
