-- `judging_desk::is_plain` meets its contract: the fields are read in their order.
-- Assumes nothing.
use Rattle.judging_desk.specs.DeskChecks.{plain_ok}
use Rattle.numbers.specs.Numbers.{fields_at}
use Rattle.queue.specs.QueueLayout.{record_at}
use Rattle.judging_desk.proofs.is_plain.Goals as goal

pub returns : goal.returns
unfolding plain_ok record_at fields_at
returns c = cc
