-- `ends::stop` meets its contract, one move after the other.
-- Assumes nothing.
use Rattle.ends.proofs.Ended.{stopped}
use Rattle.ends.proofs.stop.Goals as goal

pub returns : goal.returns
returns c = search stopped
