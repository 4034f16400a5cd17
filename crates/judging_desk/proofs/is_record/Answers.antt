-- `judging_desk::is_record` meets its contract: its test is the definition's.
-- Assumes nothing.
use Rattle.judging_desk.specs.DeskChecks.{record_ok}
use Rattle.judging_desk.proofs.is_record.Goals as goal

pub returns : goal.returns
unfolding record_ok
returns c = cc
