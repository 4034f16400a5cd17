-- `locks::put_row` meets its contract: four numbers are written, one behind the other.
-- Assumes nothing.
use Rattle.numbers.specs.Numbers.{put_fields}
use Rattle.locks.proofs.slots.put_row.Goals as goal

pub returns : goal.returns
unfolding put_fields
returns c = cc
