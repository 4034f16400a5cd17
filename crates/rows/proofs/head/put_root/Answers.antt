-- `rows::head::put_root` meets its contract: the fields are written in their order.
-- Assumes nothing.
use Rattle.numbers.specs.Numbers.{put_fields}
use Rattle.rows.specs.PageHead.{put_root}
use Rattle.rows.proofs.head.put_root.Goals as goal

pub returns : goal.returns
unfolding put_root put_fields
returns c = cc
