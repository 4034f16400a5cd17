-- `rows::head::put_head` meets its contract: the fields are written in their order.
-- Assumes nothing.
use Rattle.numbers.specs.Numbers.{put_fields}
use Rattle.rows.specs.PageHead.{put_head}
use Rattle.rows.proofs.head.put_head.Goals as goal

pub returns : goal.returns
unfolding put_head put_fields
returns c = cc
