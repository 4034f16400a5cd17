-- `pages::inner::put_child` meets its contract: the fields are written in their order.
-- Assumes nothing.
use Rattle.numbers.specs.Numbers.{put_fields}
use Rattle.pages.specs.PageLayout.{child_fields, put_child}
use Rattle.pages.proofs.inner.put_child.Goals as goal

pub returns : goal.returns
unfolding put_child child_fields put_fields
returns c = cc
