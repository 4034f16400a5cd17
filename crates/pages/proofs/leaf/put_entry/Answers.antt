-- `pages::leaf::put_entry` meets its contract: the fields are written in their order.
-- Assumes nothing.
use Rattle.numbers.specs.Numbers.{put_fields}
use Rattle.pages.specs.PageLayout.{entry_fields, put_entry}
use Rattle.pages.proofs.leaf.put_entry.Goals as goal

pub returns-clause-p_after : goal.returns-clause-p_after
unfolding put_entry entry_fields put_fields
returns-clause-p_after c = cc
