-- `judging_pages::page::is_child` meets its contract: the fields are read in their order.
-- Assumes nothing.
use Rattle.judging_pages.specs.PageChecks.{fillers_ok, child_fields_at}
use Rattle.numbers.specs.Numbers.{fields_at}
use Rattle.judging_pages.proofs.page.is_child.Goals as goal

pub returns : goal.returns
unfolding fillers_ok child_fields_at fields_at
returns c = cc
