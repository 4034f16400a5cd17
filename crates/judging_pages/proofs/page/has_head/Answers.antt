-- `judging_pages::page::has_head` meets its contract: its test is the definition's.
-- Assumes nothing.
use Rattle.judging_pages.specs.PageChecks.{head_ok}
use Rattle.judging_pages.proofs.page.has_head.Goals as goal

pub returns : goal.returns
unfolding head_ok
returns c = cc
