-- `judging_pages::page::is_first_page` meets its contract: its test is the definition's.
-- Assumes nothing.
use Rattle.judging_pages.specs.PageChecks.{first_page_ok}
use Rattle.judging_pages.proofs.page.is_first_page.Goals as goal

pub returns : goal.returns
unfolding first_page_ok
returns c = cc
