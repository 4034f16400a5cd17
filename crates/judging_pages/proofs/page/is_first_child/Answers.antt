-- `judging_pages::page::is_first_child` meets its contract: the separator is read at its place.
-- Assumes nothing.
use Rattle.judging_pages.specs.PageChecks.{first_ok, child_fields_at}
use Rattle.pages.specs.PageLayout.{child_in, child_at}
use Rattle.judging_pages.proofs.page.is_first_child.Goals as goal

pub returns : goal.returns
unfolding first_ok child_fields_at child_at child_in
returns c = cc
