-- `judging_pages::page::is_entry` meets its contract: the fields are read in their order.
-- Assumes nothing.
use Rattle.judging_pages.specs.PageChecks.{entry_ok, entry_fields_at}
use Rattle.numbers.specs.Numbers.{fields_at}
use Rattle.judging_pages.proofs.page.is_entry.Goals as goal

pub returns : goal.returns
unfolding entry_ok entry_fields_at fields_at
returns c = cc
