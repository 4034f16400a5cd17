-- `index::search::find` meets its contract: the search from the root finds what the index has first.
-- Assumes nothing.
use borrow.Author.Rules.{rules}
use Rattle.index.proofs.SearchTurns.{find_from, found_all}
use Rattle.index.proofs.search.find.Goals as goal

pub seek-requires : goal.seek-requires
seek-requires c = search (rules, find_from)

pub returns : goal.returns
returns c = search (rules, found_all)
