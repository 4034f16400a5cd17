-- `index::search::seek_leaf` meets its contract: the page is the leaf.
-- Assumes nothing.
use borrow.Author.Rules.{rules}
use Rattle.index.proofs.SearchTurns.{leaf_count, leaf_ascends, leaf_found}
use Rattle.index.proofs.search.seek_leaf.Goals as goal

pub find_in-requires : goal.find_in-requires
find_in-requires c = search (rules, leaf_count, leaf_ascends)

pub returns : goal.returns
returns c = search (rules, leaf_found)
