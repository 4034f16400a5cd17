-- `index::descent::top` meets its contract: the height is the root's level and one.
-- Assumes nothing.
use borrow.Author.Rules.{rules}
use Rattle.index.proofs.SearchTurns.{tall_one, top_of}
use Rattle.index.proofs.descent.top.Goals as goal

pub overflow_sub-result : goal.overflow_sub-result
overflow_sub-result c = search (rules, tall_one)

pub returns : goal.returns
returns c = search (rules, top_of)
