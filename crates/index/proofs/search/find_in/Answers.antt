-- `index::search::find_in` meets its contract. Assumes nothing.
use borrow.Author.Rules.{rules}
use Rattle.index.proofs.SearchTurns.{leaf_start, leaf_here, leaf_on, leaf_none}
use Rattle.index.proofs.search.find_in.Goals as goal

pub loop-i-init : goal.loop-i-init
loop-i-init c = search (rules, leaf_start)

pub returns-then-is_sought : goal.returns-then-is_sought
returns-then-is_sought c = search (rules, leaf_here)

pub loop-i-preserved : goal.loop-i-preserved
loop-i-preserved c = search (rules, leaf_on)

pub returns : goal.returns
returns c = search (rules, leaf_none)
