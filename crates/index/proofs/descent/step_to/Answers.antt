-- `index::descent::step_to` meets its contract.
-- Assumes nothing.
use borrow.Author.Rules.{rules}
use Rattle.index.proofs.SearchTurns.{inner_some, inner_few, step_for}
use Rattle.index.proofs.descent.step_to.Goals as goal

pub child_for-requires : goal.child_for-requires
child_for-requires c = search (rules, inner_some, inner_few)

pub returns : goal.returns
returns c = search (rules, step_for)
