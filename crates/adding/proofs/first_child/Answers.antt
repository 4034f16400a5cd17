-- `adding::first_child` meets its contract: a child is put into a page that has none.
-- Assumes nothing.
use borrow.Author.Rules.{rules}
use Rattle.adding.proofs.Roots.{none_yet, first_is}
use Rattle.adding.proofs.first_child.Goals as goal

pub insert_child-requires-clause-p_bound : goal.insert_child-requires-clause-p_bound
insert_child-requires-clause-p_bound c = search (rules, none_yet)

pub returns : goal.returns
returns c = search (rules, first_is)
