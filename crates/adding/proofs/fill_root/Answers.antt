-- `adding::fill_root` meets its contract: a second child is put in behind the first.
-- Assumes nothing.
use borrow.Author.Rules.{rules}
use Rattle.adding.proofs.Roots.{one_now, one_there, two_children}
use Rattle.adding.proofs.fill_root.Goals as goal

pub insert_child-requires-clause-p_bound : goal.insert_child-requires-clause-p_bound
insert_child-requires-clause-p_bound c = search (rules, one_now)

pub insert_child-requires-clause-i_bound : goal.insert_child-requires-clause-i_bound
insert_child-requires-clause-i_bound c = search (rules, one_there)

pub returns : goal.returns
returns c = search (rules, two_children)
