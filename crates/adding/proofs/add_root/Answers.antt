-- `adding::add_root` meets its contract: the part that is lent is the new root's page.
-- Assumes nothing.
use borrow.Author.Rules.{rules}
use Rattle.adding.proofs.Roots.{root_blank, root_added}
use Rattle.adding.proofs.add_root.Goals as goal

pub fill_root-requires-clause-p_value : goal.fill_root-requires-clause-p_value
fill_root-requires-clause-p_value c = search (rules, root_blank)

pub returns : goal.returns
returns c = search (rules, root_added)
