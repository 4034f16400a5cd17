-- `settling::replacing::replace_in` meets its contract: the part that is lent is the leaf.
-- Assumes nothing.
use borrow.Author.Rules.{rules}
use Rattle.settling.proofs.Replaces.{leaf_lent, over_back}
use Rattle.settling.proofs.replacing.replace_in.Goals as goal

pub put_over-requires : goal.put_over-requires
put_over-requires c = search (rules, leaf_lent)

pub returns : goal.returns
returns c = search (rules, over_back)
