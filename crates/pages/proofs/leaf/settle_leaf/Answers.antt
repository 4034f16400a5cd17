-- `pages::leaf::settle_leaf` meets its contract. Assumes nothing.
use borrow.Author.Rules.{rules}
use Rattle.pages.proofs.LeafSettling.{settled_none, settled_turn, settled_all}
use Rattle.pages.proofs.leaf.settle_leaf.Goals as goal

pub loop-i-init : goal.loop-i-init
loop-i-init c = (search rules, (search rules, search (rules, settled_none)))

pub loop-i-preserved : goal.loop-i-preserved
loop-i-preserved c = (search rules, (search rules, search (rules, settled_turn)))

pub returns : goal.returns
returns c = search (rules, settled_all)
