-- `settling::settling::settle` meets its contract. Assumes nothing.
use borrow.Author.Rules.{rules}
use Rattle.settling.proofs.Settles.{settled_none, leaf_in, settled_on, settled_all}
use Rattle.settling.proofs.settling.settle.Goals as goal

pub loop-q-init : goal.loop-q-init
loop-q-init c = search (rules, settled_none)

pub settle_page-requires : goal.settle_page-requires
settle_page-requires c = search (rules, leaf_in)

pub loop-q-preserved : goal.loop-q-preserved
loop-q-preserved c = search (rules, settled_on)

pub returns : goal.returns
returns c = search (rules, settled_all)
