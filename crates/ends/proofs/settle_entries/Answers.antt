-- `ends::settle_entries` meets its contract. Assumes nothing.
use borrow.Author.Rules.{rules}
use Rattle.ends.proofs.Owned.{onward_first, onward_next, onward_last}
use Rattle.ends.proofs.settle_entries.Goals as goal

pub loop-i-init : goal.loop-i-init
loop-i-init c = search (rules, onward_first)

pub loop-i-preserved : goal.loop-i-preserved
loop-i-preserved c = search (rules, onward_next)

pub returns : goal.returns
returns c = search (rules, onward_last)
