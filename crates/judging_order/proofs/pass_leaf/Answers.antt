-- `judging_order::pass_leaf` meets its contract. Assumes nothing.
use borrow.Author.Rules.{rules}
use Rattle.judging_order.proofs.Passing.{leaf_start, entry_to_most, leaf_stuck, leaf_turn, leaf_end}
use Rattle.judging_order.proofs.pass_leaf.Goals as goal

pub loop-i-init : goal.loop-i-init
loop-i-init c = (search rules, search (rules, leaf_start))

pub returns-in_err-at : goal.returns-in_err-at
returns-in_err-at c = search (rules, c.in_err-at.was, leaf_stuck)

pub loop-i-preserved : goal.loop-i-preserved
loop-i-preserved c = (search (rules, c.in_ok-at.was, entry_to_most), search (rules, c.in_ok-at.was, leaf_turn))

pub returns : goal.returns
returns c = search (rules, leaf_end)
