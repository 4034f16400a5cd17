-- `judging_order::pass_name` meets its contract. Assumes nothing.
use borrow.Author.Rules.{rules}
use Rattle.judging_order.proofs.Passing.{name_other, name_more, name_end}
use Rattle.judging_order.proofs.pass_name.Goals as goal

pub returns-then-not-is_on_at : goal.returns-then-not-is_on_at
returns-then-not-is_on_at c = search (rules, name_other)

pub loop-j-preserved : goal.loop-j-preserved
loop-j-preserved c = search (rules, name_more)

pub returns : goal.returns
returns c = search (rules, name_end)
