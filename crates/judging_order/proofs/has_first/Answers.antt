-- `judging_order::has_first` meets its contract: the slot is that at the first place.
-- Assumes nothing.
use borrow.Author.Rules.{rules}
use Rattle.judging_order.proofs.Passing.{first_there}
use Rattle.judging_order.proofs.has_first.Goals as goal

pub returns : goal.returns
returns c = search (rules, first_there)
