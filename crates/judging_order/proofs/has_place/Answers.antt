-- `judging_order::has_place` meets its contract: both numbers are those at their places.
-- Assumes nothing.
use borrow.Author.Rules.{rules}
use Rattle.judging_order.proofs.Passing.{place_noted}
use Rattle.judging_order.proofs.has_place.Goals as goal

pub returns : goal.returns
returns c = search (rules, place_noted)
