-- `judging_order::pass_entry` meets its contract: there is no owner, or it holds X or doesn't.
-- Assumes nothing.
use borrow.Author.Rules.{rules}
use Rattle.judging_order.proofs.Passing.{stretch_few, entry_settled, entry_owned}
use Rattle.judging_order.proofs.pass_entry.Goals as goal
use Rattle.judging_order.proofs.pass_entry.Goals.{then-e-eq0, else-e-eq0}

pub holds_x_among-held-requires : goal.holds_x_among-held-requires
holds_x_among-held-requires c = search (rules, stretch_few)

pub returns : goal.returns
returns c =
    elim c.if-e-eq0.branch [ then-e-eq0 w ↦ search (rules, entry_settled) | else-e-eq0 w ↦ search (rules, entry_owned) ]
