-- `waits::lightest::lies_on_circle` meets its contract.
-- Assumes nothing.
use borrow.Author.Rules.{rules}
use Rattle.waits.proofs.Yielders.{looked_under, looked_low, looked_high}
use Rattle.waits.proofs.lightest.lies_on_circle.Goals as goal

pub in_place-requires : goal.in_place-requires
in_place-requires c = search (rules, looked_under)

pub on_circle-requires-clause-le_t : goal.on_circle-requires-clause-le_t
on_circle-requires-clause-le_t c = search (rules, looked_low)

pub on_circle-requires-clause-t_in_bounds : goal.on_circle-requires-clause-t_in_bounds
on_circle-requires-clause-t_in_bounds c = search (rules, looked_high)
