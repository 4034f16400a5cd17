-- `judging_order::holds_x_among` meets its contract. Assumes nothing.
use borrow.Author.Rules.{rules}
use native.Mathlib.Omega.{arith}
use Rattle.lists.proofs.RangeChains.{any_of_range}
use Rattle.judging_order.proofs.holds_x_among.Goals as goal

pub returns : goal.returns
returns c = any_of_range _ (λ a b k low high q. search rules) (omega arith) c.any.ensures.ran
