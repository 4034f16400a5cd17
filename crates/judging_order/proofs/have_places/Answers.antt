-- `judging_order::have_places` meets its contract. Assumes nothing.
use borrow.Author.Rules.{rules}
use native.Mathlib.Omega.{arith}
use Rattle.lists.proofs.RangeChains.{all_of_range}
use Rattle.judging_order.proofs.have_places.Goals as goal

pub returns : goal.returns
returns c = all_of_range _ (λ i b k low high q. search rules) (omega arith) c.all.ensures.ran
