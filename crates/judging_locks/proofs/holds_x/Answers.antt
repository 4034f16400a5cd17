-- `judging_locks::holds_x` meets its contract. Assumes nothing.
use borrow.Author.Rules.{rules}
use native.Mathlib.Omega.{arith}
use Rattle.lists.proofs.RangeChains.{any_of_range}
use Rattle.locks.specs.SlotLayout.{slots_of}
use Rattle.judging_locks.proofs.holds_x.Goals as goal

pub returns : goal.returns
unfolding slots_of
returns c = any_of_range _ (λ i b k low high q. search rules) (omega arith) c.any.ensures.ran
