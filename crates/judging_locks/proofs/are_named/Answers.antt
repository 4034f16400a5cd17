-- `judging_locks::are_named` meets its contract. Assumes nothing.
use borrow.Author.Rules.{rules}
use native.Mathlib.Omega.{arith}
use Rattle.lists.proofs.RangeChains.{all_of_range}
use Rattle.locks.specs.SlotLayout.{slots_of}
use Rattle.judging_locks.proofs.are_named.Goals as goal

pub returns : goal.returns
unfolding slots_of
returns c = all_of_range _ (λ i b k low high q. search rules) (omega arith) c.all.ensures.ran
