-- `judging_desk::are_slots` meets its contract. Assumes nothing.
use borrow.Author.Rules.{rules}
use native.Mathlib.Omega.{arith}
use Rattle.lists.proofs.RangeChains.{all_of_range}
use Rattle.judging_desk.proofs.Free.{zero_slots}
use Rattle.judging_desk.proofs.are_slots.Goals as goal

pub returns-then-are_zero : goal.returns-then-are_zero
returns-then-are_zero c = search (rules, zero_slots)

pub returns-else-are_zero : goal.returns-else-are_zero
returns-else-are_zero c = all_of_range _ (λ i b k low high q. search rules) (omega arith) c.all.ensures.ran
