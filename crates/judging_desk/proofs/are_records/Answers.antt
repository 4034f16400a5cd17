-- `judging_desk::are_records` meets its contract. Assumes nothing.
use borrow.Author.Rules.{rules}
use native.Mathlib.Omega.{arith}
use Rattle.lists.proofs.RangeChains.{all_of_range}
use Rattle.judging_desk.proofs.are_records.Goals as goal

pub returns : goal.returns
returns c = all_of_range _ (λ t b k low high q. search rules) (omega arith) c.all.ensures.ran
