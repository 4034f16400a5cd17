-- `judging_locks::stands_with_later` meets its contract. Assumes nothing.
use borrow.Author.Rules.{rules}
use native.Mathlib.Omega.{arith}
use Rattle.lists.proofs.RangeChains.{all_of_range}
use Rattle.judging_locks.proofs.LockTurns.{later_free}
use Rattle.judging_locks.proofs.stands_with_later.Goals as goal

pub returns-then-is_none : goal.returns-then-is_none
returns-then-is_none c = search (rules, later_free)

pub returns-else-is_none : goal.returns-else-is_none
returns-else-is_none c = all_of_range _ (λ j b k low high q. search rules) (omega arith) c.all.ensures.ran
