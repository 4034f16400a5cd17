-- `locks::Mode::of` meets its contract: X at 2, S at every other number.
-- Assumes nothing.
use borrow.Author.Rules.{rules}
use Rattle.locks.proofs.LockValues.{mode_x, mode_s}
use Rattle.locks.proofs.Mode.of.Goals as goal

pub returns-then-number : goal.returns-then-number
returns-then-number c = search (rules, mode_x)

pub returns-else-number : goal.returns-else-number
returns-else-number c = search (rules, mode_s)
