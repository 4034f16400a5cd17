-- `sets::Set::has` meets its contract: each number is looked for in its own word.
-- Assumes nothing.
use borrow.Author.Rules.{rules}
use Rattle.sets.proofs.Sets.{has_low, has_high}
use Rattle.sets.proofs.Set.has.Goals as goal

pub returns-then-n-lt64 : goal.returns-then-n-lt64
returns-then-n-lt64 c = search (rules, has_low)

pub returns : goal.returns
returns c = search (rules, has_high)
