-- `sets::Set::with` meets its contract: each number is put in its own word, and the other word stays.
-- Assumes nothing.
use borrow.Author.Rules.{rules}
use Rattle.sets.proofs.Sets.{with_low, with_high}
use Rattle.sets.proofs.Set.with.Goals as goal

pub returns-then-n-lt64 : goal.returns-then-n-lt64
returns-then-n-lt64 c = search (rules, with_low)

pub returns : goal.returns
returns c = search (rules, with_high)
