-- `numbers::copy_bytes` meets its contract: what is left in the part that was lent is what was read.
-- Assumes nothing.
use borrow.Author.Rules.{rules}
use Rattle.numbers.proofs.ByteMoves.{copied_back}
use Rattle.numbers.proofs.copy_bytes.Goals as goal

pub returns : goal.returns
returns c = search (rules, copied_back)
