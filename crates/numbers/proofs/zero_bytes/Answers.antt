-- `numbers::zero_bytes` meets its contract: what is left in the part that was lent is zero.
-- Assumes nothing.
use borrow.Author.Rules.{rules}
use Rattle.numbers.proofs.ByteMoves.{zeroed_back}
use Rattle.numbers.proofs.zero_bytes.Goals as goal

pub returns : goal.returns
returns c = search (rules, zeroed_back)
