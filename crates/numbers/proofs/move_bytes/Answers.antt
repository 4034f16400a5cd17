-- `numbers::move_bytes` meets its contract: the library's move is this one.
-- Assumes nothing.
use borrow.Author.Rules.{rules}
use Rattle.numbers.proofs.ByteMoves.{moved_within}
use Rattle.numbers.proofs.move_bytes.Goals as goal

pub returns : goal.returns
returns c = search (rules, moved_within)
