-- `circles::is_in` meets its contract: the number that it looks for in the word is t's.
-- Assumes nothing.
use borrow.Author.Rules.{rules}
use Rattle.circles.proofs.Bits.{word_at}
use Rattle.circles.proofs.is_in.Goals as goal

pub returns : goal.returns
returns c = search (rules, word_at)
