-- `numbers::read_u16` meets its contract: the sum of two bytes is written out.
-- Assumes nothing.
use borrow.Author.Rules.{rules}
use Rattle.numbers.specs.Numbers.{number_at}
use Rattle.numbers.proofs.read_u16.Goals as goal

pub returns : goal.returns
unfolding number_at
returns c = search rules
