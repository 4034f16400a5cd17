-- `numbers::read_u8` meets its contract: a number of one byte is that byte.
-- Assumes nothing.
use borrow.Author.Rules.{rules}
use Rattle.numbers.proofs.Numbers.{number_byte}
use Rattle.numbers.proofs.read_u8.Goals as goal

pub returns : goal.returns
returns c = search (rules, number_byte)
