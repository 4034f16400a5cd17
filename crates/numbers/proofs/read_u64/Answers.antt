-- `numbers::read_u64` meets its contract: the library's number of these bytes is this one.
-- Assumes nothing.
use borrow.Author.Rules.{rules}
use Rattle.numbers.proofs.LittleEnd.{number_read}
use Rattle.numbers.proofs.read_u64.Goals as goal

pub returns : goal.returns
returns c = search (rules, number_read 7)
