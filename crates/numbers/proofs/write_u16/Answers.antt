-- `numbers::write_u16` meets its contract: the library's bytes of this number are these.
-- Assumes nothing.
use borrow.Author.Rules.{rules}
use Rattle.numbers.proofs.LittleEnd.{number_written}
use Rattle.numbers.proofs.write_u16.Goals as goal

pub returns : goal.returns
returns c = search (rules, number_written 2)
