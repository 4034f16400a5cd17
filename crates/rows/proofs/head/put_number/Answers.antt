-- `rows::head::put_number` meets its contract: only the low two bytes of a number count.
-- Assumes nothing.
use borrow.Author.Rules.{rules}
use Rattle.numbers.proofs.Splices.{put_cut}
use Rattle.rows.proofs.head.put_number.Goals as goal

pub returns : goal.returns
returns c = search (rules, put_cut)
