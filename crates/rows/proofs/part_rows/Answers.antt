-- `rows::part_rows` meets its contract: what is copied is read before it is set to zero.
-- Assumes nothing.
use borrow.Author.Rules.{rules}
use Rattle.rows.proofs.RowDivisions.{parted}
use Rattle.rows.proofs.part_rows.Goals as goal

pub returns : goal.returns
returns c = search (rules, parted)
