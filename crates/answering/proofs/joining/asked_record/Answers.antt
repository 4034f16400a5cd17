-- `answering::joining::asked_record` meets its contract: keys that are legal are below the end, and a record has its width.
-- Assumes nothing.
use borrow.Author.Rules.{rules}
use Rattle.answering.proofs.AskFits.{fits_read, fits_insert, fits_delete}
use Rattle.answering.proofs.joining.asked_record.Goals as goal

pub returns-in-Read : goal.returns-in-Read
returns-in-Read c = search (rules, fits_read)

pub returns-in-Insert : goal.returns-in-Insert
returns-in-Insert c = search (rules, fits_insert)

pub returns-in-Delete : goal.returns-in-Delete
returns-in-Delete c = search (rules, fits_delete)
