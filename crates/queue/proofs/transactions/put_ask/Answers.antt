-- `queue::transactions::put_ask` meets its contract: each kind of request has its numbers.
-- Assumes nothing.
use borrow.Author.Rules.{rules}
use Rattle.queue.proofs.AskValues.{put_read, put_insert, put_delete}
use Rattle.queue.proofs.transactions.put_ask.Goals as goal

pub returns-in-Read : goal.returns-in-Read
returns-in-Read c = search (rules, put_read)

pub returns-in-Insert : goal.returns-in-Insert
returns-in-Insert c = search (rules, put_insert)

pub returns-in-Delete : goal.returns-in-Delete
returns-in-Delete c = search (rules, put_delete)
