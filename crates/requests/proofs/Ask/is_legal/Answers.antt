-- `requests::Ask::is_legal` meets its contract: the tests of the code are those of the rule book, kind by kind.
-- Assumes nothing.
use borrow.Author.Rules.{rules}
use Rattle.requests.proofs.Legal.{legal_read, legal_insert, legal_delete}
use Rattle.requests.proofs.Ask.is_legal.Goals as goal

pub returns-in-Read : goal.returns-in-Read
returns-in-Read c = search (rules, legal_read)

pub returns-in-Insert : goal.returns-in-Insert
returns-in-Insert c = search (rules, legal_insert)

pub returns-in-Delete : goal.returns-in-Delete
returns-in-Delete c = search (rules, legal_delete)
