-- `queue::transactions::ask_at` meets its contract: the kind that is read says which request it is.
-- Assumes nothing.
use borrow.Author.Rules.{rules}
use Rattle.queue.proofs.AskValues.{ask_read, ask_insert, ask_delete}
use Rattle.queue.proofs.transactions.ask_at.Goals as goal

pub returns-then-kind-eq-READ : goal.returns-then-kind-eq-READ
returns-then-kind-eq-READ c = search (rules, ask_read)

pub returns-then-kind-eq-INSERT : goal.returns-then-kind-eq-INSERT
returns-then-kind-eq-INSERT c = search (rules, ask_insert)

pub returns : goal.returns
returns c = search (rules, ask_delete)
