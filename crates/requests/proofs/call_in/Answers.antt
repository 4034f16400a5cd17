-- `requests::call_in` meets its contract: the transaction and what it asks are the call.
-- Assumes nothing.
use borrow.Author.Rules.{rules}
use Rattle.requests.proofs.RequestRead.{call_in_lem}
use Rattle.requests.proofs.call_in.Goals as goal

pub returns : goal.returns
returns c = search (rules, call_in_lem)
