-- `requests::Call::is_legal` meets its contract: a transaction that there is, and a legal request.
-- Assumes nothing.
use borrow.Author.Rules.{rules}
use Rattle.requests.proofs.Legal.{legal_call_lem}
use Rattle.requests.proofs.Call.is_legal.Goals as goal

pub returns : goal.returns
returns c = search (rules, legal_call_lem)
