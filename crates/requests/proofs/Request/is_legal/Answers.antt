-- `requests::Request::is_legal` meets its contract: only what joins the queue can be illegal.
-- Assumes nothing.
use borrow.Author.Rules.{rules}
use Rattle.rules.specs.Desk.{legal_request}
use Rattle.requests.proofs.Legal.{legal_ask_lem}
use Rattle.requests.proofs.Request.is_legal.Goals as goal

pub returns-in-Begin : goal.returns-in-Begin
unfolding legal_request
returns-in-Begin c = search rules

pub returns-in-Commit : goal.returns-in-Commit
unfolding legal_request
returns-in-Commit c = search rules

pub returns-in-Rollback : goal.returns-in-Rollback
unfolding legal_request
returns-in-Rollback c = search rules

pub returns-in-Asks : goal.returns-in-Asks
returns-in-Asks c = search (rules, legal_ask_lem)
