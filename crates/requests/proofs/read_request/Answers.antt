-- `requests::read_request` meets its contract: each early return has one of the causes of number 12, and what is left has none.
-- Assumes nothing.
use borrow.Author.Rules.{rules}
use Rattle.requests.proofs.RequestRead.{shaped, heard_misshapen, heard_bad, heard_good}
use Rattle.requests.proofs.read_request.Goals as goal

pub returns-then-is_misshapen : goal.returns-then-is_misshapen
returns-then-is_misshapen c = search (rules, heard_misshapen)

pub call_in-call-requires : goal.call_in-call-requires
call_in-call-requires c = search (rules, shaped)

pub is_filled-requires : goal.is_filled-requires
is_filled-requires c = search (rules, shaped)

pub returns-then-is_filled-is_legal : goal.returns-then-is_filled-is_legal
returns-then-is_filled-is_legal c = search (rules, heard_bad)

pub returns : goal.returns
returns c = search (rules, heard_good)
