-- `desk::serve` meets its contract: a law for each way out, in the order of the checks.
-- Assumes nothing.
use borrow.Author.Rules.{rules}
use Rattle.desk.proofs.Serves.{as_array, heard_right, served_desk, served_broken, served_bad, served_good}
use Rattle.desk.proofs.serve.Goals as goal

pub returns-in_err-desk : goal.returns-in_err-desk
returns-in_err-desk c =
    let p = as_array c.as_mut_array.ensures.cases c.in_ok-pages.ensures.ok_part in
    served_desk p (search rules) (search rules)

pub returns-then-not-is_whole : goal.returns-then-not-is_whole
returns-then-not-is_whole c =
    let p = as_array c.as_mut_array.ensures.cases c.in_ok-pages.ensures.ok_part in
    let d = as_array c.as_mut_array-2.ensures.cases c.in_ok-desk.ensures.ok_part in
    served_broken p d (search rules) c.is_whole.ensures (search rules) (search rules)

pub returns-in_err-call : goal.returns-in_err-call
returns-in_err-call c =
    let p = as_array c.as_mut_array.ensures.cases c.in_ok-pages.ensures.ok_part in
    let d = as_array c.as_mut_array-2.ensures.cases c.in_ok-desk.ensures.ok_part in
    served_bad p d (search rules) c.is_whole.ensures (search rules) c.read_request.ensures (search rules) (search rules)

pub answer-requires-clause-call_value : goal.answer-requires-clause-call_value
answer-requires-clause-call_value c = search (rules, heard_right)

pub returns : goal.returns
returns c =
    let p = as_array c.as_mut_array.ensures.cases c.in_ok-pages.ensures.ok_part in
    let d = as_array c.as_mut_array-2.ensures.cases c.in_ok-desk.ensures.ok_part in
    served_good p d (search rules) c.is_whole.ensures (search rules) c.read_request.ensures (search rules) c.answer.ensures
