-- `answering::refusing::refusal_of` meets its contract: the refusal by the kind of request.
-- Assumes nothing.
use borrow.Author.Rules.{rules}
use Rattle.answering.proofs.Refusals.{begin_refusal, commit_refusal, rollback_refusal, ask_refusal}
use Rattle.answering.proofs.refusing.refusal_of.Goals as goal

pub returns-in-Begin : goal.returns-in-Begin
returns-in-Begin c = search (rules, begin_refusal)

pub returns-in-Commit : goal.returns-in-Commit
returns-in-Commit c = search (rules, commit_refusal)

pub returns-in-Rollback : goal.returns-in-Rollback
returns-in-Rollback c = search (rules, rollback_refusal)

pub returns-in-Asks : goal.returns-in-Asks
returns-in-Asks c = search (rules, ask_refusal)
