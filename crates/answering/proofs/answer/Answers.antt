-- `answering::answer` meets its contract: the refusal, or the request's act, is the rule book's step.
-- Assumes nothing.
use borrow.Author.Rules.{rules}
use Rattle.answering.proofs.RequestAnswered.{ask_legal, begin_idle, ask_runs, ask_new, refused_answered, begin_answered, commit_answered, rollback_answered, ask_answered}
use Rattle.answering.proofs.answer.Goals as goal

pub returns-in-Some : goal.returns-in-Some
returns-in-Some c = search (rules, refused_answered)

pub begin-requires-clause-t_value : goal.begin-requires-clause-t_value
begin-requires-clause-t_value c = search (rules, begin_idle)

pub queue_up-requires-clause-t_value : goal.queue_up-requires-clause-t_value
queue_up-requires-clause-t_value c = search (rules, ask_runs)

pub queue_up-requires-clause-t_value_2 : goal.queue_up-requires-clause-t_value_2
queue_up-requires-clause-t_value_2 c = search (rules, ask_new)

pub queue_up-requires-clause-ask_value : goal.queue_up-requires-clause-ask_value
queue_up-requires-clause-ask_value c = search (rules, ask_legal)

pub returns-in-Begin : goal.returns-in-Begin
returns-in-Begin c = search (rules, begin_answered)

pub returns-in-Commit : goal.returns-in-Commit
returns-in-Commit c = search (rules, commit_answered)

pub returns-in-Rollback : goal.returns-in-Rollback
returns-in-Rollback c = search (rules, rollback_answered)

pub returns-in-Asks : goal.returns-in-Asks
returns-in-Asks c = search (rules, ask_answered)
