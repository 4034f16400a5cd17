-- `answering::end` meets its contract: the end, and the queue worked from there.
-- Assumes nothing.
use borrow.Author.Rules.{rules}
use Rattle.answering.proofs.RequestAnswered.{ended_waits}
use Rattle.answering.proofs.end.Goals as goal

pub done_first-requires-clause-t_value : goal.done_first-requires-clause-t_value
done_first-requires-clause-t_value c = search (rules, ended_waits)
