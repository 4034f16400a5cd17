-- `answering::begin` meets its contract: the mark is set, and the queue worked from there.
-- Assumes nothing.
use borrow.Author.Rules.{rules}
use Rattle.answering.proofs.RequestAnswered.{begun_whole, begun_waits, begun_wrote}
use Rattle.answering.proofs.begin.Goals as goal

pub done_first-requires-clause-whole : goal.done_first-requires-clause-whole
done_first-requires-clause-whole c = search (rules, begun_whole)

pub done_first-requires-clause-t_value : goal.done_first-requires-clause-t_value
done_first-requires-clause-t_value c = search (rules, begun_waits)

pub returns : goal.returns
returns c = search (rules, begun_wrote)
