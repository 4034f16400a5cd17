-- `answering::work_for` meets its contract: what is said last follows what the queue's turns said.
-- Assumes nothing.
use borrow.Author.Rules.{rules}
use Rattle.answering.proofs.RequestAnswered.{work_room, waits_wrote}
use Rattle.answering.proofs.work_for.Goals as goal

pub work-end-requires-clause-desk_in_bounds : goal.work-end-requires-clause-desk_in_bounds
work-end-requires-clause-desk_in_bounds c = search (rules, work_room)

pub returns : goal.returns
returns c = search (rules, waits_wrote)
