-- `answering::done_first` meets its contract: one who is not in the queue leaves room for one answer more.
-- Assumes nothing.
use borrow.Author.Rules.{rules}
use Rattle.answering.proofs.RequestAnswered.{done_room, done_wrote}
use Rattle.answering.proofs.done_first.Goals as goal

pub work-requires-clause-desk_in_bounds : goal.work-requires-clause-desk_in_bounds
work-requires-clause-desk_in_bounds c = search (rules, done_room)

pub returns : goal.returns
returns c = search (rules, done_wrote)
