-- `answering::joining::join` meets its contract: there is room for one who does not wait.
-- Assumes nothing.
use borrow.Author.Rules.{rules}
use Rattle.states.proofs.MovesSay.{join_room}
use Rattle.answering.proofs.RequestAnswered.{joined_says}
use Rattle.answering.proofs.joining.join.Goals as goal

pub join_queue-requires-clause-d_bound : goal.join_queue-requires-clause-d_bound
join_queue-requires-clause-d_bound c = search (rules, join_room)

pub returns : goal.returns
returns c = search (rules, joined_says)
