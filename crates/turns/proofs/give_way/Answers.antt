-- `turns::give_way` meets its contract: the request leaves, and nothing else moves.
-- Assumes nothing.
use borrow.Author.Rules.{rules}
use Rattle.states.proofs.TablesSay.{whole_few}
use Rattle.waits.proofs.QueueKnown.{place_low}
use Rattle.turns.proofs.OneTurn.{place_high, gave_way}
use Rattle.turns.proofs.give_way.Goals as goal

pub in_place-t-requires : goal.in_place-t-requires
in_place-t-requires c = search (rules, place_low)

pub leave_queue-requires-clause-d_bound : goal.leave_queue-requires-clause-d_bound
leave_queue-requires-clause-d_bound c = search (rules, whole_few)

pub leave_queue-requires-clause-q_bound_2 : goal.leave_queue-requires-clause-q_bound_2
leave_queue-requires-clause-q_bound_2 c = search (rules, place_high)

pub returns : goal.returns
returns c = search (rules, gave_way)
