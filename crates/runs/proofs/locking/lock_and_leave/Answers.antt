-- `runs::locking::lock_and_leave` meets its contract: the queue stands as it did when the lock has been taken.
-- Assumes nothing.
use borrow.Author.Rules.{rules}
use Rattle.locks.proofs.Takes.{given_there}
use Rattle.runs.proofs.EntryChanges.{locked_inside, locked_few, locked_asker, locked_left}
use Rattle.runs.proofs.locking.lock_and_leave.Goals as goal

pub leave_queue-requires-clause-q_bound : goal.leave_queue-requires-clause-q_bound
leave_queue-requires-clause-q_bound c = search (rules, locked_inside)

pub leave_queue-requires-clause-d_bound : goal.leave_queue-requires-clause-d_bound
leave_queue-requires-clause-d_bound c = search (rules, locked_few)

pub leave_queue-requires-clause-q_bound_2 : goal.leave_queue-requires-clause-q_bound_2
leave_queue-requires-clause-q_bound_2 c = search (rules, locked_asker)

pub returns-clause-left : goal.returns-clause-left
returns-clause-left c = search (rules, locked_left)

pub returns-clause-given : goal.returns-clause-given
returns-clause-given c = search (rules, given_there)
