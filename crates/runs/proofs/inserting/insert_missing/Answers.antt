-- `runs::inserting::insert_missing` meets its contract: the desk is as it was where slots or pages are short; otherwise the lock is taken.
-- Assumes nothing.
use borrow.Author.Rules.{rules}
use Rattle.states.proofs.TablesSay.{whole_few}
use Rattle.runs.proofs.RunsSay.{clear_place, clear_high}
use Rattle.runs.proofs.Missing.{entry_fits_lem, none_own, locks_short, pages_short_lem, put_in}
use Rattle.runs.proofs.inserting.insert_missing.Goals as goal

pub in_place-t-requires : goal.in_place-t-requires
in_place-t-requires c = search (rules, clear_place)

pub leave_queue-requires-clause-d_bound : goal.leave_queue-requires-clause-d_bound
leave_queue-requires-clause-d_bound c = search (rules, whole_few)

pub leave_queue-requires-clause-q_bound_2 : goal.leave_queue-requires-clause-q_bound_2
leave_queue-requires-clause-q_bound_2 c = search (rules, clear_high)

pub returns-then-next-ge-LOCKS : goal.returns-then-next-ge-LOCKS
returns-then-next-ge-LOCKS c = search (rules, locks_short)

pub add-requires-clause-key_lt_end_mark : goal.add-requires-clause-key_lt_end_mark
add-requires-clause-key_lt_end_mark c = search (rules, entry_fits_lem)

pub lock_and_leave-requires-clause-desk_bound : goal.lock_and_leave-requires-clause-desk_bound
lock_and_leave-requires-clause-desk_bound c = search (rules, whole_few)

pub lock_and_leave-requires-clause-place_bound_2 : goal.lock_and_leave-requires-clause-place_bound_2
lock_and_leave-requires-clause-place_bound_2 c = search (rules, clear_high)

pub lock_and_leave-requires-clause-own_value : goal.lock_and_leave-requires-clause-own_value
lock_and_leave-requires-clause-own_value c = search (rules, none_own)

pub returns-then-add : goal.returns-then-add
returns-then-add c = search (rules, put_in)

pub leave_queue-requires-else-add-clause-d_bound : goal.leave_queue-requires-else-add-clause-d_bound
leave_queue-requires-else-add-clause-d_bound c = search (rules, whole_few)

pub leave_queue-requires-else-add-clause-q_bound_2 : goal.leave_queue-requires-else-add-clause-q_bound_2
leave_queue-requires-else-add-clause-q_bound_2 c = search (rules, clear_high)

pub returns-else-add : goal.returns-else-add
returns-else-add c = search (rules, pages_short_lem)
