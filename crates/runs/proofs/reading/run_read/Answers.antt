-- `runs::reading::run_read` meets its contract: what is said goes by the target and by whether the lock is given.
-- Assumes nothing.
use borrow.Author.Rules.{rules}
use Rattle.states.proofs.TablesSay.{whole_few}
use Rattle.runs.proofs.RunsSay.{clear_place, clear_high}
use Rattle.runs.proofs.Looks.{read_ran}
use Rattle.runs.proofs.Next.{next_target, own_named}
use Rattle.runs.proofs.reading.run_read.Goals as goal

pub in_place-t-requires : goal.in_place-t-requires
in_place-t-requires c = search (rules, clear_place)

pub lock_and_leave-given-requires-clause-desk_bound : goal.lock_and_leave-given-requires-clause-desk_bound
lock_and_leave-given-requires-clause-desk_bound c = search (rules, whole_few)

pub lock_and_leave-given-requires-clause-place_bound_2 : goal.lock_and_leave-given-requires-clause-place_bound_2
lock_and_leave-given-requires-clause-place_bound_2 c = search (rules, clear_high)

pub lock_and_leave-given-requires-clause-own_value : goal.lock_and_leave-given-requires-clause-own_value
lock_and_leave-given-requires-clause-own_value c = search (rules, own_named)

pub returns : goal.returns
returns c = search (rules, read_ran, next_target)
