-- `runs::deleting::run_delete` meets its contract, by whether the target is the entry of the key.
-- Assumes nothing.
use borrow.Author.Rules.{rules}
use Rattle.states.proofs.TablesSay.{whole_few}
use Rattle.runs.proofs.RunsSay.{clear_place, clear_high}
use Rattle.runs.proofs.Deletes.{delete_missing, delete_there_lem}
use Rattle.runs.proofs.Next.{next_target, own_named, own_there}
use Rattle.runs.proofs.deleting.run_delete.Goals as goal

pub in_place-t-requires : goal.in_place-t-requires
in_place-t-requires c = search (rules, clear_place)

pub lock_and_leave-given-requires-clause-desk_bound : goal.lock_and_leave-given-requires-clause-desk_bound
lock_and_leave-given-requires-clause-desk_bound c = search (rules, whole_few)

pub lock_and_leave-given-requires-clause-place_bound_2 : goal.lock_and_leave-given-requires-clause-place_bound_2
lock_and_leave-given-requires-clause-place_bound_2 c = search (rules, clear_high)

pub lock_and_leave-given-requires-clause-own_value : goal.lock_and_leave-given-requires-clause-own_value
lock_and_leave-given-requires-clause-own_value c = search (rules, own_named)

pub returns-in_default : goal.returns-in_default
returns-in_default c = search (delete_missing, next_target)

pub lock_and_leave-given-requires-2-clause-desk_bound : goal.lock_and_leave-given-requires-2-clause-desk_bound
lock_and_leave-given-requires-2-clause-desk_bound c = search (rules, whole_few)

pub lock_and_leave-given-requires-2-clause-place_bound_2 : goal.lock_and_leave-given-requires-2-clause-place_bound_2
lock_and_leave-given-requires-2-clause-place_bound_2 c = search (rules, clear_high)

pub lock_and_leave-given-requires-2-clause-own_value : goal.lock_and_leave-given-requires-2-clause-own_value
lock_and_leave-given-requires-2-clause-own_value c = search (rules, own_there)

pub returns : goal.returns
returns c = search (delete_there_lem, next_target)
