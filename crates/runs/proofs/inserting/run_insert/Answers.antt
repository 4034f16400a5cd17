-- `runs::inserting::run_insert` meets its contract, by whether the target is the entry of the key.
-- Assumes nothing.
use borrow.Author.Rules.{rules}
use Rattle.states.proofs.TablesSay.{whole_few}
use Rattle.runs.proofs.RunsSay.{clear_place, clear_high}
use Rattle.runs.proofs.Inserts.{insert_missing, insert_there_lem}
use Rattle.runs.proofs.Next.{next_target, own_there}
use Rattle.runs.proofs.inserting.run_insert.Goals as goal

pub in_place-t-requires : goal.in_place-t-requires
in_place-t-requires c = search (rules, clear_place)

pub insert_missing-requires-clause-pages_value : goal.insert_missing-requires-clause-pages_value
insert_missing-requires-clause-pages_value c = search (rules, insert_missing, next_target)

pub lock_and_leave-given-requires-clause-desk_bound : goal.lock_and_leave-given-requires-clause-desk_bound
lock_and_leave-given-requires-clause-desk_bound c = search (rules, whole_few)

pub lock_and_leave-given-requires-clause-place_bound_2 : goal.lock_and_leave-given-requires-clause-place_bound_2
lock_and_leave-given-requires-clause-place_bound_2 c = search (rules, clear_high)

pub lock_and_leave-given-requires-clause-own_value : goal.lock_and_leave-given-requires-clause-own_value
lock_and_leave-given-requires-clause-own_value c = search (rules, own_there)

pub returns : goal.returns
returns c = search (insert_there_lem, next_target)
