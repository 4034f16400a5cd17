-- `runs::running::run_at` meets its contract, by what the request asks.
-- Assumes nothing.
use borrow.Author.Rules.{rules}
use Rattle.runs.proofs.RunsSay.{clear_place, clear_high}
use Rattle.runs.proofs.AskedAt.{read_asked, insert_asked, delete_asked}
use Rattle.runs.proofs.running.run_at.Goals as goal

pub in_place-t-requires : goal.in_place-t-requires
in_place-t-requires c = search (rules, clear_place)

pub ask_at-requires : goal.ask_at-requires
ask_at-requires c = search (rules, clear_high)

pub run_read-requires-clause-place_value : goal.run_read-requires-clause-place_value
run_read-requires-clause-place_value c = search (rules, read_asked)

pub run_insert-requires-clause-place_value : goal.run_insert-requires-clause-place_value
run_insert-requires-clause-place_value c = search (rules, insert_asked)

pub run_delete-requires-clause-place_value : goal.run_delete-requires-clause-place_value
run_delete-requires-clause-place_value c = search (rules, delete_asked)
