-- `waits::lightest::look_at` meets its contract: the lightest of those before a place, and the one at it.
-- Assumes nothing.
use borrow.Author.Rules.{rules}
use Rattle.waits.proofs.Yielders.{looked_under, looked_counted, best_past, best_kept, best_here}
use Rattle.waits.proofs.lightest.look_at.Goals as goal

pub in_place-requires : goal.in_place-requires
in_place-requires c = search (rules, looked_under)

pub bounds-counts-in_place : goal.bounds-counts-in_place
bounds-counts-in_place c = search (rules, looked_counted)

pub returns-then-best-held : goal.returns-then-best-held
returns-then-best-held c = search (rules, best_kept)

pub returns-then-not-lies_on_circle : goal.returns-then-not-lies_on_circle
returns-then-not-lies_on_circle c = search (rules, best_past)

pub returns : goal.returns
returns c = search (rules, best_here)
