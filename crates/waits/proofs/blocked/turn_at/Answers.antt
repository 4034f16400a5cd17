-- `waits::blocked::turn_at` meets its contract: who is in the way is the lowest of all who block the request, and these are its row.
-- Assumes nothing.
use borrow.Author.Rules.{rules}
use Rattle.waits.proofs.WaitRows.{asker_in_lem, rows_next}
use Rattle.waits.proofs.OldestTurns.{turn_blocked, turn_free}
use Rattle.waits.proofs.blocked.turn_at.Goals as goal

pub bounds-row-looked : goal.bounds-row-looked
bounds-row-looked c = search (rules, asker_in_lem)

pub returns-in_default-clause-turn : goal.returns-in_default-clause-turn
returns-in_default-clause-turn c = search (rules, turn_blocked)

pub returns-in_default-clause-row : goal.returns-in_default-clause-row
returns-in_default-clause-row c = search (rules, rows_next)

pub returns-clause-turn : goal.returns-clause-turn
returns-clause-turn c = search (rules, turn_free)

pub returns-clause-row : goal.returns-clause-row
returns-clause-row c = search (rules, rows_next)
