-- `locks::release_row` meets its contract: the row is zero where its holder is t, and as it was where it is not.
-- Assumes nothing.
use borrow.Author.Rules.{rules}
use Rattle.locks.proofs.Releases.{row_freed_lem, row_kept}
use Rattle.locks.proofs.slots.release_row.Goals as goal

pub returns-then-holder_at-t : goal.returns-then-holder_at-t
returns-then-holder_at-t c = search (rules, row_freed_lem)

pub returns-else-holder_at-t : goal.returns-else-holder_at-t
returns-else-holder_at-t c = search (rules, row_kept)
