-- `turns::choose` meets its contract: nothing is noted yet, and nobody waits behind anybody in a row that was cleared.
-- Assumes nothing.
use borrow.Author.Rules.{rules}
use Rattle.waits.proofs.WaitRows.{rows_start}
use Rattle.turns.proofs.choose.Goals as goal

pub oldest-requires-clause-row_to : goal.oldest-requires-clause-row_to
oldest-requires-clause-row_to c = search (rules, rows_start)
