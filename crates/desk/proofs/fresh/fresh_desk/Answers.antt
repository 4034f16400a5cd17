-- `desk::fresh::fresh_desk` meets its contract: zeros behind length and kind are the empty desk.
-- Assumes nothing.
use borrow.Author.Rules.{rules}
use Rattle.desk.proofs.Made.{desk_fresh}
use Rattle.desk.proofs.fresh.fresh_desk.Goals as goal

pub returns : goal.returns
returns c = search (rules, desk_fresh)
