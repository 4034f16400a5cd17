-- `turns::turn` meets its contract: nobody blocks the oldest that was found; where each is blocked, a circle is looked for.
-- Assumes nothing.
use borrow.Author.Rules.{rules}
use Rattle.turns.proofs.OneTurn.{next_clear, turned_ran}
use Rattle.turns.proofs.turn.Goals as goal

pub run_at-requires-clause-clear : goal.run_at-requires-clause-clear
run_at-requires-clause-clear c = search (rules, next_clear)

pub returns-in-Some : goal.returns-in-Some
returns-in-Some c = search (rules, turned_ran)
