-- `turns::circle_turn` meets its contract: the place found has the one on a circle that gives way.
-- Assumes nothing.
use borrow.Author.Rules.{rules}
use Rattle.turns.proofs.OneTurn.{turned_way, turned_rest}
use Rattle.turns.proofs.circle_turn.Goals as goal

pub returns-in_err-q : goal.returns-in_err-q
returns-in_err-q c = search (rules, turned_rest)

pub returns : goal.returns
returns c = search (rules, turned_way)
