-- `settling::settling::put_left` meets its contract: a present entry is written over the one there, an absent one leaves no row.
-- Assumes nothing.
use borrow.Author.Rules.{rules}
use Rattle.settling.proofs.KeySettles.{left_taken, left_put}
use Rattle.settling.proofs.settling.put_left.Goals as goal

pub returns-then-is_ghost : goal.returns-then-is_ghost
returns-then-is_ghost c = search (rules, left_taken)

pub returns-else-is_ghost : goal.returns-else-is_ghost
returns-else-is_ghost c = search (rules, left_put)
