-- `judging_desk::is_desk` meets its contract: the tests are made in their order.
-- Assumes nothing.
use borrow.Author.Rules.{rules}
use Rattle.judging_desk.proofs.DeskTurns.{desk_headless, desk_few, desk_lost, desk_done}
use Rattle.judging_desk.proofs.is_desk.Goals as goal

pub returns-then-not-has_head : goal.returns-then-not-has_head
returns-then-not-has_head c = search (rules, desk_headless)

pub askers-requires : goal.askers-requires
askers-requires c = search (rules, desk_few)

pub returns-in_default : goal.returns-in_default
returns-in_default c = search (rules, desk_lost)

pub returns : goal.returns
returns c = search (rules, desk_done)
