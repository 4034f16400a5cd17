-- `judging_desk::has_head` meets its contract: the tests are made in their order.
-- Assumes nothing.
use borrow.Author.Rules.{rules}
use Rattle.judging_desk.proofs.DeskTurns.{head_bad, head_done}
use Rattle.judging_desk.proofs.has_head.Goals as goal

pub returns-then-not-length-kind : goal.returns-then-not-length-kind
returns-then-not-length-kind c = search (rules, head_bad)

pub returns : goal.returns
returns c = search (rules, head_done)
