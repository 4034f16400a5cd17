-- `answering::blocker_of` meets its contract: the lowest of a row's set is the rule book's answer.
-- Assumes nothing.
use borrow.Author.Rules.{rules}
use Rattle.answering.proofs.RequestAnswered.{in_the_way}
use Rattle.answering.proofs.blocker_of.Goals as goal

pub returns : goal.returns
returns c = search (rules, in_the_way)
