-- `runs::reading::read_says` meets its contract, by what was found and whether it lies within the bounds.
-- Assumes nothing.
use borrow.Author.Rules.{rules}
use Rattle.keys.proofs.DerivedOrder.{at_most}
use Rattle.rules.specs.Runs as B
use Rattle.runs.proofs.reading.read_says.Goals as goal

pub returns-in-Some : goal.returns-in-Some
unfolding B.read_says
returns-in-Some c = search (rules, at_most)

pub returns-in_default : goal.returns-in_default
unfolding B.read_says
returns-in_default c = search (rules, at_most)

pub returns-in_default-2 : goal.returns-in_default-2
unfolding B.read_says
returns-in_default-2 c = search rules
