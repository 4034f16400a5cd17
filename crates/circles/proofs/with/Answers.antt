-- `circles::with` meets its contract, which is its body in the words of the specification.
-- Assumes nothing.
use borrow.Author.Rules.{rules}
use Rattle.circles.specs.Search.{with_one}
use Rattle.circles.proofs.with.Goals as goal

pub returns : goal.returns
unfolding with_one
returns c = search rules
