-- `circles::on_circle` meets its contract, which is its body in the words of the specification.
-- Assumes nothing.
use Rattle.circles.specs.Search.{circle_on}
use Rattle.circles.proofs.on_circle.Goals as goal

pub returns : goal.returns
unfolding circle_on
returns c = cc
