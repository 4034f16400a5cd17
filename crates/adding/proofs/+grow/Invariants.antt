-- `adding::grow` meets its contract: the step at each level is the tree's. The level falls with each call.
-- Assumes nothing.
use Rattle.adding.proofs.+grow.Given as goal

abbrev pub decreases-grow : goal.decreases-grow
decreases-grow l = l.level
