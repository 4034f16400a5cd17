-- `index::descent::leaf_for` meets its contract: a leaf is itself the one, and in an inner page it is that of the child.
-- The level falls with each call. Assumes nothing.
use Rattle.index.proofs.descent.+leaf_for.Given as goal

abbrev pub decreases-leaf_for : goal.decreases-leaf_for
decreases-leaf_for l = l.level
