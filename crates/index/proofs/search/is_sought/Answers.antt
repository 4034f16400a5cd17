-- `index::search::is_sought` meets its contract: the test is written as the definition writes it.
-- Assumes nothing.
use mathlib.Core.Path.{refl}
use Rattle.keys.proofs.DerivedOrder.{at_most}
use Rattle.index.proofs.search.is_sought.Goals as goal

pub returns : goal.returns
returns c = rw (at_most c.le.result c.args.w.lo.0 c.args.e.key.0 c.le.ensures, at_most c.le-2.result c.args.e.key.0 c.args.w.hi.0 c.le-2.ensures, c.is_ghost.ensures) refl
