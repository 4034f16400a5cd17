-- `index::descent::leaf_for` meets its contract: a leaf is itself the one, and in an inner page it is that of the child. Assumes nothing.
use borrow.Author.Rules.{rules}
use native.Mathlib.Omega.{arith}
use Rattle.index.proofs.Subtrees.{inner_in}
use Rattle.index.proofs.Belongs.{own_leaf, way_child, way_leaf}
use Rattle.index.proofs.descent.+leaf_for.Goals as goal

pub returns-then-level-eq0 : goal.returns-then-level-eq0
returns-then-level-eq0 t c = search (rules, own_leaf)

pub way_to-way-requires : goal.way_to-way-requires
way_to-way-requires t c = search (rules, inner_in)

pub leaf_for-requires : goal.leaf_for-requires
leaf_for-requires t c = (omega arith, search (rules, way_child))

pub returns : goal.returns
returns t c = search (rules, way_leaf)
