-- `adding::grow` meets its contract: the step at each level is the tree's. Assumes nothing.
use borrow.Author.Rules.{rules}
use native.Mathlib.Omega.{arith}
use Rattle.index.proofs.Subtrees.{inner_in}
use Rattle.adding.proofs.Widens.{grow_leaf_lem, leaf_tried, grow_child, grow_short, grow_rises, grow_risen}
use Rattle.adding.proofs.+grow.Goals as goal

pub grow_leaf-requires-clause-grow_in : goal.grow_leaf-requires-clause-grow_in
grow_leaf-requires-clause-grow_in t c = search (rules, grow_leaf_lem)

pub returns-then-level-eq0 : goal.returns-then-level-eq0
returns-then-level-eq0 t c = search (rules, leaf_tried)

pub way_to-way-requires : goal.way_to-way-requires
way_to-way-requires t c = search (rules, inner_in)

pub above_child-more-requires-clause-inner_in : goal.above_child-more-requires-clause-inner_in
above_child-more-requires-clause-inner_in t c = search (rules, inner_in)

pub grow-requires : goal.grow-requires
grow-requires t c = (omega arith, (search (rules, grow_child), omega arith))

pub returns-in_err-g : goal.returns-in_err-g
returns-in_err-g t c = search (rules, c.in_err-g.ensures, grow_short)

pub grow_up-requires : goal.grow_up-requires
grow_up-requires t c = search (rules, c.in_ok-g.ensures, grow_rises)

pub returns : goal.returns
returns t c = search (rules, c.in_ok-g.ensures, grow_risen)
