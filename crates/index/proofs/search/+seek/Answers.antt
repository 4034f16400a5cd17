-- `index::search::seek` meets its contract. Assumes nothing.
use borrow.Author.Rules.{rules}
use Rattle.index.proofs.Subtrees.{inner_in, child_in}
use Rattle.index.proofs.SearchTurns.{at_leaf, found_leaf, seek_start, seek_here, seek_on, seek_none}
use Rattle.index.proofs.search.+seek.Goals as goal

pub seek_leaf-requires : goal.seek_leaf-requires
seek_leaf-requires t c = search (rules, at_leaf)

pub returns-then-level-eq0 : goal.returns-then-level-eq0
returns-then-level-eq0 t c = search (rules, found_leaf)

pub step_to-s-requires : goal.step_to-s-requires
step_to-s-requires t c = search (rules, inner_in)

pub loop-i-init : goal.loop-i-init
loop-i-init t c = search (rules, seek_start)

pub seek-f-requires : goal.seek-f-requires
seek-f-requires t c = (search rules, search (rules, child_in))

pub returns-in-Some : goal.returns-in-Some
returns-in-Some t c = search (rules, seek_here)

pub loop-i-preserved : goal.loop-i-preserved
loop-i-preserved t c = search (rules, seek_on)

pub returns : goal.returns
returns t c = search (rules, seek_none)
