-- `adding::add` meets its contract: the tree grown from the root, with a new root if it was divided.
-- Assumes nothing.
use borrow.Author.Rules.{rules}
use Rattle.adding.proofs.Adds.{grow_top, not_added, added_same, new_root, added_split}
use Rattle.adding.proofs.add.Goals as goal

pub grow-requires-clause-grow_in : goal.grow-requires-clause-grow_in
grow-requires-clause-grow_in c = search (rules, grow_top)

pub returns-in_default : goal.returns-in_default
returns-in_default c = search (rules, not_added)

pub returns-in-None : goal.returns-in-None
returns-in-None c = search (rules, added_same)

pub add_root-requires : goal.add_root-requires
add_root-requires c = search (rules, new_root)

pub returns-in-Some-beside : goal.returns-in-Some-beside
returns-in-Some-beside c = search (rules, added_split)
