-- `adding::grow_up` meets its contract, case by case.
-- Assumes nothing.
use borrow.Author.Rules.{rules}
use Rattle.adding.proofs.Widens.{risen_same, rises_room, risen_wider}
use Rattle.adding.proofs.grow_up.Goals as goal

pub returns-in-None : goal.returns-in-None
returns-in-None c = search (rules, risen_same)

pub grow_inner-requires : goal.grow_inner-requires
grow_inner-requires c = search (rules, rises_room)

pub returns-in-Some : goal.returns-in-Some
returns-in-Some c = search (rules, risen_wider)
