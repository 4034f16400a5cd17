-- `adding::grow_inner` meets its contract: with room the child is put in, without the page is divided.
-- Assumes nothing.
use borrow.Author.Rules.{rules}
use Rattle.adding.proofs.Divided.{room_place, inner_put_in, inner_full}
use Rattle.adding.proofs.grow_inner.Goals as goal

pub insert_child-requires : goal.insert_child-requires
insert_child-requires c = search (rules, room_place)

pub returns-then-count_of-lt-INNER_MOST : goal.returns-then-count_of-lt-INNER_MOST
returns-then-count_of-lt-INNER_MOST c = search (rules, inner_put_in)

pub split_inner-requires : goal.split_inner-requires
split_inner-requires c = search (rules, inner_full)
