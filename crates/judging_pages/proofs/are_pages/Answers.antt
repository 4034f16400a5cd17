-- `judging_pages::are_pages` meets its contract: the tests are made in their order.
-- Assumes nothing.
use borrow.Author.Rules.{rules}
use Rattle.judging_pages.proofs.Tops.{frontless, front_few, front_tall, lost, used_within, spare_within, spare_end, pages_done}
use Rattle.judging_pages.proofs.are_pages.Goals as goal

pub returns-then-not-has_front : goal.returns-then-not-has_front
returns-then-not-has_front c = search (rules, frontless)

pub walk_root-requires-clause-pages_bound : goal.walk_root-requires-clause-pages_bound
walk_root-requires-clause-pages_bound c = search (rules, front_few)

pub walk_root-requires-clause-nonzero : goal.walk_root-requires-clause-nonzero
walk_root-requires-clause-nonzero c = search (rules, front_tall)

pub returns-in_default : goal.returns-in_default
returns-in_default c = search (rules, lost)

pub are_seen-requires : goal.are_seen-requires
are_seen-requires c = search (rules, used_within)

pub overflow_sub-used : goal.overflow_sub-used
overflow_sub-used c = search (rules, spare_within)

pub is_zero-requires : goal.is_zero-requires
is_zero-requires c = search (rules, spare_end)

pub returns : goal.returns
returns c = search (rules, pages_done)
