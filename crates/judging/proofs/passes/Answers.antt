-- `judging::passes` meets its contract: the tests are made in their order.
-- Assumes nothing.
use borrow.Author.Rules.{rules}
use Rattle.judging.proofs.PictureTurns.{not_pages, tall_pages, fine_root, not_desk, whole_done}
use Rattle.judging.proofs.passes.Goals as goal

pub returns-then-not-are_pages : goal.returns-then-not-are_pages
returns-then-not-are_pages c = search (rules, not_pages)

pub returns-then-not-is_desk : goal.returns-then-not-is_desk
returns-then-not-is_desk c = search (rules, not_desk)

pub overflow_sub-height : goal.overflow_sub-height
overflow_sub-height c = search (rules, tall_pages)

pub stand_in_order-requires : goal.stand_in_order-requires
stand_in_order-requires c = search (rules, c.fits-pages, fine_root)

pub returns : goal.returns
returns c = search (rules, whole_done)
