-- `settling::settling::settle_page` meets its contract: the part that is lent is the page.
-- Assumes nothing.
use borrow.Author.Rules.{rules}
use Rattle.settling.proofs.Settles.{kind_lent, page_stays, page_settled}
use Rattle.settling.proofs.settling.settle_page.Goals as goal

pub settle_leaf-requires : goal.settle_leaf-requires
settle_leaf-requires c = search (rules, kind_lent)

pub returns-then-kind_of : goal.returns-then-kind_of
returns-then-kind_of c = search (rules, page_settled)

pub returns-else-kind_of : goal.returns-else-kind_of
returns-else-kind_of c = search (rules, page_stays)
