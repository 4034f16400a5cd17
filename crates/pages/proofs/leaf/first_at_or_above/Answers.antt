-- `pages::leaf::first_at_or_above` meets its contract. Assumes nothing.
use borrow.Author.Rules.{rules}
use Rattle.keys.proofs.DerivedOrder.{at_most}
use Rattle.pages.proofs.PageSearches.{between_start, between_lower, between_upper, between_end}
use Rattle.pages.proofs.leaf.first_at_or_above.Goals as goal

pub loop-low-init : goal.loop-low-init
loop-low-init c = search (rules, between_start)

pub loop-low-preserved-then-le : goal.loop-low-preserved-then-le
loop-low-preserved-then-le c = search (rules, at_most, between_lower)

pub loop-low-preserved : goal.loop-low-preserved
loop-low-preserved c = search (rules, at_most, between_upper)

pub returns : goal.returns
returns c = search (rules, between_end)
