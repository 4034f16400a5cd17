-- `adding::divide_leaf` meets its contract: where the pages are short nothing changes.
-- Assumes nothing.
use borrow.Author.Rules.{rules}
use Rattle.adding.proofs.Grows.{over_full, parted_short, parted_split}
use Rattle.adding.proofs.divide_leaf.Goals as goal

pub returns-then-used-above-gt-PAGES : goal.returns-then-used-above-gt-PAGES
returns-then-used-above-gt-PAGES c = search (rules, parted_short)

pub split_leaf-requires : goal.split_leaf-requires
split_leaf-requires c = search (rules, over_full)

pub returns : goal.returns
returns c = search (rules, parted_split)
