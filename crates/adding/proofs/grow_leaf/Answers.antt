-- `adding::grow_leaf` meets its contract: with room the entry is put in, without the leaf is divided.
-- Assumes nothing.
use borrow.Author.Rules.{rules}
use Rattle.adding.proofs.Grows.{grow_few, leaf_more, leaf_over, leaf_divided}
use Rattle.adding.proofs.grow_leaf.Goals as goal

pub first_at_or_above-i-requires : goal.first_at_or_above-i-requires
first_at_or_above-i-requires c = search (rules, grow_few)

pub returns-then-n-lt-LEAF_MOST : goal.returns-then-n-lt-LEAF_MOST
returns-then-n-lt-LEAF_MOST c = search (rules, leaf_more)

pub divide_leaf-requires : goal.divide_leaf-requires
divide_leaf-requires c = search (rules, leaf_over)

pub returns : goal.returns
returns c = search (rules, leaf_divided)
