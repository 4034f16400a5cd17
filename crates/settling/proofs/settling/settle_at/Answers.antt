-- `settling::settling::settle_at` meets its contract: the part that is lent is the leaf.
-- Assumes nothing.
use borrow.Author.Rules.{rules}
use Rattle.settling.proofs.Replaces.{leaf_lent}
use Rattle.settling.proofs.KeySettles.{key_back}
use Rattle.settling.proofs.settling.settle_at.Goals as goal

pub settle_in-requires : goal.settle_in-requires
settle_in-requires c = search (rules, leaf_lent)

pub returns : goal.returns
returns c = search (rules, key_back)
