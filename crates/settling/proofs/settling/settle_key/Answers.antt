-- `settling::settling::settle_key` meets its contract: one leaf is changed, and no other has the key.
-- Assumes nothing.
use borrow.Author.Rules.{rules}
use Rattle.index.proofs.SearchTurns.{find_from}
use Rattle.settling.proofs.KeySettles.{key_settled_lem}
use Rattle.settling.proofs.settling.settle_key.Goals as goal

pub leaf_for-pg-requires : goal.leaf_for-pg-requires
leaf_for-pg-requires c = search (rules, find_from)

pub returns : goal.returns
returns c = search (rules, key_settled_lem)
