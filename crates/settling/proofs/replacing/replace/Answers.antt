-- `settling::replacing::replace` meets its contract: one leaf is changed, and no other has the key.
-- Assumes nothing.
use borrow.Author.Rules.{rules}
use Rattle.index.proofs.SearchTurns.{find_from}
use Rattle.settling.proofs.Replaces.{replaced_all}
use Rattle.settling.proofs.replacing.replace.Goals as goal

pub leaf_for-pg-requires : goal.leaf_for-pg-requires
leaf_for-pg-requires c = search (rules, find_from)

pub returns : goal.returns
returns c = search (rules, replaced_all)
