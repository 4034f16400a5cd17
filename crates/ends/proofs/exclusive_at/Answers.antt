-- `ends::exclusive_at` meets its contract, by the test of the definition.
-- Assumes nothing.
use borrow.Author.Rules.{rules}
use Rattle.ends.proofs.Owned.{lock_kept}
use Rattle.ends.proofs.exclusive_at.Goals as goal

pub returns : goal.returns
returns c = lock_kept _ _ _ _ c.slot_at.ensures c.filter.ensures (λ l b q. search rules)
