-- `settling::replacing::put_over` meets its contract: at the place of the first entry at or above the key, or nowhere, stands that key.
-- Assumes nothing.
use borrow.Author.Rules.{rules}
use Rattle.settling.proofs.Replaces.{over_end, over_other, over_same}
use Rattle.settling.proofs.replacing.put_over.Goals as goal
use Rattle.settling.proofs.replacing.put_over.Goals.{else-i-count_of-via-then-i-count_of+else-eq, else-i-count_of-via-else-i-count_of}

pub returns-then-eq : goal.returns-then-eq
returns-then-eq c = search (rules, over_same)

pub returns-else-i-count_of : goal.returns-else-i-count_of
returns-else-i-count_of c = elim c.else-i-count_of.branch [
  | else-i-count_of-via-then-i-count_of+else-eq w ↦ search (rules, over_other)
  | else-i-count_of-via-else-i-count_of w ↦ search (rules, over_end)
]
