-- `settling::settling::settle_in` meets its contract: at the place of the first entry at or above the key, or nowhere, stands that key.
-- Assumes nothing.
use borrow.Author.Rules.{rules}
use Rattle.settling.proofs.KeySettles.{key_end, key_other, key_anothers, key_own}
use Rattle.settling.proofs.settling.settle_in.Goals as goal

pub returns-then-i-count_of : goal.returns-then-i-count_of
returns-then-i-count_of c = search (rules, key_end)

pub returns-then-ne : goal.returns-then-ne
returns-then-ne c = search (rules, key_other)

pub returns-then-e-owner : goal.returns-then-e-owner
returns-then-e-owner c = search (rules, key_anothers)

pub returns : goal.returns
returns c = search (rules, key_own)
