-- `testing_index::has_key` meets its contract: the first entry at or above the key has it, or none has.
-- Assumes nothing.
use borrow.Author.Rules.{rules}
use Rattle.testing_index.proofs.Judges.{key_there}
use Rattle.testing_index.proofs.has_key.Goals as goal

pub returns : goal.returns
returns c = key_there _ _ c.requires _ c.find.ensures _ _ c.is_some_and.ensures (λ x q. search rules)
