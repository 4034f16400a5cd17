-- `sets::word::has` meets its contract: its test is the definition's.
-- Assumes nothing.
use borrow.Author.Rules.{rules}
use Rattle.sets.specs.Sets.{word_has}
use Rattle.sets.proofs.word.has.Goals as goal

pub returns : goal.returns
unfolding word_has
returns c = search rules
