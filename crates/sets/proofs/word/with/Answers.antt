-- `sets::word::with` meets its contract: 1 << n shifts nothing out.
-- Assumes nothing.
use borrow.Author.Rules.{rules}
use Rattle.sets.proofs.Words.{one_shifted}
use Rattle.sets.proofs.word.with.Goals as goal

pub returns : goal.returns
returns c = search (rules, one_shifted)
