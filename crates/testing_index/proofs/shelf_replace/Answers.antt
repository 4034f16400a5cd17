-- `testing_index::shelf_replace` is safe: the buffer is whole.
-- Assumes nothing.
use borrow.Author.Rules.{rules}
use Rattle.testing_index.proofs.Judges.{whole_now}
use Rattle.testing_index.proofs.shelf_replace.Goals as goal

pub replace-requires : goal.replace-requires
replace-requires c = search (rules, whole_now)
