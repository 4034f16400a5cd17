-- `testing_index::shelf_find` is safe: the buffer is whole.
-- Assumes nothing.
use borrow.Author.Rules.{rules}
use Rattle.testing_index.proofs.Judges.{whole_now}
use Rattle.testing_index.proofs.shelf_find.Goals as goal

pub find-requires : goal.find-requires
find-requires c = search (rules, whole_now)
