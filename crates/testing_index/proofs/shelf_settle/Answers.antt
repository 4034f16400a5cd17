-- `testing_index::shelf_settle` is safe: the buffer is whole.
-- Assumes nothing.
use borrow.Author.Rules.{rules}
use Rattle.testing_index.proofs.Judges.{whole_now}
use Rattle.testing_index.proofs.shelf_settle.Goals as goal

pub settle-requires : goal.settle-requires
settle-requires c = search (rules, whole_now)
