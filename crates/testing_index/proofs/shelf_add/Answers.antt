-- `testing_index::shelf_add` is safe: the buffer is whole, and the key is one that is missing.
-- Assumes nothing.
use borrow.Author.Rules.{rules}
use Rattle.testing_index.proofs.Judges.{whole_now, missing_now, below_end}
use Rattle.testing_index.proofs.shelf_add.Goals as goal

pub has_key-requires : goal.has_key-requires
has_key-requires c = search (rules, whole_now)

pub add-requires-clause-whole_pages : goal.add-requires-clause-whole_pages
add-requires-clause-whole_pages c = search (rules, whole_now)

pub add-requires-clause-key_lt_end_mark : goal.add-requires-clause-key_lt_end_mark
add-requires-clause-key_lt_end_mark c = search (rules, below_end)

pub add-requires-clause-pages_value : goal.add-requires-clause-pages_value
add-requires-clause-pages_value c = search (rules, missing_now)
