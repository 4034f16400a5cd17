-- `judging_locks::has_entry` meets its contract. Assumes nothing.
use borrow.Author.Rules.{rules}
use native.Mathlib.Omega.{arith}
use Rattle.lists.proofs.RangeChains.{any_of_range}
use Rattle.pages.specs.PageLayout.{entries_of}
use Rattle.judging_locks.proofs.has_entry.Goals as goal

pub returns : goal.returns
unfolding entries_of
returns c = any_of_range _ (λ i b k low high q. search rules) (omega arith) c.any.ensures.ran
