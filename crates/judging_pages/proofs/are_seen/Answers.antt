-- `judging_pages::are_seen` meets its contract. Assumes nothing.
use borrow.Author.Rules.{rules}
use native.Mathlib.Omega.{arith}
use Rattle.lists.proofs.RangeChains.{all_of_range}
use Rattle.judging_pages.specs.Walks.{seen_ok}
use Rattle.judging_pages.proofs.are_seen.Goals as goal

pub returns : goal.returns
unfolding seen_ok
returns c = all_of_range _ (λ q b k low high e. search rules) (omega arith) c.all.ensures.ran
