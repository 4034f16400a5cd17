-- `judging::is_whole` meets its contract: the tests come to Whole, both ways.
-- Assumes nothing.
use borrow.Author.Rules.{rules}
use Rattle.judging.proofs.Judging.{judged}
use Rattle.judging.proofs.is_whole.Goals as goal

pub returns : goal.returns
returns c = search (rules, c.fits-pages, c.fits-desk, judged)
