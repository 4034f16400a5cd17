-- `testing_index::is_whole` meets its contract: the bytes pass the judge's test.
-- Assumes nothing.
use borrow.Author.Rules.{rules}
use Rattle.numbers.specs.Numbers.{Bytes}
use Rattle.testing_index.proofs.Judges.{held}
use Rattle.testing_index.proofs.is_whole.Goals as goal

pub returns : goal.returns
returns c =
    let b : Bytes c.args.pages.now = record { below = c.fits-pages } in
    search (rules, held, b)
