-- `pages::inner::is_below` meets its contract: the separator is the one read.
-- Assumes nothing.
use Rattle.pages.proofs.inner.is_below.Goals as goal

pub returns : goal.returns
returns c = cc
