-- `index::descent::page` meets its contract: the part that is lent is the page.
-- Assumes nothing.
use mathlib.Core.Path.{◌∙◌}
use Rattle.index.proofs.Buffers.{page_lent}
use Rattle.index.proofs.descent.page.Goals as goal

pub returns : goal.returns
returns c = (rw c.unwrap.ensures at c.as_array.ensures.cases).same ∙ page_lent c.args.pages.now c.args.q
