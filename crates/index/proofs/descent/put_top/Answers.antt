-- `index::descent::put_top` meets its contract: the first 512 bytes are page 0.
-- Assumes nothing.
use borrow.Author.Rules.{rules}
use Rattle.index.proofs.Heads.{top_back}
use Rattle.index.proofs.descent.put_top.Goals as goal

pub returns : goal.returns
returns c = search (rules, top_back)
