-- `numbers::is_zero` meets its contract: what is folded is the test of all.
-- Assumes nothing.
use borrow.Author.Rules.{rules}
use Rattle.numbers.proofs.ByteMoves.{zero_along}
use Rattle.numbers.proofs.is_zero.Goals as goal

pub returns : goal.returns
returns c =
    let p = c.fold.ensures.runs in
    let q = c.iter.ensures.runs p.0 p.0.seen in
    zero_along c.args.n c.args.at c.args.s.now (λ x. x.now) p.0.items c.fold.result (search (rules, q.4)) (p.3 _ (λ x y r f g. search rules))
