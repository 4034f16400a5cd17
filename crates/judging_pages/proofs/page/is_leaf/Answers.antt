-- `judging_pages::page::is_leaf` meets its contract. Assumes nothing.
use borrow.Author.Rules.{rules}
use Rattle.judging_pages.proofs.PageTurns.{leaf_headless, leaf_bad, leaf_next, leaf_done}
use Rattle.judging_pages.proofs.page.is_leaf.Goals as goal

pub returns-then-not-has_head-n : goal.returns-then-not-has_head-n
returns-then-not-has_head-n c = search (rules, leaf_headless)

pub returns-then-not-is_next-is_entry : goal.returns-then-not-is_next-is_entry
returns-then-not-is_next-is_entry c = search (rules, leaf_bad)

pub loop-i-preserved : goal.loop-i-preserved
loop-i-preserved c = search (rules, leaf_next)

pub returns : goal.returns
returns c = search (rules, leaf_done)
