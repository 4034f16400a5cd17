-- `judging_pages::page::is_inner` meets its contract. Assumes nothing.
use borrow.Author.Rules.{rules}
use Rattle.judging_pages.proofs.PageTurns.{inner_headless, inner_bad, inner_next, inner_done}
use Rattle.judging_pages.proofs.page.is_inner.Goals as goal

pub returns-then-not-has_head-least : goal.returns-then-not-has_head-least
returns-then-not-has_head-least c = search (rules, inner_headless)

pub returns-then-not-is_between-is_child : goal.returns-then-not-is_between-is_child
returns-then-not-is_between-is_child c = search (rules, inner_bad)

pub loop-i-preserved : goal.loop-i-preserved
loop-i-preserved c = search (rules, inner_next)

pub returns : goal.returns
returns c = search (rules, inner_done)
