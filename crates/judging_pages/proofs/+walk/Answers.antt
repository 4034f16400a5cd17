-- `judging_pages::walk` meets its contract. Assumes nothing.
use borrow.Author.Rules.{rules}
use Rattle.judging_pages.proofs.WalkTurns.{walk_unmarked, marked_page, walk_page_bad, walk_leaf, walk_few, walk_over_lem, walk_start, walk_next, walk_stop, walk_end}
use Rattle.judging_pages.proofs.+walk.Goals as goal

pub returns-in_err-first : goal.returns-in_err-first
returns-in_err-first t c = search (rules, walk_unmarked)

pub is_page-requires : goal.is_page-requires
is_page-requires t c = search (rules, c.in_ok-first.was, marked_page)

pub returns-then-not-is_page : goal.returns-then-not-is_page
returns-then-not-is_page t c = search (rules, c.in_ok-first.was, walk_page_bad)

pub returns-then-level-eq0 : goal.returns-then-level-eq0
returns-then-level-eq0 t c = search (rules, c.in_ok-first.was, walk_leaf)

pub count_at-n-requires : goal.count_at-n-requires
count_at-n-requires t c = search (rules, c.in_ok-first.was, marked_page)

pub loop-i-init : goal.loop-i-init
loop-i-init t c = (search (rules, c.in_ok-first.was, marked_page), search (rules, c.in_ok-first.was, walk_few), search (rules, walk_start))

pub returns-in_err-m : goal.returns-in_err-m
returns-in_err-m t c = rw c.from_residual-in_err-m.ensures (search (rules, c.in_ok-first.was, c.in_err-m.was, walk_over_lem, walk_stop))

pub loop-i-preserved : goal.loop-i-preserved
loop-i-preserved t c = (search rules, search rules, search (rules, walk_next))

pub returns : goal.returns
returns t c = search (rules, c.in_ok-first.was, walk_over_lem, walk_end)
