-- `judging_locks::owners_hold` meets its contract. Assumes nothing.
use borrow.Author.Rules.{rules}
use Rattle.judging_locks.proofs.Fines.{fine_page, fine_leaf, fine_few, fine_child, owners_leaf, owners_start, owners_bad, owners_next, owners_end}
use Rattle.judging_locks.proofs.+owners_hold.Goals as goal

pub are_held-requires-clause-q_lt_pages_most : goal.are_held-requires-clause-q_lt_pages_most
are_held-requires-clause-q_lt_pages_most t c = search (rules, fine_page)

pub are_held-requires-clause-q_bound : goal.are_held-requires-clause-q_bound
are_held-requires-clause-q_bound t c = search (rules, fine_leaf)

pub returns-then-level-eq0 : goal.returns-then-level-eq0
returns-then-level-eq0 t c = search (rules, owners_leaf)

pub count_at-n-requires : goal.count_at-n-requires
count_at-n-requires t c = search (rules, fine_page)

pub loop-i-init : goal.loop-i-init
loop-i-init t c = (search (rules, fine_page), search (rules, fine_few), search (rules, owners_start))

pub owners_hold-requires : goal.owners_hold-requires
owners_hold-requires t c = (search rules, search (rules, fine_child))

pub returns-then-not-owners_hold : goal.returns-then-not-owners_hold
returns-then-not-owners_hold t c = search (rules, owners_bad)

pub loop-i-preserved : goal.loop-i-preserved
loop-i-preserved t c = (search rules, search rules, search (rules, owners_next))

pub returns : goal.returns
returns t c = search (rules, owners_end)
