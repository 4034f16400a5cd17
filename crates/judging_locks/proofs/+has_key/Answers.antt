-- `judging_locks::has_key` meets its contract. Assumes nothing.
use borrow.Author.Rules.{rules}
use Rattle.judging_locks.proofs.Fines.{fine_page, fine_leaf, fine_few, fine_child, find_leaf, find_start, find_hit, find_next, find_end}
use Rattle.judging_locks.proofs.+has_key.Goals as goal

pub has_entry-requires-clause-q_lt_pages_most : goal.has_entry-requires-clause-q_lt_pages_most
has_entry-requires-clause-q_lt_pages_most t c = search (rules, fine_page)

pub has_entry-requires-clause-q_bound : goal.has_entry-requires-clause-q_bound
has_entry-requires-clause-q_bound t c = search (rules, fine_leaf)

pub returns-then-level-eq0 : goal.returns-then-level-eq0
returns-then-level-eq0 t c = search (rules, find_leaf)

pub count_at-n-requires : goal.count_at-n-requires
count_at-n-requires t c = search (rules, fine_page)

pub loop-i-init : goal.loop-i-init
loop-i-init t c = (search (rules, fine_page), search (rules, fine_few), search (rules, find_start))

pub has_key-requires : goal.has_key-requires
has_key-requires t c = (search rules, search (rules, fine_child))

pub returns-then-has_key : goal.returns-then-has_key
returns-then-has_key t c = search (rules, find_hit)

pub loop-i-preserved : goal.loop-i-preserved
loop-i-preserved t c = (search rules, search rules, search (rules, find_next))

pub returns : goal.returns
returns t c = search (rules, find_end)
