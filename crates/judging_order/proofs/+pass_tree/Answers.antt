-- `judging_order::pass_tree` meets its contract. Assumes nothing.
use borrow.Author.Rules.{rules}
use Rattle.judging_locks.proofs.Fines.{fine_page, fine_leaf, fine_few, fine_child}
use Rattle.judging_order.proofs.Passing.{past_to_most, tree_leaf, tree_start, tree_stuck, tree_turn, tree_end}
use Rattle.judging_order.proofs.+pass_tree.Goals as goal

pub pass_leaf-requires-clause-q_lt_pages_most : goal.pass_leaf-requires-clause-q_lt_pages_most
pass_leaf-requires-clause-q_lt_pages_most t c = search (rules, fine_page)

pub pass_leaf-requires-clause-q_bound : goal.pass_leaf-requires-clause-q_bound
pass_leaf-requires-clause-q_bound t c = search (rules, fine_leaf)

pub returns-then-level-eq0 : goal.returns-then-level-eq0
returns-then-level-eq0 t c = search (rules, tree_leaf)

pub count_at-n-requires : goal.count_at-n-requires
count_at-n-requires t c = search (rules, fine_page)

pub loop-i-init : goal.loop-i-init
loop-i-init t c = (search (rules, fine_page), search (rules, fine_few), search rules, search (rules, tree_start))

pub pass_tree-requires : goal.pass_tree-requires
pass_tree-requires t c = (search rules, (search (rules, fine_child), (search rules, search rules)))

pub returns-in_err-at : goal.returns-in_err-at
returns-in_err-at t c = search (rules, c.in_err-at.was, tree_stuck)

pub loop-i-preserved : goal.loop-i-preserved
loop-i-preserved t c = (search rules, search rules, search (rules, c.in_ok-at.was, past_to_most), search (rules, c.in_ok-at.was, tree_turn))

pub returns : goal.returns
returns t c = search (rules, tree_end)
