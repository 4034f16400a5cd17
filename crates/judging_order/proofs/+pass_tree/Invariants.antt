-- `judging_order::pass_tree` meets its contract. Measure: the level. The invariant: the walk over the entries is the one over those of the
-- children from i on, from where it is. Assumes nothing.
use mathlib.Core.Path.{◌≡◌}
use Prim.Native.Nat.{ℕ, ◌-◌, ◌≤◌, ◌<◌}
use Rattle.limits.specs.Limits.{pages_most, inner_most}
use Rattle.trees.specs.Trees.{flat}
use Rattle.index.specs.Pictures.{Item, tree_of}
use Rattle.judging_order.specs.LockOrders.{placed, past}
use Rattle.judging_order.proofs.Passing.{entries_from}
use Rattle.judging_order.proofs.+pass_tree.Given as goal

abbrev pub invariant-loop-i : goal.invariant-loop-i
invariant-loop-i l =
    (l.q < pages_most)
    × (l.n ≤ inner_most)
    × (l.at ≤ l.m)
    × (past (placed l.d l.order) l.m (flat ℕ Item l.level (tree_of l.level l.pages l.q)) l.k ≡ past (placed l.d l.order) l.m (entries_from (l.level - 1) l.pages l.q l.n l.i) l.at)

abbrev pub decreases-pass_tree : goal.decreases-pass_tree
decreases-pass_tree l = l.level
