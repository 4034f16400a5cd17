-- `judging_order::pass_leaf` meets its contract. The invariant: the walk over the entries is the one from i on, from where it is.
-- Assumes nothing.
use mathlib.Core.Path.{◌≡◌}
use Prim.Native.Nat.{◌-◌, ◌≤◌}
use Rattle.lists.specs.Lists.{tab}
use Rattle.pages.specs.PageLayout.{entry_at, entries_of}
use Rattle.index.specs.Pictures.{page_at}
use Rattle.judging_order.specs.LockOrders.{placed, past}
use Rattle.judging_order.proofs.pass_leaf.Given as goal

abbrev pub invariant-loop-i : goal.invariant-loop-i
invariant-loop-i l =
    (l.at ≤ l.m)
    × (past (placed l.d l.order) l.m (entries_of (page_at l.pages l.q)) l.k ≡ past (placed l.d l.order) l.m (tab (l.n - l.i) l.i (entry_at (page_at l.pages l.q))) l.at)
