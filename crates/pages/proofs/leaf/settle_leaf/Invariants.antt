-- `pages::leaf::settle_leaf` meets its contract. The invariant: the first i rows are settled, and what is left of them takes j rows.
-- Assumes nothing.
use mathlib.Core.Path.{◌≡◌}
use Prim.Native.Nat.{◌≤◌}
use lib.ListN.{length}
use Rattle.limits.specs.Limits.{page_size}
use Rattle.pages.proofs.LeafSettling.{SettledTo}
use Rattle.pages.proofs.leaf.settle_leaf.Given as goal

abbrev pub invariant-loop-i : goal.invariant-loop-i
invariant-loop-i l = (l.j ≤ l.i) × ((length l.p ≡ page_size) × SettledTo l.commits l.owner l.initial.p l.i l.p l.j)
