-- `judging_pages::walk` meets its contract. Measure: the level. The invariant: the walk over the children is the walk over those
-- that are left. Assumes nothing.
use mathlib.Core.Path.{◌≡◌}
use Prim.Native.Nat.{◌-◌, ◌≤◌, ◌<◌}
use Rattle.limits.specs.Limits.{pages_most, inner_most, inner_fewest}
use Rattle.lists.specs.Lists.{tab}
use Rattle.pages.specs.PageLayout.{child_at}
use Rattle.index.specs.Pictures.{page_at}
use Rattle.judging_pages.specs.Walks.{spans, walk_over, walk_at}
use Rattle.judging_pages.proofs.+walk.Given as goal

abbrev pub invariant-loop-i : goal.invariant-loop-i
invariant-loop-i l =
    (l.q < pages_most)
    × (l.n ≤ inner_most)
    × (walk_over (walk_at (l.level - 1) inner_fewest l.pages l.used) (spans l.initial.low.0 l.t.high.0 (tab l.n 0 (child_at (page_at l.pages l.q)))) l.initial.m
    ≡ walk_over (walk_at (l.level - 1) inner_fewest l.pages l.used) (spans l.low.0 l.t.high.0 (tab (l.n - l.i) l.i (child_at (page_at l.pages l.q)))) l.m)

abbrev pub decreases-walk : goal.decreases-walk
decreases-walk l = l.level
