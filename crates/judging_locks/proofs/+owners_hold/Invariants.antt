-- `judging_locks::owners_hold` meets its contract. Measure: the level. The invariant: the test of all children is the test of those from i on.
-- Assumes nothing.
use mathlib.Core.Path.{◌≡◌}
use Prim.Native.Nat.{◌-◌, ◌≤◌, ◌<◌}
use Rattle.limits.specs.Limits.{pages_most, inner_most}
use Rattle.lists.specs.Lists.{tab, all}
use Rattle.pages.specs.PageLayout.{child_at}
use Rattle.index.specs.Pictures.{page_at}
use Rattle.judging_locks.specs.LockChecks.{owners_at}
use Rattle.judging_locks.proofs.+owners_hold.Given as goal

abbrev pub invariant-loop-i : goal.invariant-loop-i
invariant-loop-i l = (l.q < pages_most) × (l.n ≤ inner_most) × (owners_at l.level l.pages l.d l.q ≡ all (λ c. owners_at (l.level - 1) l.pages l.d c.page) (tab (l.n - l.i) l.i (child_at (page_at l.pages l.q))))

abbrev pub decreases-owners_hold : goal.decreases-owners_hold
decreases-owners_hold l = l.level
