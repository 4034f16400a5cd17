-- `judging_locks::has_key` meets its contract. Measure: the level. The invariant: some child has the key exactly where one from i on has.
-- Assumes nothing.
use mathlib.Core.Path.{◌≡◌}
use Prim.Native.Nat.{◌-◌, ◌≤◌, ◌<◌}
use Rattle.limits.specs.Limits.{pages_most, inner_most}
use Rattle.lists.specs.Lists.{tab, any}
use Rattle.pages.specs.PageLayout.{child_at}
use Rattle.index.specs.Pictures.{page_at}
use Rattle.judging_locks.specs.LockChecks.{find_at}
use Rattle.judging_locks.proofs.+has_key.Given as goal

abbrev pub invariant-loop-i : goal.invariant-loop-i
invariant-loop-i l = (l.q < pages_most) × (l.n ≤ inner_most) × (find_at l.level l.pages l.key.0 l.q ≡ any (λ c. find_at (l.level - 1) l.pages l.key.0 c.page) (tab (l.n - l.i) l.i (child_at (page_at l.pages l.q))))

abbrev pub decreases-has_key : goal.decreases-has_key
decreases-has_key l = l.level
