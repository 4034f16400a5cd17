-- `judging_pages::page::is_inner` meets its contract. The invariant: the test of all children after the first is the test of those from i on.
-- Assumes nothing.
use mathlib.Core.Path.{◌≡◌}
use Prim.Native.Nat.{◌-◌}
use Rattle.lists.specs.Lists.{tab}
use Rattle.judging_pages.specs.PageChecks.{child_fields_at, children_ok}
use Rattle.judging_pages.proofs.page.is_inner.Given as goal

abbrev pub invariant-loop-i : goal.invariant-loop-i
invariant-loop-i l = children_ok l.initial.above.0 l.high.0 (tab (l.n - 1) 1 (child_fields_at l.p)) ≡ children_ok l.above.0 l.high.0 (tab (l.n - l.i) l.i (child_fields_at l.p))
