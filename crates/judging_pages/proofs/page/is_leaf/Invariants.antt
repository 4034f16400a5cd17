-- `judging_pages::page::is_leaf` meets its contract. The invariant: the test of all entries is the test of those from i on, above `last` or
-- from the low end on. Assumes nothing.
use mathlib.Core.Bool.{true}
use mathlib.Core.Path.{◌≡◌}
use Prim.Native.Nat.{◌-◌}
use lib.Dec.{eqb}
use Rattle.lists.specs.Lists.{tab}
use Rattle.judging_pages.specs.PageChecks.{entry_fields_at, entries_ok}
use Rattle.judging_pages.proofs.page.is_leaf.Given as goal

abbrev pub invariant-loop-i : goal.invariant-loop-i
invariant-loop-i l = entries_ok true l.initial.last.0 l.high.0 (tab l.n 0 (entry_fields_at l.p)) ≡ entries_ok (eqb l.i 0) l.last.0 l.high.0 (tab (l.n - l.i) l.i (entry_fields_at l.p))
