-- `judging_desk::askers` meets its contract. The invariant: the askers are those set down from place i on. Assumes nothing.
use mathlib.Core.Path.{◌≡◌}
use Prim.Native.Nat.{◌+◌, ◌-◌}
use Rattle.limits.specs.Limits.{transactions_most}
use Rattle.lists.specs.Lists.{tab}
use Rattle.queue.specs.QueueLayout.{in_place}
use Rattle.judging_pages.specs.Walks.{marks}
use Rattle.judging_desk.specs.DeskChecks.{askers_in}
use Rattle.judging_desk.proofs.askers.Given as goal

abbrev pub invariant-loop-i : goal.invariant-loop-i
invariant-loop-i l = askers_in l.d ≡ marks (transactions_most + 1) (tab (l.n - l.i) l.i (in_place l.d)) l.m
