-- `judging_order::climb` meets its contract. The invariant: the last slot is that of the place before a, and all places go up exactly where
-- those from a on do. Assumes nothing.
use mathlib.Core.Path.{◌≡◌}
use Prim.Native.Nat.{◌-◌}
use Rattle.lists.specs.Lists.{tab, all}
use Rattle.locks.specs.SlotLayout.{book_slot}
use Rattle.judging_order.specs.LockOrders.{placed, goes_up}
use Rattle.judging_order.proofs.climb.Given as goal

abbrev pub invariant-loop-a : goal.invariant-loop-a
invariant-loop-a l =
    (book_slot l.last ≡ placed l.d l.order (l.a - 1))
    × (all (goes_up l.d l.order) (tab (l.m - 1) 1 (λ x. x)) ≡ all (goes_up l.d l.order) (tab (l.m - l.a) l.a (λ x. x)))
