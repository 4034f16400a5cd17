-- `judging_order::pass_name` meets its contract. The invariant: the stretch from k is the one from j.
-- Assumes nothing.
use mathlib.Core.Path.{◌≡◌}
use Rattle.judging_order.specs.LockOrders.{placed, stretch}
use Rattle.judging_order.proofs.pass_name.Given as goal

abbrev pub invariant-loop-j : goal.invariant-loop-j
invariant-loop-j l = stretch (placed l.d l.order) l.m l.name.0 l.k ≡ stretch (placed l.d l.order) l.m l.name.0 l.j
