-- `locks::release_locks` meets its contract. The invariant: the first i slots are released, the others as they were. Assumes nothing.
use mathlib.Core.Path.{◌≡◌}
use Rattle.locks.proofs.Releases.{released_to}
use Rattle.locks.proofs.slots.release_locks.Given as goal

abbrev pub invariant-loop-i : goal.invariant-loop-i
invariant-loop-i l = l.d ≡ released_to l.t l.i l.initial.d
