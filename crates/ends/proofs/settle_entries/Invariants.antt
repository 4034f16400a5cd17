-- `ends::settle_entries` meets its contract. The loop's invariant: what t still owns stands under a lock from slot i on. Assumes nothing.
use Rattle.ends.proofs.Owned.{Onward}
use Rattle.ends.proofs.settle_entries.Given as goal

abbrev pub invariant-loop-i : goal.invariant-loop-i
invariant-loop-i l = Onward l.commits l.t l.desk l.initial.pages l.pages l.i
