-- `waits::blockers::rivals_of` meets its contract. The invariant: the set has those of the places before i. Assumes nothing.
use Rattle.rules.specs.Locks.{earlier}
use Rattle.index.specs.Pictures.{entries_in}
use Rattle.states.specs.States.{book}
use Rattle.circles.specs.CircleSets.{SetOf}
use Rattle.waits.specs.Choices.{book_want}
use Rattle.waits.specs.Blocks.{ahead}
use Rattle.waits.proofs.blockers.rivals_of.Given as goal

abbrev pub invariant-loop-i : goal.invariant-loop-i
invariant-loop-i l = SetOf l.set (earlier book (entries_in l.pages) (ahead l.desk l.i) l.w.asker (book_want l.w))
