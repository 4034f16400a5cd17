-- `waits::blocked::oldest` meets its contract. The queue's invariant: the search has come to place q; the locks': what is collected is
-- that of the slots before i. Assumes nothing.
use Rattle.waits.specs.Choices.{book_want}
use Rattle.waits.specs.Slots.{Scanned}
use Rattle.waits.proofs.OldestTurns.{Seeking}
use Rattle.waits.proofs.blocked.oldest.Given as goal

abbrev pub invariant-loop-i : goal.invariant-loop-i
invariant-loop-i l = Scanned l.desk l.looked.want.asker (book_want l.looked.want) l.i l.held

abbrev pub invariant-queue : goal.invariant-queue
invariant-queue l = Seeking l.pages l.desk l.wants l.row l.turn l.q
