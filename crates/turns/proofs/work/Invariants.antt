-- `turns::work` meets its contract. The invariant: what the whole queue says is what has been written and what the rest will say.
-- The measure is how many are queued. Assumes nothing.
use Rattle.queue.specs.QueueLayout.{queued}
use Rattle.turns.proofs.Works.{Left}
use Rattle.turns.proofs.work.Given as goal

abbrev pub invariant-loop-answer : goal.invariant-loop-answer
invariant-loop-answer l = Left l.initial.pages l.initial.desk l.initial.answers l.at l.pages l.desk l.answers l.end

abbrev pub decreases-loop-answer : goal.decreases-loop-answer
decreases-loop-answer l = queued l.desk
