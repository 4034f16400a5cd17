-- `waits::blocked::oldest` meets its contract. Assumes nothing.
use borrow.Author.Rules.{rules}
use Rattle.waits.proofs.BlockerSets.{scan_start}
use Rattle.waits.proofs.Noting.{noted_none}
use Rattle.waits.proofs.OldestTurns.{seek_start, seek_left, seek_rows, seek_on, seek_chosen}
use Rattle.waits.proofs.blocked.oldest.Goals as goal

pub queue-init : goal.queue-init
queue-init c = search (rules, seek_start, noted_none)

pub loop-i-init : goal.loop-i-init
loop-i-init c = search (rules, scan_start)

pub queue-preserved : goal.queue-preserved
queue-preserved c =
    seek_on _ _ _ _ _ _ c.queue.invariant (search rules) _ c.turn_at-turn.ensures.turn _ _ _ c.look_at-looked.ensures c.turn_at-turn.ensures.row c.in_default.is

pub returns-in-Some-clause-chosen : goal.returns-in-Some-clause-chosen
returns-in-Some-clause-chosen c = seek_chosen _ _ _ _ _ _ c.queue.invariant (search rules) _ c.turn_at-turn.ensures.turn _ c.in-Some.is

pub returns-after-queue-clause-chosen : goal.returns-after-queue-clause-chosen
returns-after-queue-clause-chosen c = search (rules, seek_left)

pub returns-after-queue-clause-rows : goal.returns-after-queue-clause-rows
returns-after-queue-clause-rows c = search (rules, seek_rows)
