-- `waits::lightest::count_locks` meets its contract. Assumes nothing.
use Rattle.waits.proofs.Counting.{counted_start}
use Rattle.waits.proofs.lightest.count_locks.Goals as goal

pub loop-i-init : goal.loop-i-init
loop-i-init c = counted_start _
