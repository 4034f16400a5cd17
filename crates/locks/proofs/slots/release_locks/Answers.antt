-- `locks::release_locks` meets its contract. Assumes nothing.
use borrow.Author.Rules.{rules}
use Rattle.locks.proofs.Releases.{release_start, release_turn, release_end}
use Rattle.locks.proofs.slots.release_locks.Goals as goal

pub loop-i-init : goal.loop-i-init
loop-i-init c = search (rules, release_start)

pub loop-i-preserved : goal.loop-i-preserved
loop-i-preserved c = search (rules, release_turn)

pub returns : goal.returns
returns c = search (rules, release_end)
