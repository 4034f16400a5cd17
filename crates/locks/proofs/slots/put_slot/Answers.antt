-- `locks::put_slot` meets its contract: a free slot and a lock have their numbers.
-- Assumes nothing.
use borrow.Author.Rules.{rules}
use Rattle.locks.proofs.LockValues.{put_free, put_held}
use Rattle.locks.proofs.slots.put_slot.Goals as goal

pub returns-in-None : goal.returns-in-None
returns-in-None c = search (rules, put_free)

pub returns-in-Some : goal.returns-in-Some
returns-in-Some c = search (rules, put_held)
