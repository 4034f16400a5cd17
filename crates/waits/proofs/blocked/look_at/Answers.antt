-- `waits::blocked::look_at` meets its contract: a search, the want by what it found, and the note.
-- Assumes nothing.
use borrow.Author.Rules.{rules}
use Rattle.waits.proofs.QueueKnown.{place_low}
use Rattle.waits.proofs.Noting.{noted_more}
use Rattle.waits.proofs.blocked.look_at.Goals as goal

pub offset_bounds-wants-q : goal.offset_bounds-wants-q
offset_bounds-wants-q c = search (rules, place_low)

pub bounds-wants-q : goal.bounds-wants-q
bounds-wants-q c = search (rules, place_low)

pub returns : goal.returns
returns c = search (rules, place_low, noted_more)
