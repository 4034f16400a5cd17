-- `queue::place_in_queue` meets its contract: the first place that is found, or how many wait, is the place in the list.
-- Assumes nothing.
use mathlib.Core.Path.{refl}
use borrow.Author.Rules.{rules}
use Rattle.std.proofs.Common.{tests}
use lib.Dec.{eqb}
use Rattle.std.proofs.lemmas.Iterator.{YieldsList-from_range}
use Rattle.std.proofs.lemmas.Iterator.Search.{find_from_yields_List}
use Rattle.queue.specs.QueueLayout.{in_place, queued_at, queue_of}
use Rattle.queue.specs.QueueMoves.{waits_in}
use Rattle.queue.proofs.QueueBytes.{place_found}
use Rattle.queue.proofs.places.place_in_queue.Goals as goal

pub returns : goal.returns
unfolding waits_in queue_of queued_at
returns c =
    let n = c.queued-n.result in
    let found = find_from_yields_List (λ i. eqb (in_place c.args.d.now i) c.args.t) _ _ c.find.result c.find.ensures.ran (YieldsList-from_range 0 n n refl (search rules)) (λ x b q k. search (rules, tests)) in
    search (rules, place_found (λ q. eqb q.asker c.args.t) (queued_at c.args.d.now) n c.find.result)
