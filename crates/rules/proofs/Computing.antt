-- What a session that is played computes by. Whoever unfolds one of these unfolds all that its line names, so that a proof by computation
-- says in a word what it computes with. Assumes nothing.
use Rattle.lists.specs.Lists as L
use Rattle.rules.specs.Entries as E
use Rattle.rules.specs.Locks as K
use Rattle.rules.specs.Queue as Q
use Rattle.rules.specs.Runs as R
use Rattle.rules.specs.Desk as D
use Rattle.rules.specs.Cases as C

-- the rule book
unfoldable pub the_book : Unit {0}
unfolding L.insert_before L.any L.keep L.first L.lightest L.times L.join L.tab E.left E.settled E.taken_out E.put E.changed K.in_use K.added K.taken K.released K.target K.mode K.wanted K.holders K.earlier K.blockers Q.waits_from Q.waits Q.blocker_of Q.oldest Q.further Q.reached Q.on_circle Q.locks_held Q.yields Q.leave R.read_says R.insert_missing R.insert_there R.insert_as R.delete_there R.delete_as R.run_on R.run R.turn R.turns R.worked D.refusal D.begun D.ended D.joined D.acts D.step D.legal_ask D.legal_request D.call D.fresh D.after D.session
the_book = tt

-- document 01's cases, as they are stated
unfoldable pub the_cases : Unit {0}
unfolding C.reader_waits C.nothing_stays_nothing C.two_readers C.circle_at_commit C.ghost_comes_back C.last_key C.empty_index C.sole_holder C.target_moves C.joining_frees C.present_stays_present C.present_takes_s C.turned_away C.rollback_drops C.freed_together C.older_first C.lowest_named C.lighter_gives_way C.named_at_rest C.cases C.locks_in_use C.pages_full C.room_again C.tight
the_cases = tt
