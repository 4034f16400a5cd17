-- Each cause can be met: on a small desk of two transactions and three locks, whose pages take no key from 50 on, one run of calls is answered with
-- every number from 0 to 3 and 13 to 19; and demand 2 holds of each of these calls. By computation. Assumes nothing.
use Prim.Native.Nat.{ℕ, compare}
use mathlib.Core.Path.{◌≡◌, refl}
use mathlib.Core.Bool.{true}
use mathlib.Core.List.{List, [], ◌∷◌, map}
use mathlib.Core.Option.{some}
use lib.Dec.{ltb}
use Rattle.lists.specs.Lists as L
use Rattle.lists.proofs.Tests.{and_left, and_right}
use Rattle.rules.specs.Kinds.{Book, begin, commit, rollback}
use Rattle.rules.specs.Entries as E
use Rattle.rules.specs.Locks as K
use Rattle.rules.specs.Queue as Q
use Rattle.rules.specs.Runs as R
use Rattle.rules.specs.Runs.{done, found, nothing, runs_already, runs_not, waits_already, is_present, locks_short, pages_short, circle}
use Rattle.rules.specs.Desk as D
use Rattle.rules.specs.Desk.{Cl, is_transaction, legal_call, step, fresh, after, session}
use Rattle.rules.specs.Cases.{Over, over, to, only, behind, begins, reads, inserts}
use Rattle.rules.proofs.Orders.{numbers_ordered}
use Rattle.rules.proofs.GoodKept.{after_good}
use Rattle.promises.specs.Demand2.{Demand2}
use Rattle.promises.proofs.Demand2.{demand2}

abbrev pub small_desk : Book
small_desk =
    record {
      Key = ℕ;
      Rec = ℕ;
      compare = compare;
      legal = λ k. ltb k 100;
      transactions = 2;
      locks = 3;
      paging = record { Pages = Unit {0}; bare = tt; fits = λ p k. ltb k 50; grown = λ p k. p; shrunk = λ p ks. p };
    }

unfoldable pub every_number : List Over
every_number =
    begins 1
    ∷ over 1 begin (only 1 runs_already)
    ∷ over 2 commit (only 2 runs_not)
    ∷ begins 2
    ∷ reads 1 12 18 (only 1 nothing)
    ∷ reads 2 12 18 (only 2 nothing)
    ∷ inserts 1 15 7 (only 1 (behind 2))
    ∷ reads 1 12 18 (only 1 waits_already)
    ∷ inserts 2 16 8 (only 2 circle)
    ∷ over 2 rollback (to 2 done ∷ to 1 done ∷ [])
    ∷ inserts 1 15 9 (only 1 (is_present 15 (some 7)))
    ∷ reads 1 12 18 (only 1 (found 15 (some 7)))
    ∷ inserts 1 60 9 (only 1 pages_short)
    ∷ inserts 1 5 9 (only 1 done)
    ∷ inserts 1 6 9 (only 1 locks_short)
    ∷ []

pub every_number_lem : session small_desk (fresh small_desk) (map (λ o. o.bowled) every_number) ≡ map (λ o. o.answered) every_number
unfolding every_number L.insert_before L.any L.keep L.first L.lightest L.times L.join L.tab E.left E.settled E.taken_out E.put E.changed K.in_use K.added K.taken K.released K.target K.mode K.wanted K.holders K.earlier K.blockers Q.waits_from Q.waits Q.blocker_of Q.oldest Q.further Q.reached Q.on_circle Q.locks_held Q.yields Q.leave R.read_says R.insert_missing R.insert_there R.insert_as R.delete_there R.delete_as R.run_on R.run R.turn R.turns R.worked D.refusal D.begun D.ended D.joined D.acts D.step D.legal_ask D.legal_request D.call D.fresh D.after D.session
every_number_lem = refl

-- of any call after any others, so of each of these
pub demand2_met : (cs : List (Cl small_desk)) (c : Cl small_desk) → legal_call small_desk c ≡ true
    → let s = after small_desk (fresh small_desk) cs in Demand2 small_desk s c.asker c.request (step small_desk s c.asker c.request)
demand2_met cs c l =
    demand2 small_desk numbers_ordered (after small_desk (fresh small_desk) cs) (after_good small_desk numbers_ordered cs) c.asker c.request
    (and_left _ _ l) (and_right (is_transaction small_desk c.asker) _ l)
