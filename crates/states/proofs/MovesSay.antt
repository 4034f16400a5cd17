-- Moves of the desk alone, from a whole picture: a transaction begins, a request joins the queue, one gives way on a circle.
-- Each is the rule book's move of the state: the desk by the laws of `states`, the invariants by those of the rule book. Assumes nothing.
use Prim.Native.Nat.{ℕ, ◌≤◌, ◌<◌}
use mathlib.Core.Path.{◌≡◌, refl, sym, ap, ◌∙◌}
use mathlib.Core.Bool.{true, false}
use mathlib.Core.List.{List, [], ◌∷◌, ◌++◌}
use native.Mathlib.Omega.{arith}
use borrow.Author.Tests.{le-leb}
use lib.Dec.{leb}
use lib.ListN.{length, set}
use Rattle.limits.specs.Limits.{transactions_most}
use Rattle.lists.proofs.Tests.{and_both}
use Rattle.rules.specs.Kinds.{Ask, running}
use Rattle.rules.specs.Queue.{leave}
use Rattle.rules.specs.Runs.{circle, unmoved, left}
use Rattle.rules.specs.Desk.{runs, waits_now, begun, joined, is_transaction, legal_ask}
use Rattle.rules.specs.Good.{Good}
use Rattle.rules.proofs.Orders.{numbers_ordered}
use Rattle.rules.proofs.GoodKept.{good_kept}
use Rattle.rules.proofs.Keeps.{Kept, Anyone}
use Rattle.queue.specs.QueueLayout.{queued, queued_at, queue_of, marks_of, in_place}
use Rattle.locks.specs.SlotLayout.{slots_of}
use Rattle.queue.specs.QueueMoves.{mark_put, queue_joined, queue_left}
use Rattle.queue.proofs.QueueBytes.{length_queue}
use Rattle.states.specs.States.{book, state_of, desk_with}
use Rattle.states.specs.Whole.{Whole, Says}
use Rattle.states.specs.Fitting.{AskFits, Fitting}
use Rattle.states.proofs.DeskSays.{asker_in}
use Rattle.states.proofs.FitKept.{fit_marked, room_for, fit_joined, fit_left}
use Rattle.states.proofs.DeskBytes.{desk_says}
use Rattle.states.proofs.DeskMoves.{mark_put_lem, queue_joined_lem, queue_left_lem}
use Rattle.states.proofs.TablesSay.{tables_say, whole_fits}
use Rattle.states.proofs.PlacesWait.{place_waits}

pub is_transaction_lem : (t : ℕ) → 1 ≤ t → t ≤ transactions_most → is_transaction book t ≡ true
is_transaction_lem t low high = and_both (leb 1 t) (leb t transactions_most) (le-leb 1 t low) (le-leb t transactions_most high)

pub kept : Kept book (Anyone book) (Good book)
kept = good_kept book numbers_ordered

module _ (p d : List ℕ) (w : Whole p d) where
  fit : Fitting (slots_of d) (queue_of d) (marks_of d)
  fit = whole_fits p d w

  pub begin_says : (t : ℕ) → 1 ≤ t → t ≤ transactions_most → runs book (state_of p d) t ≡ false → Says p (mark_put d t true) (begun book (state_of p d) t)
  unfolding begun state_of
  begin_says t low high idle =
      tables_say p w.pages (slots_of d) (queue_of d) (set (marks_of d) t running) (fit_marked fit t running low) (mark_put d t true)
      (ap (λ x. mark_put x t true) w.desk ∙ mark_put_lem (slots_of d) (queue_of d) (marks_of d) fit t true low high)
      (begun book (state_of p d) t) (kept.begins (state_of p d) t (is_transaction_lem t low high) idle w.values) refl

  -- there is room for a request of one who does not wait
  pub join_room : (t : ℕ) → 1 ≤ t → t ≤ transactions_most → waits_now book (state_of p d) t ≡ false → queued d < transactions_most
  unfolding state_of
  join_room t low high new = omega (arith, room_for fit t new low high, length_queue d)

  pub join_says : (t : ℕ) (a : Ask ℕ ℕ) → 1 ≤ t → t ≤ transactions_most → runs book (state_of p d) t ≡ true → waits_now book (state_of p d) t ≡ false
      → legal_ask book a ≡ true → AskFits a → Says p (queue_joined d t a) (joined book (state_of p d) t a)
  unfolding joined state_of
  join_says t a low high goes new legal fits =
      tables_say p w.pages (slots_of d) (queue_of d ++ (record { asker = t; asks = a } ∷ [])) (marks_of d) (fit_joined fit t a new low high fits)
      (queue_joined d t a)
      (ap (λ x. queue_joined x t a) w.desk ∙ queue_joined_lem (slots_of d) (queue_of d) (marks_of d) fit t a new low high fits)
      (joined book (state_of p d) t a) (kept.joins (state_of p d) t a goes new legal w.values) refl

  -- who stands at a place
  pub place_asker : (q : ℕ) → q < queued d → asker_in (queue_of d) q ≡ (queued_at d q).asker
  unfolding queued_at
  place_asker q h =
      let few : length (queue_of d) ≤ transactions_most = fit.few in
      sym ((desk_says (slots_of d) (queue_of d) (marks_of d) fit).places q (omega (arith, length_queue d))) ∙ ap (λ x. in_place x q) (sym w.desk)

  pub way_says : (q : ℕ) → q < queued d → Says p (queue_left d q) (left book (state_of p d) (queued_at d q) (unmoved book (state_of p d) circle)).state
  unfolding state_of
  way_says q h =
      let t = (queued_at d q).asker in
      tables_say p w.pages (slots_of d) (leave book t (queue_of d)) (marks_of d) (fit_left fit book.paging t) (queue_left d q)
      (ap (λ x. queue_left x q) w.desk ∙ queue_left_lem (slots_of d) (queue_of d) (marks_of d) fit book.paging q (omega (arith, length_queue d))
      ∙ ap (λ u. desk_with (slots_of d) (leave book u (queue_of d)) (marks_of d)) (place_asker q h))
      (left book (state_of p d) (queued_at d q) (unmoved book (state_of p d) circle)).state
      (kept.gives_way (state_of p d) _ (place_waits p d q h) w.values) refl
