-- Reading back: what a desk says is what is read from it as the rule book's tables.
-- Each table is that of its places, and each place's numbers are those of its value. Assumes of the tables that they fit.
use Prim.Native.Nat.{ℕ, ◌≤◌, ◌<◌}
use mathlib.Core.Path.{◌≡◌, refl, sym, ap, ap₂, ◌∙◌}
use mathlib.Core.Bool.{Bool, true, false, not, false≢true}
use mathlib.Core.List.{List, [], ◌∷◌, ◌++◌}
use mathlib.Core.Option.{Option, none, some}
use native.Mathlib.Omega.{arith}
use lib.Dec.{eqb}
use lib.ListN.{length, get_or}
use Rattle.limits.specs.Limits.{transactions_most, locks_most, desk_size}
use Rattle.lists.specs.Lists.{any, first, tab}
use Rattle.lists.proofs.Tests.{fails, first_some_lem}
use Rattle.lists.proofs.Elements.{any_in, none_first, in_place_lem}
use Rattle.lists.proofs.Tables.{tab_ext, tab_get_d, is_tab}
use Rattle.numbers.specs.Numbers.{number_at, fields_at}
use Rattle.rules.specs.Kinds.{Ask, read, insert, delete, Lock, Queued, Mark, idle, running}
use Rattle.queue.specs.QueueLayout.{queued, in_place, record_place, record_at, mark_in, is_waiting, ask_in, ask_at, ask_fields, queued_at, queue_of, marks_of}
use Rattle.locks.specs.SlotLayout.{slot_in, slot_at, slots_of}
use Rattle.queue.proofs.QueueOrder.{InOrder}
use Rattle.states.specs.States.{waiting_fields, mark_number, desk_with}
use Rattle.states.specs.Fitting.{Fitting}
use Rattle.states.proofs.DeskSays.{nobody, asker_in, Says}
use Rattle.states.proofs.ValuesFit.{slot_of, slot_read, ask_read, asker_first}
use Rattle.states.proofs.DeskBytes.{desk_says}

mark_read : (m : Mark) → mark_in (mark_number m) ≡ m
mark_read running = refl
mark_read idle = refl

-- a request's kind is none of those of no request
kind_there : (v : ℕ) (a : Ask ℕ ℕ) → not (eqb (get_or (v ∷ (ask_fields a ++ (0 ∷ []))) 1 0) 0) ≡ true
unfolding ask_fields
kind_there v (read lo hi) = refl
kind_there v (insert k r) = refl
kind_there v (delete k) = refl

module _ {d : List ℕ} {ls : List (Option (Lock ℕ))} {qs : List (Queued ℕ ℕ)} {ms : List Mark} (fit : Fitting ls qs ms) (f : Says d ls qs ms) where
  pub says_slots : slots_of d ≡ ls
  unfolding slots_of slot_at
  says_slots =
      sym (is_tab ls locks_most (slot_at d) none fit.slots
      (λ k h. sym (ap slot_in (f.rows k h) ∙ slot_read (get_or ls k none) (slot_of ls fit.locks k))))

  pub says_marks : marks_of d ≡ ms
  unfolding marks_of record_at fields_at tab
  says_marks =
      ap₂ (λ m ms. m ∷ ms) (sym fit.nobody)
      (tab_ext transactions_most 1 (λ t. mark_in (number_at 2 d (record_place t))) (λ t. get_or ms t idle)
      (λ t l h. ap (λ vs. mark_in (get_or vs 0 0)) (f.records t l (omega arith)) ∙ mark_read (get_or ms t idle)))
      ∙ ap (λ n. tab n 0 (λ t. get_or ms t idle)) (sym fit.marks)
      ∙ tab_get_d ms idle

  pub says_queued : queued d ≡ length qs
  unfolding fields_at
  says_queued = ap (λ vs. get_or vs 2 0) f.head

  asked : (i : ℕ) → i < length qs → ask_at d (asker_in qs i) ≡ (get_or qs i nobody).asks
  asked i h =
      let q = get_or qs i nobody in
      let there = in_place_lem qs i nobody h in
      let fits = fit.queued q there in
      ap ask_in (f.records q.asker fits.some fits.most)
      ∙ ap (λ o. ask_in (mark_number (get_or ms q.asker idle) ∷ (waiting_fields o ++ (0 ∷ [])))) (asker_first qs q fit.askers there)
      ∙ ask_read (mark_number (get_or ms q.asker idle)) q.asks

  queued_there : (i : ℕ) → i < length qs → queued_at d i ≡ get_or qs i nobody
  unfolding queued_at
  queued_there i h =
      ap (λ t. record { asker = t; asks = ask_at d t }) (f.places i (let l = fit.few in omega arith))
      ∙ ap (λ a. record { asker = asker_in qs i; asks = a }) (asked i h)

  pub says_queue : queue_of d ≡ qs
  unfolding queue_of
  says_queue = sym (is_tab qs (queued d) (queued_at d) nobody (sym says_queued) (λ k h. sym (queued_there k (omega (arith, says_queued)))))

  -- "exactly the waiting ones": a record has a request where the queue has one of its transaction
  pub says_waiting : (t : ℕ) → 1 ≤ t → t ≤ transactions_most → is_waiting d t ≡ any (λ q. eqb q.asker t) qs
  unfolding record_at fields_at
  says_waiting t low high =
      ap (λ vs. not (eqb (get_or vs 1 0) 0)) (f.records t low high) ∙ go (first is qs) refl
    where
      is : Queued ℕ ℕ → Bool
      is q = eqb q.asker t

      mark : ℕ
      mark = mark_number (get_or ms t idle)

      none_is : first is qs ≡ none → any is qs ≡ false
      none_is e = fails (any is qs) (λ h. let w = any_in is qs h in false≢true (sym (none_first is qs w.0 e w.1) ∙ w.2))

      go : (o : Option (Queued ℕ ℕ)) → first is qs ≡ o → not (eqb (get_or (mark ∷ (waiting_fields o ++ (0 ∷ []))) 1 0) 0) ≡ any is qs
      go none e = sym (none_is e)
      go (some q) e = kind_there mark q.asks ∙ sym (first_some_lem is qs q e)

  pub says_order : InOrder d
  says_order =
      record {
        few = let l = fit.few in omega (arith, says_queued);
        from = λ i h. rw (place i h) (fit.queued (get_or qs i nobody) (in_place_lem qs i nobody (low i h))).some;
        to = λ i h. rw (place i h) (fit.queued (get_or qs i nobody) (in_place_lem qs i nobody (low i h))).most;
      }
    where
      low : (i : ℕ) → i < queued d → i < length qs
      low i h = omega (arith, says_queued)

      place : (i : ℕ) → i < queued d → in_place d i ≡ asker_in qs i
      place i h = f.places i (let l = fit.few in omega (arith, says_queued))

-- ---- the desk of tables that fit
module _ (ls : List (Option (Lock ℕ))) (qs : List (Queued ℕ ℕ)) (ms : List Mark) (fit : Fitting ls qs ms) where
  pub desk_length : length (desk_with ls qs ms) ≡ desk_size
  desk_length = (desk_says ls qs ms fit).len

  pub desk_slots : slots_of (desk_with ls qs ms) ≡ ls
  desk_slots = says_slots fit (desk_says ls qs ms fit)

  pub desk_queue : queue_of (desk_with ls qs ms) ≡ qs
  desk_queue = says_queue fit (desk_says ls qs ms fit)

  pub desk_marks : marks_of (desk_with ls qs ms) ≡ ms
  desk_marks = says_marks fit (desk_says ls qs ms fit)

  pub desk_queued : queued (desk_with ls qs ms) ≡ length qs
  desk_queued = says_queued fit (desk_says ls qs ms fit)

  pub desk_waiting : (t : ℕ) → 1 ≤ t → t ≤ transactions_most → is_waiting (desk_with ls qs ms) t ≡ any (λ q. eqb q.asker t) qs
  desk_waiting = says_waiting fit (desk_says ls qs ms fit)
