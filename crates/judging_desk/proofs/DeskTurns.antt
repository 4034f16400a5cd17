-- What one way through the tests of the desk comes to, in the very facts that the code has there.
-- Each unfolds the test and rewrites what is known of its parts. Assumes nothing.
use mathlib.Core.Path.{◌≡◌, refl, sym, ap, ap₂, ◌∙◌}
use Rattle.std.specs.Prelude as Code
use mathlib.Core.Bool.{Bool, true, false, not, cond, ◌&&◌, ◌||◌}
use mathlib.Core.List.{List}
use Prim.Native.Nat.{ℕ, ◌+◌, ◌*◌, ◌-◌, ◌≤◌, ◌<◌}
use native.Mathlib.Nat.{sub-zero}
use borrow.Author.Tests.{leb-true, not-true, not-false, eq-eqb, ne_eqb, le-leb, lt-leb}
use lib.Dec.{eqb, leb}
use Rattle.limits.specs.Limits.{transactions_most, locks_most, key_size, desk_head_size, queue_size, desk_size}
use Rattle.lists.specs.Lists.{tab, all}
use Rattle.lists.proofs.Tests.{and_left, and_right}
use Rattle.lists.proofs.Tables.{tab_next, tab_done}
use Rattle.numbers.specs.Numbers.{number_at, fields_at, zero_at}
use Rattle.sets.specs.declared.Set.{Set}
use Rattle.queue.specs.QueueLayout.{queued, in_place, is_running}
use Rattle.locks.specs.SlotLayout.{lock_place}
use Rattle.judging_pages.specs.Walks.{only_zero, mark_at, marks, after}
use Rattle.judging_desk.specs.DeskChecks.{head_ok, askers_in, record_ok, records_ok, fields_ok, slot_ok, desk_ok}

-- ---- the head
module _ (d : List ℕ) (size kind n : ℕ) (z : Bool) (e : size ≡ number_at 2 d 0) (f : kind ≡ number_at 2 d 2) (g : n ≡ queued d) (h : z ≡ zero_at (desk_head_size - 6) 6 d) where
  front_is : (((eqb size desk_size && eqb kind 8) && leb n transactions_most) && z) ≡ (((eqb (number_at 2 d 0) desk_size && eqb (number_at 2 d 2) 8) && leb (queued d) transactions_most) && zero_at (desk_head_size - 6) 6 d)
  front_is = rw (e, f, g, h) refl

  pub head_bad : not (((eqb size desk_size && eqb kind 8) && leb n transactions_most) && z) ≡ true → false ≡ head_ok d
  unfolding head_ok
  head_bad t =
      sym (ap (λ b. b && zero_at (queue_size - 2 * queued d) (desk_head_size + 2 * queued d) d) (sym front_is ∙ not-true (((eqb size desk_size && eqb kind 8) && leb n transactions_most) && z) t))

  module _ (t : not (((eqb size desk_size && eqb kind 8) && leb n transactions_most) && z) ≡ false) where
    pub head_done : (y : Bool) → y ≡ zero_at (queue_size - 2 * n) (desk_head_size + 2 * n) d → y ≡ head_ok d
    unfolding head_ok
    head_done y k =
        k
        ∙ ap (λ x. zero_at (queue_size - 2 * x) (desk_head_size + 2 * x) d) g
        ∙ sym (ap (λ b. b && zero_at (queue_size - 2 * queued d) (desk_head_size + 2 * queued d) d) (sym front_is ∙ not-false (((eqb size desk_size && eqb kind 8) && leb n transactions_most) && z) t))

pub head_queue : (d : List ℕ) → head_ok d ≡ true → queued d ≤ transactions_most
unfolding head_ok
head_queue d h =
    leb-true (queued d) transactions_most (and_right (eqb (number_at 2 d 0) desk_size && eqb (number_at 2 d 2) 8) (leb (queued d) transactions_most)
    (and_left ((eqb (number_at 2 d 0) desk_size && eqb (number_at 2 d 2) 8) && leb (queued d) transactions_most) (zero_at (desk_head_size - 6) 6 d)
    (and_left (((eqb (number_at 2 d 0) desk_size && eqb (number_at 2 d 2) 8) && leb (queued d) transactions_most) && zero_at (desk_head_size - 6) 6 d) (zero_at (queue_size - 2 * queued d) (desk_head_size + 2 * queued d) d) h)))

-- ---- the askers
module _ (d : List ℕ) (n : ℕ) (c : n ≡ queued d) where
  pub askers_start : (m : Set) → m ≡ only_zero → askers_in d ≡ marks (transactions_most + 1) (tab (n - 0) 0 (in_place d)) m
  unfolding askers_in
  askers_start m e = ap₂ (λ k o. marks (transactions_most + 1) (tab k 0 (in_place d)) o) (sym c ∙ sym (sub-zero n)) (sym e)

  module _ (m : Set) (i t : ℕ) (w : Code.Option Set) (inv : askers_in d ≡ marks (transactions_most + 1) (tab (n - i) i (in_place d)) m) (l : i < n) (e : t ≡ in_place d i) (f : w ≡ mark_at (transactions_most + 1) m t) where
    step : askers_in d ≡ after w (marks (transactions_most + 1) (tab (n - (i + 1)) (i + 1) (in_place d)))
    unfolding marks
    step =
        inv
        ∙ ap (λ ts. marks (transactions_most + 1) ts m) (tab_next n i (in_place d) l)
        ∙ ap (λ x. after x (marks (transactions_most + 1) (tab (n - (i + 1)) (i + 1) (in_place d)))) (ap (mark_at (transactions_most + 1) m) (sym e) ∙ sym f)

    pub askers_twice : w ≡ Code.None → Code.None ≡ askers_in d
    askers_twice b = sym (step ∙ ap (λ x. after x (marks (transactions_most + 1) (tab (n - (i + 1)) (i + 1) (in_place d)))) b)

    pub askers_next : (more : Set) → w ≡ Code.Some more → askers_in d ≡ marks (transactions_most + 1) (tab (n - (i + 1)) (i + 1) (in_place d)) more
    askers_next more b = step ∙ ap (λ x. after x (marks (transactions_most + 1) (tab (n - (i + 1)) (i + 1) (in_place d)))) b

  pub askers_end : (m : Set) (i : ℕ) → askers_in d ≡ marks (transactions_most + 1) (tab (n - i) i (in_place d)) m → n ≤ i → Code.Some m ≡ askers_in d
  unfolding marks
  askers_end m i inv l = sym (inv ∙ ap (λ ts. marks (transactions_most + 1) ts m) (tab_done n i (in_place d) l))

-- ---- a slot
module _ (d : List ℕ) (i name holder mode rest : ℕ) (a : name ≡ number_at key_size d (lock_place i)) (b : holder ≡ number_at 2 d (lock_place i + key_size))
    (c : mode ≡ number_at 2 d (lock_place i + key_size + 2)) (e : rest ≡ number_at 4 d (lock_place i + key_size + 2 + 2)) where
  slot_is : slot_ok d i ≡ fields_ok d name holder mode rest
  unfolding slot_ok fields_at
  slot_is = rw (a, b, c, e) refl

  pub slot_free : (n : Bool) → holder ≡ 0 → n ≡ eqb name 0 → ((n && eqb mode 0) && eqb rest 0) ≡ slot_ok d i
  slot_free n z f =
      ap (λ x. (x && eqb mode 0) && eqb rest 0) f
      ∙ sym (slot_is ∙ ap (λ x. cond x ((eqb name 0 && eqb mode 0) && eqb rest 0) (leb holder transactions_most && ((is_running d holder && (eqb mode 1 || eqb mode 2)) && eqb rest 0))) (eq-eqb holder 0 z))

  module _ (z : holder ≡ 0 → ⊥) where
    held : slot_ok d i ≡ (leb holder transactions_most && ((is_running d holder && (eqb mode 1 || eqb mode 2)) && eqb rest 0))
    held = slot_is ∙ ap (λ x. cond x ((eqb name 0 && eqb mode 0) && eqb rest 0) (leb holder transactions_most && ((is_running d holder && (eqb mode 1 || eqb mode 2)) && eqb rest 0))) (ne_eqb holder 0 z)

    pub slot_nobody : transactions_most < holder → false ≡ slot_ok d i
    slot_nobody h = sym (held ∙ ap (λ x. x && ((is_running d holder && (eqb mode 1 || eqb mode 2)) && eqb rest 0)) (lt-leb holder transactions_most h))

    pub slot_held : (r : Bool) → holder ≤ transactions_most → r ≡ is_running d holder → ((r && (eqb mode 1 || eqb mode 2)) && eqb rest 0) ≡ slot_ok d i
    slot_held r h f =
        sym (held ∙ ap₂ (λ x y. x && ((y && (eqb mode 1 || eqb mode 2)) && eqb rest 0)) (le-leb holder transactions_most h) (sym f))

-- ---- the desk
module _ (d : List ℕ) (h : Bool) (e : h ≡ head_ok d) where
  pub desk_headless : not h ≡ true → false ≡ desk_ok d
  unfolding desk_ok
  desk_headless t = sym (ap (λ b. (b && records_ok d (askers_in d)) && all (slot_ok d) (tab locks_most 0 (λ i. i))) (sym e ∙ not-true h t))

  module _ (t : not h ≡ false) where
    pub desk_few : queued d ≤ transactions_most
    desk_few = head_queue d (sym e ∙ not-false h t)

    module _ (w : Code.Option Set) (f : w ≡ askers_in d) where
      pub desk_lost : w ≡ Code.None → false ≡ desk_ok d
      unfolding desk_ok
      desk_lost b = sym (ap₂ (λ x y. (x && records_ok d y) && all (slot_ok d) (tab locks_most 0 (λ i. i))) (sym e ∙ not-false h t) (sym f ∙ b))

      pub desk_done : (m : Set) (r s : Bool) → w ≡ Code.Some m → r ≡ all (record_ok d m) (tab transactions_most 1 (λ t. t)) → s ≡ all (slot_ok d) (tab locks_most 0 (λ i. i)) → (r && s) ≡ desk_ok d
      unfolding desk_ok
      desk_done m r s b a c =
          ap₂ (λ x y. x && y) a c
          ∙ sym (ap₂ (λ x y. (x && records_ok d y) && all (slot_ok d) (tab locks_most 0 (λ i. i))) (sym e ∙ not-false h t) (sym f ∙ b))
