-- Where the lock table is all zero, every slot is free and in order.
-- By the fields of a slot, all zero. Assumes nothing.
use Prim.Native.Nat.{ℕ, ◌*◌, ◌<◌}
use mathlib.Core.Path.{◌≡◌, sym, ap, ◌∙◌}
use mathlib.Core.Bool.{Bool, true}
use mathlib.Core.List.{List}
use mathlib.Core.Option.{none}
use native.Mathlib.Omega.{arith}
use lib.ListN.{length, get_or, replicate}
use Rattle.limits.specs.Limits.{locks_most, slot_size, slots_place, desk_size}
use Rattle.lists.specs.Lists.{all, tab}
use Rattle.lists.proofs.Tables.{all_of_tab}
use Rattle.numbers.specs.Numbers.{width_of, fields_at, zero_at}
use Rattle.numbers.proofs.Agree.{agree_within}
use Rattle.numbers.proofs.Fields.{fields_zero}
use Rattle.numbers.proofs.ByteMoves.{zero_at_true}
use Rattle.locks.specs.SlotLayout.{lock_widths, lock_place, slot_in, slot_at}
use Rattle.judging_desk.specs.DeskChecks.{fields_ok, slot_ok}

module _ (d : List ℕ) (size : length d ≡ desk_size) (zero : zero_at (slot_size * locks_most) slots_place d ≡ true) where
  zero_fields : (i : ℕ) → i < locks_most → fields_at lock_widths d (lock_place i) ≡ replicate 4 0
  unfolding width_of
  zero_fields i h =
      let a = agree_within (slot_size * i) slot_size (omega arith) (zero_at_true (slot_size * locks_most) slots_place d zero (omega (arith, size))) in
      fields_zero lock_widths (record { byte = λ k l. a.byte k l })

  pub zero_free : (i : ℕ) → i < locks_most → slot_at d i ≡ none
  unfolding slot_at slot_in
  zero_free i h = ap slot_in (zero_fields i h)

  zero_slot : (i : ℕ) → i < locks_most → slot_ok d i ≡ true
  unfolding slot_ok
  zero_slot i h = ap (λ vs. fields_ok d (get_or vs 0 0) (get_or vs 1 0) (get_or vs 2 0) (get_or vs 3 0)) (zero_fields i h)

  all_in_order : true ≡ all (slot_ok d) (tab locks_most 0 (λ i. i))
  all_in_order = sym (all_of_tab (slot_ok d) locks_most 0 (λ i. i) (λ i _ h. zero_slot i (omega arith)))

-- ---- as the code finds it
module _ (d : List ℕ) (b : Bool) (told : b ≡ zero_at (slot_size * locks_most) slots_place d) (yes : b ≡ true) where
  pub is_free : zero_at (slot_size * locks_most) slots_place d ≡ true
  is_free = sym told ∙ yes

  pub zero_slots : length d ≡ desk_size → true ≡ all (slot_ok d) (tab locks_most 0 (λ i. i))
  zero_slots size = all_in_order d size is_free
