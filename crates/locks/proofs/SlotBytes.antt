-- The bytes of the lock table as the rule book's slots: a slot written is one slot set, and a lock is read back as it was written.
-- By the laws of tables and records. Assumes nothing.
use Prim.Native.Nat.{ℕ, ◌^◌, ◌<◌}
use mathlib.Core.Path.{◌≡◌, sym, ap, subst, ◌∙◌}
use mathlib.Core.Logic.{◌≢◌}
use mathlib.Core.List.{List}
use mathlib.Core.Option.{Option, none, some}
use native.Mathlib.Nat.{zero-add}
use native.Mathlib.Omega.{arith}
use lib.Dec.{lit<, lit≤}
use lib.ListN.{length, get_or, set}
use Rattle.limits.specs.Limits.{locks_most, key_size, slot_size, slots_place, desk_size}
use Rattle.lists.proofs.Tables.{length_tab, get_d_tab, tab_set}
use Rattle.numbers.specs.Numbers.{width_of, Fits}
use Rattle.numbers.proofs.Fields.{fields_same, fields_other}
use Rattle.numbers.proofs.RecordTables.{rows_distinct}
use Rattle.rules.specs.Kinds.{Mode, S, X, Lock}
use Rattle.locks.specs.SlotLayout.{lock_widths, lock_place, name_in, mode_number, slot_in, slot_fields, slot_at, put_slot, slots_of}
use Rattle.locks.proofs.LockValues.{name_back}
use Rattle.locks.proofs.SlotBack.{slot_there}

-- ---- a lock written and read back
pub mode_fits : (m : Mode) → mode_number m < 256 ^ 2
mode_fits S = lit< tt
mode_fits X = lit< tt

module _ (k t : ℕ) (m : Mode) where
  abbrev pub lock : Option (Lock ℕ)
  lock = some (record { name = name_in k; holder = t; mode = m })

  pub lock_fits : k < 256 ^ key_size → t < 256 ^ 2 → Fits lock_widths (slot_fields lock)
  unfolding slot_fields
  lock_fits h l = (subst (λ v. v < 256 ^ key_size) (sym (name_back k)) h, (l, (mode_fits m, (lit< tt, tt))))

  pub lock_back : t ≢ 0 → slot_in (slot_fields lock) ≡ lock
  lock_back h = slot_there (record { name = name_in k; holder = t; mode = m }) h (ap name_in (name_back k))

-- ---- a slot written is one slot set
pub slots_put : (d : List ℕ) (i : ℕ) (x : Option (Lock ℕ)) → length d ≡ desk_size → i < locks_most
    → Fits lock_widths (slot_fields x) → slot_in (slot_fields x) ≡ x
    → slots_of (put_slot d i x) ≡ set (slots_of d) i x
unfolding slots_of slot_at put_slot width_of
slots_put d i x size h fit back =
    tab_set locks_most (slot_at d) (slot_at (put_slot d i x)) i x h
    (ap slot_in (fields_same lock_widths d (lock_place i) (slot_fields x) fit (omega arith)) ∙ back)
    (λ k l e. ap slot_in (fields_other lock_widths (lock_place k) lock_widths d (lock_place i) (slot_fields x) (rows_distinct slot_size slot_size slots_place k i (lit≤ tt) e)))

pub length_slots : (d : List ℕ) → length (slots_of d) ≡ locks_most
unfolding slots_of
length_slots d = length_tab locks_most 0 (slot_at d)

pub slot_in_lem : (d : List ℕ) (i : ℕ) → i < locks_most → get_or (slots_of d) i none ≡ slot_at d i
unfolding slots_of
slot_in_lem d i h = get_d_tab locks_most 0 (slot_at d) i none h ∙ ap (slot_at d) (zero-add i)
