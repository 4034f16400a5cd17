-- Document 01, "Records and pages": the lock table in the bytes of the desk, read as the rule book's lock slots. Assumes nothing.
use Rattle.std.specs.Prelude.{ℕ, ◌+◌, ◌*◌, cond, List, [], ◌∷◌, eqb, get_or}
use Rattle.std.proofs.Math.Option.{Option, none, some}
use Rattle.std.specs.Prelude as Code
use Rattle.limits.specs.Limits.{locks_most, key_size, slot_size, slots_place}
use Rattle.lists.specs.Lists.{tab}
use Rattle.numbers.specs.Numbers.{fields_at, put_fields}
use Rattle.rules.specs.Kinds.{Mode, S, X, Name, on, end, Lock}
use Rattle.rules.specs.Document.{end_mark}
use Rattle.locks.specs.declared.Mode as M
use Rattle.locks.specs.declared.Mode.TheVariants as MV
use Rattle.locks.specs.declared.Lock as CodeLock

-- "256 locks of 16 bytes (key 8, transaction 2, mode 2: 1 S, 2 X, four zeros)"; a free slot is zero
abbrev pub lock_widths : List ℕ
lock_widths = key_size ∷ 2 ∷ 2 ∷ 4 ∷ []

abbrev pub lock_place : ℕ → ℕ
lock_place i = slots_place + slot_size * i

abbrev pub name_in : ℕ → Name ℕ
name_in k = cond (eqb k end_mark) end (on k)

abbrev pub mode_in : ℕ → Mode
mode_in m = cond (eqb m 2) X S

unfoldable pub slot_in : List ℕ → Option (Lock ℕ)
slot_in vs =
    cond (eqb (get_or vs 1 0) 0) none
    (some (record { name = name_in (get_or vs 0 0); holder = get_or vs 1 0; mode = mode_in (get_or vs 2 0) }))

abbrev pub name_number : Name ℕ → ℕ
name_number (on k) = k
name_number end = end_mark

abbrev pub mode_number : Mode → ℕ
mode_number S = 1
mode_number X = 2

unfoldable pub slot_fields : Option (Lock ℕ) → List ℕ
slot_fields none = 0 ∷ 0 ∷ 0 ∷ 0 ∷ []
slot_fields (some l) = name_number l.name ∷ l.holder ∷ mode_number l.mode ∷ 0 ∷ []

unfoldable pub slot_at : List ℕ → ℕ → Option (Lock ℕ)
slot_at d i = slot_in (fields_at lock_widths d (lock_place i))

unfoldable pub put_slot : List ℕ → ℕ → Option (Lock ℕ) → List ℕ
put_slot d i x = put_fields lock_widths d (lock_place i) (slot_fields x)

-- the lock table
unfoldable pub slots_of : List ℕ → List (Option (Lock ℕ))
slots_of d = tab locks_most 0 (slot_at d)

-- what the code's values mean
abbrev pub book_mode : M.Mode → Mode
book_mode MV.S = S
book_mode MV.X = X

abbrev pub book_slot : Code.Option CodeLock.Lock → Option (Lock ℕ)
book_slot Code.None = none
book_slot (Code.Some l) = some (record { name = name_in l.name.0; holder = l.holder; mode = book_mode l.mode })
