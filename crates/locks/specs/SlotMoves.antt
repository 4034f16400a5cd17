-- What taking and releasing locks does to the bytes of the desk. Assumes nothing.
use Rattle.std.specs.Prelude.{ℕ, Bool, true, false, cond, not, ◌&&◌, List, eqb, ltb, replicate}
use Rattle.std.proofs.Math.Option.{Option, none, some}
use Rattle.limits.specs.Limits.{locks_most, key_size, slot_size}
use Rattle.lists.specs.Lists.{tab, join, place}
use Rattle.numbers.specs.Numbers.{number_at, part, put_part}
use Rattle.rules.specs.Kinds.{Mode, Name, Lock}
use Rattle.rules.specs.Entries.{is_there}
use Rattle.rules.specs.Locks.{is_of, same_name, conflict, stronger}
use Rattle.rules.specs.Document.{document, endless}
use Rattle.locks.specs.SlotLayout.{slots_of, slot_at, put_slot, lock_place}

abbrev pub is_slot_of : ℕ → Name ℕ → Option (Lock ℕ) → Bool
is_slot_of t n none = false
is_slot_of t n (some l) = is_of (document endless) t n l

-- another's lock on a name in a conflicting mode: the test of the rule book's `holders`
abbrev pub is_slot_against : ℕ → Name ℕ → Mode → Option (Lock ℕ) → Bool
is_slot_against t n m none = false
is_slot_against t n m (some l) =
    not (eqb l.holder t) && (same_name (document endless) l.name n && conflict l.mode m)

-- the slot of t's lock on a name, and the lowest free slot; the number of slots where there is none
unfoldable pub held_in : List ℕ → ℕ → Name ℕ → ℕ
held_in d t n = place (is_slot_of t n) (slots_of d)

unfoldable pub free_in : List ℕ → ℕ
free_in d = place (λ x. not (is_there x)) (slots_of d)

abbrev pub strengthened : Mode → Option (Lock ℕ) → Option (Lock ℕ)
strengthened m none = none
strengthened m (some l) = some (record { name = l.name; holder = l.holder; mode = stronger l.mode m })

-- "X replaces S in its slot and is never weakened": the lock in slot i strengthened; where i is no slot, a new one in slot j; where j is none
-- either, nothing changes
abbrev pub taken_at : List ℕ → ℕ → ℕ → ℕ → Name ℕ → Mode → List ℕ
taken_at d i j t n m =
    cond (ltb i locks_most)
    (put_slot d i (strengthened m (slot_at d i)))
    (cond (ltb j locks_most) (put_slot d j (some (record { name = n; holder = t; mode = m }))) d)

-- whether t has the lock then
abbrev pub given_at : ℕ → ℕ → Bool
given_at i j = cond (ltb i locks_most) true (ltb j locks_most)

-- t's own lock on the name is strengthened; "A new lock takes the lowest free slot"
unfoldable pub lock_taken : List ℕ → ℕ → Name ℕ → Mode → List ℕ
lock_taken d t n m = taken_at d (held_in d t n) (free_in d) t n m

unfoldable pub lock_given : List ℕ → ℕ → Name ℕ → Bool
lock_given d t n = given_at (held_in d t n) (free_in d)

-- "a released one is zeroed": the slots of t zero, the others as they are
abbrev pub row_freed : ℕ → List ℕ → List ℕ
row_freed t r = cond (eqb (number_at 2 r key_size) t) (replicate slot_size 0) r

unfoldable pub row_released : ℕ → ℕ → List ℕ → List ℕ
row_released t i d = put_part (lock_place i) (row_freed t (part (lock_place i) slot_size d)) d

unfoldable pub locks_released : ℕ → List ℕ → List ℕ
locks_released t d = put_part (lock_place 0) (join (row_freed t) (tab locks_most 0 (λ i. part (lock_place i) slot_size d))) d
