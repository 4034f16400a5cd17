-- What a write elsewhere leaves of the desk: its head, a place of the queue, a request; and which bytes each move writes.
-- A write touches some bytes; what is read apart from those stays. Assumes nothing.
use Prim.Native.Nat.{ℕ, ◌+◌, ◌*◌, ◌^◌, ◌≤◌, ◌<◌}
use mathlib.Core.Path.{◌≡◌, refl, sym, ap, ◌∙◌}
use mathlib.Core.Bool.{Bool, true, false, cond}
use mathlib.Core.List.{List}
use mathlib.Core.Option.{Option, some}
use native.Mathlib.Omega.{arith}
use borrow.Author.Tests.{ltb-true}
use lib.Dec.{ltb, lit<, lit≤}
use lib.ListN.{length, set}
use Rattle.limits.specs.Limits.{locks_most, desk_head_size, slot_size, desk_size}
use Rattle.numbers.specs.Numbers.{number_at, put_number, width_of, fields_at, Apart}
use Rattle.numbers.proofs.Agree.{Touches, touches_wider}
use Rattle.numbers.proofs.Numbers.{number_apart, number_same, number_other, touches_put_number}
use Rattle.numbers.proofs.Fields.{fields_apart, touches_put_fields}
use Rattle.rules.specs.Kinds.{Mode, Name, Lock}
use Rattle.queue.specs.QueueLayout.{head_widths, queued, queue_place, in_place, record_place, ask_at, ask_widths, ask_size, put_ask}
use Rattle.locks.specs.SlotLayout.{lock_widths, lock_place, slot_fields, slot_at, put_slot}
use Rattle.locks.specs.SlotMoves.{held_in, free_in, strengthened, lock_taken, locks_released}
use Rattle.queue.specs.QueueMoves.{mark_put, mark_number}
use Rattle.queue.proofs.AskBack.{ask_of, ask_of_lem}
use Rattle.locks.proofs.Releases.{touches_released_to, released_to}

module _ {b m : ℕ} {d u : List ℕ} (f : Touches b m d u) where
  pub head_beside : desk_head_size ≤ b → fields_at head_widths u 0 ≡ fields_at head_widths d 0
  unfolding width_of
  head_beside h = fields_apart head_widths 0 f (omega arith)

  pub ask_beside : (t : ℕ) → Apart (record_place t + 2) ask_size b m → ask_at u t ≡ ask_at d t
  unfolding width_of
  ask_beside t h = ask_of_lem u t ∙ ap ask_of (fields_apart ask_widths (record_place t + 2) f h) ∙ sym (ask_of_lem d t)

  pub place_beside : (i : ℕ) → Apart (queue_place i) 2 b m → in_place u i ≡ in_place d i
  place_beside i h = number_apart 2 (queue_place i) f h

  pub queued_beside : Apart 4 2 b m → queued u ≡ queued d
  queued_beside h = number_apart 2 4 f h

pub touches_ask : (d : List ℕ) (t : ℕ) (vs : List ℕ) → Touches (record_place t + 2) ask_size d (put_ask d t vs)
unfolding put_ask width_of
touches_ask d t vs = touches_put_fields ask_widths d (record_place t + 2) vs

-- the head, when the count is written
pub head_count : (d : List ℕ) (n : ℕ) → 6 ≤ length d → n < 256 ^ 2 → fields_at head_widths (put_number 2 d 4 n) 0 ≡ set (fields_at head_widths d 0) 2 n
unfolding fields_at
head_count d n h l =
    rw (other 2 0 (lit< tt), other 2 2 (lit< tt), number_same 2 d 4 n l h, other 2 6 (lit< tt), other 8 8 (lit< tt), other 8 16 (lit< tt), other 8 24 (lit< tt))
  where
    other : (w at : ℕ) → Apart at w 4 2 → number_at w (put_number 2 d 4 n) at ≡ number_at w d at
    other w at a = number_other w at 2 d 4 n a

-- ---- a write in the lock table: only its bytes differ
abbrev pub OnlyLocks : List ℕ → List ℕ → Type 0
OnlyLocks d u = Touches (lock_place 0) (slot_size * locks_most) d u

module _ {d u : List ℕ} (f : OnlyLocks d u) where
  pub head_kept : fields_at head_widths u 0 ≡ fields_at head_widths d 0
  head_kept = head_beside f (omega arith)

pub only_put : (d : List ℕ) (i : ℕ) (x : Option (Lock ℕ)) → i < locks_most → OnlyLocks d (put_slot d i x)
unfolding put_slot width_of
only_put d i x h = touches_wider (lock_place 0) (slot_size * locks_most) (omega arith) (omega arith) (touches_put_fields lock_widths d (lock_place i) (slot_fields x))

pub only_taken : (d : List ℕ) (t : ℕ) (n : Name ℕ) (m : Mode) → OnlyLocks d (lock_taken d t n m)
unfolding lock_taken
only_taken d t n m = go (ltb (held_in d t n) locks_most) refl (ltb (free_in d) locks_most) refl
  where
    go : (h : Bool) → ltb (held_in d t n) locks_most ≡ h → (f : Bool) → ltb (free_in d) locks_most ≡ f
        → OnlyLocks d
        (cond h (put_slot d (held_in d t n) (strengthened m (slot_at d (held_in d t n)))) (cond f (put_slot d (free_in d) (some (record { name = n; holder = t; mode = m }))) d))
    go true p f q = only_put d (held_in d t n) (strengthened m (slot_at d (held_in d t n))) (ltb-true (held_in d t n) locks_most p)
    go false p true q = only_put d (free_in d) (some (record { name = n; holder = t; mode = m })) (ltb-true (free_in d) locks_most q)
    go false p false q = record { len = refl; rest = λ k h. refl }

pub only_released : (t : ℕ) (d : List ℕ) → length d ≡ desk_size → OnlyLocks d (locks_released t d)
unfolding released_to locks_released
only_released t d size = touches_released_to t d size locks_most (lit≤ tt)

-- ---- a mark
module _ (d : List ℕ) (t : ℕ) (b : Bool) (low : 1 ≤ t) where
  pub touches_mark : Touches (record_place t) 2 d (mark_put d t b)
  unfolding mark_put
  touches_mark = touches_put_number 2 d (record_place t) (mark_number b)

  pub mark_head : fields_at head_widths (mark_put d t b) 0 ≡ fields_at head_widths d 0
  mark_head = head_beside touches_mark (omega arith)
