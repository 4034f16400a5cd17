-- Document 01, "Records and pages": head, queue and records of the transactions in the bytes of the desk, read as the rule book's queue and
-- marks. Assumes nothing.
use Rattle.std.specs.Prelude.{ℕ, ◌+◌, ◌*◌, ◌-◌, Bool, cond, not, List, [], ◌∷◌, eqb, get_or}
use Rattle.limits.specs.Limits.{transactions_most, key_size, desk_head_size, record_size, records_place}
use Rattle.lists.specs.Lists.{tab}
use Rattle.numbers.specs.Numbers.{number_at, fields_at, put_fields}
use Rattle.rules.specs.Kinds.{Ask, read, insert, delete, Queued, Mark, idle, running}

-- "Desk: 32-byte head (length 4,672, kind 8, queue count, 26 zeros)"
abbrev pub head_widths : List ℕ
head_widths = 2 ∷ 2 ∷ 2 ∷ 2 ∷ 8 ∷ 8 ∷ 8 ∷ []

abbrev pub queued : List ℕ → ℕ
queued d = number_at 2 d 4

-- "queue of 16 two-byte transaction numbers, oldest first"
abbrev pub queue_place : ℕ → ℕ
queue_place i = desk_head_size + 2 * i

abbrev pub in_place : List ℕ → ℕ → ℕ
in_place d i = number_at 2 d (queue_place i)

-- "16 transactions of 32 bytes (running 2: 1 if so, waiting kind 2, record 4, lo 8, hi 8, eight zeros; delete and insert use lo)";
-- transaction 1 stands at byte 64
abbrev pub record_place : ℕ → ℕ
record_place t = records_place - record_size + record_size * t

abbrev pub record_widths : List ℕ
record_widths = 2 ∷ 2 ∷ 4 ∷ key_size ∷ key_size ∷ 8 ∷ []

unfoldable pub record_at : List ℕ → ℕ → List ℕ
record_at d t = fields_at record_widths d (record_place t)

abbrev pub mark_in : ℕ → Mark
mark_in r = cond (eqb r 1) running idle

abbrev pub is_running : List ℕ → ℕ → Bool
is_running d t = eqb (number_at 2 d (record_place t)) 1

abbrev pub is_waiting : List ℕ → ℕ → Bool
is_waiting d t = not (eqb (number_at 2 d (record_place t + 2)) 0)

-- the waiting request; the waiting kinds are 4, 5 and 6
abbrev pub ask_by : ℕ → ℕ → ℕ → ℕ → Ask ℕ ℕ
ask_by kind r lo hi = cond (eqb kind 4) (read lo hi) (cond (eqb kind 5) (insert lo r) (delete lo))

unfoldable pub ask_in : List ℕ → Ask ℕ ℕ
ask_in vs = ask_by (get_or vs 1 0) (get_or vs 2 0) (get_or vs 3 0) (get_or vs 4 0)

abbrev pub ask_at : List ℕ → ℕ → Ask ℕ ℕ
ask_at d t = ask_in (record_at d t)

-- waiting kind, record, lo, hi
abbrev pub ask_widths : List ℕ
ask_widths = 2 ∷ 4 ∷ key_size ∷ key_size ∷ []

abbrev pub ask_size : ℕ
ask_size = 2 + 4 + key_size + key_size

unfoldable pub ask_fields : Ask ℕ ℕ → List ℕ
ask_fields (read lo hi) = 4 ∷ 0 ∷ lo ∷ hi ∷ []
ask_fields (insert k r) = 5 ∷ r ∷ k ∷ 0 ∷ []
ask_fields (delete k) = 6 ∷ 0 ∷ k ∷ 0 ∷ []

unfoldable pub put_ask : List ℕ → ℕ → List ℕ → List ℕ
put_ask d t vs = put_fields ask_widths d (record_place t + 2) vs

-- the queue and the marks, as the rule book's
unfoldable pub queued_at : List ℕ → ℕ → Queued ℕ ℕ
queued_at d i = record { asker = in_place d i; asks = ask_at d (in_place d i) }

unfoldable pub queue_of : List ℕ → List (Queued ℕ ℕ)
queue_of d = tab (queued d) 0 (queued_at d)

unfoldable pub marks_of : List ℕ → List Mark
marks_of d = idle ∷ tab transactions_most 1 (λ t. mark_in (number_at 2 d (record_place t)))
