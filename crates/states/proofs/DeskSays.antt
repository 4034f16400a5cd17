-- What a desk says, number by number: its head, its queue, its records and its rows of locks; and that this tells each of its bytes.
-- By the laws that fields and rows tell their bytes, part by part; no byte lies outside the four parts. Assumes nothing.
use Prim.Native.Nat.{ℕ, ◌+◌, ◌*◌, ◌≤◌, ◌<◌}
use mathlib.Core.Path.{◌≡◌, refl, sym, ap, ◌∙◌}
use mathlib.Core.List.{List, [], ◌∷◌, ◌++◌}
use mathlib.Core.Option.{Option, none}
use native.Mathlib.Omega.{arith}
use lib.Dec.{eqb}
use lib.ListN.{length, get_or}
use Rattle.limits.specs.Limits.{transactions_most, locks_most, desk_head_size, queue_size, record_size, records_place, slot_size, slots_place, desk_size}
use Rattle.lists.specs.Lists.{first}
use Rattle.lists.proofs.Tables.{tab_ext}
use Rattle.numbers.specs.Numbers.{width_of, fields_at, rows, Bytes}
use Rattle.numbers.proofs.Agree.{Agree, agree_front, agree_join, agree_all}
use Rattle.numbers.proofs.Fields.{fields_inj}
use Rattle.numbers.proofs.RecordTables.{rows_inj}
use Rattle.rules.specs.Kinds.{Lock, Queued, delete, Mark, idle}
use Rattle.queue.specs.QueueLayout.{head_widths, in_place, record_widths, record_place, record_at}
use Rattle.locks.specs.SlotLayout.{lock_widths, lock_place, slot_fields}
use Rattle.states.specs.States.{waiting_fields, mark_number}

-- the numbers of the head, by how many are queued
abbrev pub head_fields : ℕ → List ℕ
head_fields n = desk_size ∷ 8 ∷ n ∷ 0 ∷ 0 ∷ 0 ∷ 0 ∷ []

-- who stands at a place of the queue; behind the last, nobody
abbrev pub nobody : Queued ℕ ℕ
nobody = record { asker = 0; asks = delete 0 }

abbrev pub asker_in : List (Queued ℕ ℕ) → ℕ → ℕ
asker_in qs i = (get_or qs i nobody).asker

-- the numbers of t's record
abbrev pub record_fields : List (Queued ℕ ℕ) → List Mark → ℕ → List ℕ
record_fields qs ms t = mark_number (get_or ms t idle) ∷ (waiting_fields (first (λ q. eqb q.asker t) qs) ++ (0 ∷ []))

pub record Says (d : List ℕ) (ls : List (Option (Lock ℕ))) (qs : List (Queued ℕ ℕ)) (ms : List Mark) : Type 0 where
  pub len : length d ≡ desk_size
  pub bytes : Bytes d
  pub head : fields_at head_widths d 0 ≡ head_fields (length qs)
  pub places : (i : ℕ) → i < transactions_most → in_place d i ≡ asker_in qs i
  pub records : (t : ℕ) → 1 ≤ t → t ≤ transactions_most → record_at d t ≡ record_fields qs ms t
  pub rows : (i : ℕ) → i < locks_most → fields_at lock_widths d (lock_place i) ≡ slot_fields (get_or ls i none)

-- two desks that say the same are the same bytes
module _ (d u : List ℕ) (ls : List (Option (Lock ℕ))) (qs : List (Queued ℕ ℕ)) (ms : List Mark) (f : Says d ls qs ms) (g : Says u ls qs ms) where
  same_head : Agree desk_head_size d 0 u 0
  unfolding width_of
  same_head = fields_inj head_widths f.bytes g.bytes (f.head ∙ sym g.head)

  same_queue : Agree queue_size d desk_head_size u desk_head_size
  unfolding width_of fields_at rows
  same_queue =
      rows_inj (2 ∷ []) 2 transactions_most refl f.bytes g.bytes
      (tab_ext transactions_most 0 (λ i. fields_at (2 ∷ []) d (desk_head_size + 2 * i)) (λ i. fields_at (2 ∷ []) u (desk_head_size + 2 * i))
      (λ i _ h. ap (λ v. v ∷ []) (f.places i h ∙ sym (g.places i h))))

  same_records : Agree (record_size * transactions_most) d records_place u records_place
  unfolding width_of record_at rows
  same_records =
      rows_inj record_widths record_size transactions_most refl f.bytes g.bytes
      (tab_ext transactions_most 0 (λ i. fields_at record_widths d (records_place + record_size * i)) (λ i. fields_at record_widths u (records_place + record_size * i))
      (λ i _ h.
      let e : records_place + record_size * i ≡ record_place (i + 1) = omega arith in
      ap (fields_at record_widths d) e
      ∙ f.records (i + 1) (omega arith) (omega arith)
      ∙ sym (g.records (i + 1) (omega arith) (omega arith))
      ∙ ap (fields_at record_widths u) (sym e)))

  same_locks : Agree (slot_size * locks_most) d slots_place u slots_place
  unfolding width_of rows
  same_locks =
      rows_inj lock_widths slot_size locks_most refl f.bytes g.bytes
      (tab_ext locks_most 0 (λ i. fields_at lock_widths d (slots_place + slot_size * i)) (λ i. fields_at lock_widths u (slots_place + slot_size * i))
      (λ i _ h. f.rows i h ∙ sym (g.rows i h)))

  pub says_once : d ≡ u
  says_once =
      agree_all d u (f.len ∙ sym g.len)
      (agree_front (length d) (omega (arith, f.len)) (agree_join (agree_join (agree_join same_head same_queue) same_records) same_locks))
