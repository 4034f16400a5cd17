-- The bytes that document 01 gives a desk say what they were made of, where the numbers are within their widths, and a desk that says so is
-- those bytes. By the place of each part: head, queue, zeros, records, locks. Assumes of the tables that there is room for them.
use Prim.Native.Nat.{ℕ, ◌+◌, ◌-◌, ◌*◌, ◌^◌, ◌≤◌, ◌<◌}
use mathlib.Core.Path.{◌≡◌, refl, sym, ap, subst, ◌∙◌}
use mathlib.Core.List.{List, [], ◌∷◌, ◌++◌}
use mathlib.Core.Option.{Option, none}
use native.Mathlib.Decide.{dec_lt}
use native.Mathlib.Omega.{arith}
use lib.Dec.{lit<}
use lib.ListN.{length, get_or, replicate, length-append, length-replicate, get_or-eq_default}
use Rattle.limits.specs.Limits.{transactions_most, locks_most, desk_head_size, record_size, records_place, slot_size, desk_size}
use Rattle.lists.specs.Lists.{tab, join}
use Rattle.lists.proofs.Tables.{length_tab, get_d_tab}
use Rattle.lists.proofs.Joins.{length_join}
use Rattle.lists.proofs.Elements.{in_place_lem}
use Rattle.lists.proofs.Places.{get_d_alike}
use Rattle.numbers.specs.Numbers.{number_at, width_of, fields_at, Fits, Bytes}
use Rattle.numbers.proofs.Agree.{Agree, agree_itself}
use Rattle.numbers.proofs.Numbers.{number_at_ext, number_none, number_below}
use Rattle.numbers.proofs.Fields.{fields_fit}
use Rattle.numbers.proofs.Splices.{agree_ahead, agree_behind, agree_row}
use Rattle.numbers.proofs.BytesKept.{bytes_append, bytes_zeros, bytes_join}
use Rattle.rules.specs.Kinds.{Lock, Queued, Mark}
use Rattle.queue.specs.QueueLayout.{head_widths, queue_place, in_place, record_widths, record_place, record_at}
use Rattle.locks.specs.SlotLayout.{lock_widths, lock_place, slot_fields}
use Rattle.states.specs.States.{written, record_of, desk_with}
use Rattle.states.specs.Fitting.{Fitting}
use Rattle.states.proofs.RecordWritten.{length_written, bytes_written, fields_written}
use Rattle.states.proofs.DeskSays.{head_fields, nobody, asker_in, record_fields, Says, says_once}
use Rattle.states.proofs.ValuesFit.{slot_of, slot_fits, record_fits}

-- the parts
abbrev head_part : List (Queued ℕ ℕ) → List ℕ
head_part qs = written head_widths (head_fields (length qs))

abbrev place_row : Queued ℕ ℕ → List ℕ
place_row q = written (2 ∷ []) (q.asker ∷ [])

abbrev lock_row : Option (Lock ℕ) → List ℕ
lock_row x = written lock_widths (slot_fields x)

abbrev zero_part : List (Queued ℕ ℕ) → List ℕ
zero_part qs = replicate (2 * (transactions_most - length qs)) 0

abbrev everyone : List ℕ
everyone = tab transactions_most 1 (λ t. t)

abbrev place_part : List (Queued ℕ ℕ) → List ℕ
place_part qs = join place_row qs

abbrev record_part : List (Queued ℕ ℕ) → List Mark → List ℕ
record_part qs ms = join (record_of qs ms) everyone

abbrev lock_part : List (Option (Lock ℕ)) → List ℕ
lock_part ls = join lock_row ls

length_head : (qs : List (Queued ℕ ℕ)) → length (head_part qs) ≡ desk_head_size
unfolding width_of
length_head qs = length_written head_widths (head_fields (length qs))

length_place : (q : Queued ℕ ℕ) → length (place_row q) ≡ 2
unfolding width_of
length_place q = length_written (2 ∷ []) (q.asker ∷ [])

length_record : (qs : List (Queued ℕ ℕ)) (ms : List Mark) (t : ℕ) → length (record_of qs ms t) ≡ record_size
unfolding width_of record_of
length_record qs ms t = length_written record_widths (record_fields qs ms t)

length_lock : (x : Option (Lock ℕ)) → length (lock_row x) ≡ slot_size
unfolding width_of
length_lock x = length_written lock_widths (slot_fields x)

length_places : (qs : List (Queued ℕ ℕ)) → length (place_part qs) ≡ 2 * length qs
length_places qs = length_join place_row 2 qs length_place

length_zeros : (qs : List (Queued ℕ ℕ)) → length (zero_part qs) ≡ 2 * (transactions_most - length qs)
length_zeros qs = length-replicate (2 * (transactions_most - length qs)) 0

length_everyone : length everyone ≡ transactions_most
length_everyone = length_tab transactions_most 1 (λ t. t)

length_records : (qs : List (Queued ℕ ℕ)) (ms : List Mark) → length (record_part qs ms) ≡ record_size * transactions_most
length_records qs ms = length_join (record_of qs ms) record_size everyone (length_record qs ms) ∙ ap (λ n. record_size * n) length_everyone

-- whatever the tables, these are bytes
module _ (ls : List (Option (Lock ℕ))) (qs : List (Queued ℕ ℕ)) (ms : List Mark) where
  bytes_record : (t : ℕ) → Bytes (record_of qs ms t)
  unfolding record_of
  bytes_record t = bytes_written record_widths (record_fields qs ms t)

  pub bytes_desk : Bytes (desk_with ls qs ms)
  unfolding desk_with
  bytes_desk =
      bytes_append (head_part qs) (place_part qs ++ (zero_part qs ++ (record_part qs ms ++ lock_part ls)))
      (bytes_written head_widths (head_fields (length qs)))
      (bytes_append (place_part qs) (zero_part qs ++ (record_part qs ms ++ lock_part ls)) (bytes_join place_row (λ q. bytes_written (2 ∷ []) (q.asker ∷ [])) qs)
      (bytes_append (zero_part qs) (record_part qs ms ++ lock_part ls) (bytes_zeros (2 * (transactions_most - length qs)))
      (bytes_append (record_part qs ms) (lock_part ls) (bytes_join (record_of qs ms) bytes_record everyone) (bytes_join lock_row (λ x. bytes_written lock_widths (slot_fields x)) ls))))

-- there is room, and every number is within its width
record Room (ls : List (Option (Lock ℕ))) (qs : List (Queued ℕ ℕ)) (ms : List Mark) : Type 0 where
  pub slots : length ls ≡ locks_most
  pub few : length qs ≤ transactions_most
  pub askers : (i : ℕ) → i < length qs → asker_in qs i < 256 ^ 2
  pub records : (t : ℕ) → 1 ≤ t → t ≤ transactions_most → Fits record_widths (record_fields qs ms t)
  pub rows : (i : ℕ) → i < locks_most → Fits lock_widths (slot_fields (get_or ls i none))

module _ (ls : List (Option (Lock ℕ))) (qs : List (Queued ℕ ℕ)) (ms : List Mark) (room : Room ls qs ms) where
  length_locks : length (lock_part ls) ≡ slot_size * locks_most
  length_locks = length_join lock_row slot_size ls length_lock ∙ ap (λ n. slot_size * n) room.slots

  length_room : length (desk_with ls qs ms) ≡ desk_size
  unfolding desk_with
  length_room =
      let few = room.few in
      omega (
        arith,
        length_head qs,
        length_places qs,
        length_zeros qs,
        length_records qs ms,
        length_locks,
        length-append (head_part qs) (place_part qs ++ (zero_part qs ++ (record_part qs ms ++ lock_part ls))),
        length-append (place_part qs) (zero_part qs ++ (record_part qs ms ++ lock_part ls)),
        length-append (zero_part qs) (record_part qs ms ++ lock_part ls),
        length-append (record_part qs ms) (lock_part ls),
      )

  -- a part behind the head, behind the queue's numbers, behind its zeros, and behind the records
  after_head : (p : ℕ) {n k : ℕ} {c : List ℕ} {m : ℕ} → p ≡ desk_head_size + k → Agree n (place_part qs ++ (zero_part qs ++ (record_part qs ms ++ lock_part ls))) k c m
      → Agree n (desk_with ls qs ms) p c m
  unfolding desk_with
  after_head p e g = agree_behind (head_part qs) (place_part qs ++ (zero_part qs ++ (record_part qs ms ++ lock_part ls))) p (omega (arith, length_head qs)) g

  after_places : (p : ℕ) {n k : ℕ} {c : List ℕ} {m : ℕ} → p ≡ desk_head_size + 2 * length qs + k → Agree n (zero_part qs ++ (record_part qs ms ++ lock_part ls)) k c m
      → Agree n (desk_with ls qs ms) p c m
  after_places p {k = k} e g =
      after_head p {k = 2 * length qs + k} (omega arith)
      (agree_behind (place_part qs) (zero_part qs ++ (record_part qs ms ++ lock_part ls)) (2 * length qs + k) (omega (arith, length_places qs)) g)

  after_queue : (p : ℕ) {n k : ℕ} {c : List ℕ} {m : ℕ} → p ≡ records_place + k → Agree n (record_part qs ms ++ lock_part ls) k c m → Agree n (desk_with ls qs ms) p c m
  after_queue p {k = k} e g =
      let few = room.few in
      after_places p {k = 2 * (transactions_most - length qs) + k} (omega arith)
      (agree_behind (zero_part qs) (record_part qs ms ++ lock_part ls) (2 * (transactions_most - length qs) + k) (omega (arith, length_zeros qs)) g)

  head_there : fields_at head_widths (desk_with ls qs ms) 0 ≡ head_fields (length qs)
  unfolding desk_with width_of
  head_there =
      let few = room.few in
      fields_written head_widths (head_fields (length qs)) (lit< tt, (lit< tt, (omega arith, (lit< tt, (lit< tt, (lit< tt, (lit< tt, tt)))))))
      (agree_ahead (head_part qs) (place_part qs ++ (zero_part qs ++ (record_part qs ms ++ lock_part ls))) (omega (arith, length_head qs)) agree_itself)

  asker_there : (i : ℕ) → i < length qs → number_at 2 (desk_with ls qs ms) (queue_place i) ≡ asker_in qs i
  unfolding width_of fields_at
  asker_there i h =
      ap (λ vs. get_or vs 0 0)
      (fields_written (2 ∷ []) (asker_in qs i ∷ []) (room.askers i h, tt)
      (after_head (queue_place i) refl
      (agree_ahead (place_part qs) (zero_part qs ++ (record_part qs ms ++ lock_part ls)) (omega (arith, length_places qs)) (agree_row place_row 2 length_place qs i nobody h))))

  zero_there : (i : ℕ) → length qs ≤ i → i < transactions_most → Agree 2 (desk_with ls qs ms) (queue_place i) [] 0
  zero_there i h l =
      after_places (queue_place i) {k = 2 * (i - length qs)} (omega arith)
      (agree_ahead (zero_part qs) (record_part qs ms ++ lock_part ls) (omega (arith, length_zeros qs))
      (record { byte = λ j m. get_d_alike (2 * (transactions_most - length qs)) (2 * (i - length qs) + j) 0 }))

  place_there : (i : ℕ) → i < transactions_most → in_place (desk_with ls qs ms) i ≡ asker_in qs i
  place_there i h = go (dec_lt i (length qs))
    where
      go : Dec (i < length qs) → in_place (desk_with ls qs ms) i ≡ asker_in qs i
      go (yes l) = asker_there i l
      go (no l) =
          number_at_ext 2 (zero_there i (omega arith) h)
          ∙ number_none 2 0
          ∙ ap (λ q. q.asker) (sym (get_or-eq_default qs nobody {n = i} (omega arith)))

  record_there : (t : ℕ) → 1 ≤ t → t ≤ transactions_most → record_at (desk_with ls qs ms) t ≡ record_fields qs ms t
  unfolding record_at record_of width_of
  record_there t low high =
      let e : 1 + (t - 1) ≡ t = omega arith in
      let who : get_or everyone (t - 1) 0 ≡ t = get_d_tab transactions_most 1 (λ t. t) (t - 1) 0 (omega arith) ∙ e in
      fields_written record_widths (record_fields qs ms t) (room.records t low high)
      (after_queue (record_place t) (omega arith)
      (agree_ahead (record_part qs ms) (lock_part ls) (omega (arith, length_records qs ms))
      (rw who at (agree_row (record_of qs ms) record_size (length_record qs ms) everyone (t - 1) 0 (omega (arith, length_everyone))))))

  row_there : (i : ℕ) → i < locks_most → fields_at lock_widths (desk_with ls qs ms) (lock_place i) ≡ slot_fields (get_or ls i none)
  unfolding width_of
  row_there i h =
      fields_written lock_widths (slot_fields (get_or ls i none)) (room.rows i h)
      (after_queue (lock_place i) {k = record_size * transactions_most + slot_size * i} (omega arith)
      (agree_behind (record_part qs ms) (lock_part ls) (record_size * transactions_most + slot_size * i) (omega (arith, length_records qs ms)) (agree_row lock_row slot_size length_lock ls i none (omega (arith, room.slots)))))

  room_says : Says (desk_with ls qs ms) ls qs ms
  room_says =
      record { len = length_room; bytes = bytes_desk ls qs ms; head = head_there; places = place_there; records = record_there; rows = row_there }

module _ (ls : List (Option (Lock ℕ))) (qs : List (Queued ℕ ℕ)) (ms : List Mark) where
  pub desk_says : Fitting ls qs ms → Says (desk_with ls qs ms) ls qs ms
  desk_says fit =
      room_says ls qs ms
      (record {
        slots = fit.slots;
        few = fit.few;
        askers = λ i h. omega (arith, (fit.queued (get_or qs i nobody) (in_place_lem qs i nobody h)).most);
        records = λ t _ _. record_fits qs fit.queued ms t;
        rows = λ i _. slot_fits (get_or ls i none) (slot_of ls fit.locks i);
      })

  -- every byte: a desk that says so is this one, since its numbers are read from bytes
  pub desk_is : length ls ≡ locks_most → length qs ≤ transactions_most → (d : List ℕ) → Says d ls qs ms → d ≡ desk_with ls qs ms
  unfolding record_at
  desk_is slots few d f =
      says_once d (desk_with ls qs ms) ls qs ms f
      (room_says ls qs ms
      (record {
        slots = slots;
        few = few;
        askers = λ i h. subst (λ v. v < 256 ^ 2) (f.places i (omega arith)) (number_below 2 d (queue_place i) f.bytes);
        records = λ t l h. subst (Fits record_widths) (f.records t l h) (fields_fit record_widths d (record_place t) f.bytes);
        rows = λ i h. subst (Fits lock_widths) (f.rows i h) (fields_fit lock_widths d (lock_place i) f.bytes);
      }))
