-- A lock taken, and the locks of a transaction released: the desk says the slots that the rule book's operation makes.
-- Row by row: a row written has its slot's numbers, a row freed has none, and the others stay. Assumes of the tables that they fit.
use Prim.Native.Nat.{ℕ, ◌+◌, ◌-◌, ◌/◌, ◌%◌, ◌<◌}
use mathlib.Core.Path.{◌≡◌, refl, sym, ap, subst, ◌∙◌}
use mathlib.Core.Bool.{Bool, true, false, cond}
use mathlib.Core.List.{List, [], ◌∷◌}
use mathlib.Core.Option.{Option, none, some}
use native.Mathlib.Nat.{add-zero}
use native.Mathlib.Decide.{dec_lt, ℕ_discrete}
use native.Mathlib.Omega.{arith}
use borrow.Author.Tests.{ltb-true}
use lib.Dec.{eqb, ltb, lit≤}
use lib.ListN.{get_or, set, replicate, get_or-map}
use lib.Seq.{get_or-set_same, get_or-set_other}
use Rattle.limits.specs.Limits.{key_size, locks_most, slot_size, slots_place, desk_size}
use Rattle.numbers.specs.Numbers.{number_at, width_of, fields_at, part, Bytes}
use Rattle.numbers.proofs.Fields.{fields_same, fields_other}
use Rattle.numbers.proofs.RecordTables.{rows_distinct}
use Rattle.numbers.proofs.Parts.{get_d_part, fields_at_part}
use Rattle.numbers.proofs.BytesKept.{bytes_put_fields, bytes_part, bytes_zeros}
use Rattle.rules.specs.Kinds.{Queued, Mark, Lock, Mode, Name, Paging}
use Rattle.rules.specs.Locks.{freed, released}
use Rattle.rules.specs.Document.{document}
use Rattle.locks.specs.SlotLayout.{lock_widths, lock_place, slot_fields, slot_at, put_slot, slots_of}
use Rattle.locks.specs.SlotMoves.{held_in, free_in, strengthened, lock_taken, row_freed, locks_released}
use Rattle.locks.proofs.SlotBytes.{slots_put, slot_in_lem}
use Rattle.locks.proofs.Releases.{row_released_lem}
use Rattle.queue.proofs.Frames.{OnlyLocks, only_put, only_released, head_kept, place_beside}
use Rattle.queue.proofs.RecordBytes.{record_kept}
use Rattle.states.specs.Fitting.{Fitting}
use Rattle.states.proofs.DeskSays.{Says}
use Rattle.states.proofs.ValuesFit.{SlotFits, slot_of, slot_fits, slot_read}
use Rattle.states.proofs.Reading.{says_slots}

-- the slot of t's lock, or a free one, strengthened
fits_stronger : (m : Mode) (x : Option (Lock ℕ)) → SlotFits x → SlotFits (strengthened m x)
fits_stronger m none f = tt
fits_stronger m (some l) f = record { name = f.name; some = f.some; most = f.most }

module _ {d : List ℕ} {ls : List (Option (Lock ℕ))} {qs : List (Queued ℕ ℕ)} {ms : List Mark} (fit : Fitting ls qs ms) (f : Says d ls qs ms) where
  says_locks : {u : List ℕ} {ks : List (Option (Lock ℕ))} → OnlyLocks d u → Bytes u
      → ((i : ℕ) → i < locks_most → fields_at lock_widths u (lock_place i) ≡ slot_fields (get_or ks i none)) → Says u ks qs ms
  says_locks g h r =
      record {
        len = g.len ∙ f.len;
        bytes = h;
        head = head_kept g ∙ f.head;
        places = λ i l. place_beside g i (omega arith) ∙ f.places i l;
        records = λ t l k. record_kept g t k ∙ f.records t l k;
        rows = r;
      }

  says_slot : (i : ℕ) (x : Option (Lock ℕ)) → i < locks_most → SlotFits x → Says (put_slot d i x) (set ls i x) qs ms
  unfolding put_slot width_of
  says_slot i x h fits =
      says_locks (only_put d i x h) (bytes_put_fields lock_widths d (lock_place i) (slot_fields x) f.bytes) (λ k l. go k l (ℕ_discrete k i))
    where
      go : (k : ℕ) → k < locks_most → Dec (k ≡ i) → fields_at lock_widths (put_slot d i x) (lock_place k) ≡ slot_fields (get_or (set ls i x) k none)
      go k l (yes e) =
          rw e
          (fields_same lock_widths d (lock_place i) (slot_fields x) (slot_fits x fits) (let n = f.len in omega arith)
          ∙ ap slot_fields (sym (get_or-set_same ls i x none (omega (arith, fit.slots)))))
      go k l (no e) =
          fields_other lock_widths (lock_place k) lock_widths d (lock_place i) (slot_fields x) (rows_distinct slot_size slot_size slots_place k i (lit≤ tt) e)
          ∙ f.rows k l
          ∙ ap slot_fields (sym (get_or-set_other ls i k x none e))

  -- a slot written is read back, so that the desk says its own slots
  says_put : (i : ℕ) (x : Option (Lock ℕ)) → i < locks_most → SlotFits x → Says (put_slot d i x) (slots_of (put_slot d i x)) qs ms
  says_put i x h fits =
      let e : set ls i x ≡ slots_of (put_slot d i x) =
      ap (λ ks. set ks i x) (sym (says_slots fit f)) ∙ sym (slots_put d i x f.len h (slot_fits x fits) (slot_read x fits)) in
      subst (λ ks. Says (put_slot d i x) ks qs ms) e (says_slot i x h fits)

  fits_at : (i : ℕ) → i < locks_most → SlotFits (slot_at d i)
  fits_at i h = subst SlotFits (ap (λ ks. get_or ks i none) (sym (says_slots fit f)) ∙ slot_in_lem d i h) (slot_of ls fit.locks i)

  pub says_taken : (t : ℕ) (n : Name ℕ) (m : Mode) → SlotFits (some (record { name = n; holder = t; mode = m }))
      → Says (lock_taken d t n m) (slots_of (lock_taken d t n m)) qs ms
  unfolding lock_taken
  says_taken t n m fits = go (ltb (held_in d t n) locks_most) refl (ltb (free_in d) locks_most) refl
    where
      new : Option (Lock ℕ)
      new = some (record { name = n; holder = t; mode = m })

      old : ℕ → Option (Lock ℕ)
      old i = strengthened m (slot_at d i)

      u : Bool → Bool → List ℕ
      u h k = cond h (put_slot d (held_in d t n) (old (held_in d t n))) (cond k (put_slot d (free_in d) new) d)

      go : (h : Bool) → ltb (held_in d t n) locks_most ≡ h → (k : Bool) → ltb (free_in d) locks_most ≡ k → Says (u h k) (slots_of (u h k)) qs ms
      go true p k q =
          let low : held_in d t n < locks_most = ltb-true (held_in d t n) locks_most p in
          says_put (held_in d t n) (old (held_in d t n)) low (fits_stronger m (slot_at d (held_in d t n)) (fits_at (held_in d t n) low))
      go false p true q = says_put (free_in d) new (ltb-true (free_in d) locks_most q) fits
      go false p false q = subst (λ ks. Says d ks qs ms) (sym (says_slots fit f)) f

  module _ (P : Paging ℕ) (t : ℕ) where
    freed_fields : (r : List ℕ) (x : Option (Lock ℕ)) → fields_at lock_widths r 0 ≡ slot_fields x
        → fields_at lock_widths (row_freed t r) 0 ≡ slot_fields (freed (document P) t x)
    unfolding fields_at number_at slot_fields
    freed_fields r none e = go (eqb (number_at 2 r key_size) t)
      where
        go : (b : Bool) → fields_at lock_widths (cond b (replicate slot_size 0) r) 0 ≡ 0 ∷ 0 ∷ 0 ∷ 0 ∷ []
        go true = refl
        go false = e
    freed_fields r (some l) e = go (eqb l.holder t) refl
      where
        holder : number_at 2 r key_size ≡ l.holder
        holder = ap (λ vs. get_or vs 1 0) e

        go : (b : Bool) → eqb l.holder t ≡ b → fields_at lock_widths (row_freed t r) 0 ≡ slot_fields (cond b none (some l))
        go true q = rw (holder, q)
        go false q = rw (holder, q) e

    row_is : (i : ℕ) → i < locks_most → fields_at lock_widths (locks_released t d) (lock_place i) ≡ slot_fields (get_or (released (document P) t ls) i none)
    unfolding width_of released
    row_is i h =
        sym (fields (locks_released t d))
        ∙ ap (λ r. fields_at lock_widths r 0) (row_released_lem t d f.len i h)
        ∙ freed_fields (part (lock_place i) slot_size d) (get_or ls i none) (fields d ∙ f.rows i h)
        ∙ ap slot_fields (sym (get_or-map (freed (document P) t) ls i none))
      where
        fields : (s : List ℕ) → fields_at lock_widths (part (lock_place i) slot_size s) 0 ≡ fields_at lock_widths s (lock_place i)
        fields s = fields_at_part lock_widths (lock_place i) slot_size s 0 (lit≤ tt) ∙ ap (fields_at lock_widths s) (add-zero (lock_place i))

    bytes_freed : (r : List ℕ) → Bytes r → Bytes (row_freed t r)
    bytes_freed r h = go (eqb (number_at 2 r key_size) t)
      where
        go : (b : Bool) → Bytes (cond b (replicate slot_size 0) r)
        go true = bytes_zeros slot_size
        go false = h

    bytes_released : Bytes (locks_released t d)
    bytes_released = record { below = λ i. at i (dec_lt i (lock_place 0)) (dec_lt i desk_size) }
      where
        u : List ℕ
        u = locks_released t d

        at : (i : ℕ) → Dec (i < lock_place 0) → Dec (i < desk_size) → get_or u i 0 < 256
        at i (yes h) l = omega (arith, (only_released t d f.len).rest i (omega arith), f.bytes.below i)
        at i (no h) (no l) = omega (arith, (only_released t d f.len).rest i (omega arith), f.bytes.below i)
        at i (no h) (yes l) =
            let k : ℕ = (i - slots_place) / slot_size in
            let j : ℕ = (i - slots_place) % slot_size in
            let e : lock_place k + j ≡ i = omega arith in
            let row : Bytes (part (lock_place k) slot_size u) =
            subst Bytes (sym (row_released_lem t d f.len k (omega arith))) (bytes_freed (part (lock_place k) slot_size d) (bytes_part (lock_place k) slot_size d f.bytes)) in
            omega (arith, ap (λ x. get_or u x 0) e, get_d_part (lock_place k) slot_size u j (omega arith), row.below j)

    pub says_released : Says (locks_released t d) (released (document P) t ls) qs ms
    says_released = says_locks (only_released t d f.len) bytes_released row_is
