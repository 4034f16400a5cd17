-- A desk that is the desk of its own tables: exactly one whose numbers are those of what is read from it.
-- What is read from a desk fits the numbers' widths, so that the numbers tell the bytes. Assumes, for the way back, that the tables fit.
use Prim.Native.Nat.{ℕ, ◌≤◌, ◌<◌}
use mathlib.Core.Path.{◌≡◌, sym, ap, subst, ◌∙◌}
use mathlib.Core.List.{List}
use mathlib.Core.Option.{Option}
use native.Mathlib.Nat.{zero-add}
use native.Mathlib.Decide.{dec_lt}
use native.Mathlib.Omega.{arith}
use lib.ListN.{length, get_or-eq_default}
use Rattle.limits.specs.Limits.{transactions_most, locks_most, desk_size}
use Rattle.lists.proofs.Tables.{get_d_tab}
use Rattle.numbers.specs.Numbers.{fields_at, Bytes}
use Rattle.rules.specs.Kinds.{Lock, Queued, Mark}
use Rattle.rules.specs.Queue.{St}
use Rattle.rules.specs.Good.{Good}
use Rattle.trees.specs.Shapes.{shape}
use Rattle.index.specs.Pictures.{key_of, index_of, entries_in}
use Rattle.queue.specs.QueueLayout.{head_widths, queued, in_place, record_at, queued_at, queue_of, marks_of}
use Rattle.locks.specs.SlotLayout.{lock_widths, lock_place, slot_fields, slot_at, slots_of}
use Rattle.locks.proofs.SlotBytes.{length_slots, slot_in_lem}
use Rattle.queue.proofs.QueueBytes.{length_queue}
use Rattle.states.specs.States.{book, state_of, desk_with}
use Rattle.states.specs.Fitting.{Fitting}
use Rattle.states.proofs.DeskSays.{head_fields, nobody, asker_in, record_fields, Says}
use Rattle.states.proofs.DeskBytes.{bytes_desk, desk_says, desk_is}
use Rattle.states.proofs.Reading.{desk_slots, desk_queue, desk_marks}
use Rattle.states.proofs.Good.{good_fitting}

pub record Reads (d : List ℕ) : Type 0 where
  pub head : fields_at head_widths d 0 ≡ head_fields (queued d)
  pub spare : (i : ℕ) → queued d ≤ i → i < transactions_most → in_place d i ≡ 0
  pub records : (t : ℕ) → 1 ≤ t → t ≤ transactions_most → record_at d t ≡ record_fields (queue_of d) (marks_of d) t
  pub rows : (i : ℕ) → i < locks_most → fields_at lock_widths d (lock_place i) ≡ slot_fields (slot_at d i)

module _ (d : List ℕ) where
  asker_in_lem : (i : ℕ) → i < queued d → in_place d i ≡ asker_in (queue_of d) i
  unfolding queue_of queued_at
  asker_in_lem i h =
      ap (λ q. q.asker) (ap (queued_at d) (sym (zero-add i)) ∙ sym (get_d_tab (queued d) 0 (queued_at d) i nobody h))

  past : (i : ℕ) → queued d ≤ i → asker_in (queue_of d) i ≡ 0
  past i h = ap (λ q. q.asker) (get_or-eq_default (queue_of d) nobody {n = i} (omega (arith, length_queue d)))

  reads_says : length d ≡ desk_size → Bytes d → Reads d → Says d (slots_of d) (queue_of d) (marks_of d)
  reads_says size bytes f =
      record {
        len = size;
        bytes = bytes;
        head = f.head ∙ ap head_fields (sym (length_queue d));
        places = λ i h. place i h (dec_lt i (queued d));
        records = f.records;
        rows = λ i h. f.rows i h ∙ ap slot_fields (sym (slot_in_lem d i h));
      }
    where
      place : (i : ℕ) → i < transactions_most → Dec (i < queued d) → in_place d i ≡ asker_in (queue_of d) i
      place i h (yes l) = asker_in_lem i l
      place i h (no l) = f.spare i (omega arith) h ∙ sym (past i (omega arith))

  pub reads_desk : length d ≡ desk_size → Bytes d → queued d ≤ transactions_most → Reads d → d ≡ desk_with (slots_of d) (queue_of d) (marks_of d)
  reads_desk size bytes few f =
      desk_is (slots_of d) (queue_of d) (marks_of d) (length_slots d) (omega (arith, length_queue d)) d (reads_says size bytes f)

  says_reads : Says d (slots_of d) (queue_of d) (marks_of d) → Reads d
  says_reads f =
      record {
        head = f.head ∙ ap head_fields (length_queue d);
        spare = λ i l h. f.places i h ∙ past i l;
        records = f.records;
        rows = λ i h. f.rows i h ∙ ap slot_fields (slot_in_lem d i h);
      }

  module _ (itself : d ≡ desk_with (slots_of d) (queue_of d) (marks_of d)) where
    -- the tables of a good desk fit; that its numbers are of bytes need not be said
    pub itself_fits : (p : List ℕ) → Good book (state_of p d) → Fitting (slots_of d) (queue_of d) (marks_of d)
    itself_fits p good = good_fitting p d good (subst Bytes (sym itself) (bytes_desk (slots_of d) (queue_of d) (marks_of d)))

    pub itself_says : Fitting (slots_of d) (queue_of d) (marks_of d) → Says d (slots_of d) (queue_of d) (marks_of d)
    itself_says fit = subst (λ u. Says u (slots_of d) (queue_of d) (marks_of d)) (sym itself) (desk_says (slots_of d) (queue_of d) (marks_of d) fit)

    pub itself_reads : Fitting (slots_of d) (queue_of d) (marks_of d) → Reads d
    itself_reads fit = says_reads (itself_says fit)

-- the desk of tables that fit is such a one, and says them as a state
module _ (ls : List (Option (Lock ℕ))) (qs : List (Queued ℕ ℕ)) (ms : List Mark) (fit : Fitting ls qs ms) (d : List ℕ) (e : d ≡ desk_with ls qs ms) where
  slots_are : slots_of d ≡ ls
  slots_are = ap slots_of e ∙ desk_slots ls qs ms fit

  queue_is : queue_of d ≡ qs
  queue_is = ap queue_of e ∙ desk_queue ls qs ms fit

  marks_are : marks_of d ≡ ms
  marks_are = ap marks_of e ∙ desk_marks ls qs ms fit

  pub desk_itself : d ≡ desk_with (slots_of d) (queue_of d) (marks_of d)
  desk_itself =
      e
      ∙ ap (λ x. desk_with x qs ms) (sym slots_are)
      ∙ ap (λ x. desk_with (slots_of d) x ms) (sym queue_is)
      ∙ ap (λ x. desk_with (slots_of d) (queue_of d) x) (sym marks_are)

  pub desk_state : (p : List ℕ)
      → state_of p d ≡ record { entries = entries_in p; pages = shape key_of (index_of p); slots = ls; queue = qs; marks = ms }
  unfolding state_of
  desk_state p =
      ap (λ x. state x (queue_of d) (marks_of d)) slots_are ∙ ap (λ x. state ls x (marks_of d)) queue_is ∙ ap (λ x. state ls qs x) marks_are
    where
      state : List (Option (Lock ℕ)) → List (Queued ℕ ℕ) → List Mark → St book
      state x y z = record { entries = entries_in p; pages = shape key_of (index_of p); slots = x; queue = y; marks = z }
