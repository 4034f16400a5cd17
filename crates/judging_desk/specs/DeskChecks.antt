-- The tests that the code makes of the desk's bytes, in the order in which it makes them. They are not for readers: what they come to is
-- shown in ../proofs. Assumes nothing.
use Rattle.std.specs.Prelude.{ℕ, ◌+◌, ◌*◌, ◌-◌, Bool, false, cond, not, ◌&&◌, ◌||◌, List, eqb, leb, get_or}
use Rattle.std.specs.Prelude as Code
use Rattle.limits.specs.Limits.{transactions_most, locks_most, desk_head_size, queue_size, desk_size}
use Rattle.lists.specs.Lists.{tab, all}
use Rattle.numbers.specs.Numbers.{number_at, fields_at, zero_at}
use Rattle.sets.specs.declared.Set.{Set}
use Rattle.sets.specs.Sets.{has}
use Rattle.rules.specs.Desk.{legal_ask}
use Rattle.rules.specs.Document.{document, endless}
use Rattle.queue.specs.QueueLayout.{queued, in_place, record_at, is_running, is_waiting, ask_at}
use Rattle.locks.specs.SlotLayout.{lock_widths, lock_place}
use Rattle.judging_pages.specs.Walks.{only_zero, marks}

-- the head: length, kind, count, the 26 zeros, and nothing in the places of the queue that are not used
unfoldable pub head_ok : List ℕ → Bool
head_ok d =
    (((eqb (number_at 2 d 0) desk_size && eqb (number_at 2 d 2) 8) && leb (queued d) transactions_most) && zero_at (desk_head_size - 6) 6 d)
    && zero_at (queue_size - 2 * queued d) (desk_head_size + 2 * queued d) d

-- the askers, each seen once; nobody, number 0, is set down beforehand, and there is no transaction from 17 on
unfoldable pub askers_in : List ℕ → Code.Option Set
askers_in d = marks (transactions_most + 1) (tab (queued d) 0 (in_place d)) only_zero

-- a waiting request by its fields, kind, record, lo and hi: none, a read, an insert or a delete, each with what it does not use zero
abbrev pub form_ok : ℕ → ℕ → ℕ → ℕ → Bool
form_ok kind r lo hi =
    (((((eqb kind 0 && eqb r 0) && eqb lo 0) && eqb hi 0) || (eqb kind 4 && eqb r 0)) || (eqb kind 5 && eqb hi 0))
    || ((eqb kind 6 && eqb r 0) && eqb hi 0)

unfoldable pub plain_ok : List ℕ → Bool
plain_ok vs = (leb (get_or vs 0 0) 1 && form_ok (get_or vs 1 0) (get_or vs 2 0) (get_or vs 3 0) (get_or vs 4 0)) && eqb (get_or vs 5 0) 0

-- a transaction's record: it waits if it is in the queue, and then it runs and its request is legal
abbrev pub listed : Set → ℕ → Bool
listed m t = has m t

unfoldable pub record_ok : List ℕ → Set → ℕ → Bool
record_ok d m t =
    plain_ok (record_at d t)
    && ((((listed m t && is_waiting d t) && is_running d t) && legal_ask (document endless) (ask_at d t)) || (not (listed m t) && not (is_waiting d t)))

-- a slot: free and zero, or held by one that runs, with a mode
abbrev pub fields_ok : List ℕ → ℕ → ℕ → ℕ → ℕ → Bool
fields_ok d k h m f =
    cond (eqb h 0) ((eqb k 0 && eqb m 0) && eqb f 0) (leb h transactions_most && ((is_running d h && (eqb m 1 || eqb m 2)) && eqb f 0))

unfoldable pub slot_ok : List ℕ → ℕ → Bool
slot_ok d i =
    let vs = fields_at lock_widths d (lock_place i) in fields_ok d (get_or vs 0 0) (get_or vs 1 0) (get_or vs 2 0) (get_or vs 3 0)

abbrev pub records_ok : List ℕ → Code.Option Set → Bool
records_ok d (Code.Some m) = all (record_ok d m) (tab transactions_most 1 (λ t. t))
records_ok d Code.None = false

unfoldable pub desk_ok : List ℕ → Bool
desk_ok d = (head_ok d && records_ok d (askers_in d)) && all (slot_ok d) (tab locks_most 0 (λ i. i))
