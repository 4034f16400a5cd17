-- A request joins the queue, or leaves it: the desk says the queue that the rule book's operation makes.
-- The places behind close up, the asker's record has its request or none, and the others stay. Assumes of the tables that they fit.
use Prim.Native.Nat.{ℕ, ◌+◌, ◌-◌, ◌*◌, ◌≤◌, ◌<◌}
use mathlib.Core.Path.{◌≡◌, refl, sym, ap, subst, ◌∙◌}
use mathlib.Core.Logic.{◌≢◌}
use mathlib.Core.Bool.{Bool, true, false, not}
use mathlib.Core.List.{List, [], ◌∷◌, ◌++◌}
use mathlib.Core.Option.{Option, none, some}
use native.Mathlib.Nat.{zero-add}
use native.Mathlib.Decide.{dec_lt, ℕ_discrete}
use native.Mathlib.Omega.{arith}
use borrow.Author.Tests.{eqb-true, eq-eqb, ne_eqb, not-true}
use lib.Dec.{eqb}
use lib.ListN.{length, get_or, set, length-append, get_or-eq_default}
use Rattle.limits.specs.Limits.{transactions_most, desk_size}
use Rattle.lists.specs.Lists.{or_else, any, first, pairs}
use Rattle.lists.proofs.Tests.{first_hit, first_miss, first_none, first_passes, first_keep, not_any, all_keep, first_append, first_past}
use Rattle.lists.proofs.Tables.{get_d_tab}
use Rattle.lists.proofs.Places.{at_last, at_other}
use Rattle.numbers.specs.Numbers.{width_of, put_number, moved, zeroed, Bytes}
use Rattle.numbers.proofs.Fields.{fields_apart}
use Rattle.numbers.proofs.BytesKept.{bytes_put_number, bytes_put_fields, bytes_copied, bytes_zeroed}
use Rattle.numbers.proofs.ByteMoves.{length_copied}
use Rattle.rules.specs.Kinds.{Ask, read, insert, delete, Queued, Mark, idle, Lock, Paging}
use Rattle.rules.specs.Queue.{leave}
use Rattle.rules.specs.Document.{document}
use Rattle.queue.specs.QueueLayout.{queued, queue_place, in_place, record_place, record_at, ask_widths, ask_fields, put_ask, queued_at, queue_of}
use Rattle.locks.specs.SlotLayout.{lock_widths, lock_place}
use Rattle.queue.specs.QueueMoves.{queue_joined, queue_left}
use Rattle.queue.proofs.QueueOrder.{InOrder}
use Rattle.queue.proofs.Frames.{touches_ask}
use Rattle.queue.proofs.QueueBytes.{touches_joined, length_joined, head_joined, place_joined, last_joined, length_queue, touches_left, length_left, head_left, count_left, place_behind, place_last, queue_left_lem}
use Rattle.queue.proofs.RecordBytes.{with_ask, record_joined, record_joined_other, record_left, record_left_other}
use Rattle.states.specs.States.{waiting_fields, mark_number}
use Rattle.states.specs.Fitting.{AskFits, Fitting}
use Rattle.states.proofs.DeskSays.{head_fields, nobody, asker_in, record_fields, Says}
use Rattle.states.proofs.ValuesFit.{ask_fits}
use Rattle.states.proofs.FitKept.{room_for}
use Rattle.states.proofs.Reading.{says_queued, says_queue, says_order}

-- the last number of a record, its filler
ask_filler : (v : ℕ) (a : Ask ℕ ℕ) → get_or (v ∷ (ask_fields a ++ (0 ∷ []))) 5 0 ≡ 0
unfolding ask_fields
ask_filler v (read lo hi) = refl
ask_filler v (insert k r) = refl
ask_filler v (delete k) = refl

filler : (v : ℕ) (o : Option (Queued ℕ ℕ)) → get_or (v ∷ (waiting_fields o ++ (0 ∷ []))) 5 0 ≡ 0
filler v none = refl
filler v (some q) = ask_filler v q.asks

-- one more behind the last
module _ (q : Queued ℕ ℕ) where
  first_other : (p : Queued ℕ ℕ → Bool) (qs : List (Queued ℕ ℕ)) → p q ≡ false → first p (qs ++ (q ∷ [])) ≡ first p qs
  unfolding first
  first_other p qs e = first_append p qs (q ∷ []) ∙ ap (or_else (first p qs)) (first_miss p q [] e) ∙ go (first p qs)
    where
      go : (o : Option (Queued ℕ ℕ)) → or_else o none ≡ o
      go none = refl
      go (some x) = refl

module _ {d : List ℕ} {ls : List (Option (Lock ℕ))} {qs : List (Queued ℕ ℕ)} {ms : List Mark} (fit : Fitting ls qs ms) (f : Says d ls qs ms) where
  -- t's record with other numbers for its request
  with_ask_lem : (t : ℕ) (vs : List ℕ) → 1 ≤ t → t ≤ transactions_most → with_ask vs (record_at d t) ≡ mark_number (get_or ms t idle) ∷ (vs ++ (0 ∷ []))
  with_ask_lem t vs low high =
      ap (with_ask vs) (f.records t low high)
      ∙ ap (λ z. mark_number (get_or ms t idle) ∷ (vs ++ (z ∷ []))) (filler (mark_number (get_or ms t idle)) (first (λ q. eqb q.asker t) qs))

  -- ---- joining
  module _ (t : ℕ) (a : Ask ℕ ℕ) (new : any (λ q. eqb q.asker t) qs ≡ false)
      (low : 1 ≤ t) (high : t ≤ transactions_most) (asks : AskFits a) where
    abbrev last : Queued ℕ ℕ
    last = record { asker = t; asks = a }

    abbrev joined : List ℕ
    joined = queue_joined d t a

    order : InOrder d
    order = says_order fit f

    few : queued d < transactions_most
    few = omega (arith, says_queued fit f, room_for fit t new low high)

    place_is : (i : ℕ) → i < transactions_most → in_place joined i ≡ asker_in (qs ++ (last ∷ [])) i
    place_is i h = go (ℕ_discrete i (queued d))
      where
        go : Dec (i ≡ queued d) → in_place joined i ≡ asker_in (qs ++ (last ∷ [])) i
        go (yes e) =
            ap (in_place joined) e
            ∙ last_joined d t a f.len order few low high
            ∙ ap (λ q. q.asker) (sym (at_last qs last nobody))
            ∙ ap (asker_in (qs ++ (last ∷ []))) (sym (e ∙ says_queued fit f))
        go (no e) =
            place_joined d t a f.len order few low high i h e
            ∙ f.places i h
            ∙ ap (λ q. q.asker) (sym (at_other qs last i nobody (λ z. e (z ∙ sym (says_queued fit f)))))

    record_is : (s : ℕ) → 1 ≤ s → s ≤ transactions_most → record_at joined s ≡ record_fields (qs ++ (last ∷ [])) ms s
    record_is s l h = go (ℕ_discrete s t)
      where
        fields : Option (Queued ℕ ℕ) → List ℕ
        fields o = mark_number (get_or ms s idle) ∷ (waiting_fields o ++ (0 ∷ []))

        found : first (λ q. eqb q.asker t) (qs ++ (last ∷ [])) ≡ some last
        found =
            first_past (λ q. eqb q.asker t) qs (last ∷ []) (sym (not_any (λ q. eqb q.asker t) qs) ∙ ap not new)
            ∙ first_hit (λ q. eqb q.asker t) last [] (eq-eqb t t refl)

        go : Dec (s ≡ t) → record_at joined s ≡ record_fields (qs ++ (last ∷ [])) ms s
        go (yes e) =
            rw e
            (record_joined d t a f.len order few low high (ask_fits a asks)
            ∙ with_ask_lem t (ask_fields a) low high
            ∙ ap (λ o. mark_number (get_or ms t idle) ∷ (waiting_fields o ++ (0 ∷ []))) (sym found))
        go (no e) =
            record_joined_other d t a f.len order few low high s l e
            ∙ f.records s l h
            ∙ ap fields (sym (first_other last (λ q. eqb q.asker s) qs (ne_eqb t s (λ z. e (sym z)))))

    bytes_joined : Bytes joined
    unfolding queue_joined put_ask
    bytes_joined =
        let asked = put_ask d t (ask_fields a) in
        bytes_put_number 2 (put_number 2 asked (queue_place (queued d)) t) 4 (queued d + 1)
        (bytes_put_number 2 asked (queue_place (queued d)) t (bytes_put_fields ask_widths d (record_place t + 2) (ask_fields a) f.bytes))

    pub says_joined : Says joined ls (qs ++ (last ∷ [])) ms
    unfolding width_of
    says_joined =
        let count : queued d + 1 ≡ length (qs ++ (last ∷ [])) = omega (arith, says_queued fit f, length-append qs (last ∷ [])) in
        record {
          len = length_joined d t a f.len order few low high ∙ f.len;
          bytes = bytes_joined;
          head = head_joined d t a f.len order few low high
              ∙ ap (λ vs. set vs 2 (queued d + 1)) f.head
              ∙ ap head_fields count;
          places = place_is;
          records = record_is;
          rows = λ i h.
              fields_apart lock_widths (lock_place i) (touches_joined d t a f.len order few low high) (omega arith)
              ∙ fields_apart lock_widths (lock_place i) (touches_ask d t (ask_fields a)) (omega arith)
              ∙ f.rows i h;
        }

  -- ---- leaving
  module _ (P : Paging ℕ) (i : ℕ) (there : i < length qs) where
    abbrev who : ℕ
    who = asker_in qs i

    abbrev rest : List (Queued ℕ ℕ)
    rest = leave (document P) who qs

    abbrev left : List ℕ
    left = queue_left d i

    in_order : InOrder d
    in_order = says_order fit f

    within : i < queued d
    within = omega (arith, says_queued fit f)

    leaver_is : in_place d i ≡ who
    leaver_is = f.places i (let l = fit.few in omega arith)

    queue_is : queue_of left ≡ rest
    queue_is =
        queue_left_lem d i f.len in_order within P (subst (λ ps. pairs (λ p q. not (eqb p.asker q.asker)) ps ≡ true) (sym (says_queue fit f)) fit.askers)
        ∙ ap (λ t. leave (document P) t (queue_of d)) leaver_is
        ∙ ap (leave (document P) who) (says_queue fit f)

    count_is : queued left ≡ length rest
    count_is = sym (length_queue left) ∙ ap length queue_is

    fewer : length rest ≡ length qs - 1
    fewer = omega (arith, sym count_is, count_left d i f.len in_order within, says_queued fit f)

    asker_read : (k : ℕ) → k < length rest → in_place left k ≡ asker_in rest k
    unfolding queue_of queued_at
    asker_read k h =
        ap (λ q. q.asker)
        (ap (queued_at left) (sym (zero-add k))
        ∙ sym (get_d_tab (queued left) 0 (queued_at left) k nobody (omega (arith, count_is)))
        ∙ ap (λ ps. get_or ps k nobody) queue_is)

    left_place : (k : ℕ) → k < transactions_most → in_place left k ≡ asker_in rest k
    left_place k h = go (dec_lt k (length rest)) (dec_lt (k + 1) transactions_most)
      where
        past : length rest ≤ k → 0 ≡ asker_in rest k
        past l = ap (λ q. q.asker) (sym (get_or-eq_default rest nobody {n = k} l))

        go : Dec (k < length rest) → Dec (k + 1 < transactions_most) → in_place left k ≡ asker_in rest k
        go (yes l) m = asker_read k l
        go (no l) (yes m) =
            place_behind d i f.len in_order within k (omega (arith, fewer)) m
            ∙ f.places (k + 1) m
            ∙ ap (λ q. q.asker) (get_or-eq_default qs nobody {n = k + 1} (omega (arith, fewer)))
            ∙ past (omega arith)
        go (no l) (no m) =
            let e : k ≡ transactions_most - 1 = omega arith in
            ap (in_place left) e ∙ place_last d i f.len in_order within ∙ past (omega arith)

    left_record : (s : ℕ) → 1 ≤ s → s ≤ transactions_most → record_at left s ≡ record_fields rest ms s
    unfolding leave
    left_record s l h = go (ℕ_discrete s who)
      where
        fields : Option (Queued ℕ ℕ) → List ℕ
        fields o = mark_number (get_or ms s idle) ∷ (waiting_fields o ++ (0 ∷ []))

        is : Queued ℕ ℕ → Bool
        is q = eqb q.asker who

        gone : first is rest ≡ none
        gone = first_none is rest (not-true (any is rest) (not_any is rest ∙ all_keep (λ q. not (is q)) qs))

        stays : s ≢ who → first (λ q. eqb q.asker s) rest ≡ first (λ q. eqb q.asker s) qs
        stays e =
            first_keep (λ q. eqb q.asker s) (λ q. not (is q)) qs
            (λ q z. ap not (ne_eqb q.asker who (λ w. e (sym (eqb-true q.asker s (first_passes (λ q. eqb q.asker s) qs q z)) ∙ w))))

        go : Dec (s ≡ who) → record_at left s ≡ record_fields rest ms s
        go (yes e) =
            let same : s ≡ in_place d i = e ∙ sym leaver_is in
            ap (record_at left) same
            ∙ record_left d i f.len in_order within
            ∙ ap (λ t. with_ask (0 ∷ 0 ∷ 0 ∷ 0 ∷ []) (record_at d t)) (sym same)
            ∙ with_ask_lem s (0 ∷ 0 ∷ 0 ∷ 0 ∷ []) l h
            ∙ ap fields (sym gone ∙ ap (λ t. first (λ q. eqb q.asker t) rest) (sym e))
        go (no e) =
            record_left_other d i f.len in_order within s l (λ z. e (z ∙ leaver_is))
            ∙ f.records s l h
            ∙ ap fields (sym (stays e))

    bytes_left : Bytes left
    unfolding queue_left put_ask
    bytes_left =
        let n = 2 * (transactions_most - 1 - i) in
        let l : i < transactions_most = let l = fit.few in omega arith in
        let cleared = put_ask d (in_place d i) (0 ∷ 0 ∷ 0 ∷ 0 ∷ []) in
        let size : length cleared ≡ desk_size = (touches_ask d (in_place d i) (0 ∷ 0 ∷ 0 ∷ 0 ∷ [])).len ∙ f.len in
        let clear : Bytes cleared = bytes_put_fields ask_widths d (record_place (in_place d i) + 2) (0 ∷ 0 ∷ 0 ∷ 0 ∷ []) f.bytes in
        let closed = moved n (queue_place (i + 1)) (queue_place i) cleared in
        let same = length_copied n cleared (queue_place (i + 1)) (queue_place i) cleared (omega arith) (omega arith) in
        bytes_put_number 2 (zeroed 2 (queue_place (transactions_most - 1)) closed) 4 (queued d - 1)
        (bytes_zeroed 2 (queue_place (transactions_most - 1)) closed (omega arith) (bytes_copied n cleared (queue_place (i + 1)) (queue_place i) cleared (omega arith) (omega arith) clear clear))

    pub says_left : Says left ls rest ms
    unfolding width_of
    says_left =
        let count : queued d - 1 ≡ length rest = omega (arith, fewer, says_queued fit f) in
        record {
          len = length_left d i f.len in_order within ∙ f.len;
          bytes = bytes_left;
          head = head_left d i f.len in_order within
              ∙ ap (λ vs. set vs 2 (queued d - 1)) f.head
              ∙ ap head_fields count;
          places = left_place;
          records = left_record;
          rows = λ k h.
              let most = in_order.to i within in
              fields_apart lock_widths (lock_place k) (touches_left d i f.len in_order within) (omega arith)
              ∙ fields_apart lock_widths (lock_place k) (touches_ask d (in_place d i) (0 ∷ 0 ∷ 0 ∷ 0 ∷ [])) (omega arith)
              ∙ f.rows k h;
        }
