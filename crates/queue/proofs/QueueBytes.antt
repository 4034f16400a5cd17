-- The bytes of the queue against the rule book's: a request that joins stands behind the others, one that leaves is left out.
-- By the laws of tables; another's request is not touched, since the askers are transactions and differ.
-- Assumes of the queue that its places hold transactions, and for leaving that no asker stands there twice (rules/specs/Good, Q).
use Prim.Native.Nat.{ℕ, zero, suc, ◌+◌, ◌-◌, ◌*◌, ◌≤◌, ◌<◌}
use mathlib.Core.Path.{◌≡◌, refl, sym, ap, ap₂, ◌∙◌}
use mathlib.Core.Logic.{◌≢◌}
use mathlib.Core.Bool.{Bool, true, false, cond, not}
use mathlib.Core.List.{List, [], ◌∷◌}
use native.Mathlib.Nat.{not-suc-le-zero, le_of_suc-le-suc, zero-add}
use native.Mathlib.Omega.{arith}
use borrow.Author.Tests.{eqb-true, eqb-false, eq-eqb, ne_eqb, lt-ltb, le-ltb, not-true}
use lib.Dec.{eqb, ltb}
use lib.ListN.{length, get_or, set}
use Rattle.std.specs.declared.option.Option.{Option}
use Rattle.std.specs.declared.option.Option.TheVariants.{Some, None}
use Rattle.std.specs.List.{find, range_with_len}
use Rattle.std.specs.Option.{option_map, unwrap_or}
use Rattle.limits.specs.Limits.{transactions_most, desk_head_size, records_place, desk_size}
use Rattle.lists.specs.Lists.{all, any, keep, pairs, place, tab, remove_at}
use Rattle.lists.proofs.Tests.{and_left, and_right, all_at, all_each, keep_all, not_any}
use Rattle.lists.proofs.Tables.{length_tab, get_d_tab, tab_remove}
use Rattle.lists.proofs.Scans.{place_any, place_passes}
use Rattle.numbers.specs.Numbers.{number_at, put_number, fields_at, moved, zeroed}
use Rattle.rows.specs.RowMoves as R
use Rattle.numbers.proofs.Agree.{Touches, agree_within, touches_wider, touches_then}
use Rattle.numbers.proofs.Numbers.{number_at_ext, number_same, touches_put_number}
use Rattle.numbers.proofs.ByteMoves.{touches_copied, agree_copied, touches_zeroed, agree_zeroed}
use Rattle.rules.specs.Kinds.{Paging, Ask, Queued}
use Rattle.rules.specs.Queue.{leave}
use Rattle.rules.specs.Good.{other_asker}
use Rattle.rules.specs.Document.{document}
use Rattle.queue.specs.QueueLayout.{head_widths, queued, queue_place, in_place, record_place, ask_at, ask_fields, put_ask, queued_at, queue_of, ask_size}
use Rattle.queue.specs.QueueMoves.{waits_in, queue_joined, queue_left}
use Rattle.queue.proofs.QueueOrder.{InOrder}
use Rattle.queue.proofs.Frames.{touches_ask, ask_beside, place_beside, head_beside, head_count}

pub length_queue : (d : List ℕ) → length (queue_of d) ≡ queued d
unfolding queue_of
length_queue d = length_tab (queued d) 0 (queued_at d)

-- ---- a request joins
module _ (d : List ℕ) (t : ℕ) (a : Ask ℕ ℕ) (size : length d ≡ desk_size) (order : InOrder d) (room : queued d < transactions_most)
    (low : 1 ≤ t) (high : t ≤ transactions_most) where
  abbrev pub asked : List ℕ
  asked = put_ask d t (ask_fields a)

  abbrev placed : List ℕ
  placed = put_number 2 asked (queue_place (queued d)) t

  abbrev touches_asked : Touches (record_place t + 2) ask_size d asked
  touches_asked = touches_ask d t (ask_fields a)

  abbrev touches_placed : Touches (queue_place (queued d)) 2 asked placed
  touches_placed = touches_put_number 2 asked (queue_place (queued d)) t

  touches_counted : Touches 4 2 placed (queue_joined d t a)
  unfolding queue_joined
  touches_counted = touches_put_number 2 placed 4 (queued d + 1)

  -- but for the request, the bytes between the kind and the records
  pub touches_joined : Touches 4 (records_place - 4) asked (queue_joined d t a)
  touches_joined =
      touches_then (touches_wider 4 (records_place - 4) (omega arith) (omega arith) touches_placed) (touches_wider 4 (records_place - 4) (omega arith) (omega arith) touches_counted)

  -- the places: the new one at the end, the others as they were
  pub place_joined : (i : ℕ) → i < transactions_most → i ≢ queued d → in_place (queue_joined d t a) i ≡ in_place d i
  place_joined i h e = place_beside touches_counted i (omega arith) ∙ place_beside touches_placed i (omega arith) ∙ place_beside touches_asked i (omega arith)

  pub last_joined : in_place (queue_joined d t a) (queued d) ≡ t
  last_joined =
      place_beside touches_counted (queued d) (omega arith) ∙ number_same 2 asked (queue_place (queued d)) t (omega arith) (omega (arith, touches_asked.len))

  pub head_joined : fields_at head_widths (queue_joined d t a) 0 ≡ set (fields_at head_widths d 0) 2 (queued d + 1)
  unfolding queue_joined
  head_joined =
      head_count placed (queued d + 1) (omega (arith, touches_placed.len, touches_asked.len)) (omega arith)
      ∙ ap (λ vs. set vs 2 (queued d + 1)) (head_beside touches_placed (omega arith) ∙ head_beside touches_asked (omega arith))

  pub length_joined : length (queue_joined d t a) ≡ length d
  length_joined = touches_joined.len ∙ touches_asked.len

-- ---- a request leaves
-- its record cleared, its place closed among all, and the count
pub queue_closed : (d d₁ d₂ d₃ : List ℕ) (q n t : ℕ) → n ≡ queued d → t ≡ in_place d q → d₁ ≡ put_ask d t (0 ∷ 0 ∷ 0 ∷ 0 ∷ [])
    → d₂ ≡ R.closed desk_head_size 2 q transactions_most d₁ → d₃ ≡ put_number 2 d₂ 4 (n - 1) → d₃ ≡ queue_left d q
unfolding queue_left
queue_closed d d₁ d₂ d₃ q n t a b c e f =
    let k : queue_place q + 2 ≡ queue_place (q + 1) = omega arith in
    rw (f, e, c, b, a, k)

-- where askers differ throughout, leaving out one place leaves out its asker
module _ (P : Paging ℕ) where
  abbrev apart : Queued ℕ ℕ → Queued ℕ ℕ → Bool
  apart = other_asker (document P)

  other_way : (p q : Queued ℕ ℕ) → apart p q ≡ true → apart q p ≡ true
  other_way p q e = ap not (ne_eqb q.asker p.asker (λ x. eqb-false p.asker q.asker (not-true (eqb p.asker q.asker) e) (sym x)))

  remove_leave : (qs : List (Queued ℕ ℕ)) (i : ℕ) (z : Queued ℕ ℕ) → pairs apart qs ≡ true → i < length qs
      → remove_at i qs ≡ leave (document P) (get_or qs i z).asker qs
  unfolding pairs leave keep remove_at
  remove_leave [] i z e h = absurd (not-suc-le-zero h)
  remove_leave (q ∷ qs) zero z e h =
      let front = and_left (all (apart q) qs) (pairs apart qs) e in
      let others : all (λ p. not (eqb p.asker q.asker)) qs ≡ true =
      all_each (λ p. not (eqb p.asker q.asker)) qs z (λ k l. other_way q (get_or qs k z) (all_at (apart q) qs k z front l)) in
      let own : eqb q.asker q.asker ≡ true = eq-eqb q.asker q.asker refl in
      rw own (sym (keep_all (λ p. not (eqb p.asker q.asker)) qs others))
  remove_leave (q ∷ qs) (suc i) z e h =
      let l : i < length qs = le_of_suc-le-suc h in
      let other : not (eqb q.asker (get_or qs i z).asker) ≡ true = all_at (apart q) qs i z (and_left (all (apart q) qs) (pairs apart qs) e) l in
      rw other (ap (λ r. q ∷ r) (remove_leave qs i z (and_right (all (apart q) qs) (pairs apart qs) e) l))

  pairs_at : (qs : List (Queued ℕ ℕ)) (i j : ℕ) (z : Queued ℕ ℕ) → pairs apart qs ≡ true → i < j → j < length qs → apart (get_or qs i z) (get_or qs j z) ≡ true
  unfolding pairs
  pairs_at [] i j z e h l = absurd (not-suc-le-zero l)
  pairs_at (q ∷ qs) i zero z e h l = absurd (not-suc-le-zero h)
  pairs_at (q ∷ qs) zero (suc j) z e h l = all_at (apart q) qs j z (and_left (all (apart q) qs) (pairs apart qs) e) (le_of_suc-le-suc l)
  pairs_at (q ∷ qs) (suc i) (suc j) z e h l =
      pairs_at qs i j z (and_right (all (apart q) qs) (pairs apart qs) e) (le_of_suc-le-suc h) (le_of_suc-le-suc l)

module _ (d : List ℕ) (q : ℕ) (size : length d ≡ desk_size) (order : InOrder d) (there : q < queued d) where
  abbrev pub leaver : ℕ
  leaver = in_place d q

  abbrev pub cleared : List ℕ
  cleared = put_ask d leaver (0 ∷ 0 ∷ 0 ∷ 0 ∷ [])

  abbrev closed : List ℕ
  closed = moved (2 * (transactions_most - 1 - q)) (queue_place (q + 1)) (queue_place q) cleared

  abbrev blanked : List ℕ
  blanked = zeroed 2 (queue_place (transactions_most - 1)) closed

  q_low : q < transactions_most
  q_low = let l = order.few in omega arith

  touches_cleared : Touches (record_place leaver + 2) ask_size d cleared
  touches_cleared = touches_ask d leaver (0 ∷ 0 ∷ 0 ∷ 0 ∷ [])

  touches_closed : Touches (queue_place q) (2 * (transactions_most - 1 - q)) cleared closed
  touches_closed =
      let l = q_low in
      let n = touches_cleared.len in
      touches_copied (2 * (transactions_most - 1 - q)) cleared (queue_place (q + 1)) (queue_place q) cleared (omega arith) (omega arith)

  touches_blanked : Touches (queue_place (transactions_most - 1)) 2 closed blanked
  touches_blanked = touches_zeroed 2 (queue_place (transactions_most - 1)) closed (omega (arith, touches_closed.len, touches_cleared.len))

  touches_recounted : Touches 4 2 blanked (queue_left d q)
  unfolding queue_left
  touches_recounted = touches_put_number 2 blanked 4 (queued d - 1)

  -- but for the request, the bytes between the kind and the records
  pub touches_left : Touches 4 (records_place - 4) cleared (queue_left d q)
  touches_left =
      let l = q_low in
      touches_then (touches_wider 4 (records_place - 4) (omega arith) (omega arith) touches_closed)
      (touches_then (touches_wider 4 (records_place - 4) (omega arith) (omega arith) touches_blanked) (touches_wider 4 (records_place - 4) (omega arith) (omega arith) touches_recounted))

  blanked_len : length blanked ≡ desk_size
  blanked_len = touches_blanked.len ∙ touches_closed.len ∙ touches_cleared.len ∙ size

  pub length_left : length (queue_left d q) ≡ length d
  length_left = touches_left.len ∙ touches_cleared.len

  pub count_left : queued (queue_left d q) ≡ queued d - 1
  unfolding queue_left
  count_left = let l = order.few in number_same 2 blanked 4 (queued d - 1) (omega arith) (omega (arith, blanked_len))

  -- the places: those ahead as they were, those behind moved up, and zero at the end
  pub place_ahead : (i : ℕ) → i < q → in_place (queue_left d q) i ≡ in_place d i
  place_ahead i h =
      let l = q_low in
      let n = order.from q there in
      place_beside touches_recounted i (omega arith)
      ∙ place_beside touches_blanked i (omega arith)
      ∙ place_beside touches_closed i (omega arith)
      ∙ place_beside touches_cleared i (omega arith)

  pub place_behind : (i : ℕ) → q ≤ i → i + 1 < transactions_most → in_place (queue_left d q) i ≡ in_place d (i + 1)
  place_behind i h k =
      let l = order.few in
      let n = order.from q there in
      let m = touches_cleared.len in
      let x : queue_place q + 2 * (i - q) ≡ queue_place i = omega arith in
      let y : queue_place (q + 1) + 2 * (i - q) ≡ queue_place (i + 1) = omega arith in
      let f = agree_copied (2 * (transactions_most - 1 - q)) cleared (queue_place (q + 1)) (queue_place q) cleared (omega arith) (omega arith) in
      let g = rw (x, y) at (agree_within (2 * (i - q)) 2 (omega arith) f) in
      place_beside touches_recounted i (omega arith)
      ∙ place_beside touches_blanked i (omega arith)
      ∙ number_at_ext 2 g
      ∙ place_beside touches_cleared (i + 1) (omega arith)

  pub place_last : in_place (queue_left d q) (transactions_most - 1) ≡ 0
  unfolding number_at
  place_last =
      place_beside touches_recounted (transactions_most - 1) (omega arith)
      ∙ number_at_ext 2 (agree_zeroed 2 (queue_place (transactions_most - 1)) closed (omega (arith, touches_closed.len, touches_cleared.len)))

  ask_left : (s : ℕ) → 1 ≤ s → s ≢ leaver → ask_at (queue_left d q) s ≡ ask_at d s
  ask_left s h e = ask_beside touches_left s (omega arith) ∙ ask_beside touches_cleared s (omega arith)

  pub head_left : fields_at head_widths (queue_left d q) 0 ≡ set (fields_at head_widths d 0) 2 (queued d - 1)
  unfolding queue_left
  head_left =
      let l = order.few in
      head_count blanked (queued d - 1) (omega (arith, blanked_len)) (omega arith)
      ∙ ap (λ vs. set vs 2 (queued d - 1))
      (head_beside touches_blanked (omega arith) ∙ head_beside touches_closed (omega arith) ∙ head_beside touches_cleared (omega arith))

  module _ (P : Paging ℕ) (differ : pairs (other_asker (document P)) (queue_of d) ≡ true) where
    at_place : (i : ℕ) → i < queued d → get_or (queue_of d) i (queued_at d q) ≡ queued_at d i
    unfolding queue_of
    at_place i h = get_d_tab (queued d) 0 (queued_at d) i (queued_at d q) h ∙ ap (queued_at d) (zero-add i)

    differ_at : (i j : ℕ) → i < j → j < queued d → in_place d i ≢ in_place d j
    unfolding queued_at
    differ_at i j h l =
        eqb-false (in_place d i) (in_place d j)
        (not-true (eqb (in_place d i) (in_place d j))
        (ap₂ (apart P) (sym (at_place i (omega arith))) (sym (at_place j l))
        ∙ pairs_at P (queue_of d) i j (queued_at d q) differ h (omega (arith, length_queue d))))

    same_queued : (i j : ℕ) → j < queued d → in_place (queue_left d q) i ≡ in_place d j → in_place d j ≢ leaver → queued_at (queue_left d q) i ≡ queued_at d j
    unfolding queued_at
    same_queued i j h e o =
        ap (λ s. record { asker = s; asks = ask_at (queue_left d q) s }) e
        ∙ ap (λ x. record { asker = in_place d j; asks = x }) (ask_left (in_place d j) (order.from j h) o)

    pub queue_left_lem : queue_of (queue_left d q) ≡ leave (document P) (in_place d q) (queue_of d)
    unfolding queue_of queued_at
    queue_left_lem =
        ap (λ n. tab n 0 (queued_at (queue_left d q))) count_left
        ∙ tab_remove (queued d) (queued_at d) (queued_at (queue_left d q)) q there
        (λ k h. same_queued k k (omega arith) (place_ahead k h) (differ_at k q h there))
        (λ k h l. same_queued k (k + 1) l (place_behind k h (let n = order.few in omega arith)) (λ e. differ_at q (k + 1) (omega arith) l (sym e)))
        ∙ remove_leave P (queue_of d) q (queued_at d q) differ (omega (arith, length_queue d))
        ∙ ap (λ x. leave (document P) x.asker (queue_of d)) (at_place q there)

-- ---- where a transaction's request stands: the first of the places that passes a test, or how many there are
module _ {A : Type 0} (p : A → Bool) (f : ℕ → A) where
  place_from : (n i : ℕ) → unwrap_or (find (λ k. p (f k)) (range_with_len i n)) (i + n) ≡ i + place p (tab n i f)
  unfolding tab place
  place_from zero i = refl
  place_from (suc n) i = go (p (f i)) (place_from n (i + 1))
    where
      later : Option ℕ
      later = find (λ k. p (f k)) (range_with_len (i + 1) n)

      go : (b : Bool) → unwrap_or later (i + 1 + n) ≡ i + 1 + place p (tab n (i + 1) f)
          → unwrap_or (cond b (Some i) later) (i + suc n) ≡ i + cond b 0 (suc (place p (tab n (i + 1) f)))
      go true r = omega arith
      go false r = let e : i + suc n ≡ i + 1 + n = omega arith in rw e (omega arith)

  pub place_found : (n : ℕ) (o : Option ℕ) (r : ℕ) → option_map (λ x. x) o ≡ find (λ k. p (f k)) (range_with_len 0 n) → r ≡ unwrap_or o n
      → r ≡ place p (tab n 0 f)
  place_found n None r e q = let h = rw (← e) at (place_from n 0) in omega arith
  place_found n (Some k) r e q = let h = rw (← e) at (place_from n 0) in omega arith

module _ (d : List ℕ) (t : ℕ) where
  pub waits_any : any (λ q. eqb q.asker t) (queue_of d) ≡ ltb (waits_in d t) (queued d)
  unfolding waits_in queue_of
  waits_any = place_any (λ q. eqb q.asker t) (queue_of d) ∙ ap (ltb (waits_in d t)) (length_queue d)

  pub waits_there : waits_in d t < queued d → in_place d (waits_in d t) ≡ t
  unfolding waits_in queue_of queued_at
  waits_there h =
      let q = place_passes (λ q. eqb q.asker t) (queue_of d) (queued_at d 0) (waits_any ∙ lt-ltb (waits_in d t) (queued d) h) in
      eqb-true (in_place d (waits_in d t)) t
      (sym (ap (λ x. eqb x.asker t) (get_d_tab (queued d) 0 (queued_at d) (waits_in d t) (queued_at d 0) h ∙ ap (queued_at d) (zero-add (waits_in d t)))) ∙ q)

  pub leave_none : (P : Paging ℕ) → queued d ≤ waits_in d t → leave (document P) t (queue_of d) ≡ queue_of d
  unfolding leave
  leave_none P h =
      keep_all (λ q. not (eqb q.asker t)) (queue_of d)
      (sym (not_any (λ q. eqb q.asker t) (queue_of d)) ∙ ap not (waits_any ∙ le-ltb (waits_in d t) (queued d) h))
