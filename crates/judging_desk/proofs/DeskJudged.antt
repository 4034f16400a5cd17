-- The desk passes its own test exactly where its bytes are those that its tables write, the queue is without repeats and of running ones
-- with legal requests, and every lock is held by one that runs. The askers are counted by the set that the code makes. Assumes nothing.
use mathlib.Core.Path.{◌≡◌, refl, sym, ap, subst, ◌∙◌}
use Rattle.std.specs.Prelude as Code
use mathlib.Core.Logic.{◌⊎◌, inl, inr}
use mathlib.Core.Bool.{Bool, true, false, not, ◌&&◌, false≢true}
use mathlib.Core.List.{List, [], ◌∷◌}
use Prim.Native.Nat.{ℕ, zero, suc, ◌+◌, ◌*◌, ◌-◌, ◌/◌, ◌%◌, ◌≤◌, ◌<◌}
use native.Mathlib.Decide.{dec_lt, ℕ_discrete}
use native.Mathlib.Omega.{arith}
use borrow.Author.Tests.{eqb-true, eq-eqb, leb-true, le-leb}
use lib.Dec.{eqb, leb, lit≤}
use lib.ListN.{length, get_or}
use Rattle.limits.specs.Limits.{transactions_most, locks_most, desk_head_size, queue_size, desk_size}
use Rattle.lists.specs.Lists.{tab, all, pairs, times, In}
use Rattle.lists.proofs.Tests.{both, and_both}
use Rattle.lists.proofs.Elements.{all_in, in_all, tab_in, in_tab}
use Rattle.lists.proofs.Tables.{all_tab, all_of_tab}
use Rattle.numbers.specs.Numbers.{number_at, width_of, fields_at, zero_at, Bytes}
use Rattle.numbers.proofs.Agree.{Agree, agree_within}
use Rattle.numbers.proofs.Numbers.{number_at_ext, number_none}
use Rattle.numbers.proofs.ByteMoves.{zero_at_true, zero_at_is}
use Rattle.numbers.proofs.Fields.{fields_inj, fields_none}
use Rattle.numbers.proofs.BytesKept.{bytes_none}
use Rattle.sets.specs.declared.Set.{Set}
use Rattle.sets.proofs.Sets.{times_in, times_of_has, has_of_times, in_once, alone_one, alone_none}
use Rattle.rules.specs.Kinds.{Lock, Queued, Ask, read, insert, delete, idle}
use Rattle.rules.specs.Locks.{in_use}
use Rattle.rules.specs.Desk as D
use Rattle.rules.specs.Document.{document, endless}
use Rattle.queue.specs.QueueLayout.{head_widths, is_running, ask_at, queued, in_place, queued_at, queue_of, marks_of}
use Rattle.locks.specs.SlotLayout.{slot_at, slots_of}
use Rattle.queue.proofs.MarkBytes.{running_is}
use Rattle.queue.proofs.QueueBytes.{length_queue}
use Rattle.judging_pages.specs.Walks.{only_zero, marks}
use Rattle.judging_pages.proofs.PagesMarked.{marks_went, marks_used, marks_go}
use Rattle.states.specs.States.{book, desk_with}
use Rattle.states.specs.Fitting.{Fitting}
use Rattle.states.proofs.Itself.{reads_desk, itself_reads}
use Rattle.judging_desk.specs.DeskChecks.{head_ok, askers_in, listed, record_ok, records_ok, slot_ok, desk_ok}
use Rattle.judging_desk.proofs.SlotsJudged.{use_in, slot_back_at, slot_there_at, slots_run}
use Rattle.judging_desk.proofs.Queued.{there_counts, counts_there, apart_once, once_apart}
use Rattle.judging_desk.proofs.RecordsJudged.{mark_only, record_told, record_stands, told_record}

-- a request in the queue: its asker runs, and it is legal
abbrev pub stands : List ℕ → Queued ℕ ℕ → Bool
stands d q = D.is_running (get_or (marks_of d) q.asker idle) && D.legal_ask book q.asks

pub record DeskGood (d : List ℕ) : Type 0 where
  pub laid : d ≡ desk_with (slots_of d) (queue_of d) (marks_of d)
  pub queue : all (stands d) (queue_of d) ≡ true
  pub askers : pairs (λ p q. not (eqb p.asker q.asker)) (queue_of d) ≡ true
  pub holders : (l : Lock ℕ) → In l (in_use (slots_of d)) → D.is_running (get_or (marks_of d) l.holder idle) ≡ true

-- what is legal goes by the keys alone
pub legal_same : (a : Ask ℕ ℕ) → D.legal_ask book a ≡ D.legal_ask (document endless) a
unfolding D.legal_ask
legal_same (read lo hi) = refl
legal_same (insert k r) = refl
legal_same (delete k) = refl

-- ---- the head
module _ (d : List ℕ) where
  head_front : head_ok d ≡ true → (number_at 2 d 0 ≡ desk_size) × (number_at 2 d 2 ≡ 8) × (queued d ≤ transactions_most) × (zero_at (desk_head_size - 6) 6 d ≡ true) × (zero_at (queue_size - 2 * queued d) (desk_head_size + 2 * queued d) d ≡ true)
  unfolding head_ok
  head_front h =
      let a = both (((eqb (number_at 2 d 0) desk_size && eqb (number_at 2 d 2) 8) && leb (queued d) transactions_most) && zero_at (desk_head_size - 6) 6 d) (zero_at (queue_size - 2 * queued d) (desk_head_size + 2 * queued d) d) h in
      let b = both ((eqb (number_at 2 d 0) desk_size && eqb (number_at 2 d 2) 8) && leb (queued d) transactions_most) (zero_at (desk_head_size - 6) 6 d) a.0 in
      let c = both (eqb (number_at 2 d 0) desk_size && eqb (number_at 2 d 2) 8) (leb (queued d) transactions_most) b.0 in
      let e = both (eqb (number_at 2 d 0) desk_size) (eqb (number_at 2 d 2) 8) c.0 in
      (eqb-true (number_at 2 d 0) desk_size e.0, eqb-true (number_at 2 d 2) 8 e.1, leb-true (queued d) transactions_most c.1, b.1, a.1)

  front_head : number_at 2 d 0 ≡ desk_size → number_at 2 d 2 ≡ 8 → queued d ≤ transactions_most → zero_at (desk_head_size - 6) 6 d ≡ true → zero_at (queue_size - 2 * queued d) (desk_head_size + 2 * queued d) d ≡ true → head_ok d ≡ true
  unfolding head_ok
  front_head a b c z y =
      and_both (((eqb (number_at 2 d 0) desk_size && eqb (number_at 2 d 2) 8) && leb (queued d) transactions_most) && zero_at (desk_head_size - 6) 6 d) (zero_at (queue_size - 2 * queued d) (desk_head_size + 2 * queued d) d)
      (and_both ((eqb (number_at 2 d 0) desk_size && eqb (number_at 2 d 2) 8) && leb (queued d) transactions_most) (zero_at (desk_head_size - 6) 6 d)
      (and_both (eqb (number_at 2 d 0) desk_size && eqb (number_at 2 d 2) 8) (leb (queued d) transactions_most)
      (and_both (eqb (number_at 2 d 0) desk_size) (eqb (number_at 2 d 2) 8) (eq-eqb (number_at 2 d 0) desk_size a) (eq-eqb (number_at 2 d 2) 8 b)) (le-leb (queued d) transactions_most c)) z) y

  zero_field : (w i : ℕ) → i + w ≤ desk_head_size - 6 → Agree (desk_head_size - 6) d 6 [] 0 → number_at w d (6 + i) ≡ 0
  zero_field w i h a = number_at_ext w (agree_within i w h a) ∙ number_none w (0 + i)

  -- the places of the queue that are not used
  spare_zero : Agree (queue_size - 2 * queued d) d (desk_head_size + 2 * queued d) [] 0 → (i : ℕ) → queued d ≤ i → i < transactions_most → in_place d i ≡ 0
  spare_zero a i l h =
      let e : desk_head_size + 2 * queued d + 2 * (i - queued d) ≡ desk_head_size + 2 * i = omega arith in
      ap (number_at 2 d) (sym e) ∙ number_at_ext 2 (agree_within (2 * (i - queued d)) 2 (omega arith) a) ∙ number_none 2 (0 + 2 * (i - queued d))

  zero_spare : Bytes d → ((i : ℕ) → queued d ≤ i → i < transactions_most → in_place d i ≡ 0) → Agree (queue_size - 2 * queued d) d (desk_head_size + 2 * queued d) [] 0
  unfolding fields_at width_of
  zero_spare g z =
      record {
        byte = λ k h.
            let i = queued d + k / 2 in
            let a : Agree 2 d (desk_head_size + 2 * i) [] 0 = fields_inj (2 ∷ []) g bytes_none (ap (λ v. v ∷ []) (z i (omega arith) (omega arith) ∙ sym (number_none 2 0))) in
            let e : desk_head_size + 2 * queued d + k ≡ desk_head_size + 2 * i + k % 2 = omega arith in
            ap (λ x. get_or d x 0) e ∙ a.byte (k % 2) (omega arith);
      }

module _ (d : List ℕ) (g : Bytes d) (size : length d ≡ desk_size) where
  abbrev queue : List ℕ
  queue = tab (queued d) 0 (in_place d)

  went : (w : Code.Option Set) → records_ok d w ≡ true → (m : Set) × (w ≡ Code.Some m) × (all (record_ok d m) (tab transactions_most 1 (λ t. t)) ≡ true)
  went (Code.Some m) h = (m, refl, h)
  went Code.None h = absurd (false≢true h)

  head_fields : number_at 2 d 0 ≡ desk_size → number_at 2 d 2 ≡ 8 → Agree (desk_head_size - 6) d 6 [] 0 → fields_at head_widths d 0 ≡ desk_size ∷ 8 ∷ queued d ∷ 0 ∷ 0 ∷ 0 ∷ 0 ∷ []
  unfolding fields_at
  head_fields a b z =
      rw (a, b, zero_field d 2 0 (lit≤ tt) z, zero_field d 8 2 (lit≤ tt) z, zero_field d 8 10 (lit≤ tt) z, zero_field d 8 18 (lit≤ tt) z) refl

  stands_at : (i : ℕ) → D.is_running (get_or (marks_of d) (in_place d i) idle) ≡ true → D.legal_ask book (ask_at d (in_place d i)) ≡ true → stands d (queued_at d i) ≡ true
  unfolding queued_at
  stands_at i a b = and_both (D.is_running (get_or (marks_of d) (in_place d i) idle)) (D.legal_ask book (ask_at d (in_place d i))) a b

  -- whoever is in the set is a transaction in the queue
  module _ (m : Set) (w : marks (transactions_most + 1) (tab (queued d) 0 (in_place d)) only_zero ≡ Code.Some m) where
    set_times : (t : ℕ) → 1 ≤ t → times_in t m ≡ times t queue
    set_times t h = let a = marks_went (transactions_most + 1) queue only_zero m w t in let b = alone_none 0 t (λ e. omega arith) in omega arith

    nobody_waits : times 0 queue ≡ 0
    nobody_waits = let a = marks_went (transactions_most + 1) queue only_zero m w 0 in let b = alone_one 0 0 refl in omega (arith, in_once m 0)

    listed_there : (t : ℕ) → 1 ≤ t → listed m t ≡ true → 0 < times t queue
    listed_there t h e = let a = set_times t h in let b = times_of_has m t true e in omega arith

    there_listed : (t : ℕ) → 1 ≤ t → 0 < times t queue → listed m t ≡ true
    there_listed t h l = let a = set_times t h in has_of_times m t true (omega (arith, in_once m t))

    unlisted_none : (t : ℕ) → 1 ≤ t → listed m t ≡ false → times t queue ≡ 0
    unlisted_none t h e = sym (set_times t h) ∙ times_of_has m t false e

    none_unlisted : (t : ℕ) → 1 ≤ t → times t queue ≡ 0 → listed m t ≡ false
    none_unlisted t h e = has_of_times m t false (set_times t h ∙ e)

    asker_range : (t : ℕ) → 0 < times t queue → (1 ≤ t) × (t ≤ transactions_most)
    asker_range t h = (
      elim (ℕ_discrete t 0) [ yes e ↦ absurd (let z : times t queue ≡ 0 = subst (λ x. times x queue ≡ 0) (sym e) nobody_waits in omega arith) | no e ↦ omega arith ],
      elim (dec_lt t (transactions_most + 1)) [ yes l ↦ omega arith | no l ↦ absurd (let z = marks_used (transactions_most + 1) queue only_zero m w t (omega arith) in omega arith) ],
    )

  pub desk_sound : desk_ok d ≡ true → DeskGood d
  unfolding desk_ok askers_in queue_of
  desk_sound h =
      let a = both (head_ok d && records_ok d (askers_in d)) (all (slot_ok d) (tab locks_most 0 (λ i. i))) h in
      let b = both (head_ok d) (records_ok d (askers_in d)) a.0 in
      let f = head_front d b.0 in
      let w = went (askers_in d) b.1 in
      let each : (t : ℕ) → 1 ≤ t → t ≤ transactions_most → record_ok d w.0 t ≡ true = (λ t x y. all_tab (record_ok d w.0) transactions_most 1 (λ t. t) t w.2 x (omega arith)) in
      let z = zero_at_true (desk_head_size - 6) 6 d f.3 (omega arith) in
      let few : queued d ≤ transactions_most = f.2 in
      let y = zero_at_true (queue_size - 2 * queued d) (desk_head_size + 2 * queued d) d f.4 (omega arith) in
      record {
        laid = reads_desk d size g few
            (record {
              head = fields f z;
              spare = spare_zero d y;
              records = λ t x u. record_told d t x u w.0 (each t x u) (listed_there w.0 w.1 t x) (unlisted_none w.0 w.1 t x);
              rows = λ i l. slot_back_at d i (all_tab (slot_ok d) locks_most 0 (λ i. i) i a.1 (omega arith) (omega arith));
            });
        queue = in_all (stands d) (tab (queued d) 0 (queued_at d))
            (λ q n.
            let x = tab_in (queued d) 0 (queued_at d) q n in
            subst (λ v. stands d v ≡ true) x.3 (one x.0 x.1 x.2 w.0 w.1 each));
        askers = once_apart d (queued d) 0 (λ q. once w.0 w.1 q (ℕ_discrete q 0));
        holders = λ l n.
            let x = slots_run d a.1 l n in
            running_is d l.holder x.0 x.1 ∙ x.2;
      }
    where
      fields : (number_at 2 d 0 ≡ desk_size) × (number_at 2 d 2 ≡ 8) × (queued d ≤ transactions_most) × (zero_at (desk_head_size - 6) 6 d ≡ true) × (zero_at (queue_size - 2 * queued d) (desk_head_size + 2 * queued d) d ≡ true) → Agree (desk_head_size - 6) d 6 [] 0
          → fields_at head_widths d 0 ≡ desk_size ∷ 8 ∷ queued d ∷ 0 ∷ 0 ∷ 0 ∷ 0 ∷ []
      fields f z = head_fields f.0 f.1 z

      one : (i : ℕ) → 0 ≤ i → i < 0 + queued d → (m : Set) → marks (transactions_most + 1) (tab (queued d) 0 (in_place d)) only_zero ≡ Code.Some m → ((t : ℕ) → 1 ≤ t → t ≤ transactions_most → record_ok d m t ≡ true) → stands d (queued_at d i) ≡ true
      one i a b m w each =
          let c = there_counts d (queued d) 0 i a b in
          let r = asker_range m w (in_place d i) c in
          let e = record_stands d (in_place d i) r.0 r.1 m (each (in_place d i) r.0 r.1) (there_listed m w (in_place d i) r.0 c) in
          stands_at i (running_is d (in_place d i) r.0 r.1 ∙ e.0) (legal_same (ask_at d (in_place d i)) ∙ e.1)

      once : (m : Set) → marks (transactions_most + 1) (tab (queued d) 0 (in_place d)) only_zero ≡ Code.Some m → (q : ℕ) → Dec (q ≡ 0) → times q (tab (queued d) 0 (in_place d)) ≤ 1
      once m w q (yes e) = let z : times q queue ≡ 0 = subst (λ x. times x queue ≡ 0) (sym e) (nobody_waits m w) in omega arith
      once m w q (no e) = let a = set_times m w q (omega arith) in omega (arith, in_once m q)

  fields_head : fields_at head_widths d 0 ≡ desk_size ∷ 8 ∷ queued d ∷ 0 ∷ 0 ∷ 0 ∷ 0 ∷ [] → (number_at 2 d 0 ≡ desk_size) × (number_at 2 d 2 ≡ 8) × Agree (desk_head_size - 6) d 6 [] 0
  unfolding fields_at width_of
  fields_head e =
      let z : fields_at (2 ∷ 8 ∷ 8 ∷ 8 ∷ []) d 6 ≡ fields_at (2 ∷ 8 ∷ 8 ∷ 8 ∷ []) [] 0 = cc (fields_none (2 ∷ 8 ∷ 8 ∷ 8 ∷ []) 0) in
      (ap (λ vs. get_or vs 0 0) e, ap (λ vs. get_or vs 1 0) e, fields_inj (2 ∷ 8 ∷ 8 ∷ 8 ∷ []) g bytes_none z)

  pub desk_complete : Fitting (slots_of d) (queue_of d) (marks_of d) → DeskGood d → desk_ok d ≡ true
  unfolding desk_ok askers_in queue_of slots_of
  desk_complete fit k =
      let f = itself_reads d k.laid fit in
      let few : queued d ≤ transactions_most = omega (arith, fit.few, length_queue d) in
      let h = fields_head f.head in
      let own : (t : ℕ) → 0 < times t queue → (D.is_running (get_or (marks_of d) t idle) ≡ true) × (D.legal_ask book (ask_at d t) ≡ true) =
      (λ t l. both (D.is_running (get_or (marks_of d) t idle)) (D.legal_ask book (ask_at d t)) (all_in (stands d) (tab (queued d) 0 (queued_at d)) (record { asker = t; asks = ask_at d t }) k.queue (counts_there d t (queued d) 0 l))) in
      let one = apart_once d (queued d) 0 k.askers in
      let w = marks_go (transactions_most + 1) queue only_zero
      (λ q l. let r = mark_only d q (own q l).0 in let s = r.1 in omega arith)
      (λ q. elim (ℕ_discrete q 0) [
        | yes e ↦ elim (ℕ_discrete (times q queue) 0) [
          | yes z ↦ let b = alone_one 0 q (sym e) in omega arith
          | no z ↦ absurd (let r = mark_only d q (own q (omega arith)).0 in let s = r.0 in omega arith)
        ]
        | no e ↦ let b = alone_none 0 q (λ z. e (sym z)) in omega (arith, one q)
      ]) in
      and_both (head_ok d && records_ok d (askers_in d)) (all (slot_ok d) (tab locks_most 0 (λ i. i)))
      (and_both (head_ok d) (records_ok d (askers_in d))
      (front_head d h.0 h.1 few (zero_at_is (desk_head_size - 6) 6 d (omega arith) h.2)
      (zero_at_is (queue_size - 2 * queued d) (desk_head_size + 2 * queued d) d (omega arith) (zero_spare d g f.spare)))
      (ap (records_ok d) w.1
      ∙ all_of_tab (record_ok d w.0) transactions_most 1 (λ t. t)
      (λ t a b. told_record d t a (omega arith) w.0 (f.records t a (omega arith)) (way w.0 w.1 t a (omega arith) own (times t queue) refl))))
      (all_of_tab (slot_ok d) locks_most 0 (λ i. i)
      (λ i a b. slot_there_at d i (f.rows i (omega arith))
      (λ l e.
      let r = k.holders l (use_in (slots_of d) l (subst (λ x. In x (slots_of d)) e (in_tab locks_most 0 (slot_at d) i a b))) in
      let m = mark_only d l.holder r in
      (m.1, sym (running_is d l.holder m.0 m.1) ∙ r))))
    where
      way : (m : Set) → marks (transactions_most + 1) (tab (queued d) 0 (in_place d)) only_zero ≡ Code.Some m → (t : ℕ) → 1 ≤ t → t ≤ transactions_most
          → ((t : ℕ) → 0 < times t (tab (queued d) 0 (in_place d)) → (D.is_running (get_or (marks_of d) t idle) ≡ true) × (D.legal_ask book (ask_at d t) ≡ true))
          → (n : ℕ) → times t (tab (queued d) 0 (in_place d)) ≡ n
          → ((listed m t ≡ true) × (0 < times t (tab (queued d) 0 (in_place d))) × (is_running d t ≡ true) × (D.legal_ask (document endless) (ask_at d t) ≡ true))
          ⊎ ((listed m t ≡ false) × (times t (tab (queued d) 0 (in_place d)) ≡ 0))
      way m w t a b own zero e = inr (none_unlisted m w t a e, e)
      way m w t a b own (suc n) e =
          let l : 0 < times t queue = omega arith in
          let r = own t l in
          inl (there_listed m w t a l, l, sym (running_is d t a b) ∙ r.0, sym (legal_same (ask_at d t)) ∙ r.1)
