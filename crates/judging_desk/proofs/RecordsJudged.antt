-- A transaction's record passes its test exactly where it is written as it is read, and one that is in the queue runs with a legal request.
-- By whether the transaction is in the queue. Assumes nothing.
use mathlib.Core.Path.{◌≡◌, refl, sym, ap, ap₂, ◌∙◌}
use mathlib.Core.Logic.{◌⊎◌, inl, inr, ⊎_elim}
use mathlib.Core.Bool.{Bool, true, false, cond, not, ◌&&◌, ◌||◌, false≢true, true≢false}
use mathlib.Core.List.{List, [], ◌∷◌, ◌++◌}
use mathlib.Core.Option.{Option, none, some}
use Prim.Native.Nat.{ℕ, zero, suc, ◌+◌, ◌≤◌, ◌<◌}
use native.Mathlib.Decide.{dec_lt}
use native.Mathlib.Omega.{arith}
use borrow.Author.Tests.{eqb-true, eq-eqb, ne_eqb, eqb-false, leb-true, le-leb, not-true}
use lib.Dec.{eqb, leb, lit≤}
use lib.ListN.{get_or, get_or-eq_default}
use Rattle.limits.specs.Limits.{transactions_most, key_size}
use Rattle.lists.specs.Lists.{tab, first, times}
use Rattle.lists.proofs.Tests.{both, and_both, either, or_left, or_right}
use Rattle.lists.proofs.Tables.{get_d_tab}
use Rattle.numbers.specs.Numbers.{number_at, fields_at}
use Rattle.sets.specs.declared.Set.{Set}
use Rattle.rules.specs.Kinds.{Ask, read, insert, delete, Queued, Mark, idle, running}
use Rattle.rules.specs.Desk as D
use Rattle.rules.specs.Document.{document, endless}
use Rattle.queue.specs.QueueLayout.{record_place, record_at, mark_in, is_running, is_waiting, ask_by, ask_in, ask_at, ask_fields, queued, in_place, queue_of, marks_of}
use Rattle.queue.proofs.AskBack.{is_ask, ask_back}
use Rattle.queue.proofs.MarkBytes.{length_marks}
use Rattle.states.specs.States.{waiting_fields, mark_number}
use Rattle.judging_desk.specs.DeskChecks.{form_ok, plain_ok, listed, record_ok}
use Rattle.judging_desk.proofs.Queued.{first_none, first_own}

-- ---- marks
pub mark_at : (d : List ℕ) (t : ℕ) → 1 ≤ t → t ≤ transactions_most → get_or (marks_of d) t idle ≡ mark_in (number_at 2 d (record_place t))
unfolding marks_of
mark_at d zero h l = absurd (omega arith)
mark_at d (suc t) h l =
    let e : 1 + t ≡ suc t = omega arith in
    get_d_tab transactions_most 1 (λ k. mark_in (number_at 2 d (record_place k))) t idle (omega arith) ∙ ap (λ k. mark_in (number_at 2 d (record_place k))) e

pub mark_only : (d : List ℕ) (t : ℕ) → D.is_running (get_or (marks_of d) t idle) ≡ true → (1 ≤ t) × (t ≤ transactions_most)
unfolding marks_of
mark_only d zero h = absurd (false≢true h)
mark_only d (suc t) h =
    elim (dec_lt t transactions_most) [
      | yes l ↦ (omega arith, omega arith)
      | no l ↦ absurd (false≢true (sym (ap D.is_running (get_or-eq_default (marks_of d) idle {n = suc t} (omega (arith, length_marks d)))) ∙ h))
    ]

number_back : (r : ℕ) → leb r 1 ≡ true → mark_number (mark_in r) ≡ r
number_back zero h = refl
number_back (suc zero) h = refl
number_back (suc (suc r)) h = absurd (let l = leb-true (suc (suc r)) 1 h in omega arith)

number_small : (x : Mark) → mark_number x ≤ 1
number_small running = lit≤ tt
number_small idle = lit≤ tt

-- ---- requests by their four numbers
module _ (k r lo hi : ℕ) where
  abbrev none_part : Bool
  none_part = ((eqb k 0 && eqb r 0) && eqb lo 0) && eqb hi 0

  abbrev read_part : Bool
  read_part = eqb k 4 && eqb r 0

  abbrev insert_part : Bool
  insert_part = eqb k 5 && eqb hi 0

  abbrev delete_part : Bool
  delete_part = (eqb k 6 && eqb r 0) && eqb hi 0

  form_none : form_ok k r lo hi ≡ true → k ≡ 0 → (r ≡ 0) × (lo ≡ 0) × (hi ≡ 0)
  form_none h z =
      ⊎_elim
      (λ a. ⊎_elim
      (λ b. ⊎_elim
      (λ c.
      let x = both ((eqb k 0 && eqb r 0) && eqb lo 0) (eqb hi 0) c in
      let y = both (eqb k 0 && eqb r 0) (eqb lo 0) x.0 in
      (eqb-true r 0 (both (eqb k 0) (eqb r 0) y.0).1, eqb-true lo 0 y.1, eqb-true hi 0 x.1))
      (λ c. absurd (let q = eqb-true k 4 (both (eqb k 4) (eqb r 0) c).0 in omega arith)) (either none_part read_part b))
      (λ b. absurd (let q = eqb-true k 5 (both (eqb k 5) (eqb hi 0) b).0 in omega arith)) (either (none_part || read_part) insert_part a))
      (λ a. absurd (let q = eqb-true k 6 (both (eqb k 6) (eqb r 0) (both (eqb k 6 && eqb r 0) (eqb hi 0) a).0).0 in omega arith)) (either ((none_part || read_part) || insert_part) delete_part h)

  form_ask : form_ok k r lo hi ≡ true → (k ≡ 0 → ⊥) → is_ask k r hi ≡ true
  form_ask h z =
      ⊎_elim
      (λ a. ⊎_elim
      (λ b. ⊎_elim
      (λ c. absurd (z (eqb-true k 0 (both (eqb k 0) (eqb r 0) (both (eqb k 0 && eqb r 0) (eqb lo 0) (both ((eqb k 0 && eqb r 0) && eqb lo 0) (eqb hi 0) c).0).0).0)))
      (λ c. let x = both (eqb k 4) (eqb r 0) c in rw x.0 x.1) (either none_part read_part b))
      (λ b. let x = both (eqb k 5) (eqb hi 0) b in let q = eqb-true k 5 x.0 in rw q x.1) (either (none_part || read_part) insert_part a))
      (λ a.
      let x = both (eqb k 6 && eqb r 0) (eqb hi 0) a in
      let y = both (eqb k 6) (eqb r 0) x.0 in
      let q = eqb-true k 6 y.0 in
      rw q (and_both (eqb r 0) (eqb hi 0) y.1 x.1)) (either ((none_part || read_part) || insert_part) delete_part h)

  none_form : k ≡ 0 → r ≡ 0 → lo ≡ 0 → hi ≡ 0 → form_ok k r lo hi ≡ true
  none_form a b c e = rw (a, b, c, e) refl

  ask_form : ask_fields (ask_by k r lo hi) ≡ k ∷ r ∷ lo ∷ hi ∷ [] → (form_ok k r lo hi ≡ true) × (eqb k 0 ≡ false)
  unfolding ask_fields
  ask_form e = go (eqb k 4) refl (eqb k 5) refl e
    where
      go : (x : Bool) → eqb k 4 ≡ x → (y : Bool) → eqb k 5 ≡ y → ask_fields (cond x (read lo hi) (cond y (insert lo r) (delete lo))) ≡ k ∷ r ∷ lo ∷ hi ∷ [] → (form_ok k r lo hi ≡ true) × (eqb k 0 ≡ false)
      go true p y q e =
          let a : k ≡ 4 = eqb-true k 4 p in (
            or_left ((none_part || read_part) || insert_part) delete_part (or_left (none_part || read_part) insert_part (or_right none_part read_part (and_both (eqb k 4) (eqb r 0) p (eq-eqb r 0 (sym (ap (λ vs. get_or vs 1 0) e)))))),
            ne_eqb k 0 (λ z. omega arith),
          )
      go false p true q e =
          let a : k ≡ 5 = eqb-true k 5 q in (
            or_left ((none_part || read_part) || insert_part) delete_part (or_right (none_part || read_part) insert_part (and_both (eqb k 5) (eqb hi 0) q (eq-eqb hi 0 (sym (ap (λ vs. get_or vs 3 0) e))))),
            ne_eqb k 0 (λ z. omega arith),
          )
      go false p false q e =
          let a : k ≡ 6 = sym (ap (λ vs. get_or vs 0 0) e) in (
            or_right ((none_part || read_part) || insert_part) delete_part (and_both (eqb k 6 && eqb r 0) (eqb hi 0) (and_both (eqb k 6) (eqb r 0) (eq-eqb k 6 a) (eq-eqb r 0 (sym (ap (λ vs. get_or vs 1 0) e)))) (eq-eqb hi 0 (sym (ap (λ vs. get_or vs 3 0) e)))),
            ne_eqb k 0 (λ z. omega arith),
          )

fields_split : (a : Ask ℕ ℕ) (k r lo hi f : ℕ) → k ∷ r ∷ lo ∷ hi ∷ f ∷ [] ≡ ask_fields a ++ (0 ∷ []) → (ask_fields a ≡ k ∷ r ∷ lo ∷ hi ∷ []) × (f ≡ 0)
unfolding ask_fields
fields_split (read x y) k r lo hi f e = (cc, cc)
fields_split (insert x y) k r lo hi f e = (cc, cc)
fields_split (delete x) k r lo hi f e = (cc, cc)

-- ---- the record
module _ (d : List ℕ) (t : ℕ) (low : 1 ≤ t) (high : t ≤ transactions_most) where
  abbrev at : ℕ
  at = record_place t

  abbrev own : Option (Queued ℕ ℕ)
  own = first (λ q. eqb q.asker t) (queue_of d)

  abbrev told : List ℕ
  told = mark_number (get_or (marks_of d) t idle) ∷ (waiting_fields own ++ (0 ∷ []))

  own_none : times t (tab (queued d) 0 (in_place d)) ≡ 0 → own ≡ none
  unfolding queue_of
  own_none h = first_none d t (queued d) 0 h

  own_some : 0 < times t (tab (queued d) 0 (in_place d)) → own ≡ some (record { asker = t; asks = ask_at d t })
  unfolding queue_of
  own_some h = first_own d t (queued d) 0 h

  pub record_told : (m : Set) → record_ok d m t ≡ true → (listed m t ≡ true → 0 < times t (tab (queued d) 0 (in_place d))) → (listed m t ≡ false → times t (tab (queued d) 0 (in_place d)) ≡ 0)
      → record_at d t ≡ told
  unfolding record_ok plain_ok record_at fields_at ask_in
  record_told m h yes' no' =
      let a = both (plain_ok (record_at d t)) ((((listed m t && is_waiting d t) && is_running d t) && D.legal_ask (document endless) (ask_at d t)) || (not (listed m t) && not (is_waiting d t))) h in
      let b = both (leb (number_at 2 d at) 1 && form_ok (number_at 2 d (at + 2)) (number_at 4 d (at + 2 + 2)) (number_at key_size d (at + 2 + 2 + 4)) (number_at key_size d (at + 2 + 2 + 4 + key_size))) (eqb (number_at 8 d (at + 2 + 2 + 4 + key_size + key_size)) 0) a.0 in
      let c = both (leb (number_at 2 d at) 1) (form_ok (number_at 2 d (at + 2)) (number_at 4 d (at + 2 + 2)) (number_at key_size d (at + 2 + 2 + 4)) (number_at key_size d (at + 2 + 2 + 4 + key_size))) b.0 in
      let f : number_at 8 d (at + 2 + 2 + 4 + key_size + key_size) ≡ 0 = eqb-true (number_at 8 d (at + 2 + 2 + 4 + key_size + key_size)) 0 b.1 in
      let q : mark_number (get_or (marks_of d) t idle) ≡ number_at 2 d at = ap mark_number (mark_at d t low high) ∙ number_back (number_at 2 d at) c.0 in
      let w : waiting_fields own ≡ number_at 2 d (at + 2) ∷ number_at 4 d (at + 2 + 2) ∷ number_at key_size d (at + 2 + 2 + 4) ∷ number_at key_size d (at + 2 + 2 + 4 + key_size) ∷ [] =
      ⊎_elim
      (λ x.
      let y = both ((listed m t && is_waiting d t) && is_running d t) (D.legal_ask (document endless) (ask_at d t)) x in
      let z = both (listed m t) (is_waiting d t) (both (listed m t && is_waiting d t) (is_running d t) y.0).0 in
      let k : number_at 2 d (at + 2) ≡ 0 → ⊥ = eqb-false (number_at 2 d (at + 2)) 0 (not-true (eqb (number_at 2 d (at + 2)) 0) z.1) in
      ap waiting_fields (own_some (yes' z.0))
      ∙ ask_back (number_at 2 d (at + 2)) (number_at 4 d (at + 2 + 2)) (number_at key_size d (at + 2 + 2 + 4)) (number_at key_size d (at + 2 + 2 + 4 + key_size))
      (form_ask (number_at 2 d (at + 2)) (number_at 4 d (at + 2 + 2)) (number_at key_size d (at + 2 + 2 + 4)) (number_at key_size d (at + 2 + 2 + 4 + key_size)) c.1 k))
      (λ x.
      let y = both (not (listed m t)) (not (is_waiting d t)) x in
      let k : number_at 2 d (at + 2) ≡ 0 = eqb-true (number_at 2 d (at + 2)) 0 (twice (eqb (number_at 2 d (at + 2)) 0) y.1) in
      let z = form_none (number_at 2 d (at + 2)) (number_at 4 d (at + 2 + 2)) (number_at key_size d (at + 2 + 2 + 4)) (number_at key_size d (at + 2 + 2 + 4 + key_size)) c.1 k in
      ap waiting_fields (own_none (no' (not-true (listed m t) y.0)))
      ∙ rw (k, z.0, z.1, z.2) refl)
      (either (((listed m t && is_waiting d t) && is_running d t) && D.legal_ask (document endless) (ask_at d t)) (not (listed m t) && not (is_waiting d t)) a.1) in
      ap (λ z. number_at 2 d at ∷ number_at 2 d (at + 2) ∷ number_at 4 d (at + 2 + 2) ∷ number_at key_size d (at + 2 + 2 + 4) ∷ number_at key_size d (at + 2 + 2 + 4 + key_size) ∷ z ∷ []) f
      ∙ sym (ap₂ (λ x ys. x ∷ (ys ++ (0 ∷ []))) q w)
    where
      twice : (b : Bool) → not (not b) ≡ true → b ≡ true
      twice true h = refl
      twice false h = h

  pub record_stands : (m : Set) → record_ok d m t ≡ true → listed m t ≡ true → (is_running d t ≡ true) × (D.legal_ask (document endless) (ask_at d t) ≡ true)
  unfolding record_ok
  record_stands m h l =
      let a = both (plain_ok (record_at d t)) ((((listed m t && is_waiting d t) && is_running d t) && D.legal_ask (document endless) (ask_at d t)) || (not (listed m t) && not (is_waiting d t))) h in
      ⊎_elim
      (λ x.
      let y = both ((listed m t && is_waiting d t) && is_running d t) (D.legal_ask (document endless) (ask_at d t)) x in
      ((both (listed m t && is_waiting d t) (is_running d t) y.0).1, y.1))
      (λ x. absurd (true≢false (sym l ∙ not-true (listed m t) (both (not (listed m t)) (not (is_waiting d t)) x).0)))
      (either (((listed m t && is_waiting d t) && is_running d t) && D.legal_ask (document endless) (ask_at d t)) (not (listed m t) && not (is_waiting d t)) a.1)

  list_tail : (a b : ℕ) (xs ys : List ℕ) → a ∷ xs ≡ b ∷ ys → xs ≡ ys
  list_tail a b xs ys e = cc

  abbrev rest : List ℕ
  rest = number_at 2 d (at + 2) ∷ number_at 4 d (at + 2 + 2) ∷ number_at key_size d (at + 2 + 2 + 4) ∷ number_at key_size d (at + 2 + 2 + 4 + key_size) ∷ number_at 8 d (at + 2 + 2 + 4 + key_size + key_size) ∷ []

  told_rest : record_at d t ≡ told → rest ≡ waiting_fields own ++ (0 ∷ [])
  unfolding record_at fields_at
  told_rest e = list_tail (number_at 2 d at) (mark_number (get_or (marks_of d) t idle)) rest (waiting_fields own ++ (0 ∷ [])) e

  told_plain : record_at d t ≡ told → form_ok (number_at 2 d (at + 2)) (number_at 4 d (at + 2 + 2)) (number_at key_size d (at + 2 + 2 + 4)) (number_at key_size d (at + 2 + 2 + 4 + key_size)) ≡ true
      → number_at 8 d (at + 2 + 2 + 4 + key_size + key_size) ≡ 0 → plain_ok (record_at d t) ≡ true
  unfolding plain_ok record_at fields_at
  told_plain e f z =
      let r : number_at 2 d at ≡ mark_number (get_or (marks_of d) t idle) = ap (λ vs. get_or vs 0 0) e in
      and_both (leb (number_at 2 d at) 1 && form_ok (number_at 2 d (at + 2)) (number_at 4 d (at + 2 + 2)) (number_at key_size d (at + 2 + 2 + 4)) (number_at key_size d (at + 2 + 2 + 4 + key_size))) (eqb (number_at 8 d (at + 2 + 2 + 4 + key_size + key_size)) 0)
      (and_both (leb (number_at 2 d at) 1) (form_ok (number_at 2 d (at + 2)) (number_at 4 d (at + 2 + 2)) (number_at key_size d (at + 2 + 2 + 4)) (number_at key_size d (at + 2 + 2 + 4 + key_size)))
      (le-leb (number_at 2 d at) 1 (omega (arith, number_small (get_or (marks_of d) t idle)))) f) (eq-eqb (number_at 8 d (at + 2 + 2 + 4 + key_size + key_size)) 0 z)

  pub told_record : (m : Set) → record_at d t ≡ told
      → ((listed m t ≡ true) × (0 < times t (tab (queued d) 0 (in_place d))) × (is_running d t ≡ true) × (D.legal_ask (document endless) (ask_at d t) ≡ true))
      ⊎ ((listed m t ≡ false) × (times t (tab (queued d) 0 (in_place d)) ≡ 0)) → record_ok d m t ≡ true
  unfolding record_ok record_at fields_at ask_in
  told_record m e (inl x) =
      let y = fields_split (ask_at d t) (number_at 2 d (at + 2)) (number_at 4 d (at + 2 + 2)) (number_at key_size d (at + 2 + 2 + 4)) (number_at key_size d (at + 2 + 2 + 4 + key_size)) (number_at 8 d (at + 2 + 2 + 4 + key_size + key_size))
      (told_rest e ∙ ap (λ o. waiting_fields o ++ (0 ∷ [])) (own_some x.1)) in
      let f = ask_form (number_at 2 d (at + 2)) (number_at 4 d (at + 2 + 2)) (number_at key_size d (at + 2 + 2 + 4)) (number_at key_size d (at + 2 + 2 + 4 + key_size)) y.0 in
      and_both (plain_ok (record_at d t)) ((((listed m t && is_waiting d t) && is_running d t) && D.legal_ask (document endless) (ask_at d t)) || (not (listed m t) && not (is_waiting d t)))
      (told_plain e f.0 y.1)
      (or_left (((listed m t && is_waiting d t) && is_running d t) && D.legal_ask (document endless) (ask_at d t)) (not (listed m t) && not (is_waiting d t))
      (and_both ((listed m t && is_waiting d t) && is_running d t) (D.legal_ask (document endless) (ask_at d t))
      (and_both (listed m t && is_waiting d t) (is_running d t) (and_both (listed m t) (is_waiting d t) x.0 (ap not f.1)) x.2) x.3))
  told_record m e (inr x) =
      let z : rest ≡ 0 ∷ 0 ∷ 0 ∷ 0 ∷ 0 ∷ [] = told_rest e ∙ ap (λ o. waiting_fields o ++ (0 ∷ [])) (own_none x.1) in
      let k : number_at 2 d (at + 2) ≡ 0 = ap (λ vs. get_or vs 0 0) z in
      and_both (plain_ok (record_at d t)) ((((listed m t && is_waiting d t) && is_running d t) && D.legal_ask (document endless) (ask_at d t)) || (not (listed m t) && not (is_waiting d t)))
      (told_plain e (none_form (number_at 2 d (at + 2)) (number_at 4 d (at + 2 + 2)) (number_at key_size d (at + 2 + 2 + 4)) (number_at key_size d (at + 2 + 2 + 4 + key_size)) k (ap (λ vs. get_or vs 1 0) z) (ap (λ vs. get_or vs 2 0) z) (ap (λ vs. get_or vs 3 0) z)) (ap (λ vs. get_or vs 4 0) z))
      (or_right (((listed m t && is_waiting d t) && is_running d t) && D.legal_ask (document endless) (ask_at d t)) (not (listed m t) && not (is_waiting d t))
      (and_both (not (listed m t)) (not (is_waiting d t)) (ap not x.0) (ap (λ b. not (not b)) (eq-eqb (number_at 2 d (at + 2)) 0 k))))
