-- The slots of the lock table: each passes its test exactly where it is written as it is read and its holder, if it has one, runs.
-- By whether there is a holder. Assumes nothing.
use mathlib.Core.Path.{◌≡◌, refl, sym, ap, subst}
use mathlib.Core.Logic.{inl, inr}
use mathlib.Core.Bool.{Bool, true, false, cond, ◌&&◌, ◌||◌}
use mathlib.Core.List.{List, [], ◌∷◌}
use mathlib.Core.Option.{Option, none, some}
use Prim.Native.Nat.{ℕ, ◌+◌, ◌≤◌}
use native.Mathlib.Omega.{arith}
use borrow.Author.Tests.{eqb-true, eq-eqb, leb-true, le-leb, eqb-false, ne_eqb}
use lib.Dec.{eqb, leb}
use lib.ListN.{get_or}
use Rattle.limits.specs.Limits.{transactions_most, locks_most, key_size}
use Rattle.lists.specs.Lists.{tab, all, In}
use Rattle.lists.proofs.Tests.{both, and_both, or_left, or_right}
use Rattle.lists.proofs.Tables.{all_tab}
use Rattle.lists.proofs.Elements.{tab_in}
use Rattle.numbers.specs.Numbers.{number_at, fields_at}
use Rattle.rules.specs.Kinds.{Lock, S, X}
use Rattle.rules.specs.Locks.{in_use}
use Rattle.locks.specs.SlotLayout.{lock_widths, lock_place, name_in, mode_in, mode_number, slot_in, slot_fields, slot_at, slots_of}
use Rattle.queue.specs.QueueLayout.{is_running}
use Rattle.locks.proofs.SlotBack.{is_mode, is_row, slot_back}
use Rattle.judging_desk.specs.DeskChecks.{fields_ok, slot_ok}

-- the locks in use stand in slots
pub in_use_lem : (ls : List (Option (Lock ℕ))) (l : Lock ℕ) → In l (in_use ls) → In (some l) ls
unfolding in_use
in_use_lem [] l m = elim m [ ]
in_use_lem (none ∷ ls) l m = inr (in_use_lem ls l m)
in_use_lem (some x ∷ ls) l (inl e) = inl (ap some e)
in_use_lem (some x ∷ ls) l (inr m) = inr (in_use_lem ls l m)

pub use_in : (ls : List (Option (Lock ℕ))) (l : Lock ℕ) → In (some l) ls → In l (in_use ls)
unfolding in_use
use_in [] l x' = elim x' [ ]
use_in (none ∷ ls) l (inl e) = absurd (let z : ◌≡◌ {A = ℕ} 0 1 = cc in omega arith)
use_in (none ∷ ls) l (inr m) = use_in ls l m
use_in (some x ∷ ls) l (inl e) = let y : x ≡ l = cc in inl y
use_in (some x ∷ ls) l (inr m) = inr (use_in ls l m)

module _ (d : List ℕ) (k h m f : ℕ) where
  abbrev four : List ℕ
  four = k ∷ h ∷ m ∷ f ∷ []

  pub fields_row : fields_ok d k h m f ≡ true → is_row k h m f ≡ true
  fields_row = go (eqb h 0)
    where
      go : (b : Bool) → cond b ((eqb k 0 && eqb m 0) && eqb f 0) (leb h transactions_most && ((is_running d h && (eqb m 1 || eqb m 2)) && eqb f 0)) ≡ true
          → cond b (eqb k 0 && (eqb m 0 && eqb f 0)) (is_mode m && eqb f 0) ≡ true
      go true e =
          let a = both (eqb k 0 && eqb m 0) (eqb f 0) e in
          let b = both (eqb k 0) (eqb m 0) a.0 in
          and_both (eqb k 0) (eqb m 0 && eqb f 0) b.0 (and_both (eqb m 0) (eqb f 0) b.1 a.1)
      go false e =
          let a = both (leb h transactions_most) ((is_running d h && (eqb m 1 || eqb m 2)) && eqb f 0) e in
          let b = both (is_running d h && (eqb m 1 || eqb m 2)) (eqb f 0) a.1 in
          and_both (is_mode m) (eqb f 0) (both (is_running d h) (eqb m 1 || eqb m 2) b.0).1 b.1

  pub fields_runs : fields_ok d k h m f ≡ true → (h ≡ 0 → ⊥) → (h ≤ transactions_most) × (is_running d h ≡ true)
  fields_runs e z = go (eqb h 0) refl e
    where
      go : (b : Bool) → eqb h 0 ≡ b → cond b ((eqb k 0 && eqb m 0) && eqb f 0) (leb h transactions_most && ((is_running d h && (eqb m 1 || eqb m 2)) && eqb f 0)) ≡ true → (h ≤ transactions_most) × (is_running d h ≡ true)
      go true q e = absurd (z (eqb-true h 0 q))
      go false q e =
          let a = both (leb h transactions_most) ((is_running d h && (eqb m 1 || eqb m 2)) && eqb f 0) e in
          let b = both (is_running d h && (eqb m 1 || eqb m 2)) (eqb f 0) a.1 in
          (leb-true h transactions_most a.0, (both (is_running d h) (eqb m 1 || eqb m 2) b.0).0)

  mode_is : m ≡ mode_number (mode_in m) → (eqb m 1 || eqb m 2) ≡ true
  mode_is e = go (eqb m 2) refl e
    where
      go : (b : Bool) → eqb m 2 ≡ b → m ≡ mode_number (cond b X S) → (eqb m 1 || eqb m 2) ≡ true
      go true q e = or_right (eqb m 1) (eqb m 2) q
      go false q e = or_left (eqb m 1) (eqb m 2) (eq-eqb m 1 e)

  pub row_fields : four ≡ slot_fields (slot_in four) → ((h ≡ 0 → ⊥) → (h ≤ transactions_most) × (is_running d h ≡ true)) → fields_ok d k h m f ≡ true
  unfolding slot_fields slot_in
  row_fields e r = go (eqb h 0) refl e
    where
      go : (b : Bool) → eqb h 0 ≡ b → four ≡ slot_fields (cond b none (some (record { name = name_in k; holder = h; mode = mode_in m })))
          → cond b ((eqb k 0 && eqb m 0) && eqb f 0) (leb h transactions_most && ((is_running d h && (eqb m 1 || eqb m 2)) && eqb f 0)) ≡ true
      go true q e =
          and_both (eqb k 0 && eqb m 0) (eqb f 0)
          (and_both (eqb k 0) (eqb m 0) (eq-eqb k 0 (ap (λ vs. get_or vs 0 0) e)) (eq-eqb m 0 (ap (λ vs. get_or vs 2 0) e))) (eq-eqb f 0 (ap (λ vs. get_or vs 3 0) e))
      go false q e =
          let x = r (eqb-false h 0 q) in
          and_both (leb h transactions_most) ((is_running d h && (eqb m 1 || eqb m 2)) && eqb f 0) (le-leb h transactions_most x.0)
          (and_both (is_running d h && (eqb m 1 || eqb m 2)) (eqb f 0) (and_both (is_running d h) (eqb m 1 || eqb m 2) x.1 (mode_is (ap (λ vs. get_or vs 2 0) e))) (eq-eqb f 0 (ap (λ vs. get_or vs 3 0) e)))

  held_fields : (l : Lock ℕ) → slot_in four ≡ some l → (h ≡ 0 → ⊥) × (l.holder ≡ h)
  unfolding slot_in
  held_fields l e = go (eqb h 0) refl e
    where
      go : (b : Bool) → eqb h 0 ≡ b → cond b none (some (record { name = name_in k; holder = h; mode = mode_in m })) ≡ some l → (h ≡ 0 → ⊥) × (l.holder ≡ h)
      go true q e = absurd (let z : ◌≡◌ {A = ℕ} 0 1 = cc in omega arith)
      go false q e =
          let y : record { name = name_in k; holder = h; mode = mode_in m } ≡ l = cc in
          (eqb-false h 0 q, sym (ap (λ x. x.holder) y))

module _ (d : List ℕ) where
  abbrev at : ℕ → List ℕ
  at i = fields_at lock_widths d (lock_place i)

  pub slot_back_at : (i : ℕ) → slot_ok d i ≡ true → at i ≡ slot_fields (slot_at d i)
  unfolding slot_ok slot_at fields_at
  slot_back_at i e =
      sym (slot_back (number_at key_size d (lock_place i)) (number_at 2 d (lock_place i + key_size)) (number_at 2 d (lock_place i + key_size + 2)) (number_at 4 d (lock_place i + key_size + 2 + 2))
      (fields_row d (number_at key_size d (lock_place i)) (number_at 2 d (lock_place i + key_size)) (number_at 2 d (lock_place i + key_size + 2)) (number_at 4 d (lock_place i + key_size + 2 + 2)) e))

  pub slot_runs : (i : ℕ) (l : Lock ℕ) → slot_ok d i ≡ true → slot_at d i ≡ some l → (1 ≤ l.holder) × (l.holder ≤ transactions_most) × (is_running d l.holder ≡ true)
  unfolding slot_ok slot_at fields_at
  slot_runs i l e q =
      let a = held_fields d (number_at key_size d (lock_place i)) (number_at 2 d (lock_place i + key_size)) (number_at 2 d (lock_place i + key_size + 2)) (number_at 4 d (lock_place i + key_size + 2 + 2)) l q in
      let b = fields_runs d (number_at key_size d (lock_place i)) (number_at 2 d (lock_place i + key_size)) (number_at 2 d (lock_place i + key_size + 2)) (number_at 4 d (lock_place i + key_size + 2 + 2)) e a.0 in
      let z : number_at 2 d (lock_place i + key_size) ≡ 0 → ⊥ = a.0 in
      let c : l.holder ≡ number_at 2 d (lock_place i + key_size) = a.1 in
      let w : number_at 2 d (lock_place i + key_size) ≤ transactions_most = b.0 in
      (omega arith, omega arith, subst (λ x. is_running d x ≡ true) (sym c) b.1)

  pub slot_there_at : (i : ℕ) → at i ≡ slot_fields (slot_at d i) → ((l : Lock ℕ) → slot_at d i ≡ some l → (l.holder ≤ transactions_most) × (is_running d l.holder ≡ true)) → slot_ok d i ≡ true
  unfolding slot_ok slot_at fields_at slot_in
  slot_there_at i e r =
      row_fields d (number_at key_size d (lock_place i)) (number_at 2 d (lock_place i + key_size)) (number_at 2 d (lock_place i + key_size + 2)) (number_at 4 d (lock_place i + key_size + 2 + 2)) e
      (λ z. r (record { name = name_in (number_at key_size d (lock_place i)); holder = number_at 2 d (lock_place i + key_size); mode = mode_in (number_at 2 d (lock_place i + key_size + 2)) })
      (ap (λ b. cond b none (some (record { name = name_in (number_at key_size d (lock_place i)); holder = number_at 2 d (lock_place i + key_size); mode = mode_in (number_at 2 d (lock_place i + key_size + 2)) }))) (ne_eqb (number_at 2 d (lock_place i + key_size)) 0 z)))

  -- all of them
  pub slots_run : all (slot_ok d) (tab locks_most 0 (λ i. i)) ≡ true → (l : Lock ℕ) → In l (in_use (slots_of d)) → (1 ≤ l.holder) × (l.holder ≤ transactions_most) × (is_running d l.holder ≡ true)
  unfolding slots_of
  slots_run h l m =
      let x = tab_in locks_most 0 (slot_at d) (some l) (in_use_lem (slots_of d) l m) in
      slot_runs x.0 l (all_tab (slot_ok d) locks_most 0 (λ i. i) x.0 h x.1 x.2) x.3
