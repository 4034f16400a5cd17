-- The way back, from the rule book's locks to their numbers: reading undoes writing, and writing undoes reading where the numbers are in
-- order. Assumes nothing.
use Prim.Native.Nat.{ℕ}
use mathlib.Core.Path.{◌≡◌, refl, sym, ap, ap₂}
use mathlib.Core.Logic.{◌≢◌}
use mathlib.Core.Bool.{Bool, true, false, cond, ◌&&◌, ◌||◌, false≢true}
use mathlib.Core.List.{[], ◌∷◌}
use mathlib.Core.Option.{none, some}
use borrow.Author.Tests.{eqb-true, ne_eqb}
use lib.Dec.{eqb}
use Rattle.lists.proofs.Tests.{and_left, and_right}
use Rattle.rules.specs.Kinds.{Mode, S, X, on, end, Lock}
use Rattle.rules.specs.Document.{end_mark}
use Rattle.locks.specs.SlotLayout.{name_in, name_number, mode_in, mode_number, slot_in, slot_fields}
use Rattle.locks.proofs.LockValues.{name_back}

-- ---- names and modes
pub name_there : (k : ℕ) → k ≢ end_mark → name_in k ≡ on k
name_there k h = ap (λ b. cond b end (on k)) (ne_eqb k end_mark h)

pub mode_there : (m : Mode) → mode_in (mode_number m) ≡ m
mode_there S = refl
mode_there X = refl

abbrev pub is_mode : ℕ → Bool
is_mode v = eqb v 1 || eqb v 2

pub mode_back : (v : ℕ) → is_mode v ≡ true → mode_number (mode_in v) ≡ v
mode_back v e = go (eqb v 2) refl (eqb v 1) refl e
  where
    go : (x : Bool) → eqb v 2 ≡ x → (y : Bool) → eqb v 1 ≡ y → (y || x) ≡ true → mode_number (cond x X S) ≡ v
    go true p y q h = sym (eqb-true v 2 p)
    go false p true q h = sym (eqb-true v 1 q)
    go false p false q h = absurd (false≢true h)

-- ---- slots
pub slot_there : (l : Lock ℕ) → l.holder ≢ 0 → name_in (name_number l.name) ≡ l.name → slot_in (slot_fields (some l)) ≡ some l
unfolding slot_in slot_fields
slot_there l h e =
    rw (ne_eqb l.holder 0 h) (ap₂ (λ n m. some (record { name = n; holder = l.holder; mode = m })) e (mode_there l.mode))

-- a row in order: zero throughout, or a lock with its mode's number and no filler
abbrev pub is_row : ℕ → ℕ → ℕ → ℕ → Bool
is_row k h v z = cond (eqb h 0) (eqb k 0 && (eqb v 0 && eqb z 0)) (is_mode v && eqb z 0)

pub slot_back : (k h v z : ℕ) → is_row k h v z ≡ true → slot_fields (slot_in (k ∷ h ∷ v ∷ z ∷ [])) ≡ k ∷ h ∷ v ∷ z ∷ []
unfolding slot_in slot_fields
slot_back k h v z e = go (eqb h 0) refl e
  where
    go : (b : Bool) → eqb h 0 ≡ b → cond b (eqb k 0 && (eqb v 0 && eqb z 0)) (is_mode v && eqb z 0) ≡ true
        → slot_fields (cond b none (some (record { name = name_in k; holder = h; mode = mode_in v }))) ≡ k ∷ h ∷ v ∷ z ∷ []
    go true p q =
        let r = and_right (eqb k 0) (eqb v 0 && eqb z 0) q in
        let kz = eqb-true k 0 (and_left (eqb k 0) (eqb v 0 && eqb z 0) q) in
        let vz = eqb-true v 0 (and_left (eqb v 0) (eqb z 0) r) in
        let zz = eqb-true z 0 (and_right (eqb v 0) (eqb z 0) r) in
        rw (kz, eqb-true h 0 p, vz, zz)
    go false p q =
        let zz = eqb-true z 0 (and_right (is_mode v) (eqb z 0) q) in
        rw (name_back k, mode_back v (and_left (is_mode v) (eqb z 0) q), zz)
