-- Laws of a table of records in bytes: its rows lie apart from one another, and tell their bytes.
-- By the laws of tables and of records, with the place and the stride as variables. Assumes nothing.
use mathlib.Core.Path.{◌≡◌, sym, ap, ◌∙◌}
use mathlib.Core.Logic.{◌≢◌, ◌⊎◌, inl, inr}
use mathlib.Core.List.{List, []}
use Prim.Native.Nat.{ℕ, ◌+◌, ◌*◌, ◌/◌, ◌%◌, ◌≤◌, ◌<◌}
use native.Mathlib.Nat.{mul-le-mul_left, div-add-mod, mod-lt, div-lt_iff_lt-mul, zero-add, eq-zero-or-pos}
use native.Mathlib.Decide.{dec_lt}
use native.Mathlib.Omega.{arith}
use lib.ListN.{get_or}
use Rattle.lists.proofs.Tables.{get_d_tab}
use Rattle.numbers.specs.Numbers.{width_of, fields_at, rows, Apart, Bytes}
use Rattle.numbers.proofs.Agree.{Agree}
use Rattle.numbers.proofs.Fields.{fields_inj}

-- row i lies before the end of n rows, and two different rows lie apart
pub row_within : (z w i n : ℕ) → w ≤ z → i < n → z * i + w ≤ z * n
row_within z w i n h l = omega (arith, mul-le-mul_left z l)

pub rows_distinct : (z w base i j : ℕ) → w ≤ z → i ≢ j → Apart (base + z * i) w (base + z * j) w
rows_distinct z w base i j h e =
    elim (dec_lt i j) [ yes l ↦ omega (arith, row_within z w i j h l) | no l ↦ omega (arith, row_within z w j i h (omega arith)) ]

pub get_d_rows : (ws : List ℕ) (base z n : ℕ) (s : List ℕ) (i : ℕ) (d : List ℕ) → i < n → get_or (rows ws base z n s) i d ≡ fields_at ws s (base + z * i)
unfolding rows
get_d_rows ws base z n s i d h = get_d_tab n 0 (λ i. fields_at ws s (base + z * i)) i d h ∙ ap (λ k. fields_at ws s (base + z * k)) (zero-add i)

-- ---- rows with no filler left out tell their bytes
pub rows_inj : (ws : List ℕ) (z n : ℕ) {s t : List ℕ} {a b : ℕ} → width_of ws ≡ z → Bytes s → Bytes t → rows ws a z n s ≡ rows ws b z n t → Agree (z * n) s a t b
rows_inj ws z n {s} {t} {a} {b} w f g e = record { byte = λ k h. at k h (eq-zero-or-pos z) }
  where
    at : (k : ℕ) → k < z * n → (z ≡ 0) ⊎ (0 < z) → get_or s (a + k) 0 ≡ get_or t (b + k) 0
    at k h (inl q) = let l : k < 0 * n = rw q at h in absurd (omega arith)
    at k h (inr q) =
        let l : k / z < n = (div-lt_iff_lt-mul q).1 (omega arith) in
        let r : fields_at ws s (a + z * (k / z)) ≡ fields_at ws t (b + z * (k / z)) =
        sym (get_d_rows ws a z n s (k / z) [] l) ∙ ap (λ x. get_or x (k / z) []) e ∙ get_d_rows ws b z n t (k / z) [] l in
        let x : a + k ≡ a + z * (k / z) + k % z = omega (arith, div-add-mod k z) in
        let y : b + z * (k / z) + k % z ≡ b + k = omega (arith, div-add-mod k z) in
        ap (λ x. get_or s x 0) x ∙ (fields_inj ws f g r).byte (k % z) (omega (arith, mod-lt k q)) ∙ ap (λ x. get_or t x 0) y
