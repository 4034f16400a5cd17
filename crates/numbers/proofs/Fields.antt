-- Laws of a record in bytes, a list of widths with a number for each: the laws of numbers, once for every list of widths.
-- Each by induction on the widths. Assumes nothing.
use mathlib.Core.Path.{◌≡◌, refl, ap₂, ◌∙◌}
use mathlib.Core.List.{List, [], ◌∷◌}
use Prim.Native.Nat.{ℕ, ◌+◌, ◌≤◌}
use native.Mathlib.Nat.{not-suc-le-zero}
use native.Mathlib.Omega.{arith}
use lib.ListN.{length, replicate}
use Rattle.numbers.specs.Numbers.{number_at, put_number, width_of, fields_at, put_fields, Fits, Apart, Bytes}
use Rattle.numbers.proofs.Agree.{Agree, Touches, agree_within, agree_front, agree_join, untouched, touches_wider, touches_then}
use Rattle.numbers.proofs.Numbers.{number_at_ext, number_none, length_put_number, touches_put_number, number_same, number_apart, number_below, numbers_inj}

pub fields_at_ext : (ws : List ℕ) {s t : List ℕ} {a b : ℕ} → Agree (width_of ws) s a t b → fields_at ws s a ≡ fields_at ws t b
unfolding fields_at width_of
fields_at_ext [] g = refl
fields_at_ext (w ∷ ws) g =
    ap₂ (λ v vs. v ∷ vs) (number_at_ext w (agree_front w (omega arith) g)) (fields_at_ext ws (agree_within w (width_of ws) (omega arith) g))

-- ---- what is written
pub touches_put_fields : (ws s : List ℕ) (at : ℕ) (vs : List ℕ) → Touches at (width_of ws) s (put_fields ws s at vs)
unfolding put_fields width_of
touches_put_fields [] s at vs = record { len = refl; rest = λ k h. refl }
touches_put_fields (w ∷ ws) s at [] =
    touches_then (touches_wider at (w + width_of ws) (omega arith) (omega arith) (touches_put_number w s at 0))
    (touches_wider at (w + width_of ws) (omega arith) (omega arith) (touches_put_fields ws (put_number w s at 0) (at + w) []))
touches_put_fields (w ∷ ws) s at (v ∷ vs) =
    touches_then (touches_wider at (w + width_of ws) (omega arith) (omega arith) (touches_put_number w s at v))
    (touches_wider at (w + width_of ws) (omega arith) (omega arith) (touches_put_fields ws (put_number w s at v) (at + w) vs))

pub length_put_fields : (ws s : List ℕ) (at : ℕ) (vs : List ℕ) → length (put_fields ws s at vs) ≡ length s
length_put_fields ws s at vs = (touches_put_fields ws s at vs).len

-- ---- a record is read back as it was written, and a write beside it leaves it
pub fields_same : (ws s : List ℕ) (at : ℕ) (vs : List ℕ) → Fits ws vs → at + width_of ws ≤ length s → fields_at ws (put_fields ws s at vs) at ≡ vs
unfolding fields_at put_fields width_of
fields_same [] s at [] f h = refl
fields_same [] s at (v ∷ vs) f h = absurd f
fields_same (w ∷ ws) s at [] f h = absurd f
fields_same (w ∷ ws) s at (v ∷ vs) f h =
    ap₂ (λ x xs. x ∷ xs)
    (number_apart w at (touches_put_fields ws (put_number w s at v) (at + w) vs) (omega arith) ∙ number_same w s at v f.0 (omega arith))
    (fields_same ws (put_number w s at v) (at + w) vs f.1 (omega (arith, length_put_number w s at v)))

pub fields_apart : (ws : List ℕ) (a : ℕ) {b m : ℕ} {s t : List ℕ} → Touches b m s t → Apart a (width_of ws) b m → fields_at ws t a ≡ fields_at ws s a
fields_apart ws a f h = fields_at_ext ws (untouched a (width_of ws) f h)

pub fields_other : (ws : List ℕ) (a : ℕ) (us s : List ℕ) (b : ℕ) (vs : List ℕ) → Apart a (width_of ws) b (width_of us)
    → fields_at ws (put_fields us s b vs) a ≡ fields_at ws s a
fields_other ws a us s b vs h = fields_apart ws a (touches_put_fields us s b vs) h

-- zero bytes are zero fields
pub fields_none : (ws : List ℕ) (at : ℕ) → fields_at ws [] at ≡ replicate (length ws) 0
unfolding fields_at
fields_none [] at = refl
fields_none (w ∷ ws) at = ap₂ (λ v vs. v ∷ vs) (number_none w at) (fields_none ws (at + w))

pub fields_zero : (ws : List ℕ) {s : List ℕ} {at : ℕ} → Agree (width_of ws) s at [] 0 → fields_at ws s at ≡ replicate (length ws) 0
fields_zero ws g = fields_at_ext ws g ∙ fields_none ws 0

-- ---- the fields of bytes fit their widths, and tell their bytes
pub fields_fit : (ws s : List ℕ) (at : ℕ) → Bytes s → Fits ws (fields_at ws s at)
unfolding fields_at
fields_fit [] s at h = tt
fields_fit (w ∷ ws) s at h = (number_below w s at h, fields_fit ws s (at + w) h)

pub fields_inj : (ws : List ℕ) {s t : List ℕ} {a b : ℕ} → Bytes s → Bytes t → fields_at ws s a ≡ fields_at ws t b → Agree (width_of ws) s a t b
unfolding fields_at width_of
fields_inj [] f g e = record { byte = λ k h. absurd (not-suc-le-zero h) }
fields_inj (w ∷ ws) {s} {t} {a} {b} f g e =
    let p : number_at w s a ≡ number_at w t b = cc in
    let q : fields_at ws s (a + w) ≡ fields_at ws t (b + w) = cc in
    agree_join (numbers_inj w f g p) (fields_inj ws f g q)
