-- The library's numbers of bytes, the lowest first: they are those of the definitions, read and written.
-- By induction on the width, and by the laws of parts. Assumes nothing.
use mathlib.Core.Path.{◌≡◌, refl, sym, ap, ◌∙◌}
use mathlib.Core.List.{List}
use Prim.Native.Nat.{ℕ, zero, suc, ◌+◌, ◌-◌, ◌/◌, ◌%◌, ◌^◌, ◌≤◌, ◌<◌}
use native.Mathlib.Nat.{zero-add, add-zero, mul_comm, div-one, not-suc-le-zero, le_of_suc-le-suc}
use native.Mathlib.Numerals.{add-one}
use native.Mathlib.Omega.{arith}
use lib.ListN.{length, get_or, take, drop}
use borrow.Rule.Slice.PartMut.{put_mid}
use Rattle.std.specs.Int.{byte_at, byte_worth, bytes_low_first, sum_through}
use Rattle.numbers.specs.Numbers.{number_at, put_number}
use Rattle.numbers.proofs.Agree.{touches_wider}
use Rattle.numbers.proofs.Numbers.{number_byte, number_split, get_d_put_number_in, touches_put_number}
use Rattle.numbers.proofs.Parts.{length_part, number_at_part, put_part_ext, lent, back}

-- ---- what is read
through : (k : ℕ) (s : List ℕ) → sum_through (λ i. byte_worth i (get_or s i 0)) k ≡ number_at (suc k) s 0
through zero s = number_byte s 0
through (suc k) s =
    let e : 0 + suc k ≡ suc k = omega arith in
    let r = rw (e, add-one) at (number_split (suc k) 1 s 0) in
    let q = number_byte s (suc k) in
    let t = through k s in
    rw (t, q, mul_comm) (sym r)

pub number_read : (k : ℕ) (s t : List ℕ) (at r : ℕ) → t ≡ take (at + suc k - at) (drop at s) → r ≡ sum_through (λ i. byte_worth i (get_or t i 0)) k
    → r ≡ number_at (suc k) s at
number_read k s t at r e q =
    q
    ∙ through k t
    ∙ ap (λ x. number_at (suc k) x 0) (e ∙ lent at (suc k) s)
    ∙ number_at_part (suc k) at (suc k) s 0 (omega arith)
    ∙ ap (number_at (suc k) s) (add-zero at)

-- ---- what is written
length_low : (i w v : ℕ) → length (bytes_low_first i w v) ≡ w
length_low i zero v = refl
length_low i (suc w) v = ap suc (length_low (suc i) w v)

low_at : (i w v k : ℕ) → k < w → get_or (bytes_low_first i w v) k 0 ≡ byte_at (i + k) v
low_at i zero v k h = absurd (not-suc-le-zero h)
low_at i (suc w) v zero h = ap (λ x. byte_at x v) (sym (add-zero i))
low_at i (suc w) v (suc k) h =
    let e : suc i + k ≡ i + suc k = omega arith in
    low_at (suc i) w v k (le_of_suc-le-suc h) ∙ ap (λ x. byte_at x v) e

byte_is : (k v : ℕ) → byte_at k v ≡ v / 256 ^ k % 256
byte_is zero v = ap (λ x. x % 256) (sym (div-one v))
byte_is (suc k) v = refl

pub number_written : (w : ℕ) (s t : List ℕ) (at v : ℕ) → at + w ≤ length s → t ≡ bytes_low_first 0 w v → put_mid at (at + w - at) s t ≡ put_number w s at v
number_written w s t at v h e =
    let l : length t ≡ w = ap length e ∙ length_low 0 w v in
    back at w t t s (l ∙ sym (ap length (lent at w s) ∙ length_part at w s h)) refl
    ∙ sym
    (put_part_ext at t s (put_number w s at v) (omega arith)
    (record {
      byte = λ k m.
          let q : k < w = omega arith in
          get_d_put_number_in w s at v k q h ∙ sym (rw (e, zero-add) (low_at 0 w v k q ∙ rw zero-add (byte_is k v)));
    })
    (touches_wider at (length t) (omega arith) (omega arith) (touches_put_number w s at v)))
