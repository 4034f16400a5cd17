-- Laws of a number in bytes: it depends on its bytes alone, it is read back as written, it is split into two, it fits its width, it tells its bytes.
-- Each by induction on the width. Assumes nothing.
use mathlib.Core.Path.{◌≡◌, refl, sym, ap, ◌∙◌}
use mathlib.Core.List.{List, []}
use Prim.Native.Nat.{ℕ, zero, suc, ◌+◌, ◌*◌, ◌/◌, ◌%◌, ◌^◌, ◌≤◌, ◌<◌}
use native.Mathlib.Nat.{add-zero, zero-add, not-suc-le-zero, pow-succ', mod-add-div, mod-eq_of_lt, suc-add, div-lt_iff_lt-mul, div-div-eq-div-mul, div-one}
use native.Mathlib.Omega.{arith}
use lib.Dec.{lit<}
use lib.ListN.{length, get_or, set, length-set}
use lib.Seq.{get_or-set_same}
use Rattle.numbers.specs.Numbers.{number_at, put_number, Apart, Bytes}
use Rattle.numbers.proofs.Agree.{Agree, Touches, agree_within, agree_first, agree_more, untouched, touches_wider, touches_then, touches_set}

pub number_at_ext : (w : ℕ) {s t : List ℕ} {a b : ℕ} → Agree w s a t b → number_at w s a ≡ number_at w t b
unfolding number_at
number_at_ext zero g = refl
number_at_ext (suc w) g =
    let p = agree_first (omega arith) g in
    let r = number_at_ext w (agree_within 1 w (omega arith) g) in
    omega arith

-- past the end of the bytes a number is 0
pub number_none : (w at : ℕ) → number_at w [] at ≡ 0
unfolding number_at
number_none zero at = refl
number_none (suc w) at = let r = number_none w (at + 1) in omega arith

-- ---- what is written
pub length_put_number : (w : ℕ) (s : List ℕ) (at v : ℕ) → length (put_number w s at v) ≡ length s
unfolding put_number
length_put_number zero s at v = refl
length_put_number (suc w) s at v = length_put_number w (set s at (v % 256)) (at + 1) (v / 256) ∙ length-set s at (v % 256)

pub touches_put_number : (w : ℕ) (s : List ℕ) (at v : ℕ) → Touches at w s (put_number w s at v)
unfolding put_number
touches_put_number zero s at v = record { len = refl; rest = λ k h. refl }
touches_put_number (suc w) s at v =
    touches_then (touches_wider at (suc w) (omega arith) (omega arith) (touches_set s at (v % 256)))
    (touches_wider at (suc w) (omega arith) (omega arith) (touches_put_number w (set s at (v % 256)) (at + 1) (v / 256)))

pub get_d_put_number_out : (w : ℕ) (s : List ℕ) (at v k : ℕ) → Apart k 1 at w → get_or (put_number w s at v) k 0 ≡ get_or s k 0
get_d_put_number_out w s at v k h = (touches_put_number w s at v).rest k h

first_put : (w : ℕ) (s : List ℕ) (at v : ℕ) → at + suc w ≤ length s → get_or (put_number (suc w) s at v) at 0 ≡ v % 256
unfolding put_number
first_put w s at v h =
    get_d_put_number_out w (set s at (v % 256)) (at + 1) (v / 256) at (omega arith) ∙ get_or-set_same s at (v % 256) 0 (omega arith)

pub get_d_put_number_in : (w : ℕ) (s : List ℕ) (at v k : ℕ) → k < w → at + w ≤ length s → get_or (put_number w s at v) (at + k) 0 ≡ v / 256 ^ k % 256
unfolding put_number
get_d_put_number_in zero s at v k h l = absurd (not-suc-le-zero h)
get_d_put_number_in (suc w) s at v zero h l = rw (add-zero, div-one) (first_put w s at v l)
get_d_put_number_in (suc w) s at v (suc k) h l =
    let e : at + suc k ≡ at + 1 + k = omega arith in
    ap (λ x. get_or (put_number (suc w) s at v) x 0) e
    ∙ get_d_put_number_in w (set s at (v % 256)) (at + 1) (v / 256) k (omega arith) (omega (arith, length-set s at (v % 256)))
    ∙ ap (λ x. x % 256) (div-div-eq-div-mul v 256 (256 ^ k) ∙ ap (λ x. v / x) (sym (pow-succ' 256 k)))

-- ---- a number is read back as it was written, and a write beside it leaves it
pub number_same : (w : ℕ) (s : List ℕ) (at v : ℕ) → v < 256 ^ w → at + w ≤ length s → number_at w (put_number w s at v) at ≡ v
unfolding number_at put_number
number_same zero s at v f h = omega arith
number_same (suc w) s at v f h =
    let p = first_put w s at v h in
    let q : v / 256 < 256 ^ w = (div-lt_iff_lt-mul {k = 256} (lit< tt)).1 (omega (arith, pow-succ' 256 w)) in
    let r = number_same w (set s at (v % 256)) (at + 1) (v / 256) q (omega (arith, length-set s at (v % 256))) in
    omega arith

pub number_apart : (w a : ℕ) {b m : ℕ} {s t : List ℕ} → Touches b m s t → Apart a w b m → number_at w t a ≡ number_at w s a
number_apart w a f h = number_at_ext w (untouched a w f h)

pub number_other : (w a u : ℕ) (s : List ℕ) (b v : ℕ) → Apart a w b u → number_at w (put_number u s b v) a ≡ number_at w s a
number_other w a u s b v h = number_apart w a (touches_put_number u s b v) h

-- ---- a number of one byte is that byte
pub number_byte : (s : List ℕ) (at : ℕ) → get_or s at 0 ≡ number_at 1 s at
unfolding number_at
number_byte s at = omega arith

pub put_byte : (s : List ℕ) (at v : ℕ) → v < 256 → set s at v ≡ put_number 1 s at v
unfolding put_number
put_byte s at v h = ap (set s at) (sym (mod-eq_of_lt h))

-- ---- a number of w + u bytes is one of w bytes and one of u behind it
pub number_split : (w u : ℕ) (s : List ℕ) (at : ℕ) → number_at (w + u) s at ≡ number_at w s at + 256 ^ w * number_at u s (at + w)
unfolding number_at
number_split zero u s at = rw (zero-add u, add-zero) (omega arith)
number_split (suc w) u s at =
    let e : at + suc w ≡ at + 1 + w = omega arith in
    let r = number_split w u s (at + 1) in
    rw (suc-add, e, pow-succ') (omega arith)

pub put_split : (w u : ℕ) (s : List ℕ) (at v : ℕ) → put_number (w + u) s at v ≡ put_number u (put_number w s at v) (at + w) (v / 256 ^ w)
unfolding put_number
put_split zero u s at v = rw (zero-add, add-zero, div-one)
put_split (suc w) u s at v =
    let e : at + suc w ≡ at + 1 + w = omega arith in
    rw (suc-add, e, pow-succ', ← (div-div-eq-div-mul v 256 (256 ^ w))) (put_split w u (set s at (v % 256)) (at + 1) (v / 256))

-- v's remainder by 256 * m is its lowest byte and the rest's remainder by m
low_bytes : (v m : ℕ) → v % (256 * m) ≡ v % 256 + 256 * (v / 256 % m)
low_bytes v m =
    let r = rw div-div-eq-div-mul at (mod-add-div (v / 256) m) in
    omega (arith, mod-add-div v (256 * m))

-- only the low w bytes of the value count
pub put_low : (w : ℕ) (s : List ℕ) (at v : ℕ) → put_number w s at (v % 256 ^ w) ≡ put_number w s at v
unfolding put_number
put_low zero s at v = refl
put_low (suc w) s at v =
    let r = low_bytes v (256 ^ w) in
    let p : v % 256 ^ suc w % 256 ≡ v % 256 = rw pow-succ' (omega arith) in
    let q : v % 256 ^ suc w / 256 ≡ v / 256 % 256 ^ w = rw pow-succ' (omega arith) in
    rw (p, q) (put_low w (set s at (v % 256)) (at + 1) (v / 256))

-- ---- a number of bytes fits its width, and tells its bytes
pub number_below : (w : ℕ) (s : List ℕ) (at : ℕ) → Bytes s → number_at w s at < 256 ^ w
unfolding number_at
number_below zero s at h = lit< tt
number_below (suc w) s at h = let r = number_below w s (at + 1) h in omega (arith, h.below at, pow-succ' 256 w)

pub numbers_inj : (w : ℕ) {s t : List ℕ} {a b : ℕ} → Bytes s → Bytes t → number_at w s a ≡ number_at w t b → Agree w s a t b
unfolding number_at
numbers_inj zero f g e = record { byte = λ k h. absurd (not-suc-le-zero h) }
numbers_inj (suc w) {s} {t} {a} {b} f g e =
    let l = f.below a in
    let m = g.below b in
    let p : get_or s a 0 ≡ get_or t b 0 = omega arith in
    let r = numbers_inj w {s = s} {t = t} {a = a + 1} {b = b + 1} f g (omega arith) in
    agree_more p r
