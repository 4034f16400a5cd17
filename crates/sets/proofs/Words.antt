-- Who is in a word: in 0 nobody, in a union whoever is in either, in a word with n added n and whoever was in it.
-- By the bit that is asked for: a shift and a remainder pass through `|`, and 2 ^ n has one bit, by halving. Assumes nothing.
use Prim.Native.Nat.{ℕ, zero, suc, ◌*◌, ◌/◌, ◌%◌, ◌^◌, ◌<◌}
use mathlib.Core.Path.{◌≡◌, refl, sym, ap, ◌∙◌}
use mathlib.Core.Bool.{false, ◌||◌}
use native.Mathlib.Nat.{mod-lt, zero-div, div-eq_of_lt, one-mul, pow-succ', mul-div-mul_left}
use native.Mathlib.Omega.{arith}
use lib.Bits.{bit_or, or_shr, or_mod}
use lib.Dec.{eqb, eqb-zero-suc, eqb-suc-zero, eqb-suc-suc}
use lib.Pow.{pow-lt, shl_exact}
use Rattle.sets.specs.Sets.{word_has, word_with}

pub word_none : (n : ℕ) → word_has 0 n ≡ false
unfolding word_has
word_none n = rw (zero-div (2 ^ n))

-- ---- a union
or_digits : (a b : ℕ) → a < 2 → b < 2 → eqb (bit_or a b) 1 ≡ (eqb a 1 || eqb b 1)
or_digits zero b h l = refl
or_digits (suc zero) zero h l = refl
or_digits (suc zero) (suc zero) h l = refl
or_digits (suc zero) (suc (suc b)) h l = absurd (omega arith)
or_digits (suc (suc a)) b h l = absurd (omega arith)

pub word_union : (m k n : ℕ) → word_has (bit_or m k) n ≡ (word_has m n || word_has k n)
unfolding word_has
word_union m k n =
    ap (λ x. eqb (x % 2) 1) (or_shr m k n)
    ∙ ap (λ x. eqb x 1) (or_mod (m / 2 ^ n) (k / 2 ^ n) 1)
    ∙ or_digits (m / 2 ^ n % 2) (k / 2 ^ n % 2) (mod-lt (m / 2 ^ n) (omega arith)) (mod-lt (k / 2 ^ n) (omega arith))

-- ---- one more
word_power : (n u : ℕ) → word_has (2 ^ n) u ≡ eqb n u
unfolding word_has
word_power zero zero = refl
word_power zero (suc u) = rw eqb-zero-suc (ap (λ x. eqb (x % 2) 1) (div-eq_of_lt (pow-lt {i = 0} {j = suc u} (omega arith))))
word_power (suc n) zero =
    let e : 2 ^ suc n ≡ 2 * 2 ^ n = pow-succ' 2 n in
    let f : 2 ^ suc n / 1 % 2 ≡ 0 = omega arith in
    rw eqb-suc-zero (ap (λ x. eqb x 1) f)
word_power (suc n) (suc u) =
    ap (λ x. eqb (x / 2 ^ suc u % 2) 1) (pow-succ' 2 n)
    ∙ ap (λ x. eqb (2 * 2 ^ n / x % 2) 1) (pow-succ' 2 u)
    ∙ ap (λ x. eqb (x % 2) 1) (mul-div-mul_left {m = 2} (2 ^ n) (2 ^ u) (omega arith))
    ∙ word_power n u
    ∙ sym (eqb-suc-suc n u)

pub word_with_lem : (m n u : ℕ) → word_has (word_with m n) u ≡ (word_has m u || eqb n u)
unfolding word_with
word_with_lem m n u = word_union m (2 ^ n) u ∙ ap (λ b. word_has m u || b) (word_power n u)

-- the code's 1 << n
pub one_shifted : (m n : ℕ) → n < 64 → bit_or m (1 * 2 ^ n % 2 ^ 64) ≡ word_with m n
unfolding word_with
one_shifted m n h = ap (bit_or m) (shl_exact 1 n 64 (omega arith) (omega arith) ∙ one-mul (2 ^ n))
