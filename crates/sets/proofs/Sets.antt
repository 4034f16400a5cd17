-- Who is in a set: in the empty one nobody, in a set with n added n and whoever was in it; and how often, for those who count.
-- By the word that the number asked for is in. Assumes nothing.
use Prim.Native.Nat.{ℕ, ◌+◌, ◌-◌, ◌≤◌, ◌<◌}
use mathlib.Core.Path.{◌≡◌, refl, sym, ap, ◌∙◌}
use mathlib.Core.Bool.{Bool, true, false, cond, ◌||◌, or-false}
use native.Mathlib.Decide.{dec_lt}
use native.Mathlib.Omega.{arith}
use borrow.Author.Tests.{lt-ltb, le-ltb, eq-eqb, ne_eqb, eqb-true}
use lib.Dec.{eqb, ltb}
use Rattle.lists.proofs.Tests.{alike, never}
use Rattle.sets.specs.declared.Set.{Set}
use Rattle.sets.specs.Sets.{word_has, word_with, empty, has, with_one}
use Rattle.sets.proofs.Words.{word_none, word_with_lem}

-- ---- by the word, as the code goes
module _ (s : Set) (n : ℕ) where
  module _ (h : n < 64) where
    pub has_low : (b : Bool) → b ≡ word_has s.low n → b ≡ has s n
    unfolding has
    has_low b e = rw (lt-ltb n 64 h) e

    pub with_low : (m : ℕ) → m ≡ word_with s.low n → record { low = m; high = s.high } ≡ with_one s n
    unfolding with_one
    with_low m e = rw (lt-ltb n 64 h, e) refl

  module _ (h : 64 ≤ n) where
    pub has_high : (b : Bool) → b ≡ word_has s.high (n - 64) → b ≡ has s n
    unfolding has
    has_high b e = rw (le-ltb n 64 h) e

    pub with_high : (m : ℕ) → m ≡ word_with s.high (n - 64) → record { low = s.low; high = m } ≡ with_one s n
    unfolding with_one
    with_high m e = rw (le-ltb n 64 h, e) refl

-- ---- who is in it
pub has_none : (n : ℕ) → has empty n ≡ false
unfolding has
has_none n = go (ltb n 64)
  where
    go : (b : Bool) → cond b (word_has 0 n) (word_has 0 (n - 64)) ≡ false
    go true = word_none n
    go false = word_none (n - 64)

beyond : (n u : ℕ) → 64 ≤ n → 64 ≤ u → eqb (n - 64) (u - 64) ≡ eqb n u
beyond n u a b =
    alike (eqb (n - 64) (u - 64)) (eqb n u)
    (λ e. let q = eqb-true (n - 64) (u - 64) e in eq-eqb n u (omega arith))
    (λ e. ap (λ k. eqb (n - 64) (k - 64)) (sym (eqb-true n u e)) ∙ eq-eqb (n - 64) (n - 64) refl)

pub has_with : (s : Set) (n u : ℕ) → has (with_one s n) u ≡ (has s u || eqb n u)
unfolding has with_one
has_with s n u = go (dec_lt n 64) (dec_lt u 64)
  where
    other : (b : Bool) → (n ≡ u → ⊥) → b ≡ (b || eqb n u)
    other b h = rw (ne_eqb n u h) (sym (or-false b))

    go : Dec (n < 64) → Dec (u < 64) → has (with_one s n) u ≡ (has s u || eqb n u)
    go (yes a) (yes b) = rw (lt-ltb n 64 a, lt-ltb u 64 b) (word_with_lem s.low n u)
    go (yes a) (no b) = rw (lt-ltb n 64 a, le-ltb u 64 (omega arith)) (other (word_has s.high (u - 64)) (λ e. omega arith))
    go (no a) (yes b) = rw (le-ltb n 64 (omega arith), lt-ltb u 64 b) (other (word_has s.low u) (λ e. omega arith))
    go (no a) (no b) =
        rw (le-ltb n 64 (omega arith), le-ltb u 64 (omega arith))
        (word_with_lem s.high (n - 64) (u - 64) ∙ ap (λ x. word_has s.high (u - 64) || x) (beyond n u (omega arith) (omega arith)))

-- ---- how often
unfoldable pub times_in : ℕ → Set → ℕ
times_in n s = cond (has s n) 1 0

pub times_of_has : (s : Set) (n : ℕ) (b : Bool) → has s n ≡ b → times_in n s ≡ cond b 1 0
unfolding times_in
times_of_has s n b e = ap (λ x. cond {A = ℕ} x 1 0) e

pub has_of_times : (s : Set) (n : ℕ) (b : Bool) → times_in n s ≡ cond b 1 0 → has s n ≡ b
unfolding times_in
has_of_times s n = go (has s n)
  where
    go : (a b : Bool) → ◌≡◌ {A = ℕ} (cond a 1 0) (cond b 1 0) → a ≡ b
    go true true e = refl
    go false false e = refl
    go true false e = never (sym e)
    go false true e = never e

pub in_once : (s : Set) (n : ℕ) → times_in n s ≤ 1
unfolding times_in
in_once s n = go (has s n)
  where
    go : (b : Bool) → cond {A = ℕ} b 1 0 ≤ 1
    go true = omega arith
    go false = omega arith

pub in_with : (s : Set) (n u : ℕ) → times_in n s ≡ 0 → times_in u (with_one s n) ≡ times_in u s + cond (eqb n u) 1 0
unfolding times_in
in_with s n u z = ap (λ b. cond {A = ℕ} b 1 0) (has_with s n u) ∙ go (has s u) refl (eqb n u) refl
  where
    go : (a : Bool) → has s u ≡ a → (b : Bool) → eqb n u ≡ b → ◌≡◌ {A = ℕ} (cond (a || b) 1 0) (cond a 1 0 + cond b 1 0)
    go false e b f = omega arith
    go true e false f = refl
    go true e true f = let q : has s n ≡ true = ap (has s) (eqb-true n u f) ∙ e in never (sym z ∙ ap (λ b. cond {A = ℕ} b 1 0) q)

-- one alone
module _ (n u : ℕ) where
  alone : times_in u (with_one empty n) ≡ cond (eqb n u) 1 0
  alone = omega (arith, in_with empty n u (times_of_has empty n false (has_none n)), times_of_has empty u false (has_none u))

  pub alone_one : n ≡ u → times_in u (with_one empty n) ≡ 1
  alone_one e = alone ∙ ap (λ b. cond {A = ℕ} b 1 0) (eq-eqb n u e)

  pub alone_none : (n ≡ u → ⊥) → times_in u (with_one empty n) ≡ 0
  alone_none e = alone ∙ ap (λ b. cond {A = ℕ} b 1 0) (ne_eqb n u e)
