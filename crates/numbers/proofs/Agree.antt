-- Two relations that every law of bytes goes through: n bytes at a place are those at another place, and only m bytes at a place differ.
-- What is read depends only on the bytes that it reads; what is written touches only the bytes that it writes. Assumes nothing.
use mathlib.Core.Path.{◌≡◌, sym, ap, ◌∙◌, refl}
use mathlib.Core.List.{List}
use Prim.Native.Nat.{ℕ, zero, suc, ◌+◌, ◌-◌, ◌≤◌, ◌<◌}
use native.Mathlib.Nat.{add-zero, zero-add}
use native.Mathlib.Decide.{dec_lt}
use native.Mathlib.Omega.{arith}
use lib.ListN.{length, get_or, set, length-set}
use lib.Seq.{ext_get_or, get_or-set_other}
use Rattle.numbers.specs.Numbers.{Apart}

-- the n bytes at a in s are the n bytes at b in t
pub record Agree (n : ℕ) (s : List ℕ) (a : ℕ) (t : List ℕ) (b : ℕ) : Type 0 where
  pub byte : (k : ℕ) → k < n → get_or s (a + k) 0 ≡ get_or t (b + k) 0

-- t is s, but for m bytes at b
pub record Touches (b m : ℕ) (s t : List ℕ) : Type 0 where
  pub len : length t ≡ length s
  pub rest : (k : ℕ) → Apart k 1 b m → get_or t k 0 ≡ get_or s k 0

pub agree_itself : {n : ℕ} {s : List ℕ} {a : ℕ} → Agree n s a s a
agree_itself = record { byte = λ k h. refl }

module _ {n : ℕ} {s t : List ℕ} {a b : ℕ} where
  pub agree_back : Agree n s a t b → Agree n t b s a
  agree_back g = record { byte = λ k h. sym (g.byte k h) }

  pub agree_then : {u : List ℕ} {c : ℕ} → Agree n s a t b → Agree n t b u c → Agree n s a u c
  agree_then g f = record { byte = λ k h. g.byte k h ∙ f.byte k h }

  -- some of the bytes, from the i-th on
  pub agree_within : (i m : ℕ) → i + m ≤ n → Agree n s a t b → Agree m s (a + i) t (b + i)
  agree_within i m l g =
      record {
        byte = λ k h.
            let p : a + i + k ≡ a + (i + k) = omega arith in
            let q : b + (i + k) ≡ b + i + k = omega arith in
            ap (λ x. get_or s x 0) p ∙ g.byte (i + k) (omega arith) ∙ ap (λ x. get_or t x 0) q;
      }

  pub agree_front : (m : ℕ) → m ≤ n → Agree n s a t b → Agree m s a t b
  agree_front m l g = record { byte = λ k h. g.byte k (omega arith) }

  pub agree_first : 0 < n → Agree n s a t b → get_or s a 0 ≡ get_or t b 0
  agree_first h g = simp add-zero at (g.byte 0 h)

pub agree_more : {n : ℕ} {s t : List ℕ} {a b : ℕ} → get_or s a 0 ≡ get_or t b 0 → Agree n s (a + 1) t (b + 1) → Agree (suc n) s a t b
agree_more {n} {s} {t} {a} {b} e g = record { byte = at }
  where
    at : (k : ℕ) → k < suc n → get_or s (a + k) 0 ≡ get_or t (b + k) 0
    at zero h = simp add-zero e
    at (suc k) h =
        let p : a + suc k ≡ a + 1 + k = omega arith in
        let q : b + 1 + k ≡ b + suc k = omega arith in
        ap (λ x. get_or s x 0) p ∙ g.byte k (omega arith) ∙ ap (λ x. get_or t x 0) q

pub agree_join : {n m : ℕ} {s t : List ℕ} {a b : ℕ} → Agree n s a t b → Agree m s (a + n) t (b + n) → Agree (n + m) s a t b
agree_join {n} {m} {s} {t} {a} {b} f g = record { byte = λ k h. at k h (dec_lt k n) }
  where
    at : (k : ℕ) → k < n + m → Dec (k < n) → get_or s (a + k) 0 ≡ get_or t (b + k) 0
    at k h (yes l) = f.byte k l
    at k h (no l) =
        let p : a + k ≡ a + n + (k - n) = omega arith in
        let q : b + n + (k - n) ≡ b + k = omega arith in
        ap (λ x. get_or s x 0) p ∙ g.byte (k - n) (omega arith) ∙ ap (λ x. get_or t x 0) q

-- bytes that agree throughout are the same
pub agree_all : (s t : List ℕ) → length s ≡ length t → Agree (length s) s 0 t 0 → s ≡ t
agree_all s t l g = ext_get_or 0 s t l (λ k h. simp zero-add at (g.byte k h))

-- ---- what is touched
module _ {b m : ℕ} {s t : List ℕ} where
  pub untouched : (a n : ℕ) → Touches b m s t → Apart a n b m → Agree n t a s a
  untouched a n f h = record { byte = λ k l. f.rest (a + k) (omega arith) }

  pub touches_wider : (a n : ℕ) → a ≤ b → b + m ≤ a + n → Touches b m s t → Touches a n s t
  touches_wider a n p q f = record { len = f.len; rest = λ k h. f.rest k (omega arith) }

  pub touches_then : {u : List ℕ} → Touches b m s t → Touches b m t u → Touches b m s u
  touches_then f g = record { len = g.len ∙ f.len; rest = λ k h. g.rest k h ∙ f.rest k h }

pub touches_set : (s : List ℕ) (i v : ℕ) → Touches i 1 s (set s i v)
touches_set s i v = record { len = length-set s i v; rest = λ k h. get_or-set_other s i k v 0 (omega arith) }
