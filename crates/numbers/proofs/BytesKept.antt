-- Whatever is written into bytes leaves bytes, and bytes put together are bytes.
-- Each byte afterwards is one that was there, one that was copied, or a remainder by 256. Assumes nothing.
use mathlib.Core.Path.{◌≡◌, ap}
use mathlib.Core.List.{List, [], ◌∷◌, ◌++◌}
use Prim.Native.Nat.{ℕ, zero, suc, ◌+◌, ◌-◌, ◌%◌, ◌/◌, ◌≤◌, ◌<◌}
use native.Mathlib.Decide.{dec_lt, ℕ_discrete}
use native.Mathlib.Omega.{arith}
use lib.Dec.{lit<}
use lib.ListN.{length, get_or, set, drop, length-take, get_or-eq_default, get_or-append, replicate}
use lib.Seq.{get_or-set_same, get_or-set_other, set_out, get_or-append-add}
use Rattle.lists.proofs.Places.{get_d_alike}
use Rattle.lists.specs.Lists.{join}
use Rattle.numbers.specs.Numbers.{put_number, put_fields, part, copied, zeroed, Bytes}
use Rattle.numbers.proofs.Agree.{Agree, Touches}
use Rattle.numbers.proofs.Parts.{get_d_part}
use Rattle.numbers.proofs.ByteMoves.{agree_copied, touches_copied, agree_zeroed, touches_zeroed}

-- a buffer of bytes, of which some are now those of another
pub bytes_from : {b m : ℕ} {s u t : List ℕ} {c : ℕ} → Touches b m s u → Agree m u b t c → Bytes s → Bytes t → Bytes u
bytes_from {b} {m} {s} {u} {t} {c} f g p q = record { below = λ i. at i (dec_lt i b) (dec_lt i (b + m)) }
  where
    at : (i : ℕ) → Dec (i < b) → Dec (i < b + m) → get_or u i 0 < 256
    at i (yes h) l = omega (arith, f.rest i (omega arith), p.below i)
    at i (no h) (no l) = omega (arith, f.rest i (omega arith), p.below i)
    at i (no h) (yes l) =
        let e : b + (i - b) ≡ i = omega arith in
        omega (arith, ap (λ x. get_or u x 0) e, g.byte (i - b) (omega arith), q.below (c + (i - b)))

pub bytes_none : Bytes []
bytes_none = record { below = λ i. lit< tt }

pub bytes_zeros : (n : ℕ) → Bytes (replicate n 0)
bytes_zeros n = record { below = λ i. omega (arith, get_d_alike {A = ℕ} n i 0) }

pub bytes_set : (s : List ℕ) (i v : ℕ) → v < 256 → Bytes s → Bytes (set s i v)
bytes_set s i v h f = record { below = λ k. at k (ℕ_discrete k i) (dec_lt i (length s)) }
  where
    at : (k : ℕ) → Dec (k ≡ i) → Dec (i < length s) → get_or (set s i v) k 0 < 256
    at k (no e) l = omega (arith, get_or-set_other s i k v 0 e, f.below k)
    at k (yes e) (yes l) = rw e (omega (arith, get_or-set_same s i v 0 l))
    at k (yes e) (no l) = rw (set_out s i v (omega arith)) (f.below k)

pub bytes_put_number : (w : ℕ) (s : List ℕ) (at v : ℕ) → Bytes s → Bytes (put_number w s at v)
unfolding put_number
bytes_put_number zero s at v f = f
bytes_put_number (suc w) s at v f = bytes_put_number w (set s at (v % 256)) (at + 1) (v / 256) (bytes_set s at (v % 256) (omega arith) f)

pub bytes_put_fields : (ws s : List ℕ) (at : ℕ) (vs : List ℕ) → Bytes s → Bytes (put_fields ws s at vs)
unfolding put_fields
bytes_put_fields [] s at vs f = f
bytes_put_fields (w ∷ ws) s at [] f = bytes_put_fields ws (put_number w s at 0) (at + w) [] (bytes_put_number w s at 0 f)
bytes_put_fields (w ∷ ws) s at (v ∷ vs) f = bytes_put_fields ws (put_number w s at v) (at + w) vs (bytes_put_number w s at v f)

pub bytes_part : (at n : ℕ) (s : List ℕ) → Bytes s → Bytes (part at n s)
unfolding part
bytes_part at n s f =
    record {
      below = λ i. elim (dec_lt i n) [
        | yes h ↦ omega (arith, get_d_part at n s i h, f.below (at + i))
        | no h ↦ omega (arith, get_or-eq_default (part at n s) 0 {n = i} (omega (arith, length-take n (drop at s))))
      ];
    }

pub bytes_copied : (n : ℕ) (src : List ℕ) (from to : ℕ) (s : List ℕ) → from + n ≤ length src → to + n ≤ length s → Bytes src → Bytes s → Bytes (copied n src from to s)
bytes_copied n src from to s h l f g = bytes_from (touches_copied n src from to s h l) (agree_copied n src from to s h l) g f

pub bytes_zeroed : (n at : ℕ) (s : List ℕ) → at + n ≤ length s → Bytes s → Bytes (zeroed n at s)
bytes_zeroed n at s h f = bytes_from (touches_zeroed n at s h) (agree_zeroed n at s h) f bytes_none

-- ---- one list behind another
module _ (a b : List ℕ) where
  pub bytes_append : Bytes a → Bytes b → Bytes (a ++ b)
  bytes_append f g = record { below = λ i. at i (dec_lt i (length a)) }
    where
      at : (i : ℕ) → Dec (i < length a) → get_or (a ++ b) i 0 < 256
      at i (yes h) = omega (arith, get_or-append a b 0 i h, f.below i)
      at i (no h) =
          let e : i ≡ length a + (i - length a) = omega arith in
          omega (arith, ap (λ x. get_or (a ++ b) x 0) e, get_or-append-add a b (i - length a) 0, g.below (i - length a))

module _ {A : Type 0} (f : A → List ℕ) where
  pub bytes_join : ((x : A) → Bytes (f x)) → (xs : List A) → Bytes (join f xs)
  unfolding join
  bytes_join h [] = bytes_none
  bytes_join h (x ∷ xs) = bytes_append (f x) (join f xs) (h x) (bytes_join h xs)
