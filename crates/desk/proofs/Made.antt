-- A fresh picture: zeros with length and kind in front are the desk of an empty queue, since a zero written over a zero changes nothing.
-- By induction on the width. Assumes nothing.
use Prim.Native.Nat.{ℕ, zero, suc, ◌+◌, ◌≤◌}
use mathlib.Core.Path.{◌≡◌, refl, sym, ap, ◌∙◌}
use mathlib.Core.List.{List, [], ◌∷◌}
use native.Mathlib.Omega.{arith}
use lib.ListN.{length, get_or, set, replicate, length-replicate}
use Rattle.limits.specs.Limits.{desk_size}
use Rattle.numbers.specs.Numbers.{put_number, put_fields}
use Rattle.numbers.proofs.Numbers.{get_d_put_number_out}
use Rattle.queue.specs.QueueLayout.{head_widths}
use Rattle.states.proofs.DeskSays.{head_fields}
use Rattle.states.proofs.FreshDesk.{fresh_desk_lem}
use Rattle.states.specs.Fresh.{fresh_desk}

set_zero : (s : List ℕ) (i : ℕ) → get_or s i 0 ≡ 0 → set s i 0 ≡ s
set_zero [] i h = refl
set_zero (x ∷ xs) zero h = ap (λ y. y ∷ xs) (sym h)
set_zero (x ∷ xs) (suc i) h = ap (λ ys. x ∷ ys) (set_zero xs i h)

put_zero : (w : ℕ) (s : List ℕ) (at : ℕ) → ((k : ℕ) → at ≤ k → get_or s k 0 ≡ 0) → put_number w s at 0 ≡ s
unfolding put_number
put_zero zero s at h = refl
put_zero (suc w) s at h =
    ap (λ x. put_number w x (at + 1) 0) (set_zero s at (h at (omega arith))) ∙ put_zero w s (at + 1) (λ k l. h k (omega arith))

all_zero : (n k : ℕ) → get_or (replicate {A = ℕ} n 0) k 0 ≡ 0
all_zero zero k = refl
all_zero (suc n) zero = refl
all_zero (suc n) (suc k) = all_zero n k

-- ---- the desk
module _ (d : List ℕ) (size : length d ≡ desk_size) where
  abbrev z : List ℕ
  z = replicate (length d) 0

  long : length z ≡ desk_size
  long = length-replicate {A = ℕ} (length d) 0 ∙ size

  zeros : (k : ℕ) → get_or z k 0 ≡ 0
  zeros k = all_zero (length d) k

  abbrev headed : List ℕ
  headed = put_number 2 (put_number 2 z 0 desk_size) 2 8

  behind : (k : ℕ) → 4 ≤ k → get_or headed k 0 ≡ 0
  behind k h =
      get_d_put_number_out 2 (put_number 2 z 0 desk_size) 2 8 k (omega arith) ∙ get_d_put_number_out 2 z 0 desk_size k (omega arith) ∙ zeros k

  headed_fields : headed ≡ put_fields head_widths z 0 (head_fields 0)
  unfolding put_fields
  headed_fields =
      sym (ap (λ x. put_number 8 (put_number 8 (put_number 8 (put_number 2 x 6 0) 8 0) 16 0) 24 0) (put_zero 2 headed 4 behind)
      ∙ ap (λ x. put_number 8 (put_number 8 (put_number 8 x 8 0) 16 0) 24 0) (put_zero 2 headed 6 (λ k l. behind k (omega arith)))
      ∙ ap (λ x. put_number 8 (put_number 8 x 16 0) 24 0) (put_zero 8 headed 8 (λ k l. behind k (omega arith)))
      ∙ ap (λ x. put_number 8 x 24 0) (put_zero 8 headed 16 (λ k l. behind k (omega arith)))
      ∙ put_zero 8 headed 24 (λ k l. behind k (omega arith)))

  pub desk_fresh : (d₁ d₂ d₃ : List ℕ) → d₁ ≡ replicate (length d) 0 → d₂ ≡ put_number 2 d₁ 0 desk_size → d₃ ≡ put_number 2 d₂ 2 8 → d₃ ≡ fresh_desk
  unfolding fresh_desk
  desk_fresh d₁ d₂ d₃ a b c =
      c ∙ ap (λ x. put_number 2 x 2 8) b ∙ ap (λ x. put_number 2 (put_number 2 x 0 desk_size) 2 8) a ∙ headed_fields ∙ fresh_desk_lem z long zeros
