-- What one turn of each loop comes to, and its end, in the very facts that the code has there.
-- What is left to do, done from where the loop stands, gives what was asked for. Assumes nothing.
use Prim.Native.Nat.{ℕ, zero, suc, ◌+◌, ◌-◌, ◌≤◌, ◌<◌}
use mathlib.Core.Path.{◌≡◌, refl, sym, ap, ◌∙◌}
use mathlib.Core.Bool.{Bool, true, false, cond}
use mathlib.Core.List.{List}
use native.Mathlib.Omega.{arith}
use lib.Bits.{bit_or}
use lib.ListN.{length, get_or}
use Rattle.circles.specs.CircleSets.{has}
use Rattle.circles.specs.Search.{gathered, further_on, reached_on}

-- ---- one link further: places t and on are left
gather_turn : (row : List ℕ) (m t r : ℕ) → t < length row → gathered row m (length row - t) t r ≡ further_on row m
    → gathered row m (length row - (t + 1)) (t + 1) (cond (has m t) (bit_or r (get_or row t 0)) r) ≡ further_on row m
unfolding gathered
gather_turn row m t r h i = let n : length row - t ≡ suc (length row - (t + 1)) = omega arith in sym (ap (λ k. gathered row m k t r) n) ∙ i

pub gather_in : (row : List ℕ) (m t r r' : ℕ) (b : Bool) → t < length row → gathered row m (length row - t) t r ≡ further_on row m
    → b ≡ has m t → b ≡ true → r' ≡ bit_or r (get_or row t 0) → gathered row m (length row - (t + 1)) (t + 1) r' ≡ further_on row m
gather_in row m t r r' b h i e y q =
    let k : has m t ≡ true = sym e ∙ y in
    rw q (rw k at (gather_turn row m t r h i))

pub gather_out : (row : List ℕ) (m t r r' : ℕ) (b : Bool) → t < length row → gathered row m (length row - t) t r ≡ further_on row m
    → b ≡ has m t → b ≡ false → r' ≡ r → gathered row m (length row - (t + 1)) (t + 1) r' ≡ further_on row m
gather_out row m t r r' b h i e y q =
    let k : has m t ≡ false = sym e ∙ y in
    rw q (rw k at (gather_turn row m t r h i))

pub gather_end : (row : List ℕ) (m t r : ℕ) → length row ≤ t → gathered row m (length row - t) t r ≡ further_on row m → r ≡ further_on row m
unfolding gathered
gather_end row m t r h i = let n : length row - t ≡ 0 = omega arith in rw n at i

-- ---- so many links: some are left
pub reach_turn : (row : List ℕ) (whole left set next : ℕ) → 0 < left → next ≡ further_on row set → reached_on row left set ≡ whole
    → reached_on row (left - 1) next ≡ whole
unfolding reached_on
reach_turn row whole left set next h e i =
    let n : left ≡ suc (left - 1) = omega arith in
    rw e (sym (ap (λ k. reached_on row k set) n) ∙ i)

-- a link that adds nobody changes nothing, and none after it does
reached_same : (row : List ℕ) (links set : ℕ) → further_on row set ≡ set → reached_on row links set ≡ set
unfolding reached_on
reached_same row zero set e = refl
reached_same row (suc links) set e = ap (reached_on row links) e ∙ reached_same row links set e

pub reach_stop : (row : List ℕ) (whole left set next : ℕ) → next ≡ further_on row set → next ≡ set → reached_on row left set ≡ whole → set ≡ whole
reach_stop row whole left set next e q i = sym (reached_same row left set (sym e ∙ q)) ∙ i

pub reach_end : (row : List ℕ) (whole left set : ℕ) → left ≤ 0 → reached_on row left set ≡ whole → set ≡ whole
unfolding reached_on
reach_end row whole left set h i = let n : left ≡ 0 = omega arith in rw n at i
