-- Laws of bytes that are copied, moved or set to zero: what stands where, and what the library's methods come to.
-- All are a part put back, so all go through the laws of parts. Assumes nothing.
use mathlib.Core.Path.{◌≡◌, sym, ap, ◌∙◌}
use mathlib.Core.Bool.{Bool, true, ◌&&◌, and_assoc, and-true}
use mathlib.Core.List.{List, [], ◌∷◌, map}
use Prim.Native.Nat.{ℕ, ◌+◌, ◌-◌, ◌≤◌, ◌<◌}
use native.Mathlib.Nat.{add-sub_cancel_left}
use native.Mathlib.Omega.{arith}
use lib.Dec.{eqb}
use lib.ListN.{length, get_or, take, drop, replicate, length-drop, length-replicate, get_or-replicate}
use lib.Seq.{length-take-le}
use borrow.Author.Tests.{eqb-true, eq-eqb}
use borrow.Rule.Slice.PartMut.{put_mid}
use Rattle.std.specs.List.{copy_within, fold}
use Rattle.lists.specs.Lists.{all}
use Rattle.lists.proofs.Tests.{all_at, all_each, all_map}
use Rattle.numbers.specs.Numbers.{part, put_part, copied, moved, zeroed, zero_at}
use Rattle.numbers.proofs.Agree.{Agree, Touches, agree_then, agree_front, touches_wider}
use Rattle.numbers.proofs.Parts.{length_part, get_d_part, get_d_put_part_in, agree_part, agree_put_part, touches_put_part, lent, back}

module _ (n : ℕ) (src : List ℕ) (from to : ℕ) (s : List ℕ) (h : from + n ≤ length src) (l : to + n ≤ length s) where
  pub touches_copied : Touches to n s (copied n src from to s)
  unfolding copied
  touches_copied =
      let e = length_part from n src h in
      touches_wider to n (omega arith) (omega arith) (touches_put_part to (part from n src) s (omega arith))

  pub agree_copied : Agree n (copied n src from to s) to src from
  unfolding copied
  agree_copied =
      let e = length_part from n src h in
      agree_then (agree_front n (omega arith) (agree_put_part to (part from n src) s (omega arith))) (agree_part from n src)

  pub length_copied : length (copied n src from to s) ≡ length s
  length_copied = touches_copied.len

-- what is left where bytes were copied into a part that was lent, or moved by the library
module _ (n from to : ℕ) where
  pub copied_back : (src s t : List ℕ) → length t ≡ length (take (to + n - to) (drop to s)) → t ≡ take (from + n - from) (drop from src)
      → put_mid to (to + n - to) s t ≡ copied n src from to s
  unfolding copied
  copied_back src s t l e = back to n t (part from n src) s l (e ∙ lent from n src)

  pub moved_within : (s : List ℕ) → from + n ≤ length s → copy_within s from (from + n) to ≡ moved n from to s
  unfolding copied put_part part
  moved_within s h =
      let e = length-take-le n (drop from s) (simp length-drop (omega arith)) in
      rw (add-sub_cancel_left, e)

-- ---- bytes set to zero: they agree with those past the end of any list
module _ (n at : ℕ) (s : List ℕ) (h : at + n ≤ length s) where
  pub touches_zeroed : Touches at n s (zeroed n at s)
  unfolding zeroed
  touches_zeroed =
      let e = length-replicate {A = ℕ} n 0 in
      touches_wider at n (omega arith) (omega arith) (touches_put_part at (replicate n 0) s (omega arith))

  pub agree_zeroed : Agree n (zeroed n at s) at [] 0
  unfolding zeroed
  agree_zeroed =
      record { byte = λ k l. get_d_put_part_in at (replicate n 0) s k (omega arith) (omega (arith, length-replicate {A = ℕ} n 0)) ∙ get_or-replicate n k 0 0 l }

  pub length_zeroed : length (zeroed n at s) ≡ length s
  length_zeroed = touches_zeroed.len

  pub get_d_zeroed_in : (k : ℕ) → k < n → get_or (zeroed n at s) (at + k) 0 ≡ 0
  get_d_zeroed_in k l = agree_zeroed.byte k l

-- what is left where the whole of a part that was lent was set to zero
pub zeroed_back : (n at : ℕ) (s t : List ℕ) → at + n ≤ length s → t ≡ replicate (length (take (at + n - at) (drop at s))) 0
    → put_mid at (at + n - at) s t ≡ zeroed n at s
unfolding zeroed
zeroed_back n at s t h e =
    let q : length (take (at + n - at) (drop at s)) ≡ n = rw lent (length_part at n s h) in
    back at n t (replicate n 0) s (rw (e, length-replicate)) (rw q at e)

-- ---- the test for zero bytes
pub zero_at_true : (n at : ℕ) (s : List ℕ) → zero_at n at s ≡ true → at + n ≤ length s → Agree n s at [] 0
unfolding zero_at
zero_at_true n at s e h =
    record {
      byte = λ k l. sym (get_d_part at n s k l)
          ∙ eqb-true (get_or (part at n s) k 0) 0 (all_at (λ b. eqb b 0) (part at n s) k 0 e (omega (arith, length_part at n s h)));
    }

pub zero_at_is : (n at : ℕ) (s : List ℕ) → at + n ≤ length s → Agree n s at [] 0 → zero_at n at s ≡ true
unfolding zero_at
zero_at_is n at s h g =
    all_each (λ b. eqb b 0) (part at n s) 0
    (λ k l. let m : k < n = omega (arith, length_part at n s h) in eq-eqb (get_or (part at n s) k 0) 0 (get_d_part at n s k m ∙ g.byte k m))

-- the test as it is folded, byte by byte
module _ {A : Type 0} (p : A → Bool) where
  all_along : (ok : Bool) (xs : List A) → fold (λ b x. b && p x) ok xs ≡ (ok && all p xs)
  unfolding all
  all_along ok [] = sym (and-true ok)
  all_along ok (x ∷ xs) = all_along (ok && p x) xs ∙ and_assoc ok (p x) (all p xs)

pub zero_along : (n at : ℕ) (s : List ℕ) {A : Type 0} (v : A → ℕ) (xs : List A) (ok : Bool) → map v xs ≡ take (at + n - at) (drop at s)
    → ok ≡ fold (λ b x. b && eqb (v x) 0) true xs → ok ≡ zero_at n at s
unfolding zero_at
zero_along n at s v xs ok l e = e ∙ all_along (λ x. eqb (v x) 0) true xs ∙ sym (all_map (λ x. eqb x 0) v xs) ∙ ap (all (λ x. eqb x 0)) (l ∙ lent at n s)
