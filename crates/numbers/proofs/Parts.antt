-- Laws of a part of a buffer and of a part put back: what stands where, lengths, and what a function that lends a part is left with.
-- By what stands at each place. Assumes nothing.
use mathlib.Core.Path.{◌≡◌, refl, sym, ap, ◌∙◌}
use mathlib.Core.List.{List, [], ◌∷◌, ◌++◌, append_assoc, append-nil}
use Prim.Native.Nat.{ℕ, zero, suc, ◌+◌, ◌-◌, ◌≤◌, ◌<◌}
use native.Mathlib.Nat.{add-sub_cancel_left, zero-add, add-zero}
use native.Mathlib.Decide.{dec_lt}
use native.Mathlib.Omega.{arith}
use lib.ListN.{length, get_or, take, drop, length-append, length-take, length-drop, take-append-drop, get_or-append}
use lib.Seq.{ext_get_or, length-take-le, get_or-take, get_or-drop, get_or-append-add, drop-drop, take_all}
use borrow.Rule.Slice.PartMut.{put_mid}
use Rattle.numbers.specs.Numbers.{number_at, width_of, fields_at, part, put_part, Apart}
use Rattle.numbers.proofs.Agree.{Agree, Touches, agree_back, agree_then, agree_front, untouched}
use Rattle.numbers.proofs.Numbers.{number_at_ext}
use Rattle.numbers.proofs.Fields.{fields_at_ext}

pub length_part : (at n : ℕ) (s : List ℕ) → at + n ≤ length s → length (part at n s) ≡ n
unfolding part
length_part at n s h = length-take-le n (drop at s) (simp length-drop (omega arith))

pub get_d_part : (at n : ℕ) (s : List ℕ) (k : ℕ) → k < n → get_or (part at n s) k 0 ≡ get_or s (at + k) 0
unfolding part
get_d_part at n s k h = get_or-take n (drop at s) k 0 h ∙ get_or-drop at s k 0

pub length_put_part : (at : ℕ) (t s : List ℕ) → at + length t ≤ length s → length (put_part at t s) ≡ length s
unfolding put_part
length_put_part at t s h = simp (length-append, length-drop, length-take) (omega arith)

pub get_d_put_part_in : (at : ℕ) (t s : List ℕ) (k : ℕ) → at ≤ length s → k < length t → get_or (put_part at t s) (at + k) 0 ≡ get_or t k 0
unfolding put_part
get_d_put_part_in at t s k h l =
    let e : at ≡ length (take at s) = sym (length-take-le at s h) in
    get_or-append (take at s ++ t) (drop (at + length t) s) 0 (at + k) (simp length-append (omega arith))
    ∙ ap (λ x. get_or (take at s ++ t) (x + k) 0) e
    ∙ get_or-append-add (take at s) t k 0

pub get_d_put_part_out : (at : ℕ) (t s : List ℕ) (k : ℕ) → at + length t ≤ length s → Apart k 1 at (length t) → get_or (put_part at t s) k 0 ≡ get_or s k 0
unfolding put_part
get_d_put_part_out at t s k h l = elim (dec_lt k at) [ yes b ↦ below b | no b ↦ above (omega arith) ]
  where
    e : length (take at s) ≡ at
    e = length-take-le at s (omega arith)

    below : k < at → get_or (take at s ++ t ++ drop (at + length t) s) k 0 ≡ get_or s k 0
    below b =
        get_or-append (take at s ++ t) (drop (at + length t) s) 0 k (simp length-append (omega (arith, e)))
        ∙ get_or-append (take at s) t 0 k (omega (arith, e))
        ∙ get_or-take at s k 0 b

    above : at + length t ≤ k → get_or (take at s ++ t ++ drop (at + length t) s) k 0 ≡ get_or s k 0
    above b =
        let q : k ≡ length (take at s ++ t) + (k - (at + length t)) = simp length-append (omega (arith, e)) in
        let r : at + length t + (k - (at + length t)) ≡ k = omega arith in
        ap (λ x. get_or (take at s ++ t ++ drop (at + length t) s) x 0) q
        ∙ get_or-append-add (take at s ++ t) (drop (at + length t) s) (k - (at + length t)) 0
        ∙ get_or-drop (at + length t) s (k - (at + length t)) 0
        ∙ ap (λ x. get_or s x 0) r

-- ---- as relations of bytes
pub agree_part : (at n : ℕ) (s : List ℕ) → Agree n (part at n s) 0 s at
agree_part at n s = record { byte = λ k h. ap (λ x. get_or (part at n s) x 0) (zero-add k) ∙ get_d_part at n s k h }

-- m bytes at i in the part are those at at + i in the buffer
pub inside : (at n : ℕ) (s : List ℕ) (i m : ℕ) → i + m ≤ n → Agree m (part at n s) i s (at + i)
inside at n s i m h = record { byte = λ k l. let e : at + (i + k) ≡ at + i + k = omega arith in get_d_part at n s (i + k) (omega arith) ∙ ap (λ x. get_or s x 0) e }

pub agree_put_part : (at : ℕ) (t s : List ℕ) → at ≤ length s → Agree (length t) (put_part at t s) at t 0
agree_put_part at t s h = record { byte = λ k l. get_d_put_part_in at t s k h l ∙ ap (λ x. get_or t x 0) (sym (zero-add k)) }

pub touches_put_part : (at : ℕ) (t s : List ℕ) → at + length t ≤ length s → Touches at (length t) s (put_part at t s)
touches_put_part at t s h = record { len = length_put_part at t s h; rest = λ k l. get_d_put_part_out at t s k h l }

-- what is read within a part is what is read there in the buffer
pub number_at_part : (w at n : ℕ) (s : List ℕ) (i : ℕ) → i + w ≤ n → number_at w (part at n s) i ≡ number_at w s (at + i)
number_at_part w at n s i h = number_at_ext w (inside at n s i w h)

pub fields_at_part : (ws : List ℕ) (at n : ℕ) (s : List ℕ) (i : ℕ) → i + width_of ws ≤ n → fields_at ws (part at n s) i ≡ fields_at ws s (at + i)
fields_at_part ws at n s i h = fields_at_ext ws (inside at n s i (width_of ws) h)

-- parts of two buffers whose bytes agree there are equal
pub part_ext : (n : ℕ) {s t : List ℕ} {a b : ℕ} → a + n ≤ length s → b + n ≤ length t → Agree n s a t b → part a n s ≡ part b n t
part_ext n {s} {t} {a} {b} h l g =
    ext_get_or 0 (part a n s) (part b n t) (length_part a n s h ∙ sym (length_part b n t l))
    (λ k m. let q : k < n = omega (arith, length_part a n s h) in get_d_part a n s k q ∙ g.byte k q ∙ sym (get_d_part b n t k q))

-- and a buffer is as it was put together where it agrees with the part there, and is touched nowhere else
pub put_part_ext : (at : ℕ) (t s u : List ℕ) → at + length t ≤ length s → Agree (length t) u at t 0 → Touches at (length t) s u → u ≡ put_part at t s
put_part_ext at t s u h g f =
    ext_get_or 0 u (put_part at t s) (f.len ∙ sym (length_put_part at t s h))
    (λ k l. elim (dec_lt k at) [
      | yes b ↦ f.rest k (omega arith) ∙ sym (get_d_put_part_out at t s k h (omega arith))
      | no b ↦
          elim (dec_lt k (at + length t)) [
            | yes c ↦
                let q : k ≡ at + (k - at) = omega arith in
                ap (λ x. get_or u x 0) q
                ∙ (agree_then g (agree_back (agree_put_part at t s (omega arith)))).byte (k - at) (omega arith)
                ∙ ap (λ x. get_or (put_part at t s) x 0) (sym q)
            | no c ↦ f.rest k (omega arith) ∙ sym (get_d_put_part_out at t s k h (omega arith))
          ]
    ])

-- ---- a part is read back as it was put, and a write beside it leaves it
pub part_same : (at n : ℕ) (t s : List ℕ) → length t ≡ n → at + n ≤ length s → part at n (put_part at t s) ≡ t
part_same at n t s e h =
    ext_get_or 0 (part at n (put_part at t s)) t (length_part at n (put_part at t s) (omega (arith, l)) ∙ sym e)
    (λ k m. let q : k < n = omega (arith, length_part at n (put_part at t s) (omega (arith, l))) in
    get_d_part at n (put_part at t s) k q ∙ get_d_put_part_in at t s k (omega arith) (omega arith))
  where
    l : length (put_part at t s) ≡ length s
    l = length_put_part at t s (omega arith)

pub part_apart : (a n : ℕ) {b m : ℕ} {s t : List ℕ} → Touches b m s t → Apart a n b m → a + n ≤ length s → part a n t ≡ part a n s
part_apart a n f h l = part_ext n (omega (arith, f.len)) l (untouched a n f h)

pub part_other : (a n at : ℕ) (t s : List ℕ) → Apart a n at (length t) → at + length t ≤ length s → a + n ≤ length s → part a n (put_part at t s) ≡ part a n s
part_other a n at t s h l m = part_apart a n (touches_put_part at t s l) h m

pub put_part_part : (at n : ℕ) (s : List ℕ) → at + n ≤ length s → put_part at (part at n s) s ≡ s
put_part_part at n s h =
    let e = length_part at n s h in
    sym (put_part_ext at (part at n s) s s (omega arith) (agree_front (length (part at n s)) (omega arith) (agree_back (agree_part at n s)))
    (record { len = refl; rest = λ k l. refl }))

pub part_all : (n : ℕ) (s : List ℕ) → length s ≡ n → part 0 n s ≡ s
unfolding part
part_all n s e = take_all n s (omega arith)

pub put_part_none : (at : ℕ) (s : List ℕ) → s ≡ put_part at [] s
unfolding put_part
put_part_none at s = simp (append-nil, add-zero) (sym (take-append-drop at s))

-- ---- a part that is lent: what the borrow checker says of it, and of the buffer that it goes back to
pub lent : (at n : ℕ) (s : List ℕ) → take (at + n - at) (drop at s) ≡ part at n s
unfolding part
lent at n s = rw (add-sub_cancel_left at n)

pub back : (at n : ℕ) (t u s : List ℕ) → length t ≡ length (take (at + n - at) (drop at s)) → t ≡ u → put_mid at (at + n - at) s t ≡ put_part at u s
unfolding put_part
back at n t u s l e =
    sym (append_assoc (take at s) t (drop (at + n - at) (drop at s)))
    ∙ ap (λ r. take at s ++ t ++ r) (sym (past (at + n - at) (drop at s)) ∙ ap (λ k. drop k (drop at s)) (sym l) ∙ drop-drop (length t) at s)
    ∙ ap (λ x. put_part at x s) e
  where
    past : (m : ℕ) (l : List ℕ) → drop (length (take m l)) l ≡ drop m l
    past zero l = refl
    past (suc m) [] = refl
    past (suc m) (x ∷ xs) = past m xs
