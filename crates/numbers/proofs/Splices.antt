-- Bytes that lie side by side: what stands where in one list behind another and in joined rows of one width, two parts put one behind the
-- other are one part, and a record that is written is a part put. By the laws of take and drop, or by what stands at each byte. Assumes nothing.
use mathlib.Core.Path.{◌≡◌, sym, ap, ap₂, ◌∙◌}
use mathlib.Core.List.{List, [], ◌∷◌, ◌++◌, append_assoc}
use Prim.Native.Nat.{ℕ, ◌+◌, ◌-◌, ◌%◌, ◌≤◌, ◌*◌, ◌<◌, suc, zero}
use native.Mathlib.Omega.{arith}
use lib.ListN.{length, take, drop, replicate, length-append, length-replicate, get_or-append, get_or}
use lib.Seq.{length-take-le, take-add, drop-drop, take-take, take_at, drop_at, take-append-le, drop-append-add, get_or-append-add}
use native.Mathlib.Nat.{le_of_suc-le-suc, not-suc-le-zero}
use Rattle.lists.specs.Lists.{join}
use Rattle.numbers.specs.Numbers.{put_number, width_of, put_fields, part, put_part}
use Rattle.numbers.proofs.Agree.{Agree, agree_back, agree_then, agree_within, agree_front, agree_join, agree_all, untouched, touches_wider, agree_itself}
use Rattle.numbers.proofs.Numbers.{length_put_number, get_d_put_number_in, put_low}
use Rattle.numbers.proofs.Fields.{touches_put_fields, length_put_fields}
use Rattle.numbers.proofs.Parts.{length_part, agree_part, put_part_ext}

-- ---- one list behind another, and rows of one width
module _ (a b : List ℕ) where
  pub agree_ahead : {n k : ℕ} {c : List ℕ} {m : ℕ} → k + n ≤ length a → Agree n a k c m → Agree n (a ++ b) k c m
  agree_ahead {k = k} h g = record { byte = λ i l. get_or-append a b 0 (k + i) (omega arith) ∙ g.byte i l }

  pub agree_behind : (p : ℕ) {n k : ℕ} {c : List ℕ} {m : ℕ} → p ≡ length a + k → Agree n b k c m → Agree n (a ++ b) p c m
  agree_behind p {k = k} e g =
      record {
        byte = λ i l.
            let q : p + i ≡ length a + (k + i) = omega arith in
            ap (λ x. get_or (a ++ b) x 0) q ∙ get_or-append-add a b (k + i) 0 ∙ g.byte i l;
      }

module _ {A : Type 0} (f : A → List ℕ) where
  pub agree_row : (z : ℕ) → ((x : A) → length (f x) ≡ z) → (xs : List A) (i : ℕ) (x : A) → i < length xs
      → Agree z (join f xs) (z * i) (f (get_or xs i x)) 0
  unfolding join
  agree_row z e [] i x h = absurd (not-suc-le-zero h)
  agree_row z e (y ∷ ys) zero x h =
      let q : z * 0 ≡ 0 = omega arith in
      rw q (agree_ahead (f y) (join f ys) (omega (arith, e y)) agree_itself)
  agree_row z e (y ∷ ys) (suc i) x h =
      agree_behind (f y) (join f ys) (z * suc i) (omega (arith, e y)) (agree_row z e ys i x (le_of_suc-le-suc h))

-- ---- parts
pub part_append : (at n m : ℕ) (s : List ℕ) → part at (n + m) s ≡ part at n s ++ part (at + n) m s
unfolding part
part_append at n m s = take-add n m (drop at s) ∙ ap (λ l. take n (drop at s) ++ take m l) (drop-drop n at s)

-- ---- one part put behind another, and before it
module _ (at k : ℕ) (t u s : List ℕ) (e : length t ≡ k) where
  pub put_part_behind : at ≤ length s → put_part (at + k) u (put_part at t s) ≡ put_part at (t ++ u) s
  unfolding put_part
  put_part_behind h =
      let l : length (take at s ++ t) ≡ at + k = length-append (take at s) t ∙ ap₂ (λ x y. x + y) (length-take-le at s h) e in
      let m : at + length t + length u ≡ at + length (t ++ u) = simp length-append (omega arith) in
      ap₂ (λ x y. x ++ u ++ y) (take_at (take at s ++ t) (drop (at + length t) s) (at + k) l)
      (ap (λ n. drop (n + length u) (take at s ++ t ++ drop (at + length t) s)) (sym l)
      ∙ drop-append-add (take at s ++ t) (drop (at + length t) s) (length u)
      ∙ drop-drop (length u) (at + length t) s
      ∙ ap (λ n. drop n s) m)
      ∙ ap (λ x. x ++ drop (at + length (t ++ u)) s) (append_assoc (take at s) t u)

  pub put_part_before : at + k ≤ length s → put_part at t (put_part (at + k) u s) ≡ put_part at (t ++ u) s
  unfolding put_part
  put_part_before h =
      let l : length (take (at + k) s) ≡ at + k = length-take-le (at + k) s h in
      let m : at + k + length u ≡ at + length (t ++ u) = simp length-append (omega arith) in
      let d = drop (at + k + length u) s in
      ap₂ (λ x y. x ++ t ++ y)
      (take-append-le at (take (at + k) s ++ u) d (simp length-append (omega arith))
      ∙ take-append-le at (take (at + k) s) u (omega arith)
      ∙ take-take at (at + k) s (omega arith))
      (ap₂ (λ x y. drop (at + x) y) e (append_assoc (take (at + k) s) u d) ∙ drop_at (take (at + k) s) (u ++ d) (at + k) l)
      ∙ sym (append_assoc (take at s ++ t) u d)
      ∙ ap₂ (λ x y. x ++ drop y s) (append_assoc (take at s) t u) m

-- ---- a record that is written: the same bytes wherever it is written, so a part put
pub number_alike : (w : ℕ) (s : List ℕ) (a : ℕ) (t : List ℕ) (b v : ℕ) → a + w ≤ length s → b + w ≤ length t
    → Agree w (put_number w s a v) a (put_number w t b v) b
number_alike w s a t b v h l =
    record { byte = λ k m. get_d_put_number_in w s a v k m h ∙ sym (get_d_put_number_in w t b v k m l) }

alike_next : (w : ℕ) (ws s : List ℕ) (a : ℕ) (t : List ℕ) (b v : ℕ) (vs : List ℕ) → a + (w + width_of ws) ≤ length s → b + (w + width_of ws) ≤ length t
    → (a + w + width_of ws ≤ length (put_number w s a v) → b + w + width_of ws ≤ length (put_number w t b v)
    → Agree (width_of ws) (put_fields ws (put_number w s a v) (a + w) vs) (a + w) (put_fields ws (put_number w t b v) (b + w) vs) (b + w))
    → Agree (w + width_of ws) (put_fields ws (put_number w s a v) (a + w) vs) a (put_fields ws (put_number w t b v) (b + w) vs) b
alike_next w ws s a t b v vs h l r =
    agree_join
    (agree_then (untouched a w (touches_put_fields ws (put_number w s a v) (a + w) vs) (omega arith))
    (agree_then (number_alike w s a t b v (omega arith) (omega arith))
    (agree_back (untouched b w (touches_put_fields ws (put_number w t b v) (b + w) vs) (omega arith)))))
    (r (omega (arith, length_put_number w s a v)) (omega (arith, length_put_number w t b v)))

pub fields_alike : (ws s : List ℕ) (a : ℕ) (t : List ℕ) (b : ℕ) (vs : List ℕ) → a + width_of ws ≤ length s → b + width_of ws ≤ length t
    → Agree (width_of ws) (put_fields ws s a vs) a (put_fields ws t b vs) b
unfolding put_fields width_of
fields_alike [] s a t b vs h l = record { byte = λ k m. absurd (omega arith) }
fields_alike (w ∷ ws) s a t b [] h l = alike_next w ws s a t b 0 [] h l (fields_alike ws (put_number w s a 0) (a + w) (put_number w t b 0) (b + w) [])
fields_alike (w ∷ ws) s a t b (v ∷ vs) h l =
    alike_next w ws s a t b v vs h l (fields_alike ws (put_number w s a v) (a + w) (put_number w t b v) (b + w) vs)

-- n bytes hold the record: it is written into them
pub put_part_lem : (ws s : List ℕ) (at : ℕ) (vs : List ℕ) (n : ℕ) → width_of ws ≤ n → at + n ≤ length s
    → put_fields ws s at vs ≡ put_part at (put_fields ws (part at n s) 0 vs) s
put_part_lem ws s at vs n h l =
    let e = length_part at n s l in
    let q : length t ≡ n = length_put_fields ws (part at n s) 0 vs ∙ e in
    let b : Agree (n - width_of ws) (put_fields ws s at vs) (at + width_of ws) t (0 + width_of ws) =
    agree_then (untouched (at + width_of ws) (n - width_of ws) (touches_put_fields ws s at vs) (omega arith))
    (agree_back (agree_then (untouched (0 + width_of ws) (n - width_of ws) (touches_put_fields ws (part at n s) 0 vs) (omega arith))
    (agree_within (width_of ws) (n - width_of ws) (omega arith) (agree_part at n s)))) in
    put_part_ext at t s (put_fields ws s at vs) (omega arith)
    (agree_front (length t) (omega arith) (agree_join (fields_alike ws s at (part at n s) 0 vs (omega arith) (omega arith)) b))
    (touches_wider at (length t) (omega arith) (omega arith) (touches_put_fields ws s at vs))
  where
    t : List ℕ
    t = put_fields ws (part at n s) 0 vs

-- a record that fills its bytes leaves nothing of what was there
pub put_whole : (ws s : List ℕ) (vs : List ℕ) (n : ℕ) → width_of ws ≡ n → length s ≡ n → put_fields ws s 0 vs ≡ put_fields ws (replicate n 0) 0 vs
put_whole ws s vs n h l =
    let e = length-replicate {A = ℕ} n 0 in
    let p = length_put_fields ws s 0 vs in
    agree_all (put_fields ws s 0 vs) (put_fields ws (replicate n 0) 0 vs) (p ∙ l ∙ sym (length_put_fields ws (replicate n 0) 0 vs ∙ e))
    (agree_front (length (put_fields ws s 0 vs)) (omega arith) (fields_alike ws s 0 (replicate n 0) 0 vs (omega arith) (omega arith)))

pub put_row : (ws s : List ℕ) (at : ℕ) (vs : List ℕ) (n : ℕ) → width_of ws ≡ n → at + n ≤ length s
    → put_fields ws s at vs ≡ put_part at (put_fields ws (replicate n 0) 0 vs) s
put_row ws s at vs n h l =
    put_part_lem ws s at vs n (omega arith) l ∙ ap (λ r. put_part at r s) (put_whole ws (part at n s) vs n h (length_part at n s l))

-- a number of which only the low two bytes are written
pub put_cut : (s t : List ℕ) (at v : ℕ) → t ≡ put_number 2 s at (v % 65536) → t ≡ put_number 2 s at v
put_cut s t at v e = e ∙ put_low 2 s at v
