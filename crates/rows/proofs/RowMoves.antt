-- What the code does to a page's bytes: rows moved up or down by one, cut off, copied to another page, a row written over. Each is a page
-- with other rows. All that is written comes to one part put behind the head. Assumes nothing.
use mathlib.Core.Path.{◌≡◌, sym, ap, ap₂, ◌∙◌}
use mathlib.Core.List.{List, ◌∷◌, ◌++◌, append_assoc, append-nil}
use Prim.Native.Nat.{ℕ, ◌+◌, ◌-◌, ◌*◌, ◌/◌, ◌%◌, ◌≤◌, ◌<◌}
use native.Mathlib.Nat.{mul-zero, mul-one, div-one}
use native.Mathlib.Numerals.{add-one}
use native.Mathlib.Omega.{arith}
use native.Mathlib.Decide.{dec_lt}
use lib.Dec.{lit<}
use lib.ListN.{length, get_or, set, length-set, take, drop, replicate, length-replicate, length-drop}
use lib.Seq.{ext_get_or, set_split, length-take-le}
use Rattle.limits.specs.Limits.{head_size}
use Rattle.lists.specs.Lists.{join, insert_at, remove_at}
use Rattle.lists.proofs.Places.{insert_at_is, remove_at_is, length_insert_at, length_remove_at}
use Rattle.lists.proofs.Joins.{join_append}
use Rattle.numbers.specs.Numbers.{put_number, width_of, put_fields, part, put_part, copied, moved, zeroed}
use Rattle.rows.specs.RowMoves.{opened, closed, cut, rows_copied}
use Rattle.numbers.proofs.Numbers.{length_put_number, get_d_put_number_in, get_d_put_number_out}
use Rattle.numbers.proofs.Fields.{length_put_fields}
use Rattle.numbers.proofs.Parts.{length_part, length_put_part, get_d_put_part_out, put_part_part}
use Rattle.numbers.proofs.ByteMoves.{length_copied}
use Rattle.numbers.proofs.Splices.{put_part_behind, put_part_before, put_row}
use Rattle.rows.proofs.RowWidths.{rows_halves, row_behind}
use Rattle.rows.specs.PageHead.{count_of}
use Rattle.rows.specs.PageRows.{rows_of, with_rows}
use Rattle.rows.proofs.PageRows.{bytes_of, length_rows_of, bytes_take, bytes_drop}

-- m rows whose bytes, with zeros to the end of the page's own, are b
pub with_is : (z : ℕ) (p : List ℕ) (rs : List (List ℕ)) (m : ℕ) (b : List ℕ) → length rs ≡ m → bytes_of rs ++ replicate (z * (count_of p - m)) 0 ≡ b
    → put_number 2 (put_part head_size b p) 4 m ≡ with_rows z p rs
unfolding with_rows
with_is z p rs m b e h = sym (rw (e, h))

-- what is put further on is put from the head on, with the bytes before it as they are
pub from_head : (k : ℕ) (t p : List ℕ) → head_size + k ≤ length p → put_part (head_size + k) t p ≡ put_part head_size (part head_size k p ++ t) p
from_head k t p h =
    ap (put_part (head_size + k) t) (sym (put_part_part head_size k p h)) ∙ put_part_behind head_size k (part head_size k p) t p (length_part head_size k p h) (omega arith)

-- ---- the bytes of the rows that come out
nothing_freed : (z n m : ℕ) (b : List ℕ) → n ≤ m → b ++ replicate (z * (n - m)) 0 ≡ b
nothing_freed z n m b h =
    let e : n - m ≡ 0 = omega arith in
    ap (λ k. b ++ replicate k 0) (ap (λ x. z * x) e ∙ mul-zero z) ∙ append-nil b

inserted_bytes : (z : ℕ) (p : List ℕ) (i : ℕ) (r : List ℕ) → i ≤ count_of p
    → bytes_of (insert_at i r (rows_of z p)) ≡ part head_size (z * i) p ++ (r ++ part (head_size + z * i) (z * (count_of p - i)) p)
unfolding join
inserted_bytes z p i r h =
    ap bytes_of (insert_at_is i r (rows_of z p) (rw (length_rows_of z p) h))
    ∙ join_append (λ r. r) (take i (rows_of z p)) (r ∷ drop i (rows_of z p))
    ∙ ap₂ (λ x y. x ++ (r ++ y)) (bytes_take z p i h) (bytes_drop z p i)

removed_bytes : (z : ℕ) (p : List ℕ) (i : ℕ) → i ≤ count_of p
    → bytes_of (remove_at i (rows_of z p)) ≡ part head_size (z * i) p ++ part (head_size + z * (i + 1)) (z * (count_of p - (i + 1))) p
removed_bytes z p i h =
    ap bytes_of (remove_at_is i (rows_of z p))
    ∙ join_append (λ r. r) (take i (rows_of z p)) (drop (i + 1) (rows_of z p))
    ∙ ap₂ (λ x y. x ++ y) (bytes_take z p i h) (bytes_drop z p (i + 1))

-- with the zeros behind them, where there was a row more
removed_strip : (z : ℕ) (p : List ℕ) (i : ℕ) → i < count_of p
    → bytes_of (remove_at i (rows_of z p)) ++ replicate (z * (count_of p - (count_of p - 1))) 0
    ≡ part head_size (z * i) p ++ (part (head_size + z * i + z) (z * (count_of p - 1 - i)) p ++ replicate z 0)
removed_strip z p i h =
    ap₂ (λ b k. b ++ replicate (z * k) 0) (removed_bytes z p i (omega arith) ∙ ap₂ (λ x k. part head_size (z * i) p ++ part x (z * k) p) a b) c
    ∙ ap (λ k. part head_size (z * i) p ++ part (head_size + z * i + z) (z * (count_of p - 1 - i)) p ++ replicate k 0) (mul-one z)
    ∙ append_assoc (part head_size (z * i) p) (part (head_size + z * i + z) (z * (count_of p - 1 - i)) p) (replicate z 0)
  where
    a : head_size + z * (i + 1) ≡ head_size + z * i + z
    a = omega arith

    b : count_of p - (i + 1) ≡ count_of p - 1 - i
    b = omega arith

    c : count_of p - (count_of p - 1) ≡ 1
    c = omega arith

-- ---- a row put in: the rows from i on moved up, and its fields written
pub row_in : (z : ℕ) (p : List ℕ) (ws vs : List ℕ) (i : ℕ) → width_of ws ≡ z → i ≤ count_of p → head_size + z * (count_of p + 1) ≤ length p
    → put_number 2 (put_fields ws (opened head_size z i (count_of p) p) (head_size + z * i) vs) 4 (count_of p + 1)
    ≡ with_rows z p (insert_at i (put_fields ws (replicate z 0) 0 vs) (rows_of z p))
unfolding copied
row_in z p ws vs i w h l =
    ap (λ u. put_number 2 u 4 (n + 1))
    (put_row ws (moved rest at (at + z) p) at vs z w (omega (arith, a, b))
    ∙ put_part_before at z r (part at rest p) p (length_put_fields ws (replicate z 0) 0 vs ∙ length-replicate z 0) (omega (arith, a))
    ∙ from_head (z * i) (r ++ part at rest p) p (omega (arith, a)))
    ∙ with_is z p (insert_at i r (rows_of z p)) (n + 1) (part head_size (z * i) p ++ (r ++ part at rest p)) len bytes
  where
    n : ℕ
    n = count_of p

    at : ℕ
    at = head_size + z * i

    rest : ℕ
    rest = z * (n - i)

    r : List ℕ
    r = put_fields ws (replicate z 0) 0 vs

    a : at + z + rest ≤ length p
    a = omega (arith, rows_halves z i n h)

    b : length (moved rest at (at + z) p) ≡ length p
    b = length_copied rest p at (at + z) p (omega (arith, a)) a

    len : length (insert_at i r (rows_of z p)) ≡ n + 1
    len = length_insert_at i r (rows_of z p) ∙ ap (λ m. m + 1) (length_rows_of z p)

    bytes : bytes_of (insert_at i r (rows_of z p)) ++ replicate (z * (n - (n + 1))) 0 ≡ part head_size (z * i) p ++ (r ++ part at rest p)
    bytes = nothing_freed z n (n + 1) (bytes_of (insert_at i r (rows_of z p))) (omega arith) ∙ inserted_bytes z p i r h

-- ---- a row taken out: the rows behind i moved down, and the last one's bytes freed
pub row_out : (z : ℕ) (p : List ℕ) (i : ℕ) → i < count_of p → head_size + z * count_of p ≤ length p
    → put_number 2 (closed head_size z i (count_of p) p) 4 (count_of p - 1)
    ≡ with_rows z p (remove_at i (rows_of z p))
unfolding copied zeroed
row_out z p i h l =
    ap (λ u. put_number 2 u 4 (n - 1))
    (ap (λ x. put_part x (replicate z 0) (moved rest (at + z) at p)) b
    ∙ put_part_behind at rest (part (at + z) rest p) (replicate z 0) p (length_part (at + z) rest p a) (omega (arith, a))
    ∙ from_head (z * i) (part (at + z) rest p ++ replicate z 0) p (omega (arith, a)))
    ∙ with_is z p (remove_at i (rows_of z p)) (n - 1) (part head_size (z * i) p ++ (part (at + z) rest p ++ replicate z 0)) len (removed_strip z p i h)
  where
    n : ℕ
    n = count_of p

    at : ℕ
    at = head_size + z * i

    rest : ℕ
    rest = z * (n - 1 - i)

    a : at + z + rest ≤ length p
    a = omega (arith, row_behind z i n h)

    b : head_size + z * (n - 1) ≡ at + rest
    b = omega (arith, rows_halves z i (n - 1) (omega arith))

    len : length (remove_at i (rows_of z p)) ≡ n - 1
    len = length_remove_at i (rows_of z p) (rw (length_rows_of z p) h) ∙ ap (λ m. m - 1) (length_rows_of z p)

-- ---- a row written over; the count's bytes are those of a number
count_same : (u : List ℕ) (n : ℕ) → 6 ≤ length u → get_or u 4 0 ≡ n % 256 → get_or u 5 0 ≡ n / 256 % 256 → put_number 2 u 4 n ≡ u
count_same u n l a b =
    ext_get_or 0 (put_number 2 u 4 n) u (length_put_number 2 u 4 n) (λ k h. at k (dec_lt k 4) (dec_lt k 5) (dec_lt k 6))
  where
    at : (k : ℕ) → Dec (k < 4) → Dec (k < 5) → Dec (k < 6) → get_or (put_number 2 u 4 n) k 0 ≡ get_or u k 0
    at k (yes h) c d = get_d_put_number_out 2 u 4 n k (omega arith)
    at k (no h) (yes c) d =
        let e : k ≡ 4 = omega arith in rw e (get_d_put_number_in 2 u 4 n 0 (lit< tt) (omega arith) ∙ ap (λ x. x % 256) (div-one n) ∙ sym a)
    at k (no h) (no c) (yes d) = let e : k ≡ 5 = omega arith in rw e (get_d_put_number_in 2 u 4 n 1 (lit< tt) (omega arith) ∙ sym b)
    at k (no h) (no c) (no d) = get_d_put_number_out 2 u 4 n k (omega arith)

set_bytes : (z : ℕ) (p : List ℕ) (i : ℕ) (r : List ℕ) → i < count_of p
    → bytes_of (set (rows_of z p) i r) ≡ part head_size (z * i) p ++ (r ++ part (head_size + z * (i + 1)) (z * (count_of p - (i + 1))) p)
unfolding join
set_bytes z p i r h =
    ap bytes_of (set_split (rows_of z p) i r (rw (length_rows_of z p) h) ∙ ap (λ k. take i (rows_of z p) ++ r ∷ drop k (rows_of z p)) (sym (add-one i)))
    ∙ join_append (λ r. r) (take i (rows_of z p)) (r ∷ drop (i + 1) (rows_of z p))
    ∙ ap₂ (λ x y. x ++ (r ++ y)) (bytes_take z p i (omega arith)) (bytes_drop z p (i + 1))

pub row_over : (z : ℕ) (p : List ℕ) (i : ℕ) (r : List ℕ) → i < count_of p → head_size + z * count_of p ≤ length p → length r ≡ z
    → get_or p 4 0 ≡ count_of p % 256 → get_or p 5 0 ≡ count_of p / 256 % 256 → put_part (head_size + z * i) r p ≡ with_rows z p (set (rows_of z p) i r)
row_over z p i r h l e a b =
    sym (count_same (put_part at r p) n (omega (arith, length_put_part at r p (omega (arith, m, e)), m))
    (get_d_put_part_out at r p 4 (omega (arith, m, e)) (omega arith) ∙ a) (get_d_put_part_out at r p 5 (omega (arith, m, e)) (omega arith) ∙ b))
    ∙ ap (λ u. put_number 2 u 4 n)
    (ap (put_part at r) (sym (put_part_part (at + z) rest p m))
    ∙ put_part_before at z r (part (at + z) rest p) p e (omega (arith, m))
    ∙ from_head (z * i) (r ++ part (at + z) rest p) p (omega (arith, m)))
    ∙ with_is z p (set (rows_of z p) i r) n (part head_size (z * i) p ++ (r ++ part (at + z) rest p)) (length-set (rows_of z p) i r ∙ length_rows_of z p)
    (nothing_freed z n n (bytes_of (set (rows_of z p) i r)) (omega arith) ∙ set_bytes z p i r h ∙ ap (λ x. part head_size (z * i) p ++ (r ++ part x rest p)) q)
  where
    n : ℕ
    n = count_of p

    at : ℕ
    at = head_size + z * i

    rest : ℕ
    rest = z * (n - (i + 1))

    m : at + z + rest ≤ length p
    m = let k : i + 1 + (n - (i + 1)) ≡ n = omega arith in omega (arith, ap (λ x. z * x) k)

    q : head_size + z * (i + 1) ≡ at + z
    q = omega arith

-- ---- the first rows stay, and the others go to a page that has none
module _ (z : ℕ) (p : List ℕ) (stay go : ℕ) (e : count_of p ≡ stay + go) (h : head_size + z * count_of p ≤ length p) where
  room : head_size + z * stay + z * go ≤ length p
  room = omega (arith, ap (λ x. z * x) e)

  pub rows_stay : put_number 2 (cut head_size z stay (stay + go) p) 4 stay ≡ with_rows z p (take stay (rows_of z p))
  unfolding zeroed
  rows_stay =
      let c : count_of p - stay ≡ stay + go - stay = omega arith in
      let l : length (take stay (rows_of z p)) ≡ stay = length-take-le stay (rows_of z p) (omega (arith, length_rows_of z p)) in
      ap (λ u. put_number 2 u 4 stay) (from_head (z * stay) (replicate (z * (stay + go - stay)) 0) p (omega (arith, room)))
      ∙ with_is z p (take stay (rows_of z p)) stay (part head_size (z * stay) p ++ replicate (z * (stay + go - stay)) 0) l
      (ap₂ (λ x k. x ++ replicate (z * k) 0) (bytes_take z p stay (omega arith)) c)

  pub rows_go : (q : List ℕ) → count_of q ≤ go → put_number 2 (rows_copied head_size z stay go p q) 4 go ≡ with_rows z q (drop stay (rows_of z p))
  unfolding copied
  rows_go q m =
      let c : count_of p - stay ≡ go = omega arith in
      let l : length (drop stay (rows_of z p)) ≡ go = length-drop stay (rows_of z p) ∙ ap (λ x. x - stay) (length_rows_of z p) ∙ c in
      with_is z q (drop stay (rows_of z p)) go (part (head_size + z * stay) (z * go) p) l
      (nothing_freed z (count_of q) go (bytes_of (drop stay (rows_of z p))) m ∙ bytes_drop z p stay ∙ ap (λ x. part (head_size + z * stay) (z * x) p) c)
