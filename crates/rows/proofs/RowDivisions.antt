-- A full page and one row more, divided between it and a page that has none: the rows are parted first and the new one is put into its half.
-- Once for every width and number. Assumes nothing.
use mathlib.Core.Path.{◌≡◌, sym, ap, ◌∙◌, subst}
use mathlib.Core.List.{List}
use Prim.Native.Nat.{ℕ, ◌+◌, ◌-◌, ◌*◌, ◌≤◌, ◌<◌}
use native.Mathlib.Nat.{mul-le-mul_left, add-sub_cancel_left}
use native.Mathlib.Omega.{arith}
use lib.ListN.{length, take, drop, length-drop}
use lib.Seq.{length-take-le}
use Rattle.limits.specs.Limits.{page_size, head_size, body_size}
use Rattle.lists.specs.Lists.{insert_at}
use Rattle.lists.proofs.Places.{length_insert_at, take_insert_at_below, drop_insert_at_below, take_insert_at_above, drop_insert_at_above}
use Rattle.numbers.specs.Numbers.{put_number}
use Rattle.rows.specs.RowMoves.{cut, rows_copied}
use Rattle.numbers.proofs.Numbers.{number_same}
use Rattle.numbers.proofs.ByteMoves.{length_copied, length_zeroed}
use Rattle.rows.proofs.RowWidths.{rows_halves}
use Rattle.rows.specs.PageHead.{count_of}
use Rattle.rows.specs.PageRows.{rows_of, with_rows, Divided, as_they_are}
use Rattle.rows.specs.RowSteps.{Parted}
use Rattle.rows.proofs.PageRows.{Wide, wide_take, wide_drop, wide_insert, length_rows_of, wide_rows_of}
use Rattle.rows.proofs.WithRows.{Fit, length_insert, rows_with, with_with}
use Rattle.rows.proofs.RowMoves.{rows_stay, rows_go}

pub parted : (l r l₁ r₁ r₂ : List ℕ) (z stay go : ℕ) → r₁ ≡ rows_copied head_size z stay go l r → r₂ ≡ put_number 2 r₁ 4 go
    → l₁ ≡ put_number 2 (cut head_size z stay (stay + go) l) 4 stay → length l ≡ page_size → length r ≡ page_size → z * (stay + go) ≤ body_size
    → stay < 65536 → go < 65536 → Parted z stay go l r l₁ r₂
parted l r l₁ r₁ r₂ z stay go a b c h k m e f =
    let s = length_zeroed (z * (stay + go - stay)) (head_size + z * stay) l (omega (arith, rows_halves z stay (stay + go) (omega arith))) in
    let t = ap length a ∙ length_copied (z * go) l (head_size + z * stay) head_size r (omega arith) (omega arith) in
    record {
      left = c;
      right = b ∙ ap (λ u. put_number 2 u 4 go) a;
      stays = ap count_of c ∙ number_same 2 (cut head_size z stay (stay + go) l) 4 stay e (omega arith);
      goes = ap count_of b ∙ number_same 2 r₁ 4 go f (omega arith);
    }

-- rows put in over those that a page was given before
put_again : (z : ℕ) (p q x : List ℕ) (i : ℕ) (rs : List (List ℕ)) → Fit z p rs → Fit z p (insert_at i x rs) → q ≡ with_rows z p rs
    → with_rows z q (insert_at i x (rows_of z q)) ≡ with_rows z p (insert_at i x rs)
put_again z p q x i rs f g e =
    ap (λ u. with_rows z u (insert_at i x (rows_of z u))) e
    ∙ ap (λ qs. with_rows z (with_rows z p rs) (insert_at i x qs)) (rows_with z p rs f)
    ∙ with_with z p rs (insert_at i x rs) f g (omega (arith, length_insert_at i x rs))

-- a page of n rows, a page of none, and one row more
pub record OneMore (z n : ℕ) (l r x : List ℕ) : Type 0 where
  pub full : count_of l ≡ n
  pub bare : count_of r ≡ 0
  pub left : head_size + z * n ≤ length l
  pub right : head_size + z * n ≤ length r
  pub row : length x ≡ z
  pub few : n < 65536

own : {z n : ℕ} {l r x : List ℕ} → OneMore z n l r x → head_size + z * count_of l ≤ length l
own o = rw o.full o.left

-- some of the first rows fit the page, and the others the page that has none
module _ {z n : ℕ} {l r x : List ℕ} (o : OneMore z n l r x) (i : ℕ) where
  wide : Wide z (insert_at i x (rows_of z l))
  wide = wide_insert z i x (rows_of z l) o.row (wide_rows_of z l (own o))

  size : length (insert_at i x (rows_of z l)) ≡ n + 1
  size = length_insert z l i x ∙ ap (λ m. m + 1) o.full

  pub length_go : (k : ℕ) → length (drop k (insert_at i x (rows_of z l))) ≡ n + 1 - k
  length_go k = length-drop k (insert_at i x (rows_of z l)) ∙ ap (λ m. m - k) size

  pub length_stay : (k : ℕ) → k ≤ n → length (take k (insert_at i x (rows_of z l))) ≡ k
  length_stay k h = length-take-le k (insert_at i x (rows_of z l)) (omega (arith, size))

  pub fit_stay : (k : ℕ) → k ≤ n → Fit z l (take k (insert_at i x (rows_of z l)))
  fit_stay k h =
      let m = length_stay k h in
      record { wide = wide_take z k (insert_at i x (rows_of z l)) wide; own = own o; room = rw m (omega (arith, mul-le-mul_left z h, o.left)); few = omega (arith, o.few) }

  pub fit_go : (k : ℕ) → 1 ≤ k → Fit z r (drop k (insert_at i x (rows_of z l)))
  fit_go k h =
      let m = length_go k in
      let q : n + 1 - k ≤ n = omega arith in
      record {
        wide = wide_drop z k (insert_at i x (rows_of z l)) wide;
        own = rw o.bare (omega (arith, o.right));
        room = rw m (omega (arith, mul-le-mul_left z q, o.right));
        few = omega (arith, o.few);
      }

module _ (z : ℕ) (l r x l₁ r₁ : List ℕ) (i stay go : ℕ) (d : Parted z stay go l r l₁ r₁) (o : OneMore z (stay + go) l r x) (m : i ≤ stay + go) where
  abbrev rs : List (List ℕ)
  rs = rows_of z l

  n : length (rows_of z l) ≡ stay + go
  n = length_rows_of z l ∙ o.full

  left : l₁ ≡ with_rows z l (take stay rs)
  left = d.left ∙ rows_stay z l stay go o.full (own o)

  right : r₁ ≡ with_rows z r (drop stay rs)
  right = d.right ∙ rows_go z l stay go o.full (own o) r (omega (arith, o.bare))

  some_fit : (k : ℕ) → k ≤ stay + go → Fit z l (take k rs)
  some_fit k h =
      let q = length-take-le k rs (omega (arith, n)) in
      record { wide = wide_take z k rs (wide_rows_of z l (own o)); own = own o; room = rw q (omega (arith, mul-le-mul_left z h, o.left)); few = omega (arith, o.few) }

  rest_fit : Fit z r (drop stay rs)
  rest_fit =
      let q : length (drop stay rs) ≡ go = length-drop stay rs ∙ ap (λ k. k - stay) n ∙ add-sub_cancel_left stay go in
      record { wide = wide_drop z stay rs (wide_rows_of z l (own o)); own = rw o.bare (omega (arith, o.right)); room = rw q (omega (arith, o.right)); few = omega (arith, o.few) }

  -- the new row stays
  pub divided_low : 1 ≤ go → i ≤ stay → Divided z (stay + 1) as_they_are (insert_at i x rs) l r (with_rows z l₁ (insert_at i x (rows_of z l₁))) r₁
  divided_low h k =
      let t = take_insert_at_above stay i x rs k (omega (arith, n)) in
      let v = drop_insert_at_above stay i x rs k (omega (arith, n)) in
      record {
        left =
            put_again z l l₁ x i (take stay rs) (some_fit stay (omega arith))
            (subst (Fit z l) t (fit_stay o i (stay + 1) (omega arith))) left
            ∙ ap (with_rows z l) (sym t);
        right = right ∙ ap (with_rows z r) (sym v);
      }

  -- the new row goes
  pub divided_high : 1 ≤ stay → stay ≤ i → Divided z stay as_they_are (insert_at i x rs) l r l₁ (with_rows z r₁ (insert_at (i - stay) x (rows_of z r₁)))
  divided_high h k =
      let t = take_insert_at_below stay i x rs k (omega (arith, n)) in
      let v = drop_insert_at_below stay i x rs k (omega (arith, n)) in
      record {
        left = left ∙ ap (with_rows z l) (sym t);
        right =
            put_again z r r₁ x (i - stay) (drop stay rs) rest_fit
            (subst (Fit z r) v (fit_go o i stay h)) right
            ∙ ap (with_rows z r) (sym v);
      }
