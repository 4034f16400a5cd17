-- Rows of bytes: a page's rows lie one behind the other in it, and rows of one width are told by their bytes.
-- By induction on the rows. Assumes nothing.
use mathlib.Core.Path.{◌≡◌, refl, sym, ap, ap₂, ◌∙◌}
use mathlib.Core.Bool.{Bool, true, ◌&&◌}
use mathlib.Core.List.{List, [], ◌∷◌, ◌++◌}
use Prim.Native.Nat.{ℕ, zero, suc, ◌+◌, ◌-◌, ◌*◌, ◌≤◌}
use native.Mathlib.Nat.{mul-zero, zero-add}
use native.Mathlib.Omega.{arith}
use lib.Dec.{eqb}
use lib.ListN.{length, take, drop, length-append, take-append-drop}
use lib.Seq.{take_at, drop_at}
use borrow.Author.Tests.{eqb-true, eq-eqb}
use Rattle.limits.specs.Limits.{head_size}
use Rattle.lists.specs.Lists.{all, join, tab, insert_at}
use Rattle.lists.proofs.Tests.{and_left, and_right, and_both, all_append}
use Rattle.lists.proofs.Places.{all_insert_at}
use Rattle.lists.proofs.Tables.{length_tab, take_tab, drop_tab}
use Rattle.numbers.specs.Numbers.{part}
use Rattle.numbers.proofs.Parts.{length_part}
use Rattle.numbers.proofs.Splices.{part_append}
use Rattle.rows.specs.PageHead.{count_of}
use Rattle.rows.specs.PageRows.{row_at, rows_of}

-- every row has z bytes
abbrev pub is_wide : ℕ → List ℕ → Bool
is_wide z r = eqb (length r) z

abbrev pub Wide : ℕ → List (List ℕ) → Type 0
Wide z rs = all (is_wide z) rs ≡ true

-- the bytes of rows, one row behind the other
abbrev pub bytes_of : List (List ℕ) → List ℕ
bytes_of rs = join (λ r. r) rs

module _ (z : ℕ) where
  pub wide_first : (r : List ℕ) (rs : List (List ℕ)) → Wide z (r ∷ rs) → length r ≡ z
  unfolding all
  wide_first r rs w = eqb-true (length r) z (and_left (is_wide z r) (all (is_wide z) rs) w)

  pub wide_rest : (r : List ℕ) (rs : List (List ℕ)) → Wide z (r ∷ rs) → Wide z rs
  unfolding all
  wide_rest r rs w = and_right (is_wide z r) (all (is_wide z) rs) w

  pub wide_more : (r : List ℕ) (rs : List (List ℕ)) → length r ≡ z → Wide z rs → Wide z (r ∷ rs)
  unfolding all
  wide_more r rs e w = and_both (is_wide z r) (all (is_wide z) rs) (eq-eqb (length r) z e) w

  -- ---- some of the rows, one more, one less
  pub wide_both : (rs qs : List (List ℕ)) → Wide z rs → Wide z qs → Wide z (rs ++ qs)
  wide_both rs qs w v =
      all_append (is_wide z) rs qs ∙ and_both (all (is_wide z) rs) (all (is_wide z) qs) w v

  halves : (c : ℕ) (rs : List (List ℕ)) → Wide z rs
      → (all (is_wide z) (take c rs) && all (is_wide z) (drop c rs)) ≡ true
  halves c rs w =
      sym (all_append (is_wide z) (take c rs) (drop c rs)) ∙ ap (all (is_wide z)) (take-append-drop c rs) ∙ w

  pub wide_take : (c : ℕ) (rs : List (List ℕ)) → Wide z rs → Wide z (take c rs)
  wide_take c rs w = and_left (all (is_wide z) (take c rs)) (all (is_wide z) (drop c rs)) (halves c rs w)

  pub wide_drop : (c : ℕ) (rs : List (List ℕ)) → Wide z rs → Wide z (drop c rs)
  wide_drop c rs w = and_right (all (is_wide z) (take c rs)) (all (is_wide z) (drop c rs)) (halves c rs w)

  pub wide_insert : (i : ℕ) (r : List ℕ) (rs : List (List ℕ)) → length r ≡ z → Wide z rs → Wide z (insert_at i r rs)
  wide_insert i r rs e w =
      all_insert_at (is_wide z) i r rs ∙ and_both (is_wide z r) (all (is_wide z) rs) (eq-eqb (length r) z e) w

  pub wide_join : (f : List ℕ → List (List ℕ)) → ((r : List ℕ) → length r ≡ z → Wide z (f r)) → (rs : List (List ℕ)) → Wide z rs → Wide z (join f rs)
  unfolding join all
  wide_join f h [] w = refl
  wide_join f h (r ∷ rs) w = wide_both (f r) (join f rs) (h r (wide_first r rs w)) (wide_join f h rs (wide_rest r rs w))

  -- ---- their bytes
  pub length_bytes : (rs : List (List ℕ)) → Wide z rs → length (bytes_of rs) ≡ z * length rs
  unfolding join
  length_bytes [] w = sym (mul-zero z)
  length_bytes (r ∷ rs) w =
      let a = wide_first r rs w in
      let b = length_bytes rs (wide_rest r rs w) in
      simp length-append (omega arith)

  pub rows_told : (rs qs : List (List ℕ)) → Wide z rs → Wide z qs → length rs ≡ length qs → bytes_of rs ≡ bytes_of qs → rs ≡ qs
  unfolding join
  rows_told [] [] w v l e = refl
  rows_told [] (q ∷ qs) w v l e = absurd (omega arith)
  rows_told (r ∷ rs) [] w v l e = absurd (omega arith)
  rows_told (r ∷ rs) (q ∷ qs) w v l e =
      let a = wide_first r rs w in
      let b = wide_first q qs v in
      let x : r ≡ q = sym (take_at r (bytes_of rs) z a) ∙ ap (take z) e ∙ take_at q (bytes_of qs) z b in
      let y : bytes_of rs ≡ bytes_of qs = sym (drop_at r (bytes_of rs) z a) ∙ ap (drop z) e ∙ drop_at q (bytes_of qs) z b in
      ap₂ (λ x xs. x ∷ xs) x (rows_told rs qs (wide_rest r rs w) (wide_rest q qs v) (omega arith) y)

  -- ---- the rows of a page
  pub bytes_tab : (p : List ℕ) (c i : ℕ) → bytes_of (tab c i (row_at z p)) ≡ part (head_size + z * i) (z * c) p
  unfolding join tab row_at part
  bytes_tab p zero i = rw mul-zero
  bytes_tab p (suc c) i =
      let e : head_size + z * (i + 1) ≡ head_size + z * i + z = omega arith in
      let q : z + z * c ≡ z * suc c = omega arith in
      ap (λ b. row_at z p i ++ b) (bytes_tab p c (i + 1) ∙ ap (λ x. part x (z * c) p) e)
      ∙ sym (part_append (head_size + z * i) z (z * c) p)
      ∙ ap (λ n. part (head_size + z * i) n p) q

  pub wide_tab : (p : List ℕ) (c i : ℕ) → head_size + z * (i + c) ≤ length p → Wide z (tab c i (row_at z p))
  unfolding tab row_at all
  wide_tab p zero i h = refl
  wide_tab p (suc c) i h =
      wide_more (row_at z p i) (tab c (i + 1) (row_at z p)) (length_part (head_size + z * i) z p (omega arith)) (wide_tab p c (i + 1) (omega arith))

  module _ (p : List ℕ) where
    pub length_rows_of : length (rows_of z p) ≡ count_of p
    unfolding rows_of
    length_rows_of = length_tab (count_of p) 0 (row_at z p)

    pub wide_rows_of : head_size + z * count_of p ≤ length p → Wide z (rows_of z p)
    unfolding rows_of
    wide_rows_of h = wide_tab p (count_of p) 0 (rw zero-add h)

    pub bytes_rows_of : bytes_of (rows_of z p) ≡ part head_size (z * count_of p) p
    unfolding rows_of
    bytes_rows_of = bytes_tab p (count_of p) 0 ∙ ap (λ x. part (head_size + x) (z * count_of p) p) (mul-zero z)

    pub bytes_take : (c : ℕ) → c ≤ count_of p → bytes_of (take c (rows_of z p)) ≡ part head_size (z * c) p
    unfolding rows_of
    bytes_take c h =
        ap bytes_of (take_tab c (count_of p) 0 (row_at z p) h) ∙ bytes_tab p c 0 ∙ ap (λ x. part (head_size + x) (z * c) p) (mul-zero z)

    pub bytes_drop : (c : ℕ) → bytes_of (drop c (rows_of z p)) ≡ part (head_size + z * c) (z * (count_of p - c)) p
    unfolding rows_of
    bytes_drop c =
        ap bytes_of (drop_tab c (count_of p) 0 (row_at z p))
        ∙ bytes_tab p (count_of p - c) (0 + c)
        ∙ ap (λ x. part (head_size + z * x) (z * (count_of p - c)) p) (zero-add c)
