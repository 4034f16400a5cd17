-- A page's bytes are those that its rows write, exactly where its head is right, each row is written as it was read, and the rest is zero.
-- Once for every kind of row: two pages of bytes are the same where their fields and their unused bytes are. Assumes nothing.
use mathlib.Core.Path.{◌≡◌, sym, ap, ap₂, subst, ◌∙◌}
use mathlib.Core.Bool.{true, ◌&&◌}
use mathlib.Core.List.{List, [], ◌∷◌, map}
use Prim.Native.Nat.{ℕ, ◌+◌, ◌*◌, ◌-◌, ◌≤◌, ◌<◌}
use native.Mathlib.Nat.{mul-zero, add-zero, zero-add, mul-le-mul_left}
use native.Mathlib.Decide.{dec_lt}
use native.Mathlib.Omega.{arith}
use borrow.Author.Tests.{eqb-true, eq-eqb}
use lib.Dec.{eqb, lit<, lit≤}
use lib.ListN.{length, get_or, replicate, length-map, length-replicate, get_or-eq_default, get_or-map}
use lib.Seq.{take_all}
use Rattle.limits.specs.Limits.{page_size, head_size, body_size}
use Rattle.lists.specs.Lists.{tab}
use Rattle.lists.proofs.Tests.{and_left, and_right, and_both, all_map, all_each}
use Rattle.lists.proofs.Tables.{length_tab, get_d_tab, tab_ext, map_tab}
use Rattle.numbers.specs.Numbers.{number_at, width_of, fields_at, put_fields, part, zero_at, Apart, Bytes, Fits}
use Rattle.numbers.proofs.Agree.{Agree}
use Rattle.numbers.proofs.Fields.{fields_same, fields_inj, fields_fit, length_put_fields}
use Rattle.numbers.proofs.Parts.{part_ext, fields_at_part}
use Rattle.numbers.proofs.ByteMoves.{zero_at_true}
use Rattle.numbers.proofs.BytesKept.{bytes_put_fields, bytes_zeros}
use Rattle.rows.specs.PageHead.{head_widths, kind_of, count_of, level_of, put_head}
use Rattle.rows.specs.PageRows.{row_at, rows_of, with_rows}
use Rattle.rows.proofs.PageRows.{Wide, is_wide, length_rows_of, wide_rows_of}
use Rattle.rows.proofs.WithRows.{Fit, Holds, holds_same, holds_with, head_with, rows_with, zero_with, with_own}
use Rattle.index.specs.Pictures.{blank_page}
use Rattle.index.proofs.BlankPages.{length_blank, bytes_blank, blank_zero, count_blank, blank_page_lem}
use Rattle.judging_pages.specs.PageChecks.{head_ok}

-- ---- a blank page
module _ (kind level : ℕ) where
  module _ (k : kind < 65536) (l : level < 65536) where
    pub blank_head : fields_at head_widths (blank_page kind level) 0 ≡ page_size ∷ kind ∷ 0 ∷ level ∷ 0 ∷ []
    unfolding blank_page put_head width_of
    blank_head =
        fields_same head_widths (replicate page_size 0) 0 (page_size ∷ kind ∷ 0 ∷ level ∷ 0 ∷ [])
        (lit< tt, (k, (lit< tt, (l, (lit< tt, tt))))) (lit≤ tt)

    -- a head that is right is the blank page's
    module _ (p : List ℕ) where
      pub head_fields : head_ok kind level p ≡ true → (fields_at (2 ∷ 2 ∷ []) p 0 ≡ fields_at (2 ∷ 2 ∷ []) (blank_page kind level) 0)
          × (fields_at (2 ∷ 8 ∷ []) p 6 ≡ fields_at (2 ∷ 8 ∷ []) (blank_page kind level) 6)
      unfolding head_ok fields_at
      head_fields h =
          let e = blank_head in
          let abc : ((eqb (number_at 2 p 0) page_size && eqb (kind_of p) kind) && eqb (level_of p) level) ≡ true = and_left ((eqb (number_at 2 p 0) page_size && eqb (kind_of p) kind) && eqb (level_of p) level) (eqb (number_at 8 p 8) 0) h in
          let d : number_at 8 p 8 ≡ 0 = eqb-true (number_at 8 p 8) 0 (and_right ((eqb (number_at 2 p 0) page_size && eqb (kind_of p) kind) && eqb (level_of p) level) (eqb (number_at 8 p 8) 0) h) in
          let ab : (eqb (number_at 2 p 0) page_size && eqb (kind_of p) kind) ≡ true = and_left (eqb (number_at 2 p 0) page_size && eqb (kind_of p) kind) (eqb (level_of p) level) abc in
          let c : level_of p ≡ level = eqb-true (level_of p) level (and_right (eqb (number_at 2 p 0) page_size && eqb (kind_of p) kind) (eqb (level_of p) level) abc) in
          let a : number_at 2 p 0 ≡ page_size = eqb-true (number_at 2 p 0) page_size (and_left (eqb (number_at 2 p 0) page_size) (eqb (kind_of p) kind) ab) in
          let b : kind_of p ≡ kind = eqb-true (kind_of p) kind (and_right (eqb (number_at 2 p 0) page_size) (eqb (kind_of p) kind) ab) in (
            ap₂ (λ x y. x ∷ y ∷ []) (a ∙ sym (ap (λ vs. get_or vs 0 0) e)) (b ∙ sym (ap (λ vs. get_or vs 1 0) e)),
            ap₂ (λ x y. x ∷ y ∷ []) (c ∙ sym (ap (λ vs. get_or vs 3 0) e)) (d ∙ sym (ap (λ vs. get_or vs 4 0) e)),
          )

      pub fields_head : (number_at 2 p 0 ≡ number_at 2 (blank_page kind level) 0) → kind_of p ≡ kind_of (blank_page kind level)
          → level_of p ≡ level_of (blank_page kind level) → number_at 8 p 8 ≡ number_at 8 (blank_page kind level) 8 → head_ok kind level p ≡ true
      unfolding head_ok fields_at
      fields_head a b c d =
          let e = blank_head in
          and_both ((eqb (number_at 2 p 0) page_size && eqb (kind_of p) kind) && eqb (level_of p) level) (eqb (number_at 8 p 8) 0)
          (and_both (eqb (number_at 2 p 0) page_size && eqb (kind_of p) kind) (eqb (level_of p) level)
          (and_both (eqb (number_at 2 p 0) page_size) (eqb (kind_of p) kind)
          (eq-eqb (number_at 2 p 0) page_size (a ∙ ap (λ vs. get_or vs 0 0) e)) (eq-eqb (kind_of p) kind (b ∙ ap (λ vs. get_or vs 1 0) e)))
          (eq-eqb (level_of p) level (c ∙ ap (λ vs. get_or vs 3 0) e)))
          (eq-eqb (number_at 8 p 8) 0 (d ∙ ap (λ vs. get_or vs 4 0) e))

      pub head_bytes : Bytes p → head_ok kind level p ≡ true → (i : ℕ) → i < head_size → Apart i 1 4 2 → get_or p i 0 ≡ get_or (blank_page kind level) i 0
      unfolding width_of
      head_bytes g h i s a =
          let es = head_fields h in
          elim (dec_lt i 4) [
            | yes m ↦ simp zero-add at ((fields_inj (2 ∷ 2 ∷ []) g (bytes_blank kind level) es.0).byte i m)
            | no m ↦
                let q : i ≡ 6 + (i - 6) = omega arith in
                rw q ((fields_inj (2 ∷ 8 ∷ []) g (bytes_blank kind level) es.1).byte (i - 6) (omega arith))
          ]

-- ---- a page of rows
module _ (kind level z most : ℕ) (ws : List ℕ) (k : kind < 65536) (l : level < 65536) (width : width_of ws ≡ z) (space : head_size + z * most ≤ page_size)
    (few : most < 65536) {A : Type 0} (reads : List ℕ → A) (writes : A → List ℕ) where
  abbrev pub row : A → List ℕ
  row x = put_fields ws (replicate z 0) 0 (writes x)

  abbrev pub fields : List ℕ → ℕ → List ℕ
  fields p i = fields_at ws p (head_size + z * i)

  abbrev pub items : List ℕ → List A
  items p = tab (count_of p) 0 (λ i. reads (fields p i))

  abbrev pub page : List ℕ → List ℕ
  page p = with_rows z (blank_page kind level) (map row (items p))

  row_length : (x : A) → length (row x) ≡ z
  row_length x = length_put_fields ws (replicate z 0) 0 (writes x) ∙ length-replicate z 0

  row_fields : (x : A) → Fits ws (writes x) → fields_at ws (row x) 0 ≡ writes x
  row_fields x f = fields_same ws (replicate z 0) 0 (writes x) f (omega (arith, length-replicate {A = ℕ} z 0))

  within : (n : ℕ) → n ≤ most → head_size + z * n ≤ page_size
  within n h = omega (arith, mul-le-mul_left z h)

  fits_blank : (rs : List (List ℕ)) → Wide z rs → length rs ≤ most → Fit z (blank_page kind level) rs
  fits_blank rs w h =
      let b = length_blank kind level in
      let r = within (length rs) h in
      record {
        wide = w;
        own = rw (count_blank kind level, mul-zero) (omega arith);
        room = omega arith;
        few = omega arith;
      }

  module _ (p : List ℕ) (g : Bytes p) (n : count_of p ≤ most) where
    -- the way there
    module _ (size : length p ≡ page_size) (head : head_ok kind level p ≡ true) (rest : zero_at (body_size - z * count_of p) (head_size + z * count_of p) p ≡ true)
        (each : (i : ℕ) → i < count_of p → writes (reads (fields p i)) ≡ fields p i) where
      row_is : (i : ℕ) → i < count_of p → row_at z p i ≡ row (reads (fields p i))
      unfolding row_at part
      row_is i h =
          let x = reads (fields p i) in
          let e : fields_at ws p (head_size + z * i) ≡ fields_at ws (row x) 0 =
          sym (row_fields x (subst (Fits ws) (sym (each i h)) (fields_fit ws p (head_size + z * i) g)) ∙ each i h) in
          let a : Agree z p (head_size + z * i) (row x) 0 =
          subst (λ m. Agree m p (head_size + z * i) (row x) 0) width (fields_inj ws g (bytes_put_fields ws (replicate z 0) 0 (writes x) (bytes_zeros z)) e) in
          let o = within (i + 1) (omega arith) in
          part_ext z (omega arith) (omega (arith, row_length x)) a ∙ take_all z (row x) (omega (arith, row_length x))

      rows_are : rows_of z p ≡ map row (items p)
      unfolding rows_of
      rows_are =
          tab_ext (count_of p) 0 (row_at z p) (λ i. row (reads (fields p i))) (λ i a b. row_is i (omega arith))
          ∙ sym (map_tab row (count_of p) 0 (λ i. reads (fields p i)))

      own : head_size + z * count_of p ≤ length p
      own = let h = within (count_of p) n in omega arith

      own_holds : Holds z p (rows_of z p) p
      own_holds =
          let e = length_rows_of z p in
          subst (λ s. Holds z p (rows_of z p) s) (with_own z p g own)
          (holds_with z p (rows_of z p) (record { wide = wide_rows_of z p own; own = own; room = rw e own; few = omega arith }))

      pub laid : p ≡ page p
      laid =
          let e = length_rows_of z p in
          let c = count_blank kind level in
          let f = fits_blank (rows_of z p) (wide_rows_of z p own) (omega arith) in
          let zeros = zero_at_true (body_size - z * count_of p) (head_size + z * count_of p) p rest (let h = within (count_of p) n in omega arith) in
          holds_same z (blank_page kind level) (rows_of z p) p (with_rows z (blank_page kind level) (rows_of z p))
          (record {
            len = size ∙ sym (length_blank kind level);
            low = own_holds.low;
            high = own_holds.high;
            head = λ i a b. head_bytes kind level k l p g head i a b;
            rows = own_holds.rows;
            freed = λ i a b. let m : i < head_size + z * 0 = rw c at b in absurd (omega (arith, mul-zero z));
            behind = λ i a b. past i (rw e at a) (dec_lt i page_size) zeros ∙ sym (blank_zero kind level i (omega arith));
          })
          (holds_with z (blank_page kind level) (rows_of z p) f)
          ∙ ap (with_rows z (blank_page kind level)) rows_are
        where
          past : (i : ℕ) → head_size + z * count_of p ≤ i → Dec (i < page_size) → Agree (body_size - z * count_of p) p (head_size + z * count_of p) [] 0 → get_or p i 0 ≡ 0
          past i h (yes m) zs =
              let q : i ≡ head_size + z * count_of p + (i - (head_size + z * count_of p)) = omega arith in
              ap (λ j. get_or p j 0) q ∙ zs.byte (i - (head_size + z * count_of p)) (omega arith)
          past i h (no m) zs = get_or-eq_default p 0 {n = i} (omega arith)

    -- the way back
    module _ (fit : (i : ℕ) → Fits ws (writes (reads (fields p i)))) (e : p ≡ page p) where
      many : length (map row (items p)) ≡ count_of p
      many = length-map (items p) row ∙ length_tab (count_of p) 0 (λ i. reads (fields p i))

      wide : Wide z (map row (items p))
      wide = all_map (is_wide z) row (items p) ∙ all_each (λ x. is_wide z (row x)) (items p) (reads []) (λ i h. eq-eqb (length (row (get_or (items p) i (reads [])))) z (row_length (get_or (items p) i (reads []))))

      fitting : Fit z (blank_page kind level) (map row (items p))
      fitting = fits_blank (map row (items p)) wide (omega (arith, many))

      pub told_head : head_ok kind level p ≡ true
      told_head =
          fields_head kind level k l p (same 2 0 (lit≤ tt) (lit< tt)) (same 2 2 (lit≤ tt) (lit< tt)) (same 2 6 (lit≤ tt) (lit< tt)) (same 8 8 (lit≤ tt) (lit< tt))
        where
          same : (w at : ℕ) → at + w ≤ head_size → Apart at w 4 2 → number_at w p at ≡ number_at w (blank_page kind level) at
          same w at h a = ap (λ s. number_at w s at) e ∙ head_with z (blank_page kind level) (map row (items p)) fitting w at h a

      pub told_rest : zero_at (body_size - z * count_of p) (head_size + z * count_of p) p ≡ true
      told_rest =
          let c = count_blank kind level in
          let b = length_blank kind level in
          let q : page_size - (head_size + z * count_of p) ≡ body_size - z * count_of p = omega arith in
          let r : zero_at (page_size - (head_size + z * length (map row (items p)))) (head_size + z * length (map row (items p))) (page p) ≡ true =
          zero_with z (blank_page kind level) (map row (items p)) fitting page_size (omega arith)
          (rw (c, mul-zero) (blank_page_lem kind level).zero) in
          subst (λ s. zero_at (body_size - z * count_of p) (head_size + z * count_of p) s ≡ true) (sym e)
          (subst (λ m. zero_at m (head_size + z * count_of p) (page p) ≡ true) q (subst (λ m. zero_at (page_size - (head_size + z * m)) (head_size + z * m) (page p) ≡ true) many r))

      pub told_each : (i : ℕ) → i < count_of p → writes (reads (fields p i)) ≡ fields p i
      unfolding rows_of row_at
      told_each i h =
          let x = reads (fields p i) in
          let r : tab (count_of p) 0 (row_at z p) ≡ map row (items p) = ap (rows_of z) e ∙ rows_with z (blank_page kind level) (map row (items p)) fitting in
          let s : part (head_size + z * i) z p ≡ row x =
          ap (row_at z p) (sym (zero-add i))
          ∙ sym (get_d_tab (count_of p) 0 (row_at z p) i (row (reads [])) h)
          ∙ ap (λ rs. get_or rs i (row (reads []))) r
          ∙ get_or-map row (items p) i (reads [])
          ∙ ap row (get_d_tab (count_of p) 0 (λ j. reads (fields p j)) i (reads []) h ∙ ap (λ j. reads (fields p j)) (zero-add i)) in
          let t : fields_at ws (part (head_size + z * i) z p) 0 ≡ fields_at ws p (head_size + z * i + 0) = fields_at_part ws (head_size + z * i) z p 0 (omega arith) in
          sym (ap (fields_at ws p) (sym (add-zero (head_size + z * i))) ∙ sym t ∙ ap (λ v. fields_at ws v 0) s ∙ row_fields x (fit i))
