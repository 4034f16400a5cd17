-- An inner page as it is written from children, and as the inner code changes it: it is then the page written from the children changed.
-- Its rows are those of its children, and a child that fits is read back as it was written. Assumes nothing.
use Rattle.limits.specs.Limits.{key_size, page_size, child_size, inner_most, inner_stay}
use Rattle.pages.specs.PageLayout.{ChildFits, child_widths, child_fields, children_of}
use Rattle.rows.specs.PageHead.{count_of}
use Prim.Native.Nat.{ℕ, ◌-◌, ◌≤◌, ◌+◌}
use mathlib.Core.Path.{◌≡◌, refl, sym, ap, ap₂, subst, ◌∙◌}
use mathlib.Core.Logic.{inl, inr}
use mathlib.Core.List.{List, [], ◌∷◌, map}
use native.Mathlib.Omega.{arith}
use lib.Dec.{lit<, lit≤}
use lib.ListN.{length, get_or, take, drop, replicate}
use Rattle.lists.specs.Lists.{In, insert_at}
use Rattle.numbers.specs.Numbers.{number_at, put_number, fields_at, width_of}
use Rattle.numbers.proofs.Agree.{agree_all}
use Rattle.numbers.proofs.Numbers.{number_same, number_apart, touches_put_number, length_put_number}
use Rattle.numbers.proofs.Fields.{fields_same, fields_inj}
use Rattle.numbers.proofs.BytesKept.{bytes_put_number}
use Rattle.pages.specs.declared.Child.{Child}
use Rattle.rows.specs.PageRows.{rows_of, with_rows, Divided}
use Rattle.pages.specs.PageChanges.{child_row, child_put, from_zero, first_low}
use Rattle.pages.proofs.ChildRows.{child_fits, row_child, child_row_lem, length_child_row, children_with, row_fits, bytes_child_row}
use Rattle.index.specs.Pictures.{blank_page, inner_page, zero_first, low_first}
use Rattle.pages.proofs.RowsWritten.{fit_rows, rows_written, count_written, length_written, put_written, stay_written, go_written}
use Rattle.index.proofs.BlankPages.{blank_page_lem}

-- every child's numbers fit
abbrev pub Smalls : List Child → Type 0
Smalls cs = (c : Child) → In c cs → ChildFits c

back_rows : (cs : List Child) → Smalls cs → map row_child (map child_row cs) ≡ cs
back_rows [] s = refl
back_rows (c ∷ cs) s = ap₂ (λ x xs. x ∷ xs) (child_row_lem c (s c (inl refl))) (back_rows cs (λ x i. s x (inr i)))

smalls_said : (cs : List Child) → Smalls (map row_child (map child_row cs))
smalls_said [] x i = absurd i
smalls_said (c ∷ cs) x (inl p) = subst ChildFits p (row_fits (child_row c) (bytes_child_row c))
smalls_said (c ∷ cs) x (inr i) = smalls_said cs x i

row_fields : (c : Child) → ChildFits c → fields_at child_widths (child_row c) 0 ≡ child_fields c
unfolding child_row width_of
row_fields c s = fields_same child_widths (replicate child_size 0) 0 (child_fields c) (child_fits c s) (lit≤ tt)

-- ---- the first separator becomes 0
low_zero : (c : Child) → ChildFits c → put_number key_size (child_row c) 0 0 ≡ child_row (record { low = record { 0 = 0 }; page = c.page })
unfolding fields_at width_of child_fields
low_zero c s =
    let d : Child = record { low = record { 0 = 0 }; page = c.page } in
    let p = put_number key_size (child_row c) 0 0 in
    let n : length p ≡ child_size = length_put_number key_size (child_row c) 0 0 ∙ length_child_row c in
    let f = touches_put_number key_size (child_row c) 0 0 in
    let a : number_at key_size p 0 ≡ 0 = number_same key_size (child_row c) 0 0 (lit< tt) (omega (arith, length_child_row c)) in
    let x = number_apart 2 key_size f (lit< tt) in
    let y = number_apart 2 (key_size + 2) f (lit< tt) in
    let z = number_apart 4 (key_size + 2 + 2) f (lit< tt) in
    let g : fields_at child_widths p 0 ≡ fields_at child_widths (child_row d) 0 =
    ap₂ (λ v vs. v ∷ vs) a (ap₂ (λ v vs. v ∷ vs) x (ap₂ (λ v vs. v ∷ vs) y (ap₂ (λ v vs. v ∷ vs) z refl)))
    ∙ ap (λ vs. 0 ∷ drop 1 vs) (row_fields c s)
    ∙ sym (row_fields d (record { low = lit< tt; page = s.page })) in
    let k = fields_inj child_widths {s = p} {t = child_row d} {a = 0} {b = 0} (bytes_put_number key_size (child_row c) 0 0 (bytes_child_row c)) (bytes_child_row d) g in
    agree_all p (child_row d) (n ∙ sym (length_child_row d)) (record { byte = λ i h. k.byte i (omega arith) })

zero_rows : (cs : List Child) → Smalls cs → from_zero (map child_row cs) ≡ map child_row (zero_first cs)
zero_rows [] s = refl
zero_rows (c ∷ cs) s = ap (λ r. r ∷ map child_row cs) (low_zero c (s c (inl refl)))

pub first_rows : (cs : List Child) → Smalls cs → first_low (map child_row cs) ≡ low_first cs
unfolding fields_at child_fields
first_rows [] s = refl
first_rows (c ∷ cs) s = ap (λ vs. get_or vs 0 0) (row_fields c (s c (inl refl)))

-- ---- written
module _ (level : ℕ) (cs : List Child) (h : length cs ≤ inner_most) where
  pub inner_rows : rows_of child_size (inner_page level cs) ≡ map child_row cs
  unfolding inner_page
  inner_rows = rows_written child_size child_row length_child_row (blank_page_lem 3 level) cs (omega arith) (omega arith)

  pub inner_count : count_of (inner_page level cs) ≡ length cs
  unfolding inner_page
  inner_count = count_written child_size child_row length_child_row (blank_page_lem 3 level) cs (omega arith) (omega arith)

  pub inner_length : length (inner_page level cs) ≡ page_size
  unfolding inner_page
  inner_length = length_written child_size child_row length_child_row (blank_page_lem 3 level) cs (omega arith) (omega arith)

  pub inner_children : Smalls cs → children_of (inner_page level cs) ≡ cs
  unfolding inner_page
  inner_children s =
      children_with (blank_page 3 level) (map child_row cs) (fit_rows child_size child_row length_child_row (blank_page_lem 3 level) cs (omega arith) (omega arith))
      ∙ back_rows cs s

  -- ---- as the inner code changes it
  pub inner_put : (i : ℕ) (c : Child) → length cs ≤ inner_most - 1 → child_put (inner_page level cs) i c ≡ inner_page level (insert_at i c cs)
  unfolding inner_page child_put
  inner_put i c k = put_written child_size child_row length_child_row (blank_page_lem 3 level) cs (omega arith) (omega arith) i c (omega arith) (omega arith)

  module _ (i : ℕ) (c : Child) (l r : List ℕ)
      (d : Divided child_size inner_stay from_zero (insert_at i (child_row c) (rows_of child_size (inner_page level cs))) (inner_page level cs) (blank_page 3 level) l r) where
    pub inner_stays : inner_stay ≤ length cs → l ≡ inner_page level (take inner_stay (insert_at i c cs))
    unfolding inner_page
    inner_stays k =
        d.left ∙ stay_written child_size child_row length_child_row (blank_page_lem 3 level) cs (omega arith) (omega arith) i inner_stay c (lit≤ tt) (lit< tt) k

    pub inner_goes : Smalls (drop inner_stay (insert_at i c cs)) → r ≡ inner_page level (zero_first (drop inner_stay (insert_at i c cs)))
    unfolding inner_page
    inner_goes s =
        d.right
        ∙ ap (λ rs. with_rows child_size (blank_page 3 level) (from_zero rs))
        (go_written child_size child_row length_child_row (blank_page_lem 3 level) cs (omega arith) (omega arith) i inner_stay c)
        ∙ ap (with_rows child_size (blank_page 3 level)) (zero_rows (drop inner_stay (insert_at i c cs)) s)

-- ---- a laid inner page: its children fit
pub laid_small : (level : ℕ) (p : List ℕ) → p ≡ inner_page level (children_of p) → length (children_of p) ≤ inner_most → Smalls (children_of p)
unfolding inner_page
laid_small level p e h =
    subst Smalls (sym (ap children_of e ∙ children_with (blank_page 3 level) (map child_row (children_of p))
    (fit_rows child_size child_row length_child_row (blank_page_lem 3 level) (children_of p) (omega arith) (omega arith)))) (smalls_said (children_of p))
