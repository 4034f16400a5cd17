-- What each change of a page comes to, in the very facts that the code has there: an entry or a child put in, taken out, divided.
-- Each is a law of rows at the width of an entry or a child. Assumes nothing.
use mathlib.Core.Path.{◌≡◌, refl, ap, ◌∙◌}
use mathlib.Core.List.{List}
use Prim.Native.Nat.{ℕ, ◌+◌, ◌-◌, ◌≤◌, ◌<◌}
use native.Mathlib.Omega.{arith}
use lib.Dec.{lit≤}
use lib.ListN.{length, drop}
use Rattle.limits.specs.Limits.{key_size, page_size, head_size, entry_size, leaf_most, leaf_stay, leaf_go, child_size, inner_most, inner_stay, inner_go}
use Rattle.lists.specs.Lists.{insert_at}
use Rattle.numbers.specs.Numbers.{number_at, put_number, width_of}
use Rattle.rows.specs.RowMoves.{opened, closed}
use Rattle.rules.specs.Kinds.{Entry}
use Rattle.pages.specs.declared.Child.{Child}
use Rattle.rows.specs.PageHead.{count_of}
use Rattle.pages.specs.PageLayout.{entry_widths, entry_fields, put_entry, child_widths, child_fields, put_child}
use Rattle.rows.specs.PageRows.{rows_of, Divided, as_they_are}
use Rattle.pages.specs.PageChanges.{entry_row, child_row, entry_put, entry_taken, child_put, from_zero, first_low}
use Rattle.rows.specs.RowSteps.{Parted}
use Rattle.rows.proofs.WithRows.{Fit}
use Rattle.rows.proofs.RowMoves.{row_in, row_out}
use Rattle.pages.proofs.FirstSeparator.{first_from_zero, first_low_lem}
use Rattle.rows.proofs.RowDivisions.{length_go, fit_go, divided_low, divided_high}
use Rattle.pages.proofs.EntryRows.{one_entry}
use Rattle.pages.proofs.ChildRows.{one_child}

-- ---- one put in, one taken out
pub entry_in : (p p₁ p₂ p₃ : List ℕ) (i n : ℕ) (e : Entry ℕ ℕ) → n ≡ count_of p → p₁ ≡ opened head_size entry_size i n p
    → p₂ ≡ put_entry p₁ i e → p₃ ≡ put_number 2 p₂ 4 (n + 1) → length p ≡ page_size → count_of p < leaf_most → i ≤ count_of p → p₃ ≡ entry_put p i e
unfolding entry_put put_entry entry_row width_of
entry_in p p₁ p₂ p₃ i n e a b c d l h k = rw (d, c, b, a) (row_in entry_size p entry_widths (entry_fields e) i refl k (omega arith))

pub child_in : (p p₁ p₂ p₃ : List ℕ) (i n : ℕ) (x : Child) → n ≡ count_of p → p₁ ≡ opened head_size child_size i n p
    → p₂ ≡ put_child p₁ i x → p₃ ≡ put_number 2 p₂ 4 (n + 1) → length p ≡ page_size → count_of p < inner_most → i ≤ count_of p → p₃ ≡ child_put p i x
unfolding child_put put_child child_row width_of
child_in p p₁ p₂ p₃ i n x a b c d l h k = rw (d, c, b, a) (row_in child_size p child_widths (child_fields x) i refl k (omega arith))

pub entry_out : (p p₁ p₂ : List ℕ) (i n : ℕ) → n ≡ count_of p → p₁ ≡ closed head_size entry_size i n p
    → p₂ ≡ put_number 2 p₁ 4 (n - 1) → length p ≡ page_size → count_of p ≤ leaf_most → i < count_of p → p₂ ≡ entry_taken p i
unfolding entry_taken
entry_out p p₁ p₂ i n a b c l h k = rw (c, b, a) (row_out entry_size p i k (omega arith))

-- ---- a full leaf and one entry more, of which the lowest stay
module _ (l r l₁ r₁ : List ℕ) (i : ℕ) (e : Entry ℕ ℕ) where
  pub leaf_low : (l₂ : List ℕ) → Parted entry_size (leaf_stay - 1) leaf_go l r l₁ r₁ → l₂ ≡ entry_put l₁ i e → length l ≡ page_size → length r ≡ page_size → count_of l ≡ leaf_most
      → count_of r ≡ 0 → i < leaf_stay → Divided entry_size leaf_stay as_they_are (insert_at i (entry_row e) (rows_of entry_size l)) l r l₂ r₁
  unfolding entry_put
  leaf_low l₂ d q a b c n h =
      rw q (divided_low entry_size l r (entry_row e) l₁ r₁ i (leaf_stay - 1) leaf_go d (one_entry l r e a b c n) (omega arith) (lit≤ tt) (omega arith))

  pub leaf_high : (r₂ : List ℕ) → Parted entry_size leaf_stay (leaf_go - 1) l r l₁ r₁ → r₂ ≡ entry_put r₁ (i - leaf_stay) e → length l ≡ page_size → length r ≡ page_size → count_of l ≡ leaf_most
      → count_of r ≡ 0 → leaf_stay ≤ i → i ≤ leaf_most → Divided entry_size leaf_stay as_they_are (insert_at i (entry_row e) (rows_of entry_size l)) l r l₁ r₂
  unfolding entry_put
  leaf_high r₂ d q a b c n h k =
      rw q (divided_high entry_size l r (entry_row e) l₁ r₁ i leaf_stay (leaf_go - 1) d (one_entry l r e a b c n) (omega arith) (lit≤ tt) h)

-- ---- a full inner page and one child more, of which the lowest stay
module _ (l r l₁ r₁ : List ℕ) (i : ℕ) (x : Child) where
  abbrev children : List (List ℕ)
  children = insert_at i (child_row x) (rows_of child_size l)

  -- some go, and they fit
  gone : length l ≡ page_size → length r ≡ page_size → count_of l ≡ inner_most → count_of r ≡ 0 → Fit child_size r (drop inner_stay children) × (0 < length (drop inner_stay children))
  gone a b c n =
      let o = one_child l r x a b c n in
      let k = length_go o i inner_stay in
      (fit_go o i inner_stay (lit≤ tt), omega arith)

  zero_first : (l' r₂ r₃ : List ℕ) → Divided child_size inner_stay as_they_are children l r l' r₂ → length l ≡ page_size → length r ≡ page_size → count_of l ≡ inner_most → count_of r ≡ 0
      → r₃ ≡ put_number key_size r₂ head_size 0 → Divided child_size inner_stay from_zero children l r l' r₃
  zero_first l' r₂ r₃ d a b c n e =
      let f = gone a b c n in
      record { left = d.left; right = e ∙ ap (λ u. put_number key_size u head_size 0) d.right ∙ first_from_zero child_size r (drop inner_stay children) f.0 (lit≤ tt) f.1 }

  first_was : (l' r₂ : List ℕ) (k : ℕ) → Divided child_size inner_stay as_they_are children l r l' r₂ → length l ≡ page_size → length r ≡ page_size → count_of l ≡ inner_most → count_of r ≡ 0
      → k ≡ number_at key_size r₂ head_size → k ≡ first_low (drop inner_stay children)
  first_was l' r₂ k d a b c n e =
      let f = gone a b c n in e ∙ ap (λ u. number_at key_size u head_size) d.right ∙ first_low_lem child_size r (drop inner_stay children) f.0 (lit≤ tt) f.1

  -- the new child stays
  stays : Parted child_size (inner_stay - 1) inner_go l r l₁ r₁ → length l ≡ page_size → length r ≡ page_size → count_of l ≡ inner_most → count_of r ≡ 0 → i < inner_stay
      → Divided child_size inner_stay as_they_are children l r (child_put l₁ i x) r₁
  unfolding child_put
  stays d a b c n h =
      divided_low child_size l r (child_row x) l₁ r₁ i (inner_stay - 1) inner_go d (one_child l r x a b c n) (omega arith) (lit≤ tt) (omega arith)

  pub children_low : (l₂ r₂ : List ℕ) → Parted child_size (inner_stay - 1) inner_go l r l₁ r₁ → l₂ ≡ child_put l₁ i x → r₂ ≡ put_number key_size r₁ head_size 0
      → length l ≡ page_size → length r ≡ page_size → count_of l ≡ inner_most → count_of r ≡ 0 → i < inner_stay → Divided child_size inner_stay from_zero children l r l₂ r₂
  children_low l₂ r₂ d q e a b c n h = rw q (zero_first (child_put l₁ i x) r₁ r₂ (stays d a b c n h) a b c n e)

  pub low_low : (k : ℕ) → Parted child_size (inner_stay - 1) inner_go l r l₁ r₁ → k ≡ number_at key_size r₁ head_size
      → length l ≡ page_size → length r ≡ page_size → count_of l ≡ inner_most → count_of r ≡ 0 → i < inner_stay → k ≡ first_low (drop inner_stay children)
  low_low k d e a b c n h = first_was (child_put l₁ i x) r₁ k (stays d a b c n h) a b c n e

  -- the new child goes
  goes : Parted child_size inner_stay (inner_go - 1) l r l₁ r₁ → length l ≡ page_size → length r ≡ page_size → count_of l ≡ inner_most → count_of r ≡ 0 → inner_stay ≤ i → i ≤ inner_most
      → Divided child_size inner_stay as_they_are children l r l₁ (child_put r₁ (i - inner_stay) x)
  unfolding child_put
  goes d a b c n h k =
      divided_high child_size l r (child_row x) l₁ r₁ i inner_stay (inner_go - 1) d (one_child l r x a b c n) (omega arith) (lit≤ tt) h

  pub children_high : (r₂ r₃ : List ℕ) → Parted child_size inner_stay (inner_go - 1) l r l₁ r₁ → r₂ ≡ child_put r₁ (i - inner_stay) x → r₃ ≡ put_number key_size r₂ head_size 0
      → length l ≡ page_size → length r ≡ page_size → count_of l ≡ inner_most → count_of r ≡ 0 → inner_stay ≤ i → i ≤ inner_most → Divided child_size inner_stay from_zero children l r l₁ r₃
  children_high r₂ r₃ d q e a b c n h k = zero_first l₁ (child_put r₁ (i - inner_stay) x) r₃ (goes d a b c n h k) a b c n (e ∙ ap (λ u. put_number key_size u head_size 0) q)

  pub low_high : (r₂ : List ℕ) (k : ℕ) → Parted child_size inner_stay (inner_go - 1) l r l₁ r₁ → r₂ ≡ child_put r₁ (i - inner_stay) x → k ≡ number_at key_size r₂ head_size
      → length l ≡ page_size → length r ≡ page_size → count_of l ≡ inner_most → count_of r ≡ 0 → inner_stay ≤ i → i ≤ inner_most → k ≡ first_low (drop inner_stay children)
  low_high r₂ k d q e a b c n h m = first_was l₁ (child_put r₁ (i - inner_stay) x) k (goes d a b c n h m) a b c n (e ∙ ap (λ u. number_at key_size u head_size) q)
