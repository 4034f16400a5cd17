-- A leaf settled in one pass: the rows passed are settled and stand at the front, the others are as they were; in the end the rest is zero.
-- The page in the loop is the page at first with what is left of the rows passed put behind its head. Assumes nothing.
use mathlib.Core.Path.{◌≡◌, refl, sym, ap, ap₂, ◌∙◌, subst}
use mathlib.Core.Bool.{Bool, true, false, cond}
use mathlib.Core.List.{List, [], ◌∷◌, ◌++◌, map, append-nil}
use Prim.Native.Nat.{ℕ, ◌+◌, ◌-◌, ◌*◌, ◌≤◌, ◌<◌}
use native.Mathlib.Nat.{zero-add, add-zero}
use native.Mathlib.Omega.{arith}
use lib.Dec.{eqb, lit≤}
use lib.ListN.{length, replicate, length-append}
use borrow.Author.Tests.{eq-eqb, ne_eqb, not-true, not-false}
use Rattle.limits.specs.Limits.{page_size, head_size, entry_size, leaf_most}
use Rattle.lists.specs.Lists.{all, join, tab}
use Rattle.lists.proofs.Tables.{tab_append}
use Rattle.lists.proofs.Joins.{join_append}
use Rattle.numbers.specs.Numbers.{put_number, width_of, put_part, copied, zeroed}
use Rattle.rows.specs.RowMoves.{row_moved, cut}
use Rattle.numbers.proofs.Parts.{touches_put_part, part_apart, put_part_none}
use Rattle.numbers.proofs.Splices.{put_part_behind, put_row}
use Rattle.rules.specs.Entries.{ghost, present, left, committed, rolled_back}
use Rattle.entries.specs.declared.Entry as Code
use Rattle.entries.specs.EntryMeaning.{book_entry}
use Rattle.rows.specs.PageHead.{count_of}
use Rattle.pages.specs.PageLayout.{entry_widths, entry_fields, entry_at, put_entry}
use Rattle.rows.specs.PageRows.{row_at, rows_of, with_rows}
use Rattle.pages.specs.PageChanges.{entry_row, end_of, row_left, leaf_settled}
use Rattle.pages.specs.LeafSteps.{RowSettled}
use Rattle.rows.proofs.PageRows.{Wide, bytes_of, wide_more, wide_tab, wide_join, length_bytes}
use Rattle.rows.proofs.RowMoves.{with_is}
use Rattle.pages.proofs.EntryRows.{row_entry, row_entry_lem, length_entry_row}

-- ---- what is left of one row
module _ (c : Bool) (t : ℕ) (r : List ℕ) where
  pub left_other : ((row_entry r).owner ≡ t → ⊥) → row_left c t r ≡ r ∷ []
  unfolding row_left
  left_other h = rw (ne_eqb (row_entry r).owner t h)

  pub left_gone : (row_entry r).owner ≡ t → ghost (end_of c (row_entry r)) ≡ true → row_left c t r ≡ []
  unfolding row_left left
  left_gone h g = rw (eq-eqb (row_entry r).owner t h, not-true (present (end_of c (row_entry r))) g)

  pub left_kept : (row_entry r).owner ≡ t → ghost (end_of c (row_entry r)) ≡ false → row_left c t r ≡ entry_row (end_of c (row_entry r)) ∷ []
  unfolding row_left left
  left_kept h g = rw (eq-eqb (row_entry r).owner t h, not-false (present (end_of c (row_entry r))) g)

  wide_left : length r ≡ entry_size → Wide entry_size (row_left c t r)
  unfolding row_left left all
  wide_left e = at (eqb (row_entry r).owner t) (present (end_of c (row_entry r)))
    where
      at : (b d : Bool) → Wide entry_size (cond b (map entry_row (cond b (cond d (end_of c (row_entry r) ∷ []) []) (row_entry r ∷ []))) (r ∷ []))
      at false d = wide_more entry_size r [] e refl
      at true true = wide_more entry_size (entry_row (end_of c (row_entry r))) [] (length_entry_row (end_of c (row_entry r))) refl
      at true false = refl

-- ---- one row passed, by what the code finds there
one_row : (r : List ℕ) → bytes_of (r ∷ []) ≡ r
unfolding join
one_row r = append-nil r

module _ (c : Bool) (t i j : ℕ) (p p₁ : List ℕ) where
  settled_as : (rs : List (List ℕ)) (b : List ℕ) (m : ℕ) → row_left c t (row_at entry_size p i) ≡ rs → bytes_of rs ≡ b → length rs ≡ m → m ≤ 1
      → p₁ ≡ put_part (head_size + entry_size * j) b p → RowSettled c t i j p p₁ (j + m)
  settled_as rs b m e f l h q =
      record {
        bytes = q ∙ ap (λ x. put_part (head_size + entry_size * j) x p) (sym (ap bytes_of e ∙ f));
        place = ap (λ x. j + x) (sym (ap length e ∙ l));
        most = omega arith;
      }

  pub passed_other : (o : ℕ) → o ≡ (entry_at p i).owner → (o ≡ t → ⊥) → p₁ ≡ row_moved head_size entry_size i j p → RowSettled c t i j p p₁ (j + 1)
  unfolding copied row_at
  passed_other o a h q =
      let n : (row_entry (row_at entry_size p i)).owner ≡ t → ⊥ = λ e. h (a ∙ ap (λ x. x.owner) (sym (row_entry_lem p i)) ∙ e) in
      settled_as (row_at entry_size p i ∷ []) (row_at entry_size p i) 1 (left_other c t (row_at entry_size p i) n) (one_row (row_at entry_size p i)) refl (lit≤ tt) q

  module _ (e s : Code.Entry) (g : Bool) (o : (entry_at p i).owner ≡ t) (a : book_entry e ≡ entry_at p i) (b : book_entry s ≡ end_of c (book_entry e))
      (d : g ≡ ghost (book_entry s)) where
    says : book_entry s ≡ end_of c (row_entry (row_at entry_size p i))
    says = b ∙ ap (end_of c) (a ∙ sym (row_entry_lem p i))

    own : (row_entry (row_at entry_size p i)).owner ≡ t
    own = ap (λ x. x.owner) (row_entry_lem p i) ∙ o

    is : (v : Bool) → g ≡ v → ghost (end_of c (row_entry (row_at entry_size p i))) ≡ v
    is v h = sym (ap ghost says) ∙ sym d ∙ h

    pub passed_gone : g ≡ true → p₁ ≡ p → RowSettled c t i j p p₁ j
    unfolding join
    passed_gone h q =
        subst (RowSettled c t i j p p₁) (add-zero j)
        (settled_as [] [] 0 (left_gone c t (row_at entry_size p i) own (is true h)) refl refl (lit≤ tt) (q ∙ put_part_none (head_size + entry_size * j) p))

    pub passed_kept : g ≡ false → p₁ ≡ put_entry p j (book_entry s) → length p ≡ page_size → i < leaf_most → j ≤ i → RowSettled c t i j p p₁ (j + 1)
    unfolding put_entry width_of entry_row
    passed_kept h q l m k =
        settled_as (entry_row (end_of c (row_entry (row_at entry_size p i))) ∷ []) (entry_row (book_entry s)) 1
        (left_kept c t (row_at entry_size p i) own (is false h)) (one_row (entry_row (end_of c (row_entry (row_at entry_size p i)))) ∙ ap entry_row (sym says)) refl (lit≤ tt)
        (q ∙ put_row entry_widths p (head_size + entry_size * j) (entry_fields (book_entry s)) entry_size refl (omega arith))

-- an entry as it is then
pub ends_yes : (c : Bool) (e r : Code.Entry) → c ≡ true → book_entry r ≡ committed (book_entry e) → book_entry r ≡ end_of c (book_entry e)
ends_yes c e r h q = rw h q

pub ends_no : (c : Bool) (e r : Code.Entry) → c ≡ false → book_entry r ≡ rolled_back (book_entry e) → book_entry r ≡ end_of c (book_entry e)
ends_no c e r h q = rw h q

-- ---- the pass
-- what is left of the first i rows
abbrev pub left_of : Bool → ℕ → List ℕ → ℕ → List (List ℕ)
left_of c t p i = join (row_left c t) (tab i 0 (row_at entry_size p))

-- they are settled, and the next one goes to place j
pub record SettledTo (c : Bool) (t : ℕ) (p₀ : List ℕ) (i : ℕ) (p : List ℕ) (j : ℕ) : Type 0 where
  pub bytes : p ≡ put_part head_size (bytes_of (left_of c t p₀ i)) p₀
  pub place : j ≡ length (left_of c t p₀ i)

left_next : (c : Bool) (t : ℕ) (p : List ℕ) (i : ℕ) → left_of c t p (i + 1) ≡ left_of c t p i ++ row_left c t (row_at entry_size p i)
unfolding join tab
left_next c t p i =
    ap (join (row_left c t)) (tab_append i 1 0 (row_at entry_size p) ∙ ap (λ k. tab i 0 (row_at entry_size p) ++ (row_at entry_size p k ∷ [])) (zero-add i))
    ∙ join_append (row_left c t) (tab i 0 (row_at entry_size p)) (row_at entry_size p i ∷ [])
    ∙ ap (λ x. left_of c t p i ++ x) (append-nil (row_left c t (row_at entry_size p i)))

pub settled_none : (c : Bool) (t : ℕ) (p : List ℕ) → SettledTo c t p 0 p 0
unfolding join tab
settled_none c t p = record { bytes = put_part_none head_size p; place = refl }

-- a row behind what has been put is as it was
same_row : (b p : List ℕ) (i : ℕ) → length b ≤ entry_size * i → head_size + entry_size * i + entry_size ≤ length p → row_at entry_size (put_part head_size b p) i ≡ row_at entry_size p i
unfolding row_at
same_row b p i h l = part_apart (head_size + entry_size * i) entry_size (touches_put_part head_size b p (omega arith)) (omega arith) l

module _ (c : Bool) (t : ℕ) (p₀ p : List ℕ) (i j n : ℕ) (s : SettledTo c t p₀ i p j) (l : length p₀ ≡ page_size) (e : n ≡ count_of p₀) (h : count_of p₀ ≤ leaf_most) where
  bytes_left : i ≤ n → length (bytes_of (left_of c t p₀ i)) ≡ entry_size * j
  bytes_left k =
      length_bytes entry_size (left_of c t p₀ i) (wide_join entry_size (row_left c t) (wide_left c t) (tab i 0 (row_at entry_size p₀)) (wide_tab entry_size p₀ i 0 (omega arith)))
      ∙ ap (λ x. entry_size * x) (sym s.place)

  pub settled_turn : (p₁ : List ℕ) (j₁ : ℕ) → RowSettled c t i j p p₁ j₁ → i < n → j ≤ i → SettledTo c t p₀ (i + 1) p₁ j₁
  settled_turn p₁ j₁ d k m =
      let b = bytes_left (omega arith) in
      let f : row_at entry_size p i ≡ row_at entry_size p₀ i = ap (λ x. row_at entry_size x i) s.bytes ∙ same_row (bytes_of (left_of c t p₀ i)) p₀ i (omega arith) (omega arith) in
      let g = row_left c t (row_at entry_size p₀ i) in
      record {
        bytes =
            d.bytes
            ∙ ap₂ (λ x y. put_part (head_size + entry_size * j) (bytes_of (row_left c t x)) y) f s.bytes
            ∙ put_part_behind head_size (entry_size * j) (bytes_of (left_of c t p₀ i)) (bytes_of g) p₀ b (omega arith)
            ∙ ap (λ x. put_part head_size x p₀) (sym (join_append (λ r. r) (left_of c t p₀ i) g) ∙ ap bytes_of (sym (left_next c t p₀ i)));
        place =
            d.place
            ∙ ap₂ (λ x y. x + length (row_left c t y)) s.place f
            ∙ sym (length-append (left_of c t p₀ i) g)
            ∙ ap length (sym (left_next c t p₀ i));
      }

  pub settled_all : (p₁ : List ℕ) → p₁ ≡ put_number 2 (cut head_size entry_size j n p) 4 j → i ≤ n → n ≤ i → p₁ ≡ leaf_settled c t p₀
  unfolding leaf_settled rows_of zeroed
  settled_all p₁ a k m =
      let q : i ≡ count_of p₀ = omega arith in
      let b = bytes_left k in
      a
      ∙ ap (λ x. put_number 2 x 4 j)
      (ap (put_part (head_size + entry_size * j) (replicate (entry_size * (n - j)) 0)) s.bytes
      ∙ put_part_behind head_size (entry_size * j) (bytes_of (left_of c t p₀ i)) (replicate (entry_size * (n - j)) 0) p₀ b (omega arith))
      ∙ with_is entry_size p₀ (left_of c t p₀ i) j (bytes_of (left_of c t p₀ i) ++ replicate (entry_size * (n - j)) 0) (sym s.place)
      (ap (λ x. bytes_of (left_of c t p₀ i) ++ replicate (entry_size * (x - j)) 0) (sym e))
      ∙ ap (λ x. with_rows entry_size p₀ (left_of c t p₀ x)) q
