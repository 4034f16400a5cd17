-- A leaf as it is written from entries, and as the leaf code changes it: it is then the leaf written from the entries changed.
-- Its rows are those of its entries, and an entry that fits is read back as it was written. Assumes nothing.
use Rattle.limits.specs.Limits.{page_size, entry_size, leaf_most, leaf_stay}
use Rattle.pages.specs.PageLayout.{EntryFits, entries_of}
use Rattle.rows.specs.PageHead.{count_of}
use Prim.Native.Nat.{ℕ, ◌-◌, ◌≤◌, ◌<◌}
use mathlib.Core.Path.{◌≡◌, refl, sym, ap, ap₂, subst, ◌∙◌}
use mathlib.Core.Logic.{inl, inr, ⊎_elim}
use mathlib.Core.Bool.{Bool, true, false, cond}
use mathlib.Core.List.{List, [], ◌∷◌, ◌++◌, map}
use native.Mathlib.Omega.{arith}
use lib.Dec.{eqb, lit<, lit≤}
use lib.ListN.{length, take, drop}
use Rattle.lists.specs.Lists.{In, join, insert_at, remove_at}
use Rattle.lists.proofs.Elements.{append_in}
use Rattle.lists.proofs.Joins.{map_append}
use Rattle.rules.specs.Entries.{left, settled, present}
use Rattle.rows.specs.PageRows.{rows_of, with_rows, Divided, as_they_are}
use Rattle.pages.specs.PageChanges.{entry_row, entry_put, entry_taken, end_of, row_left, leaf_settled}
use Rattle.pages.proofs.EntryRows.{row_entry, entry_row_lem, length_entry_row, entries_with, row_fits, bytes_entry_row}
use Rattle.trees.proofs.Thinning.{thinner, settled_thins}
use Rattle.index.specs.Pictures.{Item, key_of, blank_page, leaf_page}
use Rattle.pages.proofs.RowsWritten.{fit_rows, rows_written, count_written, length_written, written_again, put_written, taken_written, stay_written, go_written}
use Rattle.index.proofs.BlankPages.{blank_page_lem}

-- every entry's numbers fit
abbrev pub Smalls : List Item → Type 0
Smalls es = (e : Item) → In e es → EntryFits e

back_rows : (es : List Item) → Smalls es → map row_entry (map entry_row es) ≡ es
back_rows [] s = refl
back_rows (e ∷ es) s = ap₂ (λ x xs. x ∷ xs) (entry_row_lem e (s e (inl refl))) (back_rows es (λ x i. s x (inr i)))

smalls_said : (es : List Item) → Smalls (map row_entry (map entry_row es))
smalls_said [] x i = absurd i
smalls_said (e ∷ es) x (inl p) = subst EntryFits p (row_fits (entry_row e) (bytes_entry_row e))
smalls_said (e ∷ es) x (inr i) = smalls_said es x i

-- ---- written
module _ (es : List Item) (h : length es ≤ leaf_most) where
  pub leaf_rows : rows_of entry_size (leaf_page es) ≡ map entry_row es
  unfolding leaf_page
  leaf_rows = rows_written entry_size entry_row length_entry_row (blank_page_lem 2 0) es (omega arith) (omega arith)

  pub leaf_count : count_of (leaf_page es) ≡ length es
  unfolding leaf_page
  leaf_count = count_written entry_size entry_row length_entry_row (blank_page_lem 2 0) es (omega arith) (omega arith)

  pub leaf_length : length (leaf_page es) ≡ page_size
  unfolding leaf_page
  leaf_length = length_written entry_size entry_row length_entry_row (blank_page_lem 2 0) es (omega arith) (omega arith)

  pub leaf_entries : Smalls es → entries_of (leaf_page es) ≡ es
  unfolding leaf_page
  leaf_entries s =
      entries_with (blank_page 2 0) (map entry_row es) (fit_rows entry_size entry_row length_entry_row (blank_page_lem 2 0) es (omega arith) (omega arith))
      ∙ back_rows es s

  -- given other rows
  pub leaf_again : (xs : List Item) → length xs ≤ leaf_most → with_rows entry_size (leaf_page es) (map entry_row xs) ≡ leaf_page xs
  unfolding leaf_page
  leaf_again xs k = written_again entry_size entry_row length_entry_row (blank_page_lem 2 0) es (omega arith) (omega arith) xs (omega arith) (omega arith)

  -- ---- as the leaf code changes it
  pub leaf_put : (i : ℕ) (e : Item) → length es ≤ leaf_most - 1 → entry_put (leaf_page es) i e ≡ leaf_page (insert_at i e es)
  unfolding leaf_page entry_put
  leaf_put i e k = put_written entry_size entry_row length_entry_row (blank_page_lem 2 0) es (omega arith) (omega arith) i e (omega arith) (omega arith)

  pub leaf_taken : (i : ℕ) → i < length es → entry_taken (leaf_page es) i ≡ leaf_page (remove_at i es)
  unfolding leaf_page entry_taken
  leaf_taken i k = taken_written entry_size entry_row length_entry_row (blank_page_lem 2 0) es (omega arith) (omega arith) i k

  module _ (i : ℕ) (e : Item) (l r : List ℕ)
      (d : Divided entry_size leaf_stay as_they_are (insert_at i (entry_row e) (rows_of entry_size (leaf_page es))) (leaf_page es) (blank_page 2 0) l r) where
    pub leaf_stays : leaf_stay ≤ length es → l ≡ leaf_page (take leaf_stay (insert_at i e es))
    unfolding leaf_page
    leaf_stays k = d.left ∙ stay_written entry_size entry_row length_entry_row (blank_page_lem 2 0) es (omega arith) (omega arith) i leaf_stay e (lit≤ tt) (lit< tt) k

    pub leaf_goes : r ≡ leaf_page (drop leaf_stay (insert_at i e es))
    unfolding leaf_page
    leaf_goes =
        d.right ∙ ap (with_rows entry_size (blank_page 2 0)) (go_written entry_size entry_row length_entry_row (blank_page_lem 2 0) es (omega arith) (omega arith) i leaf_stay e)

-- ---- a laid leaf: its entries fit
pub laid_small : (p : List ℕ) → p ≡ leaf_page (entries_of p) → length (entries_of p) ≤ leaf_most → Smalls (entries_of p)
unfolding leaf_page
laid_small p e h =
    subst Smalls (sym (ap entries_of e ∙ entries_with (blank_page 2 0) (map entry_row (entries_of p))
    (fit_rows entry_size entry_row length_entry_row (blank_page_lem 2 0) (entries_of p) (omega arith) (omega arith)))) (smalls_said (entries_of p))

-- ---- settled
rows_left : (commits : Bool) (t : ℕ) (e : Item) → EntryFits e → row_left commits t (entry_row e) ≡ map entry_row (left (end_of commits) t e)
unfolding row_left left
rows_left commits t e s = ap (λ x. cond (eqb x.owner t) (map entry_row (left (end_of commits) t x)) (entry_row e ∷ [])) (entry_row_lem e s) ∙ go (eqb e.owner t) refl
  where
    go : (b : Bool) → eqb e.owner t ≡ b
        → cond b (map entry_row (left (end_of commits) t e)) (entry_row e ∷ []) ≡ map entry_row (cond b (cond (present (end_of commits e)) (end_of commits e ∷ []) []) (e ∷ []))
    go true h = ap (λ b. map entry_row (cond b (cond (present (end_of commits e)) (end_of commits e ∷ []) []) (e ∷ []))) h
    go false h = refl

all_left : (commits : Bool) (t : ℕ) (es : List Item) → Smalls es → join (row_left commits t) (map entry_row es) ≡ map entry_row (settled (end_of commits) t es)
unfolding settled join
all_left commits t [] s = refl
all_left commits t (e ∷ es) s =
    ap₂ (λ x y. x ++ y) (rows_left commits t e (s e (inl refl))) (all_left commits t es (λ x i. s x (inr i)))
    ∙ sym (map_append entry_row (left (end_of commits) t e) (settled (end_of commits) t es))

pub end_key : (commits : Bool) (e : Item) → (end_of commits e).key ≡ e.key
end_key true e = refl
end_key false e = refl

pub settled_few : (commits : Bool) (t : ℕ) (es : List Item) → length (settled (end_of commits) t es) ≤ length es
settled_few commits t es = (thinner key_of key_of (settled (end_of commits) t) (settled_thins (end_of commits) (end_key commits) t) es).fewer

pub leaf_settled_lem : (commits : Bool) (t : ℕ) (es : List Item) → length es ≤ leaf_most → Smalls es
    → leaf_settled commits t (leaf_page es) ≡ leaf_page (settled (end_of commits) t es)
unfolding leaf_settled
leaf_settled_lem commits t es h s =
    ap (λ rs. with_rows entry_size (leaf_page es) (join (row_left commits t) rs)) (leaf_rows es h)
    ∙ ap (with_rows entry_size (leaf_page es)) (all_left commits t es s)
    ∙ leaf_again es h (settled (end_of commits) t es) (omega (arith, settled_few commits t es))

small_end : (commits : Bool) (e : Item) → EntryFits e → EntryFits (end_of commits e)
small_end true e s = record { key = s.key; owner = lit< tt; now = s.now; before = s.now }
small_end false e s = record { key = s.key; owner = lit< tt; now = s.before; before = s.before }

pub small_left : (commits : Bool) (t : ℕ) (e : Item) → EntryFits e → Smalls (left (end_of commits) t e)
unfolding left
small_left commits t e s = go (eqb e.owner t) (present (end_of commits e))
  where
    go : (b c : Bool) → Smalls (cond b (cond c (end_of commits e ∷ []) []) (e ∷ []))
    go true true x (inl p) = subst EntryFits p (small_end commits e s)
    go true true x (inr i) = absurd i
    go true false x i = absurd i
    go false c x (inl p) = subst EntryFits p s
    go false c x (inr i) = absurd i

pub join_small : (f : Item → List Item) → ((e : Item) → EntryFits e → Smalls (f e)) → (es : List Item) → Smalls es → Smalls (join f es)
unfolding join
join_small f h [] s x i = absurd i
join_small f h (e ∷ es) s x i =
    ⊎_elim (h e (s e (inl refl)) x) (join_small f h es (λ y j. s y (inr j)) x) (append_in (f e) (join f es) x i)

pub settled_small : (commits : Bool) (t : ℕ) (es : List Item) → Smalls es → Smalls (settled (end_of commits) t es)
unfolding settled
settled_small commits t = join_small (left (end_of commits) t) (small_left commits t)
