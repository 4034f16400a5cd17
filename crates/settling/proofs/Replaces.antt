-- An entry put in the place of the one with its key: in a list whose keys ascend that one stands at the place of the first at or above the key or
-- nowhere; so the leaf is the one written from the list changed. Assumes nothing.
use Prim.Native.Nat.{ℕ, suc, ◌+◌, ◌*◌, ◌-◌, ◌≤◌, ◌<◌, compare}
use mathlib.Core.Path.{◌≡◌, refl, sym, ap, ap₂, subst, ◌∙◌}
use mathlib.Core.Logic.{inl, inr}
use mathlib.Core.Bool.{Bool, true, false, cond, not}
use mathlib.Core.List.{List, [], ◌∷◌, map}
use native.Mathlib.Nat.{zero-add}
use native.Mathlib.Omega.{arith}
use lib.Dec.{leb, eqb, ltb}
use lib.ListN.{length, get_or, set, take, drop, get_or-eq_default}
use lib.Seq.{set_out}
use borrow.Author.Tests.{leb-true, leb-false, eqb-true, eq-eqb, ne_eqb, not-true, ltb-true}
use borrow.Rule.Slice.PartMut.{put_mid}
use Rattle.limits.specs.Limits.{page_size}
use Rattle.lists.specs.Lists.{all, pairs, place}
use Rattle.lists.proofs.Tables.{get_d_tab}
use Rattle.lists.proofs.Tests.{all_head, all_tail, all_weaker}
use Rattle.lists.proofs.Pairs.{pairs_head, pairs_tail}
use Rattle.pages.specs.PageLayout.{EntryFits, entry_at, entries_of, put_entry}
use Rattle.rows.specs.PageHead.{count_of}
use Rattle.pages.specs.KeyPlaces.{keys_ascend, EntryPlace}
use Rattle.pages.proofs.RowsWritten as W
use Rattle.pages.proofs.EntryRows.{length_entries}
use Rattle.trees.specs.Growth.{missing}
use Rattle.trees.proofs.Thinning.{map_thins}
use Rattle.index.specs.declared.Top.{Top}
use Rattle.index.specs.Pictures.{Item, key_of, page_at, put_page, index_of, blank_page, leaf_page, WholePages}
use Rattle.index.specs.Changes.{put_over, replaced, Becomes}
use Rattle.index.specs.Descents.{TopOf, OwnLeaf, LeafAt, LeafFor, overwritten}
use Rattle.index.proofs.Buffers.{page_lent, page_back}
use Rattle.index.proofs.BlankPages.{blank_page_lem}
use Rattle.index.proofs.LeafPages.{Smalls}
use Rattle.settling.proofs.OneLeaf.{leaf_changed}

-- ---- the leaf that is lent
pub leaf_lent : (s : List ℕ) (pg : ℕ) → LeafAt s pg → OwnLeaf (take (page_size * pg + page_size - page_size * pg) (drop (page_size * pg) s))
leaf_lent s pg l = subst OwnLeaf (sym (page_lent s pg)) l.leaf

module _ (e : Item) where
  -- ---- a list
  abbrev over : List Item → List Item
  over es = map (λ (y : Item). put_over e y) es

  other : (y : Item) → eqb y.key e.key ≡ false → put_over e y ≡ y
  other y h = ap (λ b. cond b e y) h

  -- nothing changes where no entry has the key
  over_none : (es : List Item) → missing compare key_of e.key es ≡ true → over es ≡ es
  over_none [] h = refl
  over_none (y ∷ ys) h =
      let p : Item → Bool = λ x. not (eqb x.key e.key) in
      ap₂ (λ x xs. x ∷ xs) (other y (not-true (eqb y.key e.key) (all_head p y ys h))) (over_none ys (all_tail p y ys h))

  above_none : (y : Item) (ys : List Item) → e.key ≤ y.key → all (λ z. ltb y.key z.key) ys ≡ true → over ys ≡ ys
  above_none y ys h a =
      over_none ys
      (all_weaker (λ z. ltb y.key z.key) (λ z. not (eqb z.key e.key))
      (λ z l. ap not (ne_eqb z.key e.key (λ i. omega (arith, ltb-true y.key z.key l)))) ys a)

  -- the first at or above the key has it, or none does
  over_place : (es : List Item) → pairs (λ (a b : Item). ltb a.key b.key) es ≡ true
      → let i = place (λ (y : Item). leb e.key y.key) es in over es ≡ cond (eqb (get_or es i e).key e.key) (set es i e) es
  unfolding place
  over_place [] h = sym (ap (λ b. cond b [] []) (eq-eqb e.key e.key refl))
  over_place (y ∷ ys) h =
      let r : Item → Item → Bool = λ a b. ltb a.key b.key in
      go (leb e.key y.key) refl (over_place ys (pairs_tail r y ys h)) (pairs_head r y ys h)
    where
      j : ℕ
      j = place (λ (y : Item). leb e.key y.key) ys

      within : (b : Bool) → cond b (y ∷ set ys j e) (y ∷ ys) ≡ y ∷ cond b (set ys j e) ys
      within true = refl
      within false = refl

      first : (b : Bool) → cond b e y ∷ ys ≡ cond b (e ∷ ys) (y ∷ ys)
      first true = refl
      first false = refl

      go : (b : Bool) → leb e.key y.key ≡ b → over ys ≡ cond (eqb (get_or ys j e).key e.key) (set ys j e) ys
          → all (λ (z : Item). ltb y.key z.key) ys ≡ true
          → over (y ∷ ys) ≡ cond (eqb (get_or (y ∷ ys) (cond b 0 (suc j)) e).key e.key) (set (y ∷ ys) (cond b 0 (suc j)) e) (y ∷ ys)
      go true l r a = ap (λ xs. put_over e y ∷ xs) (above_none y ys (leb-true e.key y.key l) a) ∙ first (eqb y.key e.key)
      go false l r a =
          ap₂ (λ x xs. x ∷ xs) (other y (ne_eqb y.key e.key (λ i. omega (arith, leb-false e.key y.key l)))) r
          ∙ sym (within (eqb (get_or ys j e).key e.key))

  -- ---- a leaf
  module _ (p : List ℕ) (l : OwnLeaf p) (i : ℕ) (h : EntryPlace p e.key i) where
    at_place : over (entries_of p) ≡ cond (eqb (get_or (entries_of p) i e).key e.key) (set (entries_of p) i e) (entries_of p)
    unfolding keys_ascend
    at_place =
        over_place (entries_of p) l.order
        ∙ ap (λ j. cond (eqb (get_or (entries_of p) j e).key e.key) (set (entries_of p) j e) (entries_of p)) (sym (h.first l.order))

    pub over_end : (n : ℕ) → n ≡ count_of p → n ≤ i → p ≡ leaf_page (overwritten e (entries_of p))
    unfolding overwritten
    over_end n c m =
        let k : length (entries_of p) ≤ i = omega (arith, length_entries p) in
        l.laid
        ∙ ap leaf_page (sym (at_place ∙ ap (λ b. cond b (set (entries_of p) i e) (entries_of p))
        (eq-eqb (get_or (entries_of p) i e).key e.key (ap (λ y. y.key) (get_or-eq_default (entries_of p) e k))) ∙ set_out (entries_of p) i e k))

    module _ (n k : ℕ) (b : Bool) (c : n ≡ count_of p) (m : i < n) (r : k ≡ (entry_at p i).key) (same : b ≡ eqb k e.key) where
      key_there : eqb (get_or (entries_of p) i e).key e.key ≡ b
      unfolding entries_of
      key_there =
          ap (λ y. eqb y.key e.key) (get_d_tab (count_of p) 0 (entry_at p) i e (omega arith) ∙ ap (entry_at p) (zero-add i))
          ∙ ap (λ x. eqb x e.key) (sym r) ∙ sym same

      pub over_other : b ≡ false → p ≡ leaf_page (overwritten e (entries_of p))
      unfolding overwritten
      over_other f =
          l.laid ∙ ap leaf_page (sym (at_place ∙ ap (λ d. cond d (set (entries_of p) i e) (entries_of p)) (key_there ∙ f)))

      pub over_same : b ≡ true → (p' : List ℕ) → p' ≡ put_entry p i e → p' ≡ leaf_page (overwritten e (entries_of p))
      unfolding leaf_page overwritten
      over_same f p' o =
          o
          ∙ W.leaf_set (blank_page 2 0) p (entries_of p) (blank_page_lem 2 0) (omega (arith, l.few, length_entries p)) l.laid i e (omega (arith, length_entries p))
          ∙ ap leaf_page (sym (at_place ∙ ap (λ d. cond d (set (entries_of p) i e) (entries_of p)) (key_there ∙ f)))

  -- ---- and given back
  pub over_back : (s : List ℕ) (pg : ℕ) (p : List ℕ) → length p ≡ length (take (page_size * pg + page_size - page_size * pg) (drop (page_size * pg) s))
      → p ≡ leaf_page (overwritten e (entries_of (take (page_size * pg + page_size - page_size * pg) (drop (page_size * pg) s))))
      → put_mid (page_size * pg) (page_size * pg + page_size - page_size * pg) s p ≡ put_page s pg (leaf_page (overwritten e (entries_of (page_at s pg))))
  unfolding overwritten
  over_back s pg p n b =
      page_back s pg p (leaf_page (over (entries_of (page_at s pg)))) n (b ∙ ap (λ x. leaf_page (over (entries_of x))) (page_lent s pg))

  -- ---- the whole
  same_key : (y : Item) → (put_over e y).key ≡ y.key
  same_key y = go (eqb y.key e.key) refl
    where
      go : (b : Bool) → eqb y.key e.key ≡ b → (cond b e y).key ≡ y.key
      go true h = sym (eqb-true y.key e.key h)
      go false h = refl

  over_small : EntryFits e → (es : List Item) → Smalls es → Smalls (over es)
  over_small m [] f x x3 = elim x3 [ ]
  over_small m (y ∷ ys) f x (inl i) = subst EntryFits i (go (eqb y.key e.key))
    where
      go : (b : Bool) → EntryFits (cond b e y)
      go true = m
      go false = f y (inl refl)
  over_small m (y ∷ ys) f x (inr i) = over_small m ys (λ z j. f z (inr j)) x i

  module _ (s : List ℕ) (w : WholePages s) (t : Top) (o : TopOf s t) (q : ℕ) (l : LeafFor s t.level t.root e.key q) where
    pub replaced_all : EntryFits e → (s' : List ℕ) → s' ≡ put_page s q (leaf_page (overwritten e (entries_of (page_at s q)))) → Becomes s' (replaced e (index_of s))
    unfolding replaced overwritten
    replaced_all m =
        leaf_changed over (map_thins key_of key_of (put_over e) same_key) (over_small m) e.key over_none s w t o q l
