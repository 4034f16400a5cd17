-- One entry settled, that of a key: in a list whose keys ascend it stands at the place of the first at or above the key or nowhere; so the leaf is
-- the one written from the list with it settled. Assumes nothing.
use Prim.Native.Nat.{ℕ, zero, suc, ◌*◌, ◌+◌, ◌-◌, ◌≤◌, ◌<◌, compare}
use mathlib.Core.Path.{◌≡◌, refl, sym, ap, ap₂, subst, ◌∙◌}
use mathlib.Core.Logic.{inl, inr}
use mathlib.Core.Bool.{Bool, true, false, cond, not}
use mathlib.Core.List.{List, [], ◌∷◌, ◌++◌}
use native.Mathlib.Nat.{zero-add, le_of_suc-le-suc}
use native.Mathlib.Omega.{arith}
use lib.Dec.{leb, eqb, ltb}
use lib.ListN.{length, get_or, set, take, drop}
use borrow.Author.Tests.{leb-true, leb-false, eqb-true, eq-eqb, ne_eqb, not-true, not-false, ltb-true}
use borrow.Rule.Slice.PartMut.{put_mid}
use Rattle.limits.specs.Limits.{page_size, leaf_most}
use Rattle.lists.specs.Lists.{all, pairs, place, join, remove_at}
use Rattle.lists.proofs.Tables.{get_d_tab}
use Rattle.lists.proofs.Tests.{all_head, all_tail, all_cons, all_at, all_weaker}
use Rattle.lists.proofs.Pairs.{pairs_head, pairs_tail}
use Rattle.lists.proofs.Joins.{join_append}
use Rattle.rules.specs.Entries.{present, ghost, left}
use Rattle.pages.specs.PageLayout.{EntryFits, entry_at, entries_of, put_entry}
use Rattle.rows.specs.PageHead.{count_of}
use Rattle.pages.specs.KeyPlaces.{keys_ascend, EntryPlace}
use Rattle.pages.specs.PageChanges.{end_of, entry_taken}
use Rattle.pages.proofs.RowsWritten as W
use Rattle.pages.proofs.EntryRows.{length_entries}
use Rattle.trees.specs.Growth.{missing}
use Rattle.trees.proofs.Thinning.{AtMostOne, Thins}
use Rattle.index.specs.declared.Top.{Top}
use Rattle.index.specs.Pictures.{Item, key_of, page_at, put_page, index_of, blank_page, leaf_page, WholePages}
use Rattle.index.specs.Changes.{left_at, key_settled, settled_at, Becomes}
use Rattle.index.specs.Descents.{TopOf, OwnLeaf, LeafFor, left_in}
use Rattle.index.proofs.Buffers.{page_lent, page_back}
use Rattle.index.proofs.BlankPages.{blank_page_lem}
use Rattle.index.proofs.LeafPages.{Smalls, leaf_taken, small_left, join_small, end_key}
use Rattle.settling.proofs.OneLeaf.{leaf_changed}

-- ---- what an entry has become, put at its place in a leaf
module _ (p : List ℕ) (l : OwnLeaf p) (i : ℕ) (h : i < count_of p) (e : Item) (b : Bool) (g : b ≡ ghost e) where
  there : i < length (entries_of p)
  there = omega (arith, length_entries p)

  few : length (entries_of p) ≤ leaf_most
  few = omega (arith, l.few, length_entries p)

  put_is : (c : Bool) → present e ≡ c → (p' : List ℕ) → p' ≡ leaf_page (cond c (set (entries_of p) i e) (remove_at i (entries_of p)))
      → p' ≡ leaf_page (left_in i e (entries_of p))
  put_is c a p' q = q ∙ ap (λ d. leaf_page (cond d (set (entries_of p) i e) (remove_at i (entries_of p)))) (sym a)

  pub left_taken : b ≡ true → (p' : List ℕ) → p' ≡ entry_taken p i → p' ≡ leaf_page (left_in i e (entries_of p))
  left_taken y p' q =
      put_is false (not-true (present e) (sym g ∙ y)) p' (q ∙ ap (λ x. entry_taken x i) l.laid ∙ leaf_taken (entries_of p) few i there)

  pub left_put : b ≡ false → (p' : List ℕ) → p' ≡ put_entry p i e → p' ≡ leaf_page (left_in i e (entries_of p))
  unfolding leaf_page
  left_put y p' q =
      put_is true (not-false (present e) (sym g ∙ y)) p'
      (q ∙ W.leaf_set (blank_page 2 0) p (entries_of p) (blank_page_lem 2 0) few l.laid i e there)

module _ (commits : Bool) (t k : ℕ) where
  -- ---- a list
  abbrev f : Item → List Item
  f e = left_at commits t k e

  other : (y : Item) → eqb y.key k ≡ false → f y ≡ y ∷ []
  other y h = ap (λ b. cond b (left (end_of commits) t y) (y ∷ [])) h

  -- nothing changes where no entry has the key
  key_none : (es : List Item) → missing compare key_of k es ≡ true → key_settled commits t k es ≡ es
  unfolding key_settled join
  key_none [] h = refl
  key_none (y ∷ ys) h =
      let p : Item → Bool = λ x. not (eqb x.key k) in
      ap₂ ◌++◌ (other y (not-true (eqb y.key k) (all_head p y ys h))) (key_none ys (all_tail p y ys h))

  above_missing : (y : Item) (ys : List Item) → k ≤ y.key → all (λ z. ltb y.key z.key) ys ≡ true → missing compare key_of k ys ≡ true
  above_missing y ys h a =
      all_weaker (λ z. ltb y.key z.key) (λ z. not (eqb z.key k))
      (λ z l. ap not (ne_eqb z.key k (λ i. omega (arith, ltb-true y.key z.key l)))) ys a

  abbrev ascend : List Item → Bool
  ascend es = pairs (λ (a b : Item). ltb a.key b.key) es

  -- the first at or above the key has it, or none does
  place_missing : (d : Item) (es : List Item) → ascend es ≡ true → let i = place (λ (y : Item). leb k y.key) es in
      (i < length es → eqb (get_or es i d).key k ≡ false) → missing compare key_of k es ≡ true
  unfolding place all
  place_missing d [] h n = refl
  place_missing d (y ∷ ys) h n =
      let r : Item → Item → Bool = λ a b. ltb a.key b.key in
      go (leb k y.key) refl n (place_missing d ys (pairs_tail r y ys h)) (pairs_head r y ys h)
    where
      j : ℕ
      j = place (λ (y : Item). leb k y.key) ys

      go : (b : Bool) → leb k y.key ≡ b → (cond b 0 (suc j) < suc (length ys) → eqb (get_or (y ∷ ys) (cond b 0 (suc j)) d).key k ≡ false)
          → ((j < length ys → eqb (get_or ys j d).key k ≡ false) → missing compare key_of k ys ≡ true)
          → all (λ (z : Item). ltb y.key z.key) ys ≡ true → missing compare key_of k (y ∷ ys) ≡ true
      go true l n r a = all_cons (λ (x : Item). not (eqb x.key k)) y ys (ap not (n (omega arith))) (above_missing y ys (leb-true k y.key l) a)
      go false l n r a =
          all_cons (λ (x : Item). not (eqb x.key k)) y ys (ap not (ne_eqb y.key k (λ i. omega (arith, leb-false k y.key l))))
          (r (λ h. n (omega arith)))

  -- the entry at place i has the key: it is settled if it is t's
  abbrev at : (own : Bool) → ℕ → Item → List Item → List Item
  at own i e es = cond own (left_in i (end_of commits e) es) es

  place_settled : (d : Item) (es : List Item) (i : ℕ) → i < length es → ascend es ≡ true → eqb (get_or es i d).key k ≡ true
      → key_settled commits t k es ≡ at (eqb (get_or es i d).owner t) i (get_or es i d) es
  unfolding key_settled join remove_at left
  place_settled d [] i h a e = elim h [ ]
  place_settled d (y ∷ ys) zero h a e =
      let r : Item → Item → Bool = λ a b. ltb a.key b.key in
      ap (λ b. cond b (left (end_of commits) t y) (y ∷ []) ++ key_settled commits t k ys) e
      ∙ ap (λ zs. left (end_of commits) t y ++ zs) (key_none ys (above_missing y ys (omega (arith, eqb-true y.key k e)) (pairs_head r y ys a)))
      ∙ go (eqb y.owner t) (present (end_of commits y))
    where
      go : (b c : Bool) → cond b (cond c (end_of commits y ∷ []) []) (y ∷ []) ++ ys ≡ cond b (cond c (end_of commits y ∷ ys) ys) (y ∷ ys)
      go true true = refl
      go true false = refl
      go false c = refl
  place_settled d (y ∷ ys) (suc i) h a e =
      let r : Item → Item → Bool = λ a b. ltb a.key b.key in
      let m : i < length ys = le_of_suc-le-suc h in
      let u = ltb-true y.key (get_or ys i d).key (all_at (λ z. ltb y.key z.key) ys i d (pairs_head r y ys a) m) in
      ap₂ ◌++◌ (other y (ne_eqb y.key k (λ z. omega (arith, eqb-true (get_or ys i d).key k e)))) (place_settled d ys i m (pairs_tail r y ys a) e)
      ∙ go (eqb (get_or ys i d).owner t) (present (end_of commits (get_or ys i d)))
    where
      x : Item
      x = end_of commits (get_or ys i d)

      go : (b c : Bool) → y ∷ cond b (cond c (set ys i x) (remove_at i ys)) ys ≡ cond b (cond c (y ∷ set ys i x) (y ∷ remove_at i ys)) (y ∷ ys)
      go true true = refl
      go true false = refl
      go false c = refl

  -- ---- a leaf
  module _ (p : List ℕ) (l : OwnLeaf p) (i : ℕ) (h : EntryPlace p k i) where
    stays_as : ((i < length (entries_of p)) → eqb (get_or (entries_of p) i (entry_at p i)).key k ≡ false) → p ≡ leaf_page (key_settled commits t k (entries_of p))
    unfolding keys_ascend
    stays_as n =
        l.laid
        ∙ ap leaf_page (sym (key_none (entries_of p) (place_missing (entry_at p i) (entries_of p) l.order
        (subst (λ j. j < length (entries_of p) → eqb (get_or (entries_of p) j (entry_at p i)).key k ≡ false) (h.first l.order) n))))

    pub key_end : (n : ℕ) → n ≡ count_of p → n ≤ i → p ≡ leaf_page (key_settled commits t k (entries_of p))
    key_end n c m = stays_as (λ j. absurd (omega (arith, length_entries p)))

    module _ (n : ℕ) (c : n ≡ count_of p) (m : i < n) (e : Item) (q : e ≡ entry_at p i) (b : Bool) (other : b ≡ not (eqb e.key k)) where
      within : i < length (entries_of p)
      within = omega (arith, length_entries p)

      is : get_or (entries_of p) i (entry_at p i) ≡ e
      unfolding entries_of
      is = get_d_tab (count_of p) 0 (entry_at p) i (entry_at p i) (omega arith) ∙ ap (entry_at p) (zero-add i) ∙ sym q

      pub key_other : b ≡ true → p ≡ leaf_page (key_settled commits t k (entries_of p))
      key_other y = stays_as (λ j. ap (λ x. eqb x.key k) is ∙ not-true (eqb e.key k) (sym other ∙ y))

      settles_as : b ≡ false → key_settled commits t k (entries_of p) ≡ at (eqb e.owner t) i e (entries_of p)
      unfolding keys_ascend
      settles_as y =
          place_settled (entry_at p i) (entries_of p) i within l.order (ap (λ x. eqb x.key k) is ∙ not-false (eqb e.key k) (sym other ∙ y))
          ∙ ap (λ x. at (eqb x.owner t) i x (entries_of p)) is

      pub key_anothers : b ≡ false → (e.owner ≡ t → ⊥) → p ≡ leaf_page (key_settled commits t k (entries_of p))
      key_anothers y o =
          l.laid
          ∙ ap leaf_page (sym (settles_as y ∙ ap (λ x. at x i e (entries_of p)) (ne_eqb e.owner t o)))

      pub key_own : b ≡ false → e.owner ≡ t → (x : Item) → x ≡ end_of commits e → (p' : List ℕ) → p' ≡ leaf_page (left_in i x (entries_of p))
          → p' ≡ leaf_page (key_settled commits t k (entries_of p))
      key_own y o x z p' u =
          u ∙ ap (λ v. leaf_page (left_in i v (entries_of p))) z
          ∙ ap leaf_page (sym (settles_as y ∙ ap (λ v. at v i e (entries_of p)) (eq-eqb e.owner t o)))

  -- ---- and given back
  pub key_back : (s : List ℕ) (pg : ℕ) (p : List ℕ) → length p ≡ length (take (page_size * pg + page_size - page_size * pg) (drop (page_size * pg) s))
      → p ≡ leaf_page (key_settled commits t k (entries_of (take (page_size * pg + page_size - page_size * pg) (drop (page_size * pg) s))))
      → put_mid (page_size * pg) (page_size * pg + page_size - page_size * pg) s p ≡ put_page s pg (leaf_page (key_settled commits t k (entries_of (page_at s pg))))
  key_back s pg p n b =
      page_back s pg p (leaf_page (key_settled commits t k (entries_of (page_at s pg)))) n
      (b ∙ ap (λ x. leaf_page (key_settled commits t k (entries_of x))) (page_lent s pg))

  -- ---- the whole
  key_thins : Thins key_of key_of (key_settled commits t k)
  unfolding key_settled join left
  key_thins =
      record { nothing = refl; pieces = join_append f; one = λ e. go e (eqb e.key k) (eqb e.owner t) (present (end_of commits e)) }
    where
      go : (e : Item) (b c d : Bool) → AtMostOne key_of key_of e (cond b (cond c (cond d (end_of commits e ∷ []) []) (e ∷ [])) (e ∷ []) ++ [])
      go e true true true = end_key commits e
      go e true true false = tt
      go e true false d = refl
      go e false c d = refl

  key_small : (es : List Item) → Smalls es → Smalls (key_settled commits t k es)
  unfolding key_settled
  key_small = join_small f (λ e s. go e s (eqb e.key k))
    where
      only : (e : Item) → EntryFits e → Smalls (e ∷ [])
      only e s x (inl p) = subst EntryFits p s
      only e s x (inr i) = absurd i

      go : (e : Item) → EntryFits e → (b : Bool) → Smalls (cond b (left (end_of commits) t e) (e ∷ []))
      go e s true = small_left commits t e s
      go e s false = only e s

  pub key_settled_lem : (s : List ℕ) → WholePages s → (top : Top) → TopOf s top → (q : ℕ) → LeafFor s top.level top.root k q
      → (s' : List ℕ) → s' ≡ put_page s q (leaf_page (key_settled commits t k (entries_of (page_at s q)))) → Becomes s' (settled_at commits t k (index_of s))
  unfolding settled_at
  key_settled_lem s w top o q l = leaf_changed (key_settled commits t k) key_thins key_small k key_none s w top o q l
