-- The turns of the search: what each step of its code leaves of the first entry sought. In a leaf those before the place of lo are not
-- sought; in an inner page the search goes on child by child. Assumes nothing.
use Prim.Native.Nat.{ℕ, zero, suc, ◌+◌, ◌-◌, ◌≤◌, ◌<◌, compare}
use Rattle.std.specs.Prelude as Code
use mathlib.Core.Path.{◌≡◌, refl, sym, ap, subst, ◌∙◌}
use mathlib.Core.Bool.{Bool, true, false, cond, not, ◌&&◌, ◌||◌}
use mathlib.Core.List.{List, [], ◌∷◌, map}
use mathlib.Core.Option.{Option, none, some}
use native.Mathlib.Nat.{zero-add}
use native.Mathlib.Omega.{arith}
use lib.Dec.{leb, eqb}
use lib.ListN.{drop}
use borrow.Author.Tests.{not-true}
use Rattle.limits.specs.Limits.{pages_most, leaf_most, inner_most}
use Rattle.lists.specs.Lists.{tab, place, first, first_some, or_else}
use Rattle.lists.proofs.Tables.{tab_next, tab_done, drop_tab, first_next, first_found}
use Rattle.lists.proofs.Joins.{map_drop}
use Rattle.lists.proofs.Tests.{some_map}
use Rattle.entries.specs.EntryMeaning.{book_entry}
use Rattle.entries.specs.declared.Entry as E
use Rattle.rules.specs.Entries.{ghost}
use Rattle.rules.proofs.Orders.{numbers_ordered}
use Rattle.pages.specs.declared.Child as P
use Rattle.rows.specs.PageHead.{count_of, root_of, used_of, height_of}
use Rattle.pages.specs.PageLayout.{entry_at, entries_of, child_at, children_of}
use Rattle.pages.specs.KeyPlaces.{keys_ascend, EntryPlace, ChildPlace}
use Rattle.pages.proofs.EntryRows.{length_entries}
use Rattle.trees.specs.Trees.{flat, under}
use Rattle.trees.proofs.TreeSearch.{first_child_by_child}
use Rattle.index.specs.declared.Top.{Top}
use Rattle.index.specs.declared.Step.{Step}
use Rattle.index.specs.declared.Sought.{Sought}
use Rattle.index.specs.Pictures.{Item, key_of, page_at, tree_of, index_of, entries_in, WholePages}
use Rattle.index.specs.Searches.{seeks, book_found}
use Rattle.index.specs.Descents.{Subtree, InnerIn, Starts, TopOf}
use Rattle.index.proofs.Frame.{kid}
use Rattle.index.proofs.Subtrees.{keys_ascend_lem, leaf_few, child_place, subtree_root, subtree_wider}

-- ---- page 0
module _ (s : List ℕ) (w : WholePages s) (height : ℕ) (e : height ≡ height_of (page_at s 0)) where
  pub tall_one : 1 ≤ height
  tall_one = omega (arith, w.tall)

  pub top_of : (root used : ℕ) → root ≡ root_of (page_at s 0) → used ≡ used_of (page_at s 0) → height < 65536
      → TopOf s (record { root = root; level = height - 1; used = used })
  unfolding index_of
  top_of root used r u l =
      record { root = r; used = u; level = ap (λ n. n - 1) e; low = omega (arith, w.tall); few = omega (arith, w.index.room) }

-- ---- an inner page
module _ (s : List ℕ) (pg : ℕ) (h : InnerIn s pg) (p : List ℕ) (e : p ≡ page_at s pg) where
  pub inner_some : 1 ≤ count_of p
  inner_some = subst (λ x. 1 ≤ count_of x) (sym e) h.some

  pub inner_few : count_of p ≤ inner_most
  inner_few = subst (λ x. count_of x ≤ inner_most) (sym e) h.few

  pub step_for : (k n i : ℕ) → n ≡ count_of (page_at s pg) → ChildPlace p k i → Starts s pg k (record { slot = i; count = n })
  step_for k n i a c = record { place = subst (λ x. ChildPlace x k i) e c; count = a; few = omega (arith, h.few) }

-- ---- a leaf
not_sought : (w : Sought) (x : Item) → leb w.lo.0 x.key ≡ false → seeks w x ≡ false
not_sought w x h = ap (λ b. b && (not (leb x.key w.hi.0) || not ((not (eqb w.asker 0) && eqb x.owner w.asker) && ghost x))) h

first_from : {A : Type 0} (p q : A → Bool) → ((x : A) → p x ≡ false → q x ≡ false) → (xs : List A) → first q xs ≡ first q (drop (place p xs) xs)
unfolding first place
first_from p q h [] = refl
first_from p q h (x ∷ xs) = go (p x) refl (first_from p q h xs)
  where
    go : (b : Bool) → p x ≡ b → first q xs ≡ first q (drop (place p xs) xs)
        → cond (q x) (some x) (first q xs) ≡ first q (drop (cond b 0 (suc (place p xs))) (x ∷ xs))
    go true e r = refl
    go false e r = ap (λ b. cond b (some x) (first q xs)) (h x e) ∙ r

module _ (p : List ℕ) (w : Sought) (n i : ℕ) where
  pub leaf_start : n ≡ count_of p → keys_ascend (entries_of p) ≡ true → EntryPlace p w.lo.0 i
      → first (seeks w) (entries_of p) ≡ first (seeks w) (tab (n - i) i (entry_at p))
  unfolding entries_of
  leaf_start e k l =
      first_from (λ x. leb w.lo.0 x.key) (seeks w) (not_sought w) (entries_of p)
      ∙ ap (λ m. first (seeks w) (drop m (entries_of p))) (sym (l.first k))
      ∙ ap (first (seeks w)) (drop_tab i (count_of p) 0 (entry_at p) ∙ ap (λ j. tab (count_of p - i) j (entry_at p)) (zero-add i))
      ∙ ap (λ m. first (seeks w) (tab (m - i) i (entry_at p))) (sym e)

  module _ (f : first (seeks w) (entries_of p) ≡ first (seeks w) (tab (n - i) i (entry_at p))) where
    pub leaf_here : (e : E.Entry) (b : Bool) → book_entry e ≡ entry_at p i → b ≡ seeks w (book_entry e) → b ≡ true → i < n
        → book_found (Code.Some e) ≡ first (seeks w) (entries_of p)
    leaf_here e b c d t l =
        ap some c ∙ sym (f ∙ first_found (seeks w) n i (entry_at p) l (ap (seeks w) (sym c) ∙ sym d ∙ t))

    pub leaf_on : (e : E.Entry) (b : Bool) → book_entry e ≡ entry_at p i → b ≡ seeks w (book_entry e) → b ≡ false → i < n
        → first (seeks w) (entries_of p) ≡ first (seeks w) (tab (n - (i + 1)) (i + 1) (entry_at p))
    leaf_on e b c d t l = f ∙ first_next (seeks w) n i (entry_at p) l (ap (seeks w) (sym c) ∙ sym d ∙ t)

    pub leaf_none : n ≤ i → book_found Code.None ≡ first (seeks w) (entries_of p)
    unfolding first
    leaf_none l = sym (f ∙ ap (first (seeks w)) (tab_done n i (entry_at p) l))

module _ (s : List ℕ) (pg : ℕ) (t : Subtree s 0 pg pages_most) (p : List ℕ) (e : p ≡ page_at s pg) where
  pub leaf_count : count_of p ≤ leaf_most
  leaf_count = subst (λ x. count_of x ≤ leaf_most) (sym e) (omega (arith, leaf_few s pg pages_most t, length_entries (page_at s pg)))

  pub leaf_ascends : keys_ascend (entries_of p) ≡ true
  leaf_ascends = subst (λ x. keys_ascend (entries_of x) ≡ true) (sym e) (keys_ascend_lem s pg pages_most t)

  pub leaf_found : (w : Sought) (r : Code.Option E.Entry) → book_found r ≡ first (seeks w) (entries_of p)
      → book_found r ≡ first (seeks w) (flat ℕ Item 0 (tree_of 0 s pg))
  unfolding flat tree_of
  leaf_found w r a = a ∙ ap (λ x. first (seeks w) (entries_of x)) e

-- ---- the children from place i on
abbrev pub found_in : ℕ → List ℕ → Sought → P.Child → Option Item
found_in m s w c = first (seeks w) (flat ℕ Item m (tree_of m s c.page))

abbrev pub found_from : ℕ → List ℕ → ℕ → Sought → ℕ → ℕ → Option Item
found_from zero s pg w n i = none
found_from (suc m) s pg w n i = first_some (found_in m s w) (tab (n - i) i (child_at (page_at s pg)))

under_fails : (w : Sought) (x : Item) → under compare x.key w.lo.0 ≡ true → seeks w x ≡ false
under_fails w x h = not_sought w x (not-true (leb w.lo.0 x.key) h)

seek_first : (s : List ℕ) (n pg : ℕ) (w : Sought) → Subtree s (suc n) pg pages_most → (r : Step) → Starts s pg w.lo.0 r
    → first (seeks w) (flat ℕ Item (suc n) (tree_of (suc n) s pg)) ≡ found_from (suc n) s pg w r.count r.slot
unfolding tree_of children_of
seek_first s n pg w t r e =
    let cs = children_of (page_at s pg) in
    first_child_by_child numbers_ordered key_of 0 w.lo.0 (seeks w) (under_fails w) n t.low t.high (tree_of (suc n) s pg) t.keys
    ∙ ap (λ i. first_some (λ c. first (seeks w) (flat ℕ Item n c.tree)) (drop i (map (kid n s) cs))) (sym (child_place s n pg pages_most w.lo.0 r.slot t e.place))
    ∙ ap (first_some (λ c. first (seeks w) (flat ℕ Item n c.tree))) (sym (map_drop (kid n s) r.slot cs))
    ∙ some_map (λ c. first (seeks w) (flat ℕ Item n c.tree)) (kid n s) (drop r.slot cs)
    ∙ ap (first_some (found_in n s w)) (drop_tab r.slot (count_of (page_at s pg)) 0 (child_at (page_at s pg))
    ∙ ap (λ j. tab (count_of (page_at s pg) - r.slot) j (child_at (page_at s pg))) (zero-add r.slot))
    ∙ ap (λ m. first_some (found_in n s w) (tab (m - r.slot) r.slot (child_at (page_at s pg)))) (sym e.count)

module _ (s : List ℕ) (level pg : ℕ) (w : Sought) where
  pub seek_start : Subtree s level pg pages_most → (level ≡ 0 → ⊥) → (r : Step) → Starts s pg w.lo.0 r
      → first (seeks w) (flat ℕ Item level (tree_of level s pg)) ≡ found_from level s pg w r.count r.slot
  seek_start t h r e = go level h t
    where
      go : (n : ℕ) → (n ≡ 0 → ⊥) → Subtree s n pg pages_most → first (seeks w) (flat ℕ Item n (tree_of n s pg)) ≡ found_from n s pg w r.count r.slot
      go zero h t = absurd (h refl)
      go (suc n) h t = seek_first s n pg w t r e

  -- the child at place i, and those behind it
  turn : (n i q : ℕ) → (level ≡ 0 → ⊥) → i < n → q ≡ (child_at (page_at s pg) i).page
      → found_from level s pg w n i ≡ or_else (first (seeks w) (flat ℕ Item (level - 1) (tree_of (level - 1) s q))) (found_from level s pg w n (i + 1))
  unfolding first_some
  turn n i q h l c = go level h
    where
      go : (m : ℕ) → (m ≡ 0 → ⊥)
          → found_from m s pg w n i ≡ or_else (first (seeks w) (flat ℕ Item (m - 1) (tree_of (m - 1) s q))) (found_from m s pg w n (i + 1))
      go zero h = absurd (h refl)
      go (suc m) h =
          let k : m ≡ suc m - 1 = omega arith in
          ap (first_some (found_in m s w)) (tab_next n i (child_at (page_at s pg)) l)
          ∙ ap (λ x. or_else (first (seeks w) (flat ℕ Item m (tree_of m s x))) (found_from (suc m) s pg w n (i + 1))) (sym c)
          ∙ ap (λ j. or_else (first (seeks w) (flat ℕ Item j (tree_of j s q))) (found_from (suc m) s pg w n (i + 1))) k

  module _ (n i q : ℕ) (f : Code.Option E.Entry) (h : level ≡ 0 → ⊥)
      (k : first (seeks w) (flat ℕ Item level (tree_of level s pg)) ≡ found_from level s pg w n i) (l : i < n)
      (c : q ≡ (child_at (page_at s pg) i).page) (r : book_found f ≡ first (seeks w) (flat ℕ Item (level - 1) (tree_of (level - 1) s q))) where
    pub seek_here : (e : E.Entry) → f ≡ Code.Some e → book_found (Code.Some e) ≡ first (seeks w) (flat ℕ Item level (tree_of level s pg))
    seek_here e d =
        sym (k ∙ turn n i q h l c ∙ ap (λ o. or_else o (found_from level s pg w n (i + 1))) (sym r ∙ ap book_found d))

    pub seek_on : f ≡ Code.None → first (seeks w) (flat ℕ Item level (tree_of level s pg)) ≡ found_from level s pg w n (i + 1)
    seek_on d = k ∙ turn n i q h l c ∙ ap (λ o. or_else o (found_from level s pg w n (i + 1))) (sym r ∙ ap book_found d)

  pub seek_none : (n i : ℕ) → first (seeks w) (flat ℕ Item level (tree_of level s pg)) ≡ found_from level s pg w n i → n ≤ i
      → book_found Code.None ≡ first (seeks w) (flat ℕ Item level (tree_of level s pg))
  unfolding first_some
  seek_none n i k l = sym (k ∙ go level)
    where
      go : (m : ℕ) → found_from m s pg w n i ≡ none
      go zero = refl
      go (suc m) = ap (first_some (found_in m s w)) (tab_done n i (child_at (page_at s pg)) l)

-- ---- the whole
pub find_from : (s : List ℕ) (t : Top) → WholePages s → TopOf s t → Subtree s t.level t.root pages_most
find_from s t w h =
    let r = subtree_root s w in
    let u = subst (λ x. Subtree s x (root_of (page_at s 0)) pages_most) (sym h.level) (subtree_wider s (height_of (page_at s 0) - 1) (root_of (page_at s 0)) (used_of (page_at s 0)) r) in
    subst (λ q. Subtree s t.level q pages_most) (sym h.root) u

pub found_all : (s : List ℕ) (t : Top) (w : Sought) (r : Code.Option E.Entry) → TopOf s t
    → book_found r ≡ first (seeks w) (flat ℕ Item t.level (tree_of t.level s t.root)) → book_found r ≡ first (seeks w) (entries_in s)
unfolding entries_in index_of
found_all s t w r h e =
    e ∙ ap (λ q. first (seeks w) (flat ℕ Item t.level (tree_of t.level s q))) h.root
    ∙ ap (λ n. first (seeks w) (flat ℕ Item n (tree_of n s (root_of (page_at s 0))))) h.level

-- two trees with the same list answer every search alike
pub same_list_same_search : (p q : List ℕ) → entries_in p ≡ entries_in q → (w : Sought) (a b : Code.Option E.Entry) → book_found a ≡ first (seeks w) (entries_in p)
    → book_found b ≡ first (seeks w) (entries_in q) → book_found a ≡ book_found b
same_list_same_search p q e w a b f g = f ∙ ap (first (seeks w)) e ∙ sym g

-- ---- a tree of level 0 is a leaf
pub at_leaf : (s : List ℕ) (n pg u : ℕ) → Subtree s n pg u → n ≡ 0 → Subtree s 0 pg u
at_leaf s n pg u t e = subst (λ m. Subtree s m pg u) e t

pub found_leaf : (s : List ℕ) (n pg : ℕ) (w : Sought) (r : Code.Option E.Entry) → n ≡ 0 → book_found r ≡ first (seeks w) (flat ℕ Item 0 (tree_of 0 s pg))
    → book_found r ≡ first (seeks w) (flat ℕ Item n (tree_of n s pg))
found_leaf s n pg w r e h = h ∙ ap (λ m. first (seeks w) (flat ℕ Item m (tree_of m s pg))) (sym e)
