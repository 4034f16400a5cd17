-- A leaf and an inner page with one more, as the code divides them: the new page is built apart and copied in.
-- The parts that are lent are the pages, and what is copied whole is the page. Assumes nothing.
use Rattle.limits.specs.Limits.{pages_most, page_size, pages_size, entry_size, leaf_most, leaf_stay, leaf_go, child_size, inner_most, inner_stay, inner_go}
use Rattle.pages.specs.PageLayout.{EntryFits, ChildFits, entry_at, entries_of, children_of}
use Rattle.rows.specs.PageHead.{count_of, put_head}
use Prim.Native.Nat.{ℕ, ◌+◌, ◌*◌, ◌-◌, ◌≤◌, ◌<◌}
use mathlib.Core.Path.{◌≡◌, refl, sym, ap, subst, ◌∙◌}
use mathlib.Core.Logic.{⊎_elim}
use mathlib.Core.List.{List, [], ◌∷◌}
use native.Mathlib.Omega.{arith}
use lib.ListN.{length, take, drop, replicate, length-drop}
use lib.Seq.{length-take-le}
use borrow.Rule.Slice.PartMut.{put_mid}
use Rattle.lists.specs.Lists.{tab, insert_at}
use Rattle.lists.proofs.Elements.{insert_at_in, drop_in}
use Rattle.lists.proofs.Places.{length_insert_at, map_insert_at}
use Rattle.lists.proofs.Joins.{map_drop}
use Rattle.numbers.specs.Numbers.{put_part, copied}
use Rattle.numbers.proofs.Parts.{length_put_part, part_same, part_all}
use Rattle.keys.specs.declared.Key.{Key}
use Rattle.pages.specs.declared.Child as P
use Rattle.rows.specs.PageRows.{rows_of, Divided, as_they_are}
use Rattle.pages.specs.PageChanges.{entry_row, child_row, child_put, from_zero, first_low}
use Rattle.pages.proofs.ChildRows.{length_children}
use Rattle.trees.specs.Growth.{low_key}
use Rattle.index.specs.Pictures.{Item, key_of, page_at, put_page, blank_page, leaf_page, inner_page, zero_first}
use Rattle.adding.specs.declared.Grown.{Grown}
use Rattle.adding.specs.Growing.{one_tree, two_trees, LeafFull, LeafSplit, InnerRoom, InnerFull, Widened}
use Rattle.index.proofs.Buffers.{page_lent, page_back, length_page, length_put_page}
use Rattle.index.proofs.LeafPages as Leaf
use Rattle.index.proofs.InnerPages as Inner
use Rattle.index.proofs.BlankPages.{count_blank}

-- the blank page as the code builds it
pub built : (kind level : ℕ) → put_head (replicate page_size 0) kind 0 level ≡ blank_page kind level
unfolding blank_page
built kind level = refl

-- a page copied whole
whole_copy : (p q : List ℕ) → length p ≡ page_size → length q ≡ page_size → copied page_size p 0 0 q ≡ p
unfolding copied
whole_copy p q a b =
    ap (λ r. put_part 0 r q) (part_all page_size p a)
    ∙ sym (part_all page_size (put_part 0 p q) (length_put_part 0 p q (omega arith) ∙ b))
    ∙ part_same 0 page_size p q a (omega arith)

-- the buffer when the part of a page is given back
abbrev pub lent_back : ℕ → List ℕ → List ℕ → List ℕ
lent_back pg s l = put_mid (page_size * pg) (page_size * pg + page_size - page_size * pg) s l

-- ---- the new page in its place, and the old one
module _ (s : List ℕ) (size : length s ≡ pages_size) (pg u : ℕ) (h : pg < pages_most) (n : u < pages_most) where
  -- the first page is given back, then the new one is copied in
  pub both_back : (s₁ l l' r c : List ℕ) → length l ≡ length (take (page_size * pg + page_size - page_size * pg) (drop (page_size * pg) s)) → l ≡ l' → length l' ≡ page_size
      → s₁ ≡ put_mid (page_size * pg) (page_size * pg + page_size - page_size * pg) s l → length r ≡ page_size
      → c ≡ copied page_size r 0 0 (take (page_size * u + page_size - page_size * u) (drop (page_size * u) s₁))
      → length c ≡ length (take (page_size * u + page_size - page_size * u) (drop (page_size * u) s₁))
      → put_mid (page_size * u) (page_size * u + page_size - page_size * u) s₁ c ≡ put_page (put_page s pg l') u r
  both_back s₁ l l' r c a b d e f g i =
      let x : s₁ ≡ put_page s pg l' = e ∙ page_back s pg l l' a b in
      let z : length s₁ ≡ pages_size = ap length x ∙ length_put_page s size pg h l' d in
      let y : c ≡ r = g ∙ ap (copied page_size r 0 0) (page_lent s₁ u) ∙ whole_copy r (page_at s₁ u) f (length_page s₁ z u n) in
      page_back s₁ u c r i y ∙ ap (λ v. put_page v u r) x

-- ---- a leaf
pub leaf_requires : (s : List ℕ) (pg u i : ℕ) (e : Item) → LeafFull s pg u i e → count_of (take (page_size * pg + page_size - page_size * pg) (drop (page_size * pg) s)) ≡ leaf_most
leaf_requires s pg u i e f = ap count_of (page_lent s pg) ∙ f.count

pub blank_count : (kind level : ℕ) (p : List ℕ) → p ≡ put_head (replicate page_size 0) kind 0 level → count_of p ≡ 0
blank_count kind level p e = ap count_of (e ∙ built kind level) ∙ count_blank kind level

first_key : (es : List Item) → 0 < length es → length es ≤ leaf_most → Leaf.Smalls es → (entry_at (leaf_page es) 0).key ≡ low_key key_of 0 es
unfolding entries_of tab
first_key [] h k s = absurd (omega arith)
first_key (e ∷ es) h k s =
    let c = Leaf.leaf_count (e ∷ es) k in
    let x = Leaf.leaf_entries (e ∷ es) k s in
    ap (λ ys. low_key key_of 0 ys) (sym (ap (λ n. tab n 0 (entry_at (leaf_page (e ∷ es)))) c) ∙ x)

module _ (s : List ℕ) (pg u i : ℕ) (e : Item) (f : LeafFull s pg u i e) where
  abbrev es : List Item
  es = insert_at i e (entries_of (page_at s pg))

  smalls : Leaf.Smalls es
  smalls x j =
      ⊎_elim (λ p. subst EntryFits p f.small) (Leaf.laid_small (page_at s pg) f.laid (omega (arith, f.full)) x)
      (insert_at_in i e (entries_of (page_at s pg)) x j)

  divided : (r₀ l r : List ℕ) → r₀ ≡ put_head (replicate page_size 0) 2 0 0
      → Divided entry_size leaf_stay as_they_are (insert_at i (entry_row e) (rows_of entry_size (take (page_size * pg + page_size - page_size * pg) (drop (page_size * pg) s)))) (take (page_size * pg + page_size - page_size * pg) (drop (page_size * pg) s)) r₀ l r
      → Divided entry_size leaf_stay as_they_are (insert_at i (entry_row e) (rows_of entry_size (leaf_page (entries_of (page_at s pg))))) (leaf_page (entries_of (page_at s pg))) (blank_page 2 0) l r
  divided r₀ l r b d =
      subst (λ p. Divided entry_size leaf_stay as_they_are (insert_at i (entry_row e) (rows_of entry_size p)) p (blank_page 2 0) l r) (page_lent s pg ∙ f.laid)
      (subst (λ q. Divided entry_size leaf_stay as_they_are (insert_at i (entry_row e) (rows_of entry_size (take (page_size * pg + page_size - page_size * pg) (drop (page_size * pg) s)))) (take (page_size * pg + page_size - page_size * pg) (drop (page_size * pg) s)) q l r) (b ∙ built 2 0) d)

  pub leaf_split : (r₀ l r c : List ℕ) (k : Key) → r₀ ≡ put_head (replicate page_size 0) 2 0 0
      → Divided entry_size leaf_stay as_they_are (insert_at i (entry_row e) (rows_of entry_size (take (page_size * pg + page_size - page_size * pg) (drop (page_size * pg) s)))) (take (page_size * pg + page_size - page_size * pg) (drop (page_size * pg) s)) r₀ l r
      → length l ≡ length (take (page_size * pg + page_size - page_size * pg) (drop (page_size * pg) s))
      → k.0 ≡ (entry_at r 0).key
      → c ≡ copied page_size r 0 0 (take (page_size * u + page_size - page_size * u) (drop (page_size * u) (lent_back pg s l)))
      → length c ≡ length (take (page_size * u + page_size - page_size * u) (drop (page_size * u) (lent_back pg s l)))
      → (grown : Grown) → grown ≡ two_trees (u + 1) (record { low = k; page = u })
      → LeafSplit s (put_mid (page_size * u) (page_size * u + page_size - page_size * u) (lent_back pg s l) c) pg u i e grown
  leaf_split r₀ l r c k b d a key g j grown new =
      let old = entries_of (page_at s pg) in
      let z = divided r₀ l r b d in
      let n = length_insert_at i e old in
      let x : l ≡ leaf_page (take leaf_stay es) = Leaf.leaf_stays old (omega (arith, f.full)) i e l r z (omega (arith, f.full)) in
      let y : r ≡ leaf_page (drop leaf_stay es) = Leaf.leaf_goes old (omega (arith, f.full)) i e l r z in
      let t : length (take leaf_stay es) ≡ leaf_stay = length-take-le leaf_stay es (omega (arith, f.full)) in
      let w : length (drop leaf_stay es) ≡ leaf_go = length-drop leaf_stay es ∙ ap (λ v. v - leaf_stay) (n ∙ ap (λ v. v + 1) f.full) in
      let p : length (leaf_page (take leaf_stay es)) ≡ page_size = Leaf.leaf_length (take leaf_stay es) (omega arith) in
      let q : length (leaf_page (drop leaf_stay es)) ≡ page_size = Leaf.leaf_length (drop leaf_stay es) (omega arith) in
      record {
        bytes = both_back s f.size pg u f.which f.next (lent_back pg s l) l (leaf_page (take leaf_stay es)) r c a x p refl (ap length y ∙ q) g j
            ∙ ap (put_page (put_page s pg (leaf_page (take leaf_stay es))) u) y;
        told = new ∙ ap (λ v. two_trees (u + 1) (record { low = record { 0 = v }; page = u }))
            (key ∙ ap (λ v. (entry_at v 0).key) y ∙ first_key (drop leaf_stay es) (omega arith) (omega arith) (λ v o. smalls v (drop_in leaf_stay es v o)));
      }

-- ---- an inner page
pub inner_requires : (s : List ℕ) (n pg u i : ℕ) (c : P.Child) → InnerFull s n pg u i c
    → count_of (take (page_size * pg + page_size - page_size * pg) (drop (page_size * pg) s)) ≡ inner_most
inner_requires s n pg u i c f = ap count_of (page_lent s pg) ∙ f.count

inner_smalls : (s : List ℕ) (n pg i : ℕ) (c : P.Child) → page_at s pg ≡ inner_page n (children_of (page_at s pg)) → count_of (page_at s pg) ≤ inner_most
    → ChildFits c → Inner.Smalls (insert_at i c (children_of (page_at s pg)))
inner_smalls s n pg i c l f m x j =
    ⊎_elim (λ p. subst ChildFits p m) (Inner.laid_small n (page_at s pg) l (omega (arith, length_children (page_at s pg))) x)
    (insert_at_in i c (children_of (page_at s pg)) x j)

module _ (s : List ℕ) (n pg u i : ℕ) (c : P.Child) (f : InnerFull s n pg u i c) where
  abbrev ds : List P.Child
  ds = insert_at i c (children_of (page_at s pg))

  divided_inner : (r₀ l r : List ℕ) → r₀ ≡ put_head (replicate page_size 0) 3 0 n
      → Divided child_size inner_stay from_zero (insert_at i (child_row c) (rows_of child_size (take (page_size * pg + page_size - page_size * pg) (drop (page_size * pg) s)))) (take (page_size * pg + page_size - page_size * pg) (drop (page_size * pg) s)) r₀ l r
      → Divided child_size inner_stay from_zero (insert_at i (child_row c) (rows_of child_size (inner_page n (children_of (page_at s pg))))) (inner_page n (children_of (page_at s pg))) (blank_page 3 n) l r
  divided_inner r₀ l r b d =
      subst (λ p. Divided child_size inner_stay from_zero (insert_at i (child_row c) (rows_of child_size p)) p (blank_page 3 n) l r) (page_lent s pg ∙ f.laid)
      (subst (λ q. Divided child_size inner_stay from_zero (insert_at i (child_row c) (rows_of child_size (take (page_size * pg + page_size - page_size * pg) (drop (page_size * pg) s)))) (take (page_size * pg + page_size - page_size * pg) (drop (page_size * pg) s)) q l r) (b ∙ built 3 n) d)

  zero_length : (xs : List P.Child) → length (zero_first xs) ≡ length xs
  zero_length [] = refl
  zero_length (x ∷ xs) = refl

  pub inner_split : (r₀ l r k' : List ℕ) (k : Key) → r₀ ≡ put_head (replicate page_size 0) 3 0 n
      → Divided child_size inner_stay from_zero (insert_at i (child_row c) (rows_of child_size (take (page_size * pg + page_size - page_size * pg) (drop (page_size * pg) s)))) (take (page_size * pg + page_size - page_size * pg) (drop (page_size * pg) s)) r₀ l r
      → k.0 ≡ first_low (drop inner_stay (insert_at i (child_row c) (rows_of child_size (take (page_size * pg + page_size - page_size * pg) (drop (page_size * pg) s)))))
      → length l ≡ length (take (page_size * pg + page_size - page_size * pg) (drop (page_size * pg) s))
      → k' ≡ copied page_size r 0 0 (take (page_size * u + page_size - page_size * u) (drop (page_size * u) (lent_back pg s l)))
      → length k' ≡ length (take (page_size * u + page_size - page_size * u) (drop (page_size * u) (lent_back pg s l)))
      → (grown : Grown) → grown ≡ two_trees (u + 1) (record { low = k; page = u })
      → Widened s (put_mid (page_size * u) (page_size * u + page_size - page_size * u) (lent_back pg s l) k') n pg u i c grown
  inner_split r₀ l r k' k b d key a g j grown new =
      let old = children_of (page_at s pg) in
      let o : length old ≡ inner_most = length_children (page_at s pg) ∙ f.count in
      let z = divided_inner r₀ l r b d in
      let small : Inner.Smalls (drop inner_stay ds) = λ v o. inner_smalls s n pg i c f.laid (omega (arith, f.count)) f.small v (drop_in inner_stay ds v o) in
      let e = length_insert_at i c old in
      let x : l ≡ inner_page n (take inner_stay ds) = Inner.inner_stays n old (omega arith) i c l r z (omega arith) in
      let y : r ≡ inner_page n (zero_first (drop inner_stay ds)) = Inner.inner_goes n old (omega arith) i c l r z small in
      let t : length (take inner_stay ds) ≡ inner_stay = length-take-le inner_stay ds (omega arith) in
      let w : length (drop inner_stay ds) ≡ inner_go = length-drop inner_stay ds ∙ ap (λ v. v - inner_stay) (e ∙ ap (λ v. v + 1) o) in
      let p : length (inner_page n (take inner_stay ds)) ≡ page_size = Inner.inner_length n (take inner_stay ds) (omega arith) in
      let q : length (inner_page n (zero_first (drop inner_stay ds))) ≡ page_size = Inner.inner_length n (zero_first (drop inner_stay ds)) (omega (arith, zero_length (drop inner_stay ds))) in
      subst (Widened s (put_mid (page_size * u) (page_size * u + page_size - page_size * u) (lent_back pg s l) k') n pg u i c) (sym new) (record {
        how = (
          refl,
          both_back s f.size pg u f.which f.next (lent_back pg s l) l (inner_page n (take inner_stay ds)) r k' a x p refl (ap length y ∙ q) g j
              ∙ ap (put_page (put_page s pg (inner_page n (take inner_stay ds))) u) y,
          ap (λ v. record { low = record { 0 = v }; page = u })
              (key ∙ ap (λ v. first_low (drop inner_stay (insert_at i (child_row c) (rows_of child_size v)))) (page_lent s pg ∙ f.laid)
              ∙ ap (λ v. first_low (drop inner_stay v)) (ap (insert_at i (child_row c)) (Inner.inner_rows n old (omega arith)) ∙ sym (map_insert_at child_row i c old))
              ∙ ap first_low (sym (map_drop child_row inner_stay ds))
              ∙ Inner.first_rows (drop inner_stay ds) small),
          o,
        );
      })

-- ---- with room
module _ (s : List ℕ) (n pg u i : ℕ) (c : P.Child) (f : InnerRoom s n pg u i c) where
  pub room_place : i ≤ count_of (take (page_size * pg + page_size - page_size * pg) (drop (page_size * pg) s))
  room_place = subst (λ p. i ≤ count_of p) (sym (page_lent s pg)) f.place

  pub inner_put_in : (m : ℕ) (p : List ℕ) → m ≡ count_of (take (page_size * pg + page_size - page_size * pg) (drop (page_size * pg) s)) → m < inner_most
      → length p ≡ length (take (page_size * pg + page_size - page_size * pg) (drop (page_size * pg) s))
      → p ≡ child_put (take (page_size * pg + page_size - page_size * pg) (drop (page_size * pg) s)) i c
      → Widened s (put_mid (page_size * pg) (page_size * pg + page_size - page_size * pg) s p) n pg u i c (one_tree u)
  inner_put_in m p e h l b =
      let old = children_of (page_at s pg) in
      let k : count_of (page_at s pg) ≡ m = sym (e ∙ ap count_of (page_lent s pg)) in
      let o : length old ≤ inner_most - 1 = omega (arith, length_children (page_at s pg)) in
      record {
        how = (
          refl,
          page_back s pg p (inner_page n (insert_at i c old)) l
              (b ∙ ap (λ v. child_put v i c) (page_lent s pg ∙ f.laid) ∙ Inner.inner_put n old (omega arith) i c o),
          o,
        );
      }

  pub inner_full : (m : ℕ) → m ≡ count_of (take (page_size * pg + page_size - page_size * pg) (drop (page_size * pg) s)) → inner_most ≤ m → InnerFull s n pg u i c
  inner_full m e h =
      let k : count_of (page_at s pg) ≡ m = sym (e ∙ ap count_of (page_lent s pg)) in
      record {
        size = f.size;
        which = f.which;
        next = f.next (omega arith);
        other = f.other;
        count = omega (arith, f.few);
        place = omega (arith, f.place, f.few);
        laid = f.laid;
        small = f.small;
      }
