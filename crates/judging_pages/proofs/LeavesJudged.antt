-- A leaf that passes its test has the bytes that its entries write, with at most 24 of them, in order and in range, each settled or owned;
-- and a leaf that has all this passes. By the law of pages of rows, and by induction on the entries for their order. Assumes nothing.
use mathlib.Core.Path.{◌≡◌, refl, sym, ap, subst, ◌∙◌}
use mathlib.Core.Bool.{Bool, true, false, cond, not, ◌&&◌}
use mathlib.Core.List.{List, [], ◌∷◌, map}
use mathlib.Core.Option.{some}
use Prim.Native.Nat.{ℕ, ◌+◌, ◌*◌, ◌-◌, ◌≤◌, ◌<◌, compare}
use native.Mathlib.Omega.{arith}
use borrow.Author.Tests.{leb-true, le-leb, ltb-true, lt-ltb, lt-leb, leb-false, not-true}
use lib.Dec.{leb, ltb, lit<, lit≤}
use lib.ListN.{length, get_or}
use Rattle.limits.specs.Limits.{key_size, page_size, head_size, body_size, entry_size, leaf_most}
use Rattle.lists.specs.Lists.{tab, all, pairs, In}
use Rattle.lists.proofs.Tests.{both, and_both, all_weaker}
use Rattle.lists.proofs.Tables.{map_tab, all_tab, all_of_tab}
use Rattle.lists.proofs.Elements.{tab_in, in_tab}
use Rattle.numbers.specs.Numbers.{number_at, fields_at, width_of, zero_at, Bytes, Fits}
use Rattle.numbers.proofs.Numbers.{number_below}
use Rattle.trees.specs.Trees.{at_most, under, inside}
use Rattle.trees.proofs.Sorted.{Sorted}
use Rattle.rows.specs.PageHead.{count_of}
use Rattle.pages.specs.PageLayout.{entry_widths, entry_in, entry_fields, entry_at, entries_of}
use Rattle.pages.specs.PageChanges.{entry_row}
use Rattle.index.specs.Pictures.{Item, key_of, leaf_page}
use Rattle.judging_pages.specs.PageChecks.{head_ok, next_ok, entry_ok, entry_fields_at, entries_ok, leaf_ok}
use Rattle.judging_pages.proofs.Layouts.{laid, told_head, told_rest, told_each}
use Rattle.judging_pages.proofs.EntriesJudged.{Rests, entry_both, both_entry, plain_back, back_plain, fields_rests, rests_fields, entry_fits_lem}

pub under_is : (a b : ℕ) → a < b → under compare a b ≡ true
under_is a b h = ap not (lt-leb b a h)

pub is_under : (a b : ℕ) → under compare a b ≡ true → a < b
is_under a b h = leb-false b a (not-true (leb b a) h)

-- ---- the order
abbrev Ordered : ℕ → ℕ → List Item → Type 0
Ordered lo hi es = Sorted compare key_of lo (some hi) es

-- the least that a key may be
abbrev from : Bool → ℕ → ℕ
from first lo = cond first lo (lo + 1)

next_from : (first : Bool) (lo hi k : ℕ) → next_ok first lo hi k ≡ true → (from first lo ≤ k) × (k < hi)
next_from true lo hi k h = let c = both (leb lo k) (ltb k hi) h in (leb-true lo k c.0, ltb-true k hi c.1)
next_from false lo hi k h = let c = both (ltb lo k) (ltb k hi) h in (omega (arith, ltb-true lo k c.0), ltb-true k hi c.1)

from_next : (first : Bool) (lo hi k : ℕ) → from first lo ≤ k → k < hi → next_ok first lo hi k ≡ true
from_next true lo hi k l u = and_both (leb lo k) (ltb k hi) (le-leb lo k l) (lt-ltb k hi u)
from_next false lo hi k l u = and_both (ltb lo k) (ltb k hi) (lt-ltb lo k (omega arith)) (lt-ltb k hi u)

pub entries_ordered : (first : Bool) (lo hi : ℕ) (vss : List (List ℕ)) → entries_ok first lo hi vss ≡ true
    → Ordered (from first lo) hi (map entry_in vss) × (all entry_ok vss ≡ true)
unfolding entries_ok entry_in all pairs
entries_ordered first lo hi [] h = (record { low = refl; high = refl; order = refl }, refl)
entries_ordered first lo hi (vs ∷ vss) h =
    let least = from first lo in
    let a = both (next_ok first lo hi (get_or vs 0 0) && entry_ok vs) (entries_ok false (get_or vs 0 0) hi vss) h in
    let b = both (next_ok first lo hi (get_or vs 0 0)) (entry_ok vs) a.0 in
    let c = next_from first lo hi (get_or vs 0 0) b.0 in
    let l : least ≤ get_or vs 0 0 = c.0 in
    let u : get_or vs 0 0 < hi = c.1 in
    let t = entries_ordered false (get_or vs 0 0) hi vss a.1 in (
      record {
        low = and_both (leb least (get_or vs 0 0)) (all (λ x. at_most compare least (key_of x)) (map entry_in vss)) (le-leb least (get_or vs 0 0) l)
            (all_weaker (λ x. at_most compare (get_or vs 0 0 + 1) (key_of x)) (λ x. at_most compare least (key_of x))
            (λ x m. le-leb least (key_of x) (omega (arith, leb-true (get_or vs 0 0 + 1) (key_of x) m))) (map entry_in vss) t.0.low);
        high = and_both (under compare (get_or vs 0 0) hi) (all (λ x. inside compare (key_of x) (some hi)) (map entry_in vss)) (under_is (get_or vs 0 0) hi u) t.0.high;
        order = and_both (all (λ y. under compare (get_or vs 0 0) (key_of y)) (map entry_in vss)) (pairs (λ x y. under compare (key_of x) (key_of y)) (map entry_in vss))
            (all_weaker (λ x. at_most compare (get_or vs 0 0 + 1) (key_of x)) (λ x. under compare (get_or vs 0 0) (key_of x))
            (λ x m. under_is (get_or vs 0 0) (key_of x) (omega (arith, leb-true (get_or vs 0 0 + 1) (key_of x) m))) (map entry_in vss) t.0.low)
            t.0.order;
      },
      and_both (entry_ok vs) (all entry_ok vss) b.1 t.1,
    )

pub ordered_entries : (first : Bool) (lo hi : ℕ) (vss : List (List ℕ)) → Ordered (from first lo) hi (map entry_in vss) → all entry_ok vss ≡ true
    → entries_ok first lo hi vss ≡ true
unfolding entries_ok entry_in all pairs
ordered_entries first lo hi [] s h = refl
ordered_entries first lo hi (vs ∷ vss) s h =
    let least = from first lo in
    let a = both (entry_ok vs) (all entry_ok vss) h in
    let l = both (leb least (get_or vs 0 0)) (all (λ x. at_most compare least (key_of x)) (map entry_in vss)) s.low in
    let u = both (under compare (get_or vs 0 0) hi) (all (λ x. inside compare (key_of x) (some hi)) (map entry_in vss)) s.high in
    let o = both (all (λ y. under compare (get_or vs 0 0) (key_of y)) (map entry_in vss)) (pairs (λ x y. under compare (key_of x) (key_of y)) (map entry_in vss)) s.order in
    and_both (next_ok first lo hi (get_or vs 0 0) && entry_ok vs) (entries_ok false (get_or vs 0 0) hi vss)
    (and_both (next_ok first lo hi (get_or vs 0 0)) (entry_ok vs)
    (from_next first lo hi (get_or vs 0 0) (leb-true least (get_or vs 0 0) l.0) (is_under (get_or vs 0 0) hi u.0)) a.0)
    (ordered_entries false (get_or vs 0 0) hi vss
    (record {
      low = all_weaker (λ x. under compare (get_or vs 0 0) (key_of x)) (λ x. at_most compare (get_or vs 0 0 + 1) (key_of x))
          (λ x m. le-leb (get_or vs 0 0 + 1) (key_of x) (omega (arith, is_under (get_or vs 0 0) (key_of x) m))) (map entry_in vss) o.0;
      high = u.1;
      order = o.1;
    })
    a.1)

-- ---- the leaf
pub record LeafFacts (lo hi : ℕ) (p : List ℕ) : Type 0 where
  pub laid : p ≡ leaf_page (entries_of p)
  pub few : count_of p ≤ leaf_most
  pub order : Ordered lo hi (entries_of p)
  pub rests : (e : Item) → In e (entries_of p) → e.owner ≡ 0 → Rests e

entries_map : (p : List ℕ) → map entry_in (tab (count_of p) 0 (entry_fields_at p)) ≡ entries_of p
unfolding entries_of entry_at entry_fields_at
entries_map p = map_tab entry_in (count_of p) 0 (entry_fields_at p)

module _ (p : List ℕ) (g : Bytes p) where
  plain_at : (i : ℕ) → entry_ok (entry_fields_at p i) ≡ true → entry_fields (entry_in (fields_at entry_widths p (head_size + entry_size * i))) ≡ fields_at entry_widths p (head_size + entry_size * i)
  unfolding entry_fields_at fields_at
  plain_at i h =
      plain_back (number_at key_size p (head_size + entry_size * i)) (number_at 4 p (head_size + entry_size * i + key_size)) (number_at 4 p (head_size + entry_size * i + key_size + 4)) (number_at 2 p (head_size + entry_size * i + key_size + 4 + 4))
      (number_at 2 p (head_size + entry_size * i + key_size + 4 + 4 + 2)) (entry_both (entry_fields_at p i) h).0

  rests_at : (i : ℕ) → entry_ok (entry_fields_at p i) ≡ true → (entry_in (entry_fields_at p i)).owner ≡ 0 → Rests (entry_in (entry_fields_at p i))
  unfolding entry_fields_at fields_at entry_in
  rests_at i h =
      let b = entry_both (entry_fields_at p i) h in
      fields_rests (number_at key_size p (head_size + entry_size * i)) (number_at 4 p (head_size + entry_size * i + key_size)) (number_at 4 p (head_size + entry_size * i + key_size + 4)) (number_at 2 p (head_size + entry_size * i + key_size + 4 + 4))
      (number_at 2 p (head_size + entry_size * i + key_size + 4 + 4 + 2)) b.0 b.1

  at_entry : (i : ℕ) → entry_fields (entry_in (fields_at entry_widths p (head_size + entry_size * i))) ≡ fields_at entry_widths p (head_size + entry_size * i)
      → ((entry_in (entry_fields_at p i)).owner ≡ 0 → Rests (entry_in (entry_fields_at p i))) → entry_ok (entry_fields_at p i) ≡ true
  unfolding entry_fields_at fields_at entry_in
  at_entry i e r =
      let b = back_plain (number_at key_size p (head_size + entry_size * i)) (number_at 4 p (head_size + entry_size * i + key_size)) (number_at 4 p (head_size + entry_size * i + key_size + 4)) (number_at 2 p (head_size + entry_size * i + key_size + 4 + 4))
      (number_at 2 p (head_size + entry_size * i + key_size + 4 + 4 + 2)) e in
      both_entry (entry_fields_at p i) b
      (rests_fields (number_at key_size p (head_size + entry_size * i)) (number_at 4 p (head_size + entry_size * i + key_size)) (number_at 4 p (head_size + entry_size * i + key_size + 4)) (number_at 2 p (head_size + entry_size * i + key_size + 4 + 4))
      (number_at 2 p (head_size + entry_size * i + key_size + 4 + 4 + 2)) b r)

  fits_at : (i : ℕ) → Fits entry_widths (entry_fields (entry_in (fields_at entry_widths p (head_size + entry_size * i))))
  unfolding fields_at
  fits_at i =
      entry_fits_lem (number_at key_size p (head_size + entry_size * i)) (number_at 4 p (head_size + entry_size * i + key_size)) (number_at 4 p (head_size + entry_size * i + key_size + 4)) (number_at 2 p (head_size + entry_size * i + key_size + 4 + 4))
      (number_at 2 p (head_size + entry_size * i + key_size + 4 + 4 + 2)) (number_below key_size p (head_size + entry_size * i) g) (number_below 4 p (head_size + entry_size * i + key_size) g) (number_below 4 p (head_size + entry_size * i + key_size + 4) g) (number_below 2 p (head_size + entry_size * i + key_size + 4 + 4) g)

  pub leaf_facts : (lo hi : ℕ) → length p ≡ page_size → leaf_ok lo hi p ≡ true → LeafFacts lo hi p
  unfolding leaf_ok leaf_page entry_row entries_of entry_at width_of entry_fields_at
  leaf_facts lo hi size h =
      let a = both ((head_ok 2 0 p && leb (count_of p) leaf_most) && entries_ok true lo hi (tab (count_of p) 0 (entry_fields_at p))) (zero_at (body_size - entry_size * count_of p) (head_size + entry_size * count_of p) p) h in
      let b = both (head_ok 2 0 p && leb (count_of p) leaf_most) (entries_ok true lo hi (tab (count_of p) 0 (entry_fields_at p))) a.0 in
      let c = both (head_ok 2 0 p) (leb (count_of p) leaf_most) b.0 in
      let few = leb-true (count_of p) leaf_most c.1 in
      let o = entries_ordered true lo hi (tab (count_of p) 0 (entry_fields_at p)) b.1 in
      let each : (i : ℕ) → i < count_of p → entry_ok (entry_fields_at p i) ≡ true =
      (λ i l. all_tab entry_ok (count_of p) 0 (entry_fields_at p) i o.1 (omega arith) (omega arith)) in
      record {
        laid = laid 2 0 entry_size leaf_most entry_widths (lit< tt) (lit< tt) refl (lit≤ tt) (lit< tt) entry_in entry_fields p g few size c.0 a.1 (λ i l. plain_at i (each i l));
        few = few;
        order = subst (Ordered lo hi) (entries_map p) o.0;
        rests = λ e m z.
            let x = tab_in (count_of p) 0 (entry_at p) e m in
            let q : entry_in (entry_fields_at p x.0) ≡ e = x.3 in
            subst Rests q (rests_at x.0 (each x.0 (omega (arith, x.2))) (ap (λ y. y.owner) q ∙ z));
      }

  pub facts_leaf : (lo hi : ℕ) → LeafFacts lo hi p → leaf_ok lo hi p ≡ true
  unfolding leaf_ok leaf_page entry_row entries_of entry_at width_of entry_fields_at
  facts_leaf lo hi f =
      let plain = told_each 2 0 entry_size leaf_most entry_widths (lit< tt) (lit< tt) refl (lit≤ tt) (lit< tt) entry_in entry_fields p g f.few fits_at f.laid in
      let each : (i : ℕ) → i < count_of p → entry_ok (entry_fields_at p i) ≡ true =
      (λ i l. at_entry i (plain i l) (f.rests (entry_at p i) (in_tab (count_of p) 0 (entry_at p) i (omega arith) (omega arith)))) in
      and_both ((head_ok 2 0 p && leb (count_of p) leaf_most) && entries_ok true lo hi (tab (count_of p) 0 (entry_fields_at p))) (zero_at (body_size - entry_size * count_of p) (head_size + entry_size * count_of p) p)
      (and_both (head_ok 2 0 p && leb (count_of p) leaf_most) (entries_ok true lo hi (tab (count_of p) 0 (entry_fields_at p)))
      (and_both (head_ok 2 0 p) (leb (count_of p) leaf_most)
      (told_head 2 0 entry_size leaf_most entry_widths (lit< tt) (lit< tt) refl (lit≤ tt) (lit< tt) entry_in entry_fields p g f.few fits_at f.laid) (le-leb (count_of p) leaf_most f.few))
      (ordered_entries true lo hi (tab (count_of p) 0 (entry_fields_at p)) (subst (Ordered lo hi) (sym (entries_map p)) f.order)
      (all_of_tab entry_ok (count_of p) 0 (entry_fields_at p) (λ i a b. each i (omega arith)))))
      (told_rest 2 0 entry_size leaf_most entry_widths (lit< tt) (lit< tt) refl (lit≤ tt) (lit< tt) entry_in entry_fields p g f.few fits_at f.laid)
