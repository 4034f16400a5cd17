-- What is known of a tree of pages inside a whole index, on the way down: of the root from the whole, of a child from its page.
-- Counts, ranges and pages of a child are those that its page's say. Assumes nothing.
use Prim.Native.Nat.{ℕ, zero, suc, ◌-◌, ◌≤◌, ◌<◌, compare}
use mathlib.Core.Path.{◌≡◌, refl, sym, ap, subst, ◌∙◌}
use mathlib.Core.Bool.{Bool, true, false, cond, not, ◌&&◌}
use mathlib.Core.List.{List, [], ◌∷◌, map}
use mathlib.Core.Option.{Option, some}
use native.Mathlib.Omega.{arith}
use lib.Dec.{leb, ltb, lit≤}
use lib.ListN.{length, drop, length-map}
use borrow.Author.Tests.{leb-true, leb-false, eqb-true, ltb-true, lt-ltb, le-ltb}
use Rattle.limits.specs.Limits.{pages_most, leaf_most, inner_most, inner_fewest}
use Rattle.lists.specs.Lists as L
use Rattle.lists.specs.Lists.{In, all, pairs}
use Rattle.lists.proofs.Elements.{in_map, in_tab, all_in, in_split}
use Rattle.lists.proofs.Tests.{and_left, and_right, and_both, all_cons, all_weaker}
use Rattle.lists.proofs.Pairs.{pairs_cons, pairs_map, pairs_weaker}
use Rattle.pages.specs.declared.Child as P
use Rattle.pages.specs.KeyPlaces.{keys_ascend, lows_ascend, ChildPlace}
use Rattle.rows.specs.PageHead.{count_of, root_of, used_of, height_of}
use Rattle.pages.specs.PageLayout.{entries_of, child_at, children_of}
use Rattle.pages.proofs.ChildRows.{length_children}
use Rattle.rules.proofs.Orders.{numbers_ordered}
use Rattle.rules.specs.Document.{end_mark}
use Rattle.trees.specs.Trees.{Child, Tree, document_sizes, above, counted, under, inside, first_low, ranges, ranged}
use Rattle.trees.proofs.Sorted.{test_sorted}
use Rattle.trees.proofs.Counts.{counted_filled}
use Rattle.trees.specs.Growth.{place}
use Rattle.trees.proofs.Spots.{start_of, end_of}
use Rattle.trees.proofs.ChildRanges.{ranged_in, child_range}
use Rattle.index.specs.Pictures.{Item, key_of, page_at, tree_of, index_of, WholePages}
use Rattle.index.specs.Descents.{Subtree, InnerIn}
use Rattle.index.proofs.Frame.{kid, own_page, times_child}

pub one_at_most : (u q : ℕ) → above u q ≤ 1
one_at_most u q = go (leb u q)
  where
    go : (b : Bool) → cond {A = ℕ} b 1 0 ≤ 1
    go true = lit≤ tt
    go false = lit≤ tt

-- page q is used
pub used_page : (u q : ℕ) → above u q ≡ 0 → q < u
used_page u q h = go (leb u q) refl
  where
    go : (b : Bool) → leb u q ≡ b → q < u
    go true e = absurd (omega (arith, ap (λ c. cond {A = ℕ} c 1 0) e))
    go false e = leb-false u q e

-- ---- the page at the top
pub leaf_few : (s : List ℕ) (pg u : ℕ) → Subtree s 0 pg u → length (entries_of (page_at s pg)) ≤ leaf_most
unfolding counted tree_of
leaf_few s pg u t = leb-true (length (entries_of (page_at s pg))) leaf_most t.counts

pub record Filled (least : ℕ) (cs : List P.Child) : Type 0 where
  pub few : least ≤ length cs
  pub many : length cs ≤ inner_most

pub inner_filled : (s : List ℕ) (n pg u : ℕ) (t : Subtree s (suc n) pg u) → Filled t.least (children_of (page_at s pg))
unfolding tree_of
inner_filled s n pg u t =
    let f = counted_filled ℕ Item document_sizes t.least n (tree_of (suc n) s pg) t.counts in
    let e = length-map (children_of (page_at s pg)) (kid n s) in
    record { few = omega (arith, f.few); many = omega (arith, f.many) }

-- ---- a child
pub subtree_child : (s : List ℕ) (n pg u : ℕ) → Subtree s (suc n) pg u → (c : P.Child) → In c (children_of (page_at s pg)) → Subtree s n c.page u
unfolding tree_of
subtree_child s n pg u t c i =
    let cs = children_of (page_at s pg) in
    let f = counted_filled ℕ Item document_sizes t.least n (tree_of (suc n) s pg) t.counts in
    let r = ranged_in compare key_of 0 n t.low t.high (tree_of (suc n) s pg) t.keys in
    let k = in_map (kid n s) cs c i in
    let w = in_split (map (kid n s) cs) (kid n s c) k in
    let own = own_page n s c.page in
    let up = times_child n c.page s pg c i in
    record {
      size = t.size;
      which = omega (arith, used_page u c.page (omega (arith, t.alone c.page)), t.few);
      few = t.few;
      laid = t.laid.1 c i;
      least = inner_fewest;
      enough = lit≤ tt;
      counts = all_in (λ c. counted ℕ Item document_sizes inner_fewest n c.tree) (map (kid n s) cs) (kid n s c) f.each k;
      low = start_of t.low w.0 (kid n s c);
      high = end_of t.high w.1;
      keys = child_range numbers_ordered (ranged compare key_of 0 n) t.low t.high w.0 (kid n s c) w.1
          (subst (λ zs. ranges compare (ranged compare key_of 0 n) t.low t.high zs ≡ true) w.2 r.each);
      alone = λ q. omega (arith, t.alone q, times_child n q s pg c i);
    }

-- ---- the order in a page, as the page code speaks of it
ltb_under : (a b : ℕ) → ltb a b ≡ under compare a b
ltb_under a b = go (leb b a) refl
  where
    go : (c : Bool) → leb b a ≡ c → ltb a b ≡ not c
    go true e = le-ltb a b (leb-true b a e)
    go false e = lt-ltb a b (leb-false b a e)

pub keys_ascend_lem : (s : List ℕ) (pg u : ℕ) → Subtree s 0 pg u → keys_ascend (entries_of (page_at s pg)) ≡ true
unfolding ranged tree_of keys_ascend
keys_ascend_lem s pg u t =
    pairs_weaker (λ (a b : Item). under compare a.key b.key) (λ a b. ltb a.key b.key) (entries_of (page_at s pg))
    (λ a b _ _ e. ltb_under a.key b.key ∙ e)
    (test_sorted compare key_of t.low t.high (entries_of (page_at s pg)) t.keys).order

-- every separator behind the first is above lo, and they ascend
lows_above : {T : Type 0} (f : ℕ → Option ℕ → T → Bool) (lo : ℕ) (hi : Option ℕ) (c : Child ℕ T) (cs : List (Child ℕ T))
    → ranges compare f lo hi (c ∷ cs) ≡ true
    → (all (λ d. ltb lo d.low) cs && pairs (λ a b. ltb a.low b.low) cs) ≡ true
unfolding ranges all pairs
lows_above f lo hi c [] h = refl
lows_above {T} f lo hi c (d ∷ cs) h =
    let own = f lo (some d.low) c.tree && (under compare lo d.low && inside compare d.low hi) in
    let o = and_right (f lo (some d.low) c.tree) (under compare lo d.low && inside compare d.low hi)
    (and_left own (ranges compare f d.low hi (d ∷ cs)) h) in
    let l : lo < d.low = ltb-true lo d.low (ltb_under lo d.low ∙ and_left (under compare lo d.low) (inside compare d.low hi) o) in
    let r = lows_above f d.low hi d cs (and_right own (ranges compare f d.low hi (d ∷ cs)) h) in
    let a : all (λ (x : Child ℕ T). ltb d.low x.low) cs ≡ true = and_left (all (λ (x : Child ℕ T). ltb d.low x.low) cs) (pairs (λ (a b : Child ℕ T). ltb a.low b.low) cs) r in
    let p = and_right (all (λ (x : Child ℕ T). ltb d.low x.low) cs) (pairs (λ (a b : Child ℕ T). ltb a.low b.low) cs) r in
    and_both (all (λ (x : Child ℕ T). ltb lo x.low) (d ∷ cs)) (pairs (λ (a b : Child ℕ T). ltb a.low b.low) (d ∷ cs))
    (all_cons (λ (x : Child ℕ T). ltb lo x.low) d cs (lt-ltb lo d.low l)
    (all_weaker (λ (x : Child ℕ T). ltb d.low x.low) (λ (x : Child ℕ T). ltb lo x.low) (λ x q. lt-ltb lo x.low (omega (arith, ltb-true d.low x.low q))) cs a))
    (pairs_cons (λ (a b : Child ℕ T). ltb a.low b.low) d cs a p)

pub lows_ascend_lem : (s : List ℕ) (n pg u : ℕ) → Subtree s (suc n) pg u → lows_ascend (children_of (page_at s pg)) ≡ true
unfolding tree_of lows_ascend pairs
lows_ascend_lem s n pg u t =
    let r = ranged_in compare key_of 0 n t.low t.high (tree_of (suc n) s pg) t.keys in
    sym (pairs_map (λ (a b : Child ℕ (Tree ℕ Item n)). ltb a.low b.low) (kid n s) (children_of (page_at s pg)))
    ∙ go (map (kid n s) (children_of (page_at s pg))) r.first r.each
  where
    go : (cs : List (Child ℕ (Tree ℕ Item n))) → first_low compare 0 cs ≡ true
        → ranges compare (ranged compare key_of 0 n) t.low t.high cs ≡ true → pairs (λ a b. ltb a.low b.low) cs ≡ true
    go [] f r = refl
    go (c ∷ cs) f r =
        let e : c.low ≡ 0 = eqb-true c.low 0 f in
        let q = lows_above (ranged compare key_of 0 n) t.low t.high c cs r in
        let a = and_left (all (λ d. ltb t.low d.low) cs) (pairs (λ a b. ltb a.low b.low) cs) q in
        pairs_cons (λ a b. ltb a.low b.low) c cs
        (all_weaker (λ d. ltb t.low d.low) (λ d. ltb c.low d.low) (λ d l. lt-ltb c.low d.low (omega (arith, ltb-true t.low d.low l))) cs a)
        (and_right (all (λ d. ltb t.low d.low) cs) (pairs (λ a b. ltb a.low b.low) cs) q)

-- the place of the child that k belongs to, as the tree says it
pub same_place : {T : Type 0} (k : ℕ) (f : P.Child → Child ℕ T) → ((c : P.Child) → (f c).low ≡ c.low.0) → (cs : List P.Child)
    → place compare k (map f cs) ≡ L.place (λ c. ltb k c.low.0) (drop 1 cs)
unfolding place L.place
same_place k f h [] = refl
same_place k f h (c ∷ []) = refl
same_place k f h (c ∷ d ∷ cs) =
    ap (λ x. cond (leb x k) (suc (place compare k (map f (d ∷ cs)))) 0) (h d) ∙ go (leb d.low.0 k) refl (same_place k f h (d ∷ cs))
  where
    go : (b : Bool) → leb d.low.0 k ≡ b → place compare k (map f (d ∷ cs)) ≡ L.place (λ c. ltb k c.low.0) cs
        → cond b (suc (place compare k (map f (d ∷ cs)))) 0 ≡ L.place (λ c. ltb k c.low.0) (d ∷ cs)
    go true e r = ap suc r ∙ ap (λ b. cond b 0 (suc (L.place (λ c. ltb k c.low.0) cs))) (sym (le-ltb k d.low.0 (leb-true d.low.0 k e)))
    go false e r = ap (λ b. cond b 0 (suc (L.place (λ c. ltb k c.low.0) cs))) (sym (lt-ltb k d.low.0 (leb-false d.low.0 k e)))

pub child_place : (s : List ℕ) (n pg u k r : ℕ) → Subtree s (suc n) pg u → ChildPlace (page_at s pg) k r
    → r ≡ place compare k (map (kid n s) (children_of (page_at s pg)))
child_place s n pg u k r t c = c.last (lows_ascend_lem s n pg u t) ∙ sym (same_place k (kid n s) (λ c. refl) (children_of (page_at s pg)))

-- ---- the root
pub subtree_root : (s : List ℕ) → WholePages s → Subtree s (height_of (page_at s 0) - 1) (root_of (page_at s 0)) (used_of (page_at s 0))
unfolding index_of
subtree_root s w =
    let x = w.index in
    let n = height_of (page_at s 0) - 1 in
    let r = root_of (page_at s 0) in
    let own = own_page n s r in
    let up = x.pages.once r in
    let one = one_at_most 1 r in
    record {
      size = w.size;
      which = omega (arith, used_page (used_of (page_at s 0)) r (omega arith), x.room);
      few = x.room;
      laid = w.laid;
      least = 2;
      enough = lit≤ tt;
      counts = x.counts;
      low = 0;
      high = some end_mark;
      keys = x.keys;
      alone = λ q. omega (arith, x.pages.once q, one_at_most 1 q);
    }

-- where it does not matter how many are used
pub subtree_wider : (s : List ℕ) (n pg u : ℕ) → Subtree s n pg u → Subtree s n pg pages_most
subtree_wider s n pg u t =
    record {
      size = t.size;
      which = t.which;
      few = lit≤ tt;
      laid = t.laid;
      least = t.least;
      enough = t.enough;
      counts = t.counts;
      low = t.low;
      high = t.high;
      keys = t.keys;
      alone = λ q. omega (arith, t.alone q, wider q);
    }
  where
    wider : (q : ℕ) → above pages_most q ≤ above u q
    wider q = go (leb pages_most q) (leb u q) refl refl
      where
        go : (a b : Bool) → leb pages_most q ≡ a → leb u q ≡ b → cond {A = ℕ} a 1 0 ≤ cond b 1 0
        go true true d e = lit≤ tt
        go true false d e = absurd (omega (arith, leb-true pages_most q d, leb-false u q e, t.few))
        go false true d e = lit≤ tt
        go false false d e = lit≤ tt

-- ---- an inner page, as the code meets it
pub inner_in : (s : List ℕ) (n pg u : ℕ) → Subtree s n pg u → (n ≡ 0 → ⊥) → InnerIn s pg
inner_in s zero pg u t h = absurd (h refl)
inner_in s (suc n) pg u t h =
    let f = inner_filled s n pg u t in
    let e = length_children (page_at s pg) in
    record { size = t.size; which = t.which; some = omega (arith, f.few, t.enough); few = omega (arith, f.many) }

pub child_in : (s : List ℕ) (n pg u i m q : ℕ) → Subtree s n pg u → (n ≡ 0 → ⊥) → m ≡ count_of (page_at s pg) → i < m
    → q ≡ (child_at (page_at s pg) i).page → Subtree s (n - 1) q u
unfolding children_of
child_in s zero pg u i m q t h e l c = absurd (h refl)
child_in s (suc n) pg u i m q t h e l c =
    let k : n ≡ suc n - 1 = omega arith in
    subst (λ m. Subtree s m q u) k
    (subst (λ x. Subtree s n x u) (sym c)
    (subtree_child s n pg u t (child_at (page_at s pg) i) (in_tab (count_of (page_at s pg)) 0 (child_at (page_at s pg)) i (omega arith) (omega arith))))
