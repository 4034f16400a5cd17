-- The leaf that a key belongs to: no other leaf of the tree has the key. The children before the one that the key belongs to lie under it, those
-- after it above, and what no entry of a tree has, no leaf of it has. Assumes nothing.
use Prim.Native.Nat.{ℕ, zero, suc, ◌-◌, ◌<◌, compare}
use mathlib.Core.Path.{◌≡◌, refl, sym, ap, subst, ◌∙◌}
use mathlib.Core.Logic.{◌≢◌, ◌⊎◌, inl, inr, ⊎_elim}
use mathlib.Core.Bool.{Bool, true, not}
use mathlib.Core.List.{List, [], ◌∷◌, ◌++◌, map}
use mathlib.Core.Option.{Option, none}
use native.Mathlib.Nat.{zero-add}
use native.Mathlib.Omega.{arith}
use lib.Dec.{eqb}
use lib.ListN.{length, take, drop}
use lib.Seq.{split_at, take-append_seam}
use Rattle.limits.specs.Limits.{pages_most}
use Rattle.lists.specs.Lists.{In, all, join}
use Rattle.lists.proofs.Elements.{append_in, in_map, in_right}
use Rattle.lists.proofs.Tables.{get_d_tab}
use Rattle.lists.proofs.Tests.{all_weaker}
use Rattle.lists.proofs.Joins.{map_take, map_drop, all_join}
use Rattle.rules.proofs.Orders.{numbers_ordered}
use Rattle.pages.specs.declared.Child as P
use Rattle.rows.specs.PageHead.{kind_of, count_of}
use Rattle.pages.specs.PageLayout.{entries_of, child_at, children_of}
use Rattle.pages.proofs.EntryRows.{length_entries}
use Rattle.pages.proofs.ChildRows.{length_children}
use Rattle.trees.specs.Trees.{Child, Tree, is_page, times, flat, at_most, under, inside, ranges, ranged}
use Rattle.trees.specs.Growth.{place, missing}
use Rattle.trees.proofs.KeyOrder.{at_most_itself, under_then, under_other, other_under}
use Rattle.trees.proofs.ItemOrder.{flat_sorted}
use Rattle.trees.proofs.ChildRanges.{ranges_cut, ranges_sorted, before_under, ranged_in}
use Rattle.trees.proofs.Spots.{Lies, end_of, at_spot}
use Rattle.trees.proofs.PageCounts.{summed_some}
use Rattle.index.specs.declared.Way.{Way}
use Rattle.index.specs.Pictures.{Item, key_of, page_at, tree_of}
use Rattle.index.specs.Descents.{Subtree, Goes, LeafFor}
use Rattle.index.proofs.Buffers.{length_page}
use Rattle.index.proofs.Frame.{kid, Times, own_page, times_inner, times_child}
use Rattle.index.proofs.Subtrees.{leaf_few, keys_ascend_lem, subtree_child, child_in, child_place}
use Rattle.index.proofs.Refills.{is_page_is, inner_kind}

-- ---- a test that all entries of a tree pass, in a child and in a leaf
all_leaf : (p : Item → Bool) (s : List ℕ) (n pg u q : ℕ) → Subtree s n pg u → all p (flat ℕ Item n (tree_of n s pg)) ≡ true → 0 < Times n q s pg
    → kind_of (page_at s q) ≡ 2 → all p (entries_of (page_at s q)) ≡ true
unfolding times tree_of flat
all_leaf p s zero pg u q t h l k = subst (λ x. all p (entries_of (page_at s x)) ≡ true) (sym (is_page_is q pg l)) h
all_leaf p s (suc n) pg u q t h l k =
    let cs = children_of (page_at s pg) in
    go (is_page q pg) refl
    (λ c i. all_leaf p s n c.page u q (subtree_child s n pg u t c i)
    (all_join p (λ c. flat ℕ Item n c.tree) (map (kid n s) cs) (kid n s c) h (in_map (kid n s) cs c i)))
  where
    go : (m : ℕ) → is_page q pg ≡ m
        → ((c : P.Child) → In c (children_of (page_at s pg)) → 0 < Times n q s c.page → kind_of (page_at s q) ≡ 2 → all p (entries_of (page_at s q)) ≡ true)
        → all p (entries_of (page_at s q)) ≡ true
    go (suc m) e r = absurd (omega (arith, inner_kind s n pg u t, ap (λ x. kind_of (page_at s x)) (is_page_is q pg (omega arith))))
    go zero e r =
        let c = summed_some (λ (c : P.Child). Times n q s c.page) (children_of (page_at s pg)) (omega (arith, times_inner n q s pg)) in
        r c.0 c.1 c.2 k

-- ---- the children beside the one that k belongs to do not have it
abbrev items : (n : ℕ) → List (Child ℕ (Tree ℕ Item n)) → List Item
items n cs = join (λ c. flat ℕ Item n c.tree) cs

record Beside (k n : ℕ) (cs : List (Child ℕ (Tree ℕ Item n))) : Type 0 where
  before : missing compare key_of k (items n (take (place compare k cs) cs)) ≡ true
  after : missing compare key_of k (items n (drop (suc (place compare k cs)) cs)) ≡ true

drop_behind : {A : Type 0} (b : List A) (c : A) (a : List A) → drop (suc (length b)) (b ++ c ∷ a) ≡ a
drop_behind [] c a = refl
drop_behind (x ∷ b) c a = drop_behind b c a

module _ (k n : ℕ) where
  after_first : (lo : ℕ) (hi : Option ℕ) (c : Child ℕ (Tree ℕ Item n)) (a : List (Child ℕ (Tree ℕ Item n))) → ranges compare (ranged compare key_of 0 n) lo hi (c ∷ a) ≡ true
      → inside compare k (end_of none a) ≡ true → missing compare key_of k (items n a) ≡ true
  unfolding join all
  after_first lo hi c [] h u = refl
  after_first lo hi c (d ∷ a) h u =
      all_weaker (λ x. at_most compare d.low x.key) (λ x. not (eqb x.key k))
      (λ x l. ap not (other_under numbers_ordered k x.key (under_then numbers_ordered k d.low x.key u l))) (items n (d ∷ a))
      (ranges_sorted numbers_ordered (ranged compare key_of 0 n) key_of (flat ℕ Item n) (flat_sorted numbers_ordered key_of 0 n) d.low hi (d ∷ a)
      (ranges_cut numbers_ordered (ranged compare key_of 0 n) lo hi c [] d a h).right).low

  after_other : (lo : ℕ) (hi : Option ℕ) (b : List (Child ℕ (Tree ℕ Item n))) (c : Child ℕ (Tree ℕ Item n)) (a : List (Child ℕ (Tree ℕ Item n)))
      → ranges compare (ranged compare key_of 0 n) lo hi (b ++ c ∷ a) ≡ true → inside compare k (end_of none a) ≡ true → missing compare key_of k (items n a) ≡ true
  after_other lo hi [] c a h u = after_first lo hi c a h u
  after_other lo hi (b ∷ bs) c a h u = after_first c.low hi c a (ranges_cut numbers_ordered (ranged compare key_of 0 n) lo hi b bs c a h).right u

  beside : (lo : ℕ) (hi : Option ℕ) (cs : List (Child ℕ (Tree ℕ Item n))) → ranges compare (ranged compare key_of 0 n) lo hi cs ≡ true → Beside k n cs
  unfolding join all place
  beside lo hi =
      at_spot compare k (λ cs. ranges compare (ranged compare key_of 0 n) lo hi cs ≡ true → Beside k n cs) (λ e. record { before = refl; after = refl }) step
    where
      step : (b : List (Child ℕ (Tree ℕ Item n))) (c : Child ℕ (Tree ℕ Item n)) (a : List (Child ℕ (Tree ℕ Item n))) → Lies compare k (b ++ c ∷ a) b c a
          → ranges compare (ranged compare key_of 0 n) lo hi (b ++ c ∷ a) ≡ true → Beside k n (b ++ c ∷ a)
      step b c a lies h =
          record {
            before = subst (λ xs. missing compare key_of k (items n xs) ≡ true) (sym (ap (λ i. take i (b ++ c ∷ a)) lies.at ∙ take-append_seam b (c ∷ a)))
                (all_weaker (λ x. under compare x.key k) (λ x. not (eqb x.key k)) (λ x u. ap not (under_other numbers_ordered x.key k u)) (items n b)
                (before_under numbers_ordered (ranged compare key_of 0 n) key_of (flat ℕ Item n) (flat_sorted numbers_ordered key_of 0 n) k lo k hi b c a h
                (lies.from k (at_most_itself numbers_ordered k))));
            after = subst (λ xs. missing compare key_of k (items n xs) ≡ true) (sym (ap (λ i. drop (suc i) (b ++ c ∷ a)) lies.at ∙ drop_behind b c a))
                (after_other lo hi b c a h (lies.upto none refl));
          }

-- ---- a step of the way down
module _ (s : List ℕ) (n pg k : ℕ) (t : Subtree s (suc n) pg pages_most) (way : Way) (goes : Goes s pg k way) where
  abbrev cs : List P.Child
  cs = children_of (page_at s pg)

  abbrev i : ℕ
  i = way.slot

  parts : cs ≡ take i cs ++ child_at (page_at s pg) i ∷ drop (suc i) cs
  unfolding children_of
  parts =
      let d = child_at (page_at s pg) i in
      let w = goes.starts.place.within in
      split_at cs i d (omega (arith, length_children (page_at s pg), w))
      ∙ ap (λ x. take i cs ++ x ∷ drop (suc i) cs) (get_d_tab (count_of (page_at s pg)) 0 (child_at (page_at s pg)) i d w ∙ ap (child_at (page_at s pg)) (zero-add i))

  in_parts : (x : P.Child) → In x cs → (child_at (page_at s pg) i ≡ x) ⊎ (In x (take i cs) ⊎ In x (drop (suc i) cs))
  in_parts x j =
      ⊎_elim (λ m. inr (inl m)) (λ m. ⊎_elim (λ e. inl e) (λ l. inr (inr l)) m)
      (append_in (take i cs) (child_at (page_at s pg) i ∷ drop (suc i) cs) x (subst (In x) parts j))

  side : (x : P.Child) → In x (take i cs) ⊎ In x (drop (suc i) cs) → missing compare key_of k (flat ℕ Item n (tree_of n s x.page)) ≡ true
  unfolding tree_of
  side x j =
      let ks = map (kid n s) cs in
      let p = child_place s n pg pages_most k i t goes.starts.place in
      let b = beside k n t.low t.high ks (ranged_in compare key_of 0 n t.low t.high (tree_of (suc n) s pg) t.keys).each in
      let found : (ds : List P.Child) → missing compare key_of k (items n (map (kid n s) ds)) ≡ true → In x ds
      → missing compare key_of k (flat ℕ Item n (tree_of n s x.page)) ≡ true =
      λ ds h l. all_join (λ y. not (eqb y.key k)) (λ c. flat ℕ Item n c.tree) (map (kid n s) ds) (kid n s x) h (in_map (kid n s) ds x l) in
      ⊎_elim
      (found (take i cs) (subst (λ xs. missing compare key_of k (items n xs) ≡ true) (ap (λ m. take m ks) (sym p) ∙ sym (map_take (kid n s) i cs)) b.before))
      (found (drop (suc i) cs) (subst (λ xs. missing compare key_of k (items n xs) ≡ true) (ap (λ m. drop (suc m) ks) (sym p) ∙ sym (map_drop (kid n s) (suc i) cs)) b.after))
      j

  down : (r : ℕ) → LeafFor s n way.page k r → LeafFor s (suc n) pg k r
  down r l =
      let d = child_at (page_at s pg) i in
      let own : In d cs = subst (In d) (sym parts) (in_right (take i cs) (d ∷ drop (suc i) cs) d (inl refl)) in
      record {
        at = l.at;
        inside = omega (arith, subst (λ x. 0 < Times n r s x) goes.page l.inside, times_child n r s pg d own);
        others = λ q h o z. go q h o z (is_page q pg) refl;
      }
    where
      below : (q : ℕ) → q ≢ r → kind_of (page_at s q) ≡ 2 → (x : P.Child) → In x cs → 0 < Times n q s x.page → missing compare key_of k (entries_of (page_at s q)) ≡ true
      below q o z x j m =
          ⊎_elim
          (λ e. l.others q (subst (λ y. 0 < Times n q s y) (ap (λ c. c.page) (sym e) ∙ sym goes.page) m) o z)
          (λ e. all_leaf (λ y. not (eqb y.key k)) s n x.page pages_most q (subtree_child s n pg pages_most t x j) (side x e) m z)
          (in_parts x j)

      go : (q : ℕ) → 0 < Times (suc n) q s pg → q ≢ r → kind_of (page_at s q) ≡ 2 → (m : ℕ) → is_page q pg ≡ m → missing compare key_of k (entries_of (page_at s q)) ≡ true
      go q h o z (suc m) e = absurd (omega (arith, inner_kind s n pg pages_most t, ap (λ x. kind_of (page_at s x)) (is_page_is q pg (omega arith))))
      go q h o z zero e =
          let c = summed_some (λ (c : P.Child). Times n q s c.page) cs (omega (arith, times_inner n q s pg)) in
          below q o z c.0 c.1 c.2

-- ---- the steps of the code
pub way_child : (s : List ℕ) (n pg k : ℕ) (way : Way) → Subtree s n pg pages_most → (n ≡ 0 → ⊥) → Goes s pg k way → Subtree s (n - 1) way.page pages_most
way_child s n pg k way t z goes =
    child_in s n pg pages_most way.slot (count_of (page_at s pg)) way.page t z refl goes.starts.place.within goes.page

pub way_leaf : (s : List ℕ) (n pg k : ℕ) (way : Way) (r : ℕ) → Subtree s n pg pages_most → (n ≡ 0 → ⊥) → Goes s pg k way → LeafFor s (n - 1) way.page k r
    → LeafFor s n pg k r
way_leaf s zero pg k way r t z goes l = absurd (z refl)
way_leaf s (suc n) pg k way r t z goes l =
    let e : suc n - 1 ≡ n = omega arith in
    down s n pg k t way goes r (subst (λ m. LeafFor s m way.page k r) e l)

pub own_leaf : (s : List ℕ) (n pg k : ℕ) → Subtree s n pg pages_most → n ≡ 0 → LeafFor s n pg k pg
unfolding times tree_of
own_leaf s n pg k t z = subst (λ m. LeafFor s m pg k pg) (sym z) (here (subst (λ m. Subtree s m pg pages_most) z t))
  where
    here : Subtree s 0 pg pages_most → LeafFor s 0 pg k pg
    here t =
        record {
          at = record {
            size = t.size;
            which = t.which;
            leaf = record {
              size = length_page s t.size pg t.which;
              few = omega (arith, leaf_few s pg pages_most t, length_entries (page_at s pg));
              order = keys_ascend_lem s pg pages_most t;
              laid = t.laid;
            };
          };
          inside = own_page 0 s pg;
          others = λ q h o i. absurd (o (is_page_is q pg h));
        }
