-- A tree of pages grows as the tree does. The code's step at a leaf and at an inner page is the tree's step, its new pages are laid, and no
-- other page is touched: how often a page stands in a tree says that it is another. Assumes nothing.
use Rattle.limits.specs.Limits.{pages_most, page_size, leaf_most, leaf_stay, leaf_go}
use Rattle.pages.specs.PageLayout.{EntryFits, entries_of}
use Rattle.rows.specs.PageHead.{count_of}
use Rattle.std.specs.Prelude as Code
use Prim.Native.Nat.{ℕ, ◌+◌, ◌*◌, ◌-◌, ◌≤◌, ◌<◌}
use mathlib.Core.Path.{◌≡◌, refl, sym, ap, subst, ◌∙◌}
use mathlib.Core.Logic.{◌≢◌, inl, ⊎_elim}
use mathlib.Core.Bool.{Bool, true, false}
use mathlib.Core.List.{List, [], ◌∷◌}
use mathlib.Core.Option.{some}
use native.Mathlib.Omega.{arith}
use lib.Dec.{leb, lit<}
use lib.ListN.{length, take, drop, length-drop}
use lib.Seq.{length-take-le}
use borrow.Author.Tests.{le-leb, lt-leb}
use borrow.Rule.Slice.PartMut.{put_mid}
use Rattle.lists.specs.Lists.{insert_at, insert_before}
use Rattle.lists.proofs.Elements.{insert_at_in, drop_in, take_in}
use Rattle.lists.proofs.Places.{length_insert_at, insert_before_is}
use Rattle.pages.specs.declared.Child as P
use Rattle.pages.specs.KeyPlaces.{EntryPlace}
use Rattle.pages.specs.PageChanges.{entry_put}
use Rattle.pages.proofs.EntryRows.{length_entries}
use Rattle.trees.specs.Growth as G
use Rattle.trees.specs.Growth.{halves, grown}
use Rattle.adding.specs.declared.Grown.{Grown}
use Rattle.index.specs.Pictures.{Item, key_of, page_at, put_page, tree_of, leaf_page, Laid}
use Rattle.adding.specs.Growing.{one_tree, needed_in, GrowIn, Grew, grown_of, Outcome, Tried, LeafFull, LeafOver, Parted, LeafParted, LeafSplit}
use Rattle.index.proofs.Buffers.{page_lent, page_back, length_put_page, page_same, page_other}
use Rattle.index.proofs.LeafPages as Leaf
use Rattle.index.proofs.Frame.{Times, own_page}
use Rattle.index.proofs.Subtrees.{leaf_few, keys_ascend_lem}
use Rattle.adding.proofs.PagesNeeded.{need_none, need_full}

-- ---- a leaf
-- what is read of a page that is written as a leaf
put_leaf : (s : List ℕ) (pg : ℕ) (es : List Item) → page_at s pg ≡ leaf_page es → length es ≤ leaf_most → Leaf.Smalls es
    → (tree_of 0 s pg ≡ record { number = pg; holds = es }) × Laid 0 s pg
unfolding tree_of
put_leaf s pg es e h m =
    let x : entries_of (page_at s pg) ≡ es = ap entries_of e ∙ Leaf.leaf_entries es h m in
    (ap (λ ys. record { number = pg; holds = ys }) x, e ∙ ap leaf_page (sym x))

module _ (s : List ℕ) (pg u : ℕ) (e : Item) (g : GrowIn s 0 pg u e) (i : ℕ)
    (place : EntryPlace (take (page_size * pg + page_size - page_size * pg) (drop (page_size * pg) s)) e.key i) where
  abbrev old : List Item
  old = entries_of (page_at s pg)

  abbrev new : List Item
  new = insert_at i e old

  new_is : insert_before (λ x. leb e.key x.key) e old ≡ new
  new_is =
      insert_before_is (λ x. leb e.key x.key) e old
      ∙ ap (λ j. insert_at j e old) (sym ((subst (λ p. EntryPlace p e.key i) (page_lent s pg) place).first (keys_ascend_lem s pg u g.sub)))

  new_small : Leaf.Smalls new
  new_small x j =
      ⊎_elim (λ p. subst EntryFits p g.small) (Leaf.laid_small (page_at s pg) g.sub.laid (leaf_few s pg u g.sub) x) (insert_at_in i e old x j)

  -- as many as these
  grown_is : (b : Bool) → leb (length new) leaf_most ≡ b → grown_of 0 e u s pg ≡ halves b leaf_stay (G.low_key key_of 0) (λ xs. xs) u pg new
  unfolding grown tree_of
  grown_is b h =
      ap (λ xs. halves (leb (length xs) leaf_most) leaf_stay (G.low_key key_of 0) (λ xs. xs) u pg xs) new_is
      ∙ ap (λ c. halves c leaf_stay (G.low_key key_of 0) (λ xs. xs) u pg new) h

  other_page : (q : ℕ) → Times 0 q s pg ≡ 0 → q ≢ pg
  other_page q h e = let o = own_page 0 s pg in let z = subst (λ x. Times 0 x s pg ≡ 0) e h in omega arith

  more_grew : (p : List ℕ) → length old ≤ leaf_most - 1 → length p ≡ length (take (page_size * pg + page_size - page_size * pg) (drop (page_size * pg) s))
      → p ≡ entry_put (take (page_size * pg + page_size - page_size * pg) (drop (page_size * pg) s)) i e
      → Grew 0 s (put_mid (page_size * pg) (page_size * pg + page_size - page_size * pg) s p) pg u e (one_tree u)
  more_grew p k l b =
      let t = g.sub in
      let m : length new ≤ leaf_most = omega (arith, length_insert_at i e old) in
      let s' = put_page s pg (leaf_page new) in
      let x : put_mid (page_size * pg) (page_size * pg + page_size - page_size * pg) s p ≡ s' =
      page_back s pg p (leaf_page new) l (b ∙ ap (λ v. entry_put v i e) (page_lent s pg ∙ t.laid) ∙ Leaf.leaf_put old (omega arith) i e k) in
      let w = Leaf.leaf_length new m in
      let z = put_leaf s' pg new (page_same s t.size pg t.which (leaf_page new) w) m new_small in
      let f = grown_is true (le-leb (length new) leaf_most m) in
      subst (λ v. Grew 0 s v pg u e (one_tree u)) (sym x)
      (record {
        size = length_put_page s t.size pg t.which (leaf_page new) w;
        tree = z.0 ∙ sym (ap (λ v. v.tree) f);
        laid = z.1;
        told = (sym (ap (λ v. v.used) f), ap (λ v. v.beside) f);
        more = omega arith;
        most = g.most;
        kept = λ q o y. page_other s t.size pg t.which (leaf_page new) w q (omega (arith, g.most)) (other_page q y);
        spare = λ q o y. page_other s t.size pg t.which (leaf_page new) w q y (λ v. omega (arith, g.used));
      })

  is_full : length old ≡ leaf_most → u < pages_most → LeafFull s pg u i e
  is_full k h =
      let t = g.sub in
      record {
        size = t.size;
        which = t.which;
        next = h;
        other = g.used;
        full = k;
        count = omega (arith, length_entries (page_at s pg));
        place = omega (arith, place.within, ap count_of (page_lent s pg), length_entries (page_at s pg));
        laid = t.laid;
        small = g.small;
      }

  divided_grew : (s' : List ℕ) (r : Grown) → LeafFull s pg u i e → LeafSplit s s' pg u i e r → Grew 0 s s' pg u e r
  divided_grew s' r h d =
      let t = g.sub in
      let n : length new ≡ leaf_most + 1 = length_insert_at i e old ∙ ap (λ v. v + 1) h.full in
      let a = leaf_page (take leaf_stay new) in
      let b = leaf_page (drop leaf_stay new) in
      let j : length (take leaf_stay new) ≡ leaf_stay = length-take-le leaf_stay new (omega arith) in
      let k : length (drop leaf_stay new) ≡ leaf_go = length-drop leaf_stay new ∙ ap (λ v. v - leaf_stay) n in
      let x : length a ≡ page_size = Leaf.leaf_length (take leaf_stay new) (omega arith) in
      let y : length b ≡ page_size = Leaf.leaf_length (drop leaf_stay new) (omega arith) in
      let s₁ = put_page s pg a in
      let z₁ = length_put_page s t.size pg t.which a x in
      let s₂ = put_page s₁ u b in
      let l = put_leaf s₂ pg (take leaf_stay new) (page_other s₁ z₁ u h.next b y pg t.which (λ v. omega (arith, h.other)) ∙ page_same s t.size pg t.which a x)
      (omega arith) (λ v o. new_small v (take_in leaf_stay new v o)) in
      let r' = put_leaf s₂ u (drop leaf_stay new) (page_same s₁ z₁ u h.next b y) (omega arith) (λ v o. new_small v (drop_in leaf_stay new v o)) in
      let f = grown_is false (lt-leb (length new) leaf_most (omega arith)) in
      let c : P.Child = record { low = record { 0 = G.low_key key_of 0 (drop leaf_stay new) }; page = u } in
      subst (λ v. Grew 0 s v pg u e r) (sym d.bytes) (subst (λ v. Grew 0 s s₂ pg u e v) (sym d.told)
      (record {
        size = length_put_page s₁ z₁ u h.next b y;
        tree = l.0 ∙ sym (ap (λ v. v.tree) f);
        laid = l.1;
        told = (
          sym (ap (λ v. v.used) f),
          ap (λ v. v.beside) f ∙ ap (λ v. some (record { low = G.low_key key_of 0 (drop leaf_stay new); tree = v })) (sym r'.0),
          r'.1,
          record { low = low_small (drop leaf_stay new) (λ v o. new_small v (drop_in leaf_stay new v o)); page = omega (arith, h.next) },
        );
        more = omega arith;
        most = omega (arith, h.next);
        kept = λ q o v. page_other s₁ z₁ u h.next b y q (omega (arith, g.most)) (λ m. omega arith)
            ∙ page_other s t.size pg t.which a x q (omega (arith, g.most)) (other_page q v);
        spare = λ q o v. page_other s₁ z₁ u h.next b y q v (λ m. omega arith)
            ∙ page_other s t.size pg t.which a x q v (λ m. omega (arith, h.other));
      }))
    where
      low_small : (xs : List Item) → Leaf.Smalls xs → G.low_key key_of 0 xs < 18446744073709551616
      low_small [] m = lit< tt
      low_small (x ∷ xs) m = (m x (inl refl)).key

  -- ---- the steps of the code
  module _ (n above : ℕ) (c : n ≡ count_of (take (page_size * pg + page_size - page_size * pg) (drop (page_size * pg) s))) where
    count : length old ≡ n
    count = length_entries (page_at s pg) ∙ sym (c ∙ ap count_of (page_lent s pg))

    pub leaf_more : (p : List ℕ) → n < leaf_most → length p ≡ length (take (page_size * pg + page_size - page_size * pg) (drop (page_size * pg) s))
        → p ≡ entry_put (take (page_size * pg + page_size - page_size * pg) (drop (page_size * pg) s)) i e
        → Tried 0 s (put_mid (page_size * pg) (page_size * pg + page_size - page_size * pg) s p) pg u above e (Code.Some (one_tree u))
    leaf_more p h l b =
        record { outcome = (more_grew p (omega (arith, count)) l b, omega (arith, need_none s pg e.key above (omega (arith, count)), g.most)) }

    pub leaf_over : leaf_most ≤ n → LeafOver s pg u i e
    leaf_over h = record { full = is_full (omega (arith, count, leaf_few s pg u g.sub)) }

    pub leaf_divided : (s' : List ℕ) (r : Code.Option Grown) → leaf_most ≤ n → LeafParted s s' pg u above i e r → Tried 0 s s' pg u above e r
    leaf_divided s' r h d = record { outcome = go r d.how }
      where
        need : needed_in 0 e.key s pg above ≡ 1 + above
        need = need_full s pg e.key above (omega (arith, count))

        go : (r : Code.Option Grown) → Parted s s' pg u above i e r → Outcome 0 s s' pg u above e r
        go Code.None w = (w.0, omega (arith, need, w.1))
        go (Code.Some k) w = (divided_grew s' k ((leaf_over h).full (omega (arith, w.1))) w.0, omega (arith, need, w.1))

pub grow_few : (s : List ℕ) (pg u : ℕ) (e : Item) → GrowIn s 0 pg u e → count_of (take (page_size * pg + page_size - page_size * pg) (drop (page_size * pg) s)) ≤ leaf_most
grow_few s pg u e g =
    subst (λ p. count_of p ≤ leaf_most) (sym (page_lent s pg)) (omega (arith, leaf_few s pg u g.sub, length_entries (page_at s pg)))

-- ---- a full leaf, with and without a page for the new one
module _ (s : List ℕ) (pg u above i : ℕ) (e : Item) where
  pub over_full : LeafOver s pg u i e → u + above + 1 ≤ pages_most → LeafFull s pg u i e
  over_full o h = o.full (omega arith)

  pub parted_short : pages_most < u + above + 1 → LeafParted s s pg u above i e Code.None
  parted_short h = record { how = (refl, h) }

  pub parted_split : (s' : List ℕ) (r : Grown) → u + above + 1 ≤ pages_most → LeafSplit s s' pg u i e r → LeafParted s s' pg u above i e (Code.Some r)
  parted_split s' r h d = record { how = (d, h) }
