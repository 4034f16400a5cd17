-- The buffer that a whole index is drawn as is whole, and its index is that one again, where the entries fit their fields.
-- By the tree: each of its pages stands in the buffer as it is written, and is read back as it was. Assumes nothing.
use Prim.Native.Nat.{ℕ, zero, suc, ◌+◌, ◌-◌, ◌≤◌, ◌<◌, compare}
use mathlib.Core.Path.{◌≡◌, refl, sym, ap, subst, ◌∙◌}
use mathlib.Core.Logic.{inl, inr}
use mathlib.Core.Bool.{Bool, true, false, not, ◌&&◌, false≢true}
use mathlib.Core.List.{List, [], ◌∷◌, map, map-map, map-id}
use mathlib.Core.Option.{Option, some}
use native.Mathlib.Omega.{arith}
use lib.Dec.{leb, lit≤}
use lib.ListN.{length, length-map}
use borrow.Author.Tests.{leb-true, leb-false, eqb-true}
use Rattle.limits.specs.Limits.{pages_most, leaf_most, inner_fewest}
use Rattle.lists.specs.Lists.{In}
use Rattle.lists.proofs.Elements.{all_in, map_in}
use Rattle.lists.proofs.Joins.{map_same}
use Rattle.lists.proofs.Tests.{and_left, and_right}
use Rattle.rules.specs.Document.{end_mark}
use Rattle.trees.specs.Trees.{Child, Tree, Index, WholeIndex, document_sizes, flat, times, above, counted, under, inside, first_low, ranges, ranged}
use Rattle.trees.proofs.Counts.{counted_filled}
use Rattle.trees.proofs.ChildRanges.{ranged_in}
use Rattle.pages.specs.declared.Child as P
use Rattle.pages.specs.PageLayout.{EntryFits, ChildFits, entries_of, children_of}
use Rattle.rows.specs.PageHead.{root_of, used_of, height_of}
use Rattle.index.specs.Pictures.{Item, key_of, page_at, tree_of, index_of, head_page, leaf_page, inner_page, Laid, WholePages}
use Rattle.index.proofs.Frame.{kid}
use Rattle.index.proofs.Heads.{root_head, used_head, height_head, level_small}
use Rattle.index.proofs.InnerPages as I
use Rattle.index.proofs.InnerPages.{inner_children}
use Rattle.index.proofs.LeafPages.{leaf_entries}
use Rattle.index.proofs.Subtrees.{one_at_most}
use Rattle.pictures.specs.Drawing.{Drawn, top_page, child_of, drawn_tree, drawn_index, pages_of}
use Rattle.pictures.proofs.Once.{in_join, drawn_used, length_pages, page_drawn, page_spare}

-- ---- separators fit
under_below : (a b : ℕ) → under compare a b ≡ true → a < b
under_below a b h = go (leb b a) refl h
  where
    go : (c : Bool) → leb b a ≡ c → not c ≡ true → a < b
    go true e l = absurd (false≢true l)
    go false e l = leb-false b a e

-- what lies below this end fits
abbrev Ends : Option ℕ → Type 0
Ends hi = (k : ℕ) → inside compare k hi ≡ true → k < 18446744073709551616

-- a child with the range of its keys
record Kid (n : ℕ) (c : Child ℕ (Tree ℕ Item n)) : Type 0 where
  fits : c.low < 18446744073709551616
  low : ℕ
  high : Option ℕ
  keys : ranged compare key_of 0 n low high c.tree ≡ true
  ends : Ends high

kids : (n lo : ℕ) (hi : Option ℕ) (c : Child ℕ (Tree ℕ Item n)) (cs : List (Child ℕ (Tree ℕ Item n))) → Ends hi → c.low < 18446744073709551616
    → ranges compare (ranged compare key_of 0 n) lo hi (c ∷ cs) ≡ true → (d : Child ℕ (Tree ℕ Item n)) → In d (c ∷ cs) → Kid n d
unfolding ranges
kids n lo hi c [] e l h d (inl p) = subst (Kid n) p (record { fits = l; low = lo; high = hi; keys = h; ends = e })
kids n lo hi c [] e l h d (inr i) = absurd i
kids n lo hi c (b ∷ bs) e l h d i =
    let f = ranged compare key_of 0 n in
    let own = f lo (some b.low) c.tree && (under compare lo b.low && inside compare b.low hi) in
    let rest = ranges compare f b.low hi (b ∷ bs) in
    let o = and_left own rest h in
    let m = and_right (under compare lo b.low) (inside compare b.low hi)
    (and_right (f lo (some b.low) c.tree) (under compare lo b.low && inside compare b.low hi) o) in
    go (and_left (f lo (some b.low) c.tree) (under compare lo b.low && inside compare b.low hi) o) (e b.low m)
    (λ k. kids n b.low hi b bs e k (and_right own rest h) d) i
  where
    go : ranged compare key_of 0 n lo (some b.low) c.tree ≡ true → b.low < 18446744073709551616
        → (b.low < 18446744073709551616 → In d (b ∷ bs) → Kid n d) → In d (c ∷ b ∷ bs) → Kid n d
    go o m r (inl p) =
        subst (Kid n) p
        (record { fits = l; low = lo; high = some b.low; keys = o; ends = λ k j. omega (arith, under_below k b.low j) })
    go o m r (inr j) = r m j

all_kids : (n lo : ℕ) (hi : Option ℕ) (t : Tree ℕ Item (suc n)) → Ends hi → ranged compare key_of 0 (suc n) lo hi t ≡ true
    → (c : Child ℕ (Tree ℕ Item n)) → In c t.holds → Kid n c
all_kids n lo hi t e h = let r = ranged_in compare key_of 0 n lo hi t h in go t.holds r.first r.each
  where
    go : (cs : List (Child ℕ (Tree ℕ Item n))) → first_low compare 0 cs ≡ true → ranges compare (ranged compare key_of 0 n) lo hi cs ≡ true
        → (c : Child ℕ (Tree ℕ Item n)) → In c cs → Kid n c
    go [] f r c i = absurd i
    go (b ∷ bs) f r c i = kids n lo hi b bs e (omega (arith, eqb-true b.low 0 f)) r c i

-- ---- a drawn page stands in the buffer, within it
record Stands (s : List ℕ) (g : Drawn) : Type 0 where
  page : page_at s g.number ≡ g.bytes
  which : g.number < pages_most

top_which : (s : List ℕ) (n : ℕ) (t : Tree ℕ Item n) → ((g : Drawn) → In g (drawn_tree n t) → Stands s g) → top_page n t < pages_most
unfolding drawn_tree
top_which s zero t d = (d (record { number = t.number; bytes = leaf_page t.holds }) (inl refl)).which
top_which s (suc n) t d = (d (record { number = t.number; bytes = inner_page (suc n) (map (child_of n) t.holds) }) (inl refl)).which

-- ---- the tree is read back
record Back (n : ℕ) (s : List ℕ) (t : Tree ℕ Item n) : Type 0 where
  tree : tree_of n s (top_page n t) ≡ t
  laid : Laid n s (top_page n t)

inner_back : (n : ℕ) (s : List ℕ) (q : ℕ) (cs : List (Child ℕ (Tree ℕ Item n))) → children_of (page_at s q) ≡ map (child_of n) cs
    → ((c : Child ℕ (Tree ℕ Item n)) → In c cs → Back n s c.tree) → tree_of (suc n) s q ≡ record { number = q; holds = cs }
unfolding tree_of
inner_back n s q cs e b =
    ap (λ ys. record { number = q; holds = map (kid n s) ys }) e
    ∙ ap (λ ys. record { number = q; holds = ys })
    (map-map (kid n s) (child_of n) cs
    ∙ map_same (λ c. kid n s (child_of n c)) (λ c. c) cs (λ c i. ap (λ y. record { low = c.low; tree = y }) (b c i).tree)
    ∙ map-id cs)

back : (n least lo : ℕ) (hi : Option ℕ) (s : List ℕ) (t : Tree ℕ Item n) → counted ℕ Item document_sizes least n t ≡ true
    → ranged compare key_of 0 n lo hi t ≡ true → Ends hi → ((e : Item) → In e (flat ℕ Item n t) → EntryFits e)
    → ((g : Drawn) → In g (drawn_tree n t) → Stands s g) → Back n s t
unfolding tree_of counted flat drawn_tree
back zero least lo hi s t c r e f d =
    let p = (d (record { number = t.number; bytes = leaf_page t.holds }) (inl refl)).page in
    let es : entries_of (page_at s t.number) ≡ t.holds = ap entries_of p ∙ leaf_entries t.holds (leb-true (length t.holds) leaf_most c) f in
    record {
      tree = ap (λ xs. record { number = t.number; holds = xs }) es;
      laid = p ∙ ap leaf_page (sym es);
    }
back (suc n) least lo hi s t c r e f d =
    let q = t.number in
    let cs = t.holds in
    let p = (d (record { number = q; bytes = inner_page (suc n) (map (child_of n) cs) }) (inl refl)).page in
    let m = counted_filled ℕ Item document_sizes least n t c in
    let k = all_kids n lo hi t e r in
    let below : (c : Child ℕ (Tree ℕ Item n)) → In c cs → (g : Drawn) → In g (drawn_tree n c.tree) → Stands s g =
    λ c i g j. d g (inr (in_join (λ (c : Child ℕ (Tree ℕ Item n)). drawn_tree n c.tree) cs c g i j)) in
    let small : I.Smalls (map (child_of n) cs) = λ x i.
    let w = map_in (child_of n) cs x i in
    subst ChildFits w.2 (record { low = (k w.0 w.1).fits; page = omega (arith, top_which s n w.0.tree (below w.0 w.1)) }) in
    let xs : children_of (page_at s q) ≡ map (child_of n) cs =
    ap children_of p ∙ inner_children (suc n) (map (child_of n) cs) (omega (arith, length-map cs (child_of n), m.many)) small in
    let b : (c : Child ℕ (Tree ℕ Item n)) → In c cs → Back n s c.tree = λ c i.
    back n inner_fewest (k c i).low (k c i).high s c.tree (all_in (λ c. counted ℕ Item document_sizes inner_fewest n c.tree) cs c m.each i) (k c i).keys
    (k c i).ends (λ x j. f x (in_join (λ (c : Child ℕ (Tree ℕ Item n)). flat ℕ Item n c.tree) cs c x i j)) (below c i) in
    record {
      tree = inner_back n s q cs xs b;
      laid = (
        p ∙ ap (inner_page (suc n)) (sym xs),
        λ x i. let w = map_in (child_of n) cs x (subst (λ ys. In x ys) xs i) in
            subst (λ (y : P.Child). Laid n s y.page) w.2 (b w.0 w.1).laid,
      );
    }

-- ---- the index
module _ (x : Index ℕ Item) (w : WholeIndex compare key_of 0 (some end_mark) document_sizes x)
    (f : (e : Item) → In e (flat ℕ Item x.level x.tree) → EntryFits e) where
  stands : (g : Drawn) → In g (drawn_index x) → Stands (pages_of x) g
  stands g i =
      record {
        page = page_drawn x w.pages w.counts g i w.room;
        which = omega (arith, drawn_used x w.pages g i, w.room);
      }

  tree_stands : (g : Drawn) → In g (drawn_tree x.level x.tree) → Stands (pages_of x) g
  unfolding drawn_index
  tree_stands g i = stands g (inr i)

  tree_back : Back x.level (pages_of x) x.tree
  tree_back =
      back x.level 2 0 (some end_mark) (pages_of x) x.tree w.counts w.keys (λ k i. omega (arith, under_below k end_mark i)) f tree_stands

  -- so each level has a page of its own
  low : x.level < pages_most
  low =
      let n = x.level in
      let s = pages_of x in
      let q = top_page n x.tree in
      let e = sym tree_back.tree in
      level_small s n q x.used
      (record {
        size = length_pages x w.pages w.counts;
        which = top_which s n x.tree tree_stands;
        few = w.room;
        laid = tree_back.laid;
        least = 2;
        enough = lit≤ tt;
        counts = subst (λ (t : Tree ℕ Item n). counted ℕ Item document_sizes 2 n t ≡ true) e w.counts;
        low = 0;
        high = some end_mark;
        keys = subst (λ (t : Tree ℕ Item n). ranged compare key_of 0 n 0 (some end_mark) t ≡ true) e w.keys;
        alone = λ q. subst (λ (t : Tree ℕ Item n). times ℕ Item n q t + above x.used q ≤ 1) e (omega (arith, w.pages.once q, one_at_most 1 q));
      })

  -- ---- page 0
  head_page_lem : page_at (pages_of x) 0 ≡ head_page (top_page x.level x.tree) x.used (suc x.level)
  unfolding drawn_index
  head_page_lem = (stands (record { number = 0; bytes = head_page (top_page x.level x.tree) x.used (suc x.level) }) (inl refl)).page

  -- what is read there
  record Read (p : List ℕ) : Type 0 where
    root : root_of p ≡ top_page x.level x.tree
    used : used_of p ≡ x.used
    height : height_of p ≡ suc x.level

  head_read : Read (page_at (pages_of x) 0)
  head_read =
      let r = top_page x.level x.tree in
      let h = suc x.level in
      let a : r < 65536 = omega (arith, top_which (pages_of x) x.level x.tree tree_stands) in
      let b : x.used < 65536 = omega (arith, w.room) in
      let c : h < 65536 = omega (arith, low) in
      subst Read (sym head_page_lem)
      (record { root = root_head r x.used h a b c; used = used_head r x.used h a b c; height = height_head r x.used h a b c })

  level_read : height_of (page_at (pages_of x) 0) - 1 ≡ x.level
  level_read = omega (arith, head_read.height)

  index_back : index_of (pages_of x) ≡ x
  unfolding index_of
  index_back =
      let s = pages_of x in
      let p = page_at s 0 in
      ap (λ m. record { level = m; used = used_of p; tree = tree_of m s (root_of p) }) level_read
      ∙ ap (λ u. record { level = x.level; used = u; tree = tree_of x.level s (root_of p) }) head_read.used
      ∙ ap (λ q. record { level = x.level; used = x.used; tree = tree_of x.level s q }) head_read.root
      ∙ ap (λ t. record { level = x.level; used = x.used; tree = t }) tree_back.tree

  pub drawn_pages : WholePages (pages_of x) × (index_of (pages_of x) ≡ x)
  drawn_pages =
      let s = pages_of x in
      let h = head_read in (
        record {
          size = length_pages x w.pages w.counts;
          head =
              head_page_lem
              ∙ ap (λ q. head_page q x.used (suc x.level)) (sym h.root)
              ∙ ap (λ u. head_page (root_of (page_at s 0)) u (suc x.level)) (sym h.used)
              ∙ ap (head_page (root_of (page_at s 0)) (used_of (page_at s 0))) (sym h.height);
          tall = omega (arith, h.height);
          laid =
              subst (λ q. Laid (index_of s).level s q) (sym h.root)
              (subst (λ m. Laid m s (top_page x.level x.tree)) (sym (ap (λ y. y.level) index_back)) tree_back.laid);
          spare = λ q a b. page_spare x w.pages w.counts q (omega (arith, h.used)) b;
          index = subst (WholeIndex compare key_of 0 (some end_mark) document_sizes) (sym index_back) w;
        },
        index_back,
      )
