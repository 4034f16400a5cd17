-- The buffer that an index is drawn as: page q of it is the drawn page of that number, and a page that is not used is zero.
-- Each number stands once among the drawn pages: as often as the tree has that page. The buffer is joined of 64 pages. Assumes nothing.
use Prim.Native.Nat.{ℕ, zero, suc, ◌+◌, ◌*◌, ◌≤◌, ◌<◌}
use mathlib.Core.Path.{◌≡◌, refl, sym, ap, ap₂, subst, ◌∙◌}
use mathlib.Core.Logic.{◌⊎◌, inl, inr}
use mathlib.Core.Bool.{true, cond}
use mathlib.Core.List.{List, [], ◌∷◌, map}
use mathlib.Core.Option.{Option, none, some}
use native.Mathlib.Nat.{zero-add}
use native.Mathlib.Omega.{arith}
use lib.Dec.{eqb}
use lib.ListN.{length, replicate, length-replicate, length-map}
use borrow.Author.Tests.{eqb-true, eq-eqb, leb-true}
use Rattle.limits.specs.Limits.{pages_most, page_size, pages_size, leaf_most, inner_fewest}
use Rattle.lists.specs.Lists.{In, first, join, tab}
use Rattle.lists.proofs.Elements.{in_left, in_right, append_in, all_in, first_in}
use Rattle.lists.proofs.Firsts.{first_only}
use Rattle.lists.proofs.Joins.{length_join}
use Rattle.lists.proofs.Tables.{length_tab, get_d_tab}
use Rattle.numbers.proofs.Agree.{Agree}
use Rattle.numbers.proofs.Parts.{part_ext, part_all}
use Rattle.numbers.proofs.Splices.{agree_row}
use Rattle.trees.specs.Trees.{Child, Tree, Index, EachOnce, document_sizes, summed, is_page, above, times, counted}
use Rattle.trees.proofs.PageCounts.{summed_append, summed_in, above_yes, above_next}
use Rattle.trees.proofs.Counts.{counted_filled}
use Rattle.index.specs.Pictures.{Item, page_at}
use Rattle.index.proofs.Heads.{length_head}
use Rattle.index.proofs.InnerPages.{inner_length}
use Rattle.index.proofs.LeafPages.{leaf_length}
use Rattle.index.proofs.Subtrees.{used_page}
use Rattle.pictures.specs.Drawing.{Drawn, top_page, child_of, drawn_tree, drawn_index, bytes_if, drawn_page, pages_of}

-- ---- elements of joined lists, and sums over them
module _ {A B : Type 0} (f : A → List B) where
  pub join_in : (xs : List A) (y : B) → In y (join f xs) → (x : A) × In x xs × In y (f x)
  unfolding join
  join_in [] y i = absurd i
  join_in (x ∷ xs) y i = go (append_in (f x) (join f xs) y i) (join_in xs y)
    where
      go : In y (f x) ⊎ In y (join f xs) → (In y (join f xs) → (z : A) × In z xs × In y (f z)) → (z : A) × In z (x ∷ xs) × In y (f z)
      go (inl j) r = (x, inl refl, j)
      go (inr j) r = let w = r j in (w.0, inr w.1, w.2)

  pub in_join : (xs : List A) (x : A) (y : B) → In x xs → In y (f x) → In y (join f xs)
  unfolding join
  in_join [] x y x4 i = elim x4 [ ]
  in_join (z ∷ zs) x y (inl e) i = in_left (f z) (join f zs) y (subst (λ w. In y (f w)) (sym e) i)
  in_join (z ∷ zs) x y (inr j) i = in_right (f z) (join f zs) y (in_join zs x y j i)

  summed_join : (g : B → ℕ) (h : A → ℕ) → ((x : A) → summed g (f x) ≡ h x) → (xs : List A) → summed g (join f xs) ≡ summed h xs
  unfolding join summed
  summed_join g h e [] = refl
  summed_join g h e (x ∷ xs) = summed_append g (f x) (join f xs) ∙ ap₂ (λ m k. m + k) (e x) (summed_join g h e xs)

-- only one element counts
only : {A : Type 0} (f : A → ℕ) (xs : List A) (x y : A) → In x xs → In y xs → 0 < f x → 0 < f y → summed f xs ≤ 1 → y ≡ x
unfolding summed
only {A = A} f [] x y x7 _ h k l = elim x7 [ ]
only f (z ∷ zs) x y (inl a) (inl b) h k l = sym b ∙ a
only f (z ∷ zs) x y (inl a) (inr j) h k l = absurd (omega (arith, ap f a, summed_in f zs y j))
only f (z ∷ zs) x y (inr i) (inl b) h k l = absurd (omega (arith, ap f b, summed_in f zs x i))
only f (z ∷ zs) x y (inr i) (inr j) h k l = only f zs x y i j h k (omega arith)

-- ---- how often a number stands among drawn pages
abbrev numbered : ℕ → Drawn → ℕ
numbered q g = is_page q g.number

numbered_one : (q : ℕ) (g : Drawn) → g.number ≡ q → numbered q g ≡ 1
numbered_one q g e = ap (λ b. cond {A = ℕ} b 1 0) (eq-eqb q g.number (sym e))

times_drawn : (n q : ℕ) (t : Tree ℕ Item n) → summed (numbered q) (drawn_tree n t) ≡ times ℕ Item n q t
unfolding drawn_tree summed times
times_drawn zero q t = omega arith
times_drawn (suc n) q t =
    ap (λ m. is_page q t.number + m)
    (summed_join (λ (c : Child ℕ (Tree ℕ Item n)). drawn_tree n c.tree) (numbered q) (λ c. times ℕ Item n q c.tree)
    (λ c. times_drawn n q c.tree) t.holds)

-- ---- every drawn page has 512 bytes
length_drawn : (least n : ℕ) (t : Tree ℕ Item n) → counted ℕ Item document_sizes least n t ≡ true
    → (g : Drawn) → In g (drawn_tree n t) → length g.bytes ≡ page_size
unfolding drawn_tree counted
length_drawn least zero t h g (inr i) = elim i [ ]
length_drawn least zero t h g (inl e) = subst (λ (d : Drawn). length d.bytes ≡ page_size) e (leaf_length t.holds (leb-true (length t.holds) leaf_most h))
length_drawn least (suc n) t h g (inl e) =
    let f = counted_filled ℕ Item document_sizes least n t h in
    subst (λ (d : Drawn). length d.bytes ≡ page_size) e
    (inner_length (suc n) (map (child_of n) t.holds) (omega (arith, length-map t.holds (child_of n), f.many)))
length_drawn least (suc n) t h g (inr i) =
    let f = counted_filled ℕ Item document_sizes least n t h in
    let c = join_in (λ (c : Child ℕ (Tree ℕ Item n)). drawn_tree n c.tree) t.holds g i in
    length_drawn inner_fewest n c.0.tree (all_in (λ c. counted ℕ Item document_sizes inner_fewest n c.tree) t.holds c.0 f.each c.1) g c.2

-- ---- a buffer joined of 64 pages
joined_page : (f : ℕ → List ℕ) → ((q : ℕ) → length (f q) ≡ page_size) → (q : ℕ) → q < pages_most → page_at (join f (tab pages_most 0 (λ q. q))) q ≡ f q
unfolding page_at
joined_page f e q h =
    let qs = tab pages_most 0 (λ (q : ℕ). q) in
    let n = length_tab pages_most 0 (λ (q : ℕ). q) in
    let l = length_join f page_size qs e in
    let g : Agree page_size (join f qs) (page_size * q) (f q) 0 =
    subst (λ p. Agree page_size (join f qs) (page_size * q) (f p) 0) (get_d_tab pages_most 0 (λ (q : ℕ). q) q 0 h ∙ zero-add q) (agree_row f page_size e qs q 0 (omega arith)) in
    part_ext page_size (omega arith) (omega (arith, e q)) g ∙ part_all page_size (f q) (e q)

module _ (x : Index ℕ Item) (once : EachOnce ℕ Item x) where
  -- every number below `used` stands once, page 0 too
  each_drawn : (q : ℕ) → summed (numbered q) (drawn_index x) + above x.used q ≡ 1
  unfolding drawn_index summed
  each_drawn q = omega (arith, times_drawn x.level q x.tree, once.once q, above_next 0 q, above_yes 0 q (omega arith))

  pub drawn_used : (g : Drawn) → In g (drawn_index x) → g.number < x.used
  drawn_used g i =
      used_page x.used g.number
      (omega (arith, each_drawn g.number, numbered_one g.number g refl, summed_in (numbered g.number) (drawn_index x) g i))

  pub drawn_found : (g : Drawn) → In g (drawn_index x) → drawn_page (drawn_index x) g.number ≡ g.bytes
  unfolding drawn_page
  drawn_found g i =
      let q = g.number in
      ap bytes_if (first_only (λ (d : Drawn). eqb d.number q) (drawn_index x) g i (eq-eqb q q refl)
      (λ d j e. only (numbered q) (drawn_index x) g d i j (omega (arith, numbered_one q g refl))
      (omega (arith, numbered_one q d (eqb-true d.number q e))) (omega (arith, each_drawn q))))

  pub drawn_spare : (q : ℕ) → x.used ≤ q → drawn_page (drawn_index x) q ≡ replicate page_size 0
  unfolding drawn_page
  drawn_spare q h = go (first (λ (d : Drawn). eqb d.number q) (drawn_index x)) refl
    where
      go : (o : Option Drawn) → first (λ (d : Drawn). eqb d.number q) (drawn_index x) ≡ o → bytes_if o ≡ replicate page_size 0
      go none e = refl
      go (some g) e =
          let w = first_in (λ (d : Drawn). eqb d.number q) (drawn_index x) g e in
          absurd (omega (arith, drawn_used g w.0, eqb-true g.number q w.1))

  module _ (counts : counted ℕ Item document_sizes 2 x.level x.tree ≡ true) where
    length_index : (g : Drawn) → In g (drawn_index x) → length g.bytes ≡ page_size
    unfolding drawn_index
    length_index g (inl e) =
        subst (λ (d : Drawn). length d.bytes ≡ page_size) e (length_head (top_page x.level x.tree) x.used (suc x.level))
    length_index g (inr i) = length_drawn 2 x.level x.tree counts g i

    length_page : (q : ℕ) → length (drawn_page (drawn_index x) q) ≡ page_size
    unfolding drawn_page
    length_page q = go (first (λ (d : Drawn). eqb d.number q) (drawn_index x)) refl
      where
        go : (o : Option Drawn) → first (λ (d : Drawn). eqb d.number q) (drawn_index x) ≡ o → length (bytes_if o) ≡ page_size
        go none e = length-replicate {A = ℕ} page_size 0
        go (some g) e = length_index g (first_in (λ (d : Drawn). eqb d.number q) (drawn_index x) g e).0

    -- ---- the buffer
    pub length_pages : length (pages_of x) ≡ pages_size
    unfolding pages_of
    length_pages =
        let n = length_tab pages_most 0 (λ (q : ℕ). q) in
        let l = length_join (drawn_page (drawn_index x)) page_size (tab pages_most 0 (λ q. q)) length_page in
        omega arith

    pub page_drawn : (g : Drawn) → In g (drawn_index x) → x.used ≤ pages_most → page_at (pages_of x) g.number ≡ g.bytes
    unfolding pages_of
    page_drawn g i h =
        joined_page (drawn_page (drawn_index x)) length_page g.number (omega (arith, drawn_used g i)) ∙ drawn_found g i

    pub page_spare : (q : ℕ) → x.used ≤ q → q < pages_most → page_at (pages_of x) q ≡ replicate page_size 0
    unfolding pages_of
    page_spare q h l = joined_page (drawn_page (drawn_index x)) length_page q l ∙ drawn_spare q h
