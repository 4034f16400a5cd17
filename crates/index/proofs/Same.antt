-- A whole page buffer is told by its index: each page is what the tree writes there, page 0 what the index does, and the others are zero.
-- By the tree, page by page. Assumes nothing.
use Prim.Native.Nat.{ℕ, zero, suc, ◌+◌, ◌*◌, ◌-◌, ◌/◌, ◌%◌, ◌≤◌, ◌<◌}
use mathlib.Core.Path.{◌≡◌, refl, sym, ap, ap₂, subst, ◌∙◌}
use mathlib.Core.Bool.{cond}
use mathlib.Core.List.{List, [], ◌∷◌, map, map-map}
use native.Mathlib.Decide.{dec_lt}
use native.Mathlib.Omega.{arith}
use lib.ListN.{length, get_or, replicate}
use lib.Seq.{ext_get_or}
use borrow.Author.Tests.{le-leb, lt-leb}
use Rattle.limits.specs.Limits.{pages_most, page_size, pages_size}
use Rattle.lists.specs.Lists.{In}
use Rattle.lists.proofs.Elements.{map_in}
use Rattle.numbers.proofs.Parts.{get_d_part}
use Rattle.pages.specs.declared.Child as P
use Rattle.rows.specs.PageHead.{root_of, used_of, height_of}
use Rattle.pages.specs.PageLayout.{children_of}
use Rattle.trees.specs.Trees.{Child, Tree, Index, is_page, times}
use Rattle.trees.proofs.PageCounts.{summed_some}
use Rattle.index.specs.Pictures.{Item, page_at, tree_of, index_of, head_page, leaf_page, inner_page, Laid, WholePages}
use Rattle.index.proofs.Frame.{kid}
use Rattle.index.proofs.Refills.{is_page_is}

-- a tree's page, and a child of a tree as a child of a page
abbrev number_of : (n : ℕ) → Tree ℕ Item n → ℕ
number_of zero t = t.number
number_of (suc n) t = t.number

abbrev child_of : (n : ℕ) → Child ℕ (Tree ℕ Item n) → P.Child
child_of n c = record { low = record { 0 = c.low }; page = number_of n c.tree }

-- the pages of a tree are what it writes
Lies : (n : ℕ) → List ℕ → Tree ℕ Item n → Type 0
Lies zero s t = page_at s t.number ≡ leaf_page t.holds
Lies (suc n) s t =
    (page_at s t.number ≡ inner_page (suc n) (map (child_of n) t.holds)) × ((c : Child ℕ (Tree ℕ Item n)) → In c t.holds → Lies n s c.tree)

number_tree : (n : ℕ) (s : List ℕ) (q : ℕ) → number_of n (tree_of n s q) ≡ q
unfolding tree_of
number_tree zero s q = refl
number_tree (suc n) s q = refl

laid_lies : (n : ℕ) (s : List ℕ) (q : ℕ) → Laid n s q → Lies n s (tree_of n s q)
unfolding tree_of Lies
laid_lies zero s q l = l
laid_lies (suc n) s q l =
    let cs = children_of (page_at s q) in (
      l.0 ∙ ap (inner_page (suc n)) (sym (map-map (child_of n) (kid n s) cs ∙ same cs)),
      λ c i. let k = map_in (kid n s) cs c i in subst (λ x. Lies n s x.tree) k.2 (laid_lies n s k.0.page (l.1 k.0 k.1)),
    )
  where
    same : (cs : List P.Child) → map (λ c. child_of n (kid n s c)) cs ≡ cs
    same [] = refl
    same (c ∷ cs) = ap₂ (λ x xs. x ∷ xs) (ap (λ m. record { low = c.low; page = m }) (number_tree n s c.page)) (same cs)

lies_same : (n : ℕ) (s s' : List ℕ) (t : Tree ℕ Item n) → Lies n s t → Lies n s' t → (q : ℕ) → 0 < times ℕ Item n q t → page_at s q ≡ page_at s' q
unfolding times Lies
lies_same zero s s' t a b q h = let e = is_page_is q t.number h in subst (λ x. page_at s x ≡ page_at s' x) (sym e) (a ∙ sym b)
lies_same (suc n) s s' t a b q h = go (is_page q t.number) refl (λ c i. lies_same n s s' c.tree (a.1 c i) (b.1 c i) q)
  where
    go : (m : ℕ) → is_page q t.number ≡ m → ((c : Child ℕ (Tree ℕ Item n)) → In c t.holds → 0 < times ℕ Item n q c.tree → page_at s q ≡ page_at s' q)
        → page_at s q ≡ page_at s' q
    go (suc m) e r = subst (λ x. page_at s x ≡ page_at s' x) (sym (is_page_is q t.number (omega arith))) (a.0 ∙ sym b.0)
    go zero e r = let c = summed_some (λ (c : Child ℕ (Tree ℕ Item n)). times ℕ Item n q c.tree) t.holds (omega arith) in r c.0 c.1 c.2

-- what an index writes
record Writes (s : List ℕ) (x : Index ℕ Item) : Type 0 where
  size : length s ≡ pages_size
  head : page_at s 0 ≡ head_page (number_of x.level x.tree) x.used (x.level + 1)
  tree : Lies x.level s x.tree
  spare : (q : ℕ) → x.used ≤ q → q < pages_most → page_at s q ≡ replicate page_size 0

whole_writes : (s : List ℕ) → WholePages s → Writes s (index_of s)
unfolding index_of
whole_writes s w =
    let p = page_at s 0 in
    let n = height_of p - 1 in
    let k : height_of p ≡ n + 1 = omega (arith, w.tall) in
    record {
      size = w.size;
      head = w.head ∙ ap (λ m. head_page m (used_of p) (height_of p)) (sym (number_tree n s (root_of p))) ∙ ap (head_page (number_of n (tree_of n s (root_of p))) (used_of p)) k;
      tree = laid_lies n s (root_of p) w.laid;
      spare = w.spare;
    }

byte_page : (s : List ℕ) (i : ℕ) → get_or s i 0 ≡ get_or (page_at s (i / page_size)) (i % page_size) 0
unfolding page_at
byte_page s i = let e : i ≡ page_size * (i / page_size) + i % page_size = omega arith in ap (λ k. get_or s k 0) e ∙ sym (get_d_part (page_size * (i / page_size)) page_size s (i % page_size) (omega arith))

pub pages_inj : (p q : List ℕ) → WholePages p → WholePages q → index_of p ≡ index_of q → p ≡ q
pages_inj p q w v e =
    ext_get_or 0 p q (w.size ∙ sym v.size)
    (λ i h. byte_page p i ∙ ap (λ g. get_or g (i % page_size) 0) (page (i / page_size) (omega (arith, w.size))) ∙ sym (byte_page q i))
  where
    a : Writes p (index_of q)
    a = subst (Writes p) e (whole_writes p w)

    b : Writes q (index_of q)
    b = whole_writes q v

    page : (r : ℕ) → r < pages_most → page_at p r ≡ page_at q r
    page zero h = a.head ∙ sym b.head
    page (suc r) h = go (dec_lt (suc r) (index_of q).used)
      where
        go : Dec (suc r < (index_of q).used) → page_at p (suc r) ≡ page_at q (suc r)
        go (yes l) =
            let x = ap (λ c. cond {A = ℕ} c 1 0) (lt-leb (index_of q).used (suc r) l) in
            let y = ap (λ c. cond {A = ℕ} c 1 0) (le-leb 1 (suc r) (omega arith)) in
            lies_same (index_of q).level p q (index_of q).tree a.tree b.tree (suc r) (omega (arith, v.index.pages.once (suc r)))
        go (no l) = a.spare (suc r) (omega arith) h ∙ sym (b.spare (suc r) (omega arith) h)
