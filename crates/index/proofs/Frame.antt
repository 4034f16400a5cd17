-- The tree at a page depends on its own pages alone: where these are the same bytes, it is the same tree, and laid as it was. And a tree's
-- children are parts of it: how often a page stands in them says where a page can stand. Assumes nothing.
use Prim.Native.Nat.{ℕ, zero, suc, ◌+◌, ◌≤◌, ◌<◌}
use mathlib.Core.Path.{◌≡◌, refl, sym, ap, subst, ◌∙◌}
use mathlib.Core.Bool.{cond}
use mathlib.Core.List.{List, map}
use native.Mathlib.Omega.{arith}
use borrow.Author.Tests.{eq-eqb}
use Rattle.lists.specs.Lists.{In}
use Rattle.lists.proofs.Joins.{map_same}
use Rattle.pages.specs.declared.Child as P
use Rattle.pages.specs.PageLayout.{entries_of, children_of}
use Rattle.trees.specs.Trees.{Child, Tree, summed, is_page, times}
use Rattle.trees.proofs.PageCounts.{summed_map, summed_in}
use Rattle.index.specs.Pictures.{Item, page_at, tree_of, leaf_page, inner_page, Laid}

-- ---- a child as a tree
abbrev pub kid : (n : ℕ) → List ℕ → P.Child → Child ℕ (Tree ℕ Item n)
kid n s c = record { low = c.low.0; tree = tree_of n s c.page }

abbrev pub Times : (n : ℕ) → ℕ → List ℕ → ℕ → ℕ
Times n q s pg = times ℕ Item n q (tree_of n s pg)

pub own_page : (n : ℕ) (s : List ℕ) (pg : ℕ) → 0 < Times n pg s pg
unfolding times tree_of
own_page zero s pg = omega (arith, ap (λ b. cond {A = ℕ} b 1 0) (eq-eqb pg pg refl))
own_page (suc n) s pg = omega (arith, ap (λ b. cond {A = ℕ} b 1 0) (eq-eqb pg pg refl))

-- the page itself and its children
pub times_inner : (n q : ℕ) (s : List ℕ) (pg : ℕ)
    → Times (suc n) q s pg ≡ is_page q pg + summed (λ (c : P.Child). Times n q s c.page) (children_of (page_at s pg))
unfolding times tree_of
times_inner n q s pg = ap (λ m. is_page q pg + m) (summed_map (λ c. times ℕ Item n q c.tree) (kid n s) (children_of (page_at s pg)))

pub times_child : (n q : ℕ) (s : List ℕ) (pg : ℕ) (c : P.Child) → In c (children_of (page_at s pg)) → Times n q s c.page ≤ Times (suc n) q s pg
times_child n q s pg c i =
    omega (arith, times_inner n q s pg, summed_in (λ (c : P.Child). Times n q s c.page) (children_of (page_at s pg)) c i)

-- ---- the same pages
-- those of the tree at pg are in s' as in s
abbrev pub Same : (n : ℕ) → List ℕ → List ℕ → ℕ → Type 0
Same n s s' pg = (q : ℕ) → 0 < Times n q s pg → page_at s' q ≡ page_at s q

same_child : (n : ℕ) (s s' : List ℕ) (pg : ℕ) → Same (suc n) s s' pg → (c : P.Child) → In c (children_of (page_at s pg)) → Same n s s' c.page
same_child n s s' pg h c i q t = h q (omega (arith, times_child n q s pg c i))

pub frame : (n : ℕ) (s s' : List ℕ) (pg : ℕ) → Same n s s' pg → tree_of n s' pg ≡ tree_of n s pg
unfolding tree_of
frame zero s s' pg h = ap (λ p. record { number = pg; holds = entries_of p }) (h pg (own_page zero s pg))
frame (suc n) s s' pg h =
    ap (λ p. record { number = pg; holds = map (kid n s') (children_of p) }) (h pg (own_page (suc n) s pg))
    ∙ ap (λ cs. record { number = pg; holds = cs })
    (map_same (kid n s') (kid n s) (children_of (page_at s pg))
    (λ c i. ap (λ t. record { low = c.low.0; tree = t }) (frame n s s' c.page (same_child n s s' pg h c i))))

pub laid_frame : (n : ℕ) (s s' : List ℕ) (pg : ℕ) → Same n s s' pg → Laid n s pg → Laid n s' pg
laid_frame zero s s' pg h l = subst (λ p. p ≡ leaf_page (entries_of p)) (sym (h pg (own_page zero s pg))) l
laid_frame (suc n) s s' pg h l =
    let e = h pg (own_page (suc n) s pg) in (
      subst (λ p. p ≡ inner_page (suc n) (children_of p)) (sym e) l.0,
      λ c i. let j : In c (children_of (page_at s pg)) = subst (λ p. In c (children_of p)) e i in
          laid_frame n s s' c.page (same_child n s s' pg h c j) (l.1 c j),
    )
