-- What the judgement of the whole page buffer comes to, in the very facts that the code has there: root, used and height are those of
-- page 0, and the tests are made one after the other. Assumes nothing.
use mathlib.Core.Path.{◌≡◌, sym, ap, ap₂, ◌∙◌}
use Rattle.std.specs.Prelude as Code
use mathlib.Core.Bool.{Bool, true, false, not, ◌&&◌}
use mathlib.Core.List.{List}
use Prim.Native.Nat.{ℕ, ◌+◌, ◌*◌, ◌-◌, ◌≤◌, ◌<◌}
use native.Mathlib.Omega.{arith}
use borrow.Author.Tests.{leb-true, ltb-true, not-true, not-false}
use lib.Dec.{leb, ltb}
use lib.ListN.{length}
use Rattle.limits.specs.Limits.{pages_most, page_size, pages_size}
use Rattle.lists.proofs.Tests.{both}
use Rattle.numbers.specs.Numbers.{zero_at}
use Rattle.sets.specs.declared.Set.{Set}
use Rattle.rules.specs.Document.{end_mark}
use Rattle.rows.specs.PageHead.{root_of, used_of, height_of}
use Rattle.index.specs.Pictures.{page_at}
use Rattle.judging_pages.specs.PageChecks.{first_page_ok}
use Rattle.judging_pages.specs.Walks.{span_of, only_zero, walk_at, seen_ok, went_ok, front_ok, tree_in, pages_ok}

pub used_few : (s : List ℕ) (u : ℕ) → u ≡ used_of (page_at s 0) → used_of (page_at s 0) ≤ pages_most → u ≤ pages_most
used_few s u e h = omega arith

pub height_some : (s : List ℕ) (h : ℕ) → h ≡ height_of (page_at s 0) → 0 < height_of (page_at s 0) → 1 ≤ h
height_some s h e l = omega arith

pub walk_top : (s : List ℕ) (r u h : ℕ) (o : Set) (w : Code.Option Set) → o ≡ only_zero → r ≡ root_of (page_at s 0) → u ≡ used_of (page_at s 0) → h ≡ height_of (page_at s 0)
    → w ≡ walk_at (h - 1) 2 s u (span_of r 0 end_mark) o → w ≡ tree_in s
unfolding tree_in
walk_top s r u h o w f x y z e =
    e ∙ ap (walk_at (h - 1) 2 s u (span_of r 0 end_mark)) f
    ∙ ap₂ (λ k q. walk_at (k - 1) 2 s u (span_of q 0 end_mark) only_zero) z x ∙ ap (λ v. walk_at (height_of (page_at s 0) - 1) 2 s v (span_of (root_of (page_at s 0)) 0 end_mark) only_zero) y

pub front_parts : (s : List ℕ) → front_ok s ≡ true → (first_page_ok (page_at s 0) ≡ true) × (used_of (page_at s 0) ≤ pages_most) × (0 < height_of (page_at s 0))
unfolding front_ok
front_parts s h =
    let a = both (first_page_ok (page_at s 0)) (leb (used_of (page_at s 0)) pages_most && ltb 0 (height_of (page_at s 0))) h in
    let b = both (leb (used_of (page_at s 0)) pages_most) (ltb 0 (height_of (page_at s 0))) a.1 in
    (a.0, leb-true (used_of (page_at s 0)) pages_most b.0, ltb-true 0 (height_of (page_at s 0)) b.1)

module _ (s : List ℕ) (f : Bool) (e : f ≡ front_ok s) where
  pub frontless : not f ≡ true → false ≡ pages_ok s
  unfolding pages_ok
  frontless h =
      sym (ap (λ b. (b && went_ok (used_of (page_at s 0)) (tree_in s)) && zero_at (pages_size - page_size * used_of (page_at s 0)) (page_size * used_of (page_at s 0)) s) (sym e ∙ not-true f h))

  module _ (h : not f ≡ false) where
    front : front_ok s ≡ true
    front = sym e ∙ not-false f h

    pub front_few : used_of (page_at s 0) ≤ pages_most
    front_few = (front_parts s front).1

    pub front_tall : 0 < height_of (page_at s 0)
    front_tall = (front_parts s front).2

    pub used_within : (u : ℕ) → u ≡ used_of (page_at s 0) → u ≤ pages_most
    used_within u d = used_few s u d front_few

    pub spare_within : (u : ℕ) → u ≡ used_of (page_at s 0) → page_size * u ≤ pages_size
    spare_within u d = let l = used_within u d in omega arith

    pub spare_end : (u : ℕ) → u ≡ used_of (page_at s 0) → length s ≡ pages_size → page_size * u + (pages_size - page_size * u) ≤ length s
    spare_end u d n = let l = used_within u d in omega arith

    module _ (w : Code.Option Set) (g : w ≡ tree_in s) where
      pub lost : w ≡ Code.None → false ≡ pages_ok s
      unfolding pages_ok
      lost b =
          sym (ap₂ (λ x y. (x && went_ok (used_of (page_at s 0)) y) && zero_at (pages_size - page_size * used_of (page_at s 0)) (page_size * used_of (page_at s 0)) s) front (sym g ∙ b))

      pub pages_done : (m : Set) (u : ℕ) (a z : Bool) → w ≡ Code.Some m → u ≡ used_of (page_at s 0) → a ≡ seen_ok u m → z ≡ zero_at (pages_size - page_size * u) (page_size * u) s → (a && z) ≡ pages_ok s
      unfolding pages_ok
      pages_done m u a z b d c k =
          ap₂ (λ x v. x && v) c k
          ∙ ap (λ x. seen_ok x m && zero_at (pages_size - page_size * x) (page_size * x) s) d
          ∙ sym (ap₂ (λ x v. (x && went_ok (used_of (page_at s 0)) v) && zero_at (pages_size - page_size * used_of (page_at s 0)) (page_size * used_of (page_at s 0)) s) front (sym g ∙ b))
