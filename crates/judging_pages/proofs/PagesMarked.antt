-- The walk is the test of every page of the tree, and the setting down of the pages in their order: each page once, and only used ones.
-- The walk by induction on the level and the children; the pages by the set, which counts how often a page stands in the list.
-- Assumes nothing.
use mathlib.Core.Path.{◌≡◌, refl, sym, ap, ap₂, ◌∙◌}
use Rattle.std.specs.Prelude as Code
use mathlib.Core.Bool.{Bool, true, false, cond, not, ◌&&◌}
use mathlib.Core.List.{List, [], ◌∷◌, ◌++◌}
use Prim.Native.Nat.{ℕ, zero, suc, ◌+◌, ◌≤◌, ◌<◌}
use native.Mathlib.Nat.{add-zero}
use native.Mathlib.Omega.{arith}
use borrow.Author.Tests.{ltb-true, lt-ltb, eq-eqb, ne_eqb}
use lib.Dec.{eqb, ltb}
use Rattle.limits.specs.Limits.{inner_fewest}
use Rattle.lists.specs.Lists.{all, join, times}
use Rattle.sets.specs.declared.Set.{Set}
use Rattle.sets.specs.Sets.{has, with_one}
use Rattle.sets.proofs.Sets.{times_in, times_of_has, has_of_times, in_with}
use Rattle.pages.specs.PageLayout.{children_of}
use Rattle.pages.specs.declared.Child.{Child}
use Rattle.index.specs.Pictures.{page_at}
use Rattle.judging_pages.specs.declared.Span.{Span}
use Rattle.judging_pages.specs.Walks.{spans, after, guard, mark_at, marks, page_ok, tree_ok, walk_over, walk_at}

-- the pages of the tree, in the order of the walk
unfoldable pub reached : ℕ → List ℕ → ℕ → List ℕ
reached zero s q = q ∷ []
reached (suc n) s q = q ∷ join (λ c. reached n s c.page) (children_of (page_at s q))

-- ---- trails
after_ext : (w : Code.Option Set) (f g : Set → Code.Option Set) → ((k : Set) → f k ≡ g k) → after w f ≡ after w g
after_ext (Code.Some m) f g h = h m
after_ext Code.None f g h = refl

after_guard : (w : Code.Option Set) (b : Bool) (f : Set → Code.Option Set) → after w (λ k. guard b (f k)) ≡ guard b (after w f)
after_guard (Code.Some m) b f = refl
after_guard Code.None true f = refl
after_guard Code.None false f = refl

guard_after : (b : Bool) (w : Code.Option Set) (f : Set → Code.Option Set) → after (guard b w) f ≡ guard b (after w f)
guard_after true w f = refl
guard_after false w f = refl

guard_both : (a b : Bool) (w : Code.Option Set) → guard a (guard b w) ≡ guard (a && b) w
guard_both true b w = refl
guard_both false b w = refl

marks_append : (used : ℕ) (ps qs : List ℕ) (m : Set) → marks used (ps ++ qs) m ≡ after (marks used ps m) (marks used qs)
unfolding marks
marks_append used [] qs m = refl
marks_append used (p ∷ ps) qs m = go (mark_at used m p) (marks_append used ps qs)
  where
    go : (w : Code.Option Set) → ((k : Set) → marks used (ps ++ qs) k ≡ after (marks used ps k) (marks used qs)) → after w (marks used (ps ++ qs)) ≡ after (after w (marks used ps)) (marks used qs)
    go (Code.Some k) more = more k
    go Code.None more = refl

spans_join : {B : Type 0} (g : ℕ → List B) (lo hi : ℕ) (cs : List Child) → join (λ t. g t.page) (spans lo hi cs) ≡ join (λ c. g c.page) cs
unfolding spans join
spans_join g lo hi [] = refl
spans_join g lo hi (c ∷ []) = refl
spans_join g lo hi (c ∷ d ∷ cs) = ap (λ xs. g c.page ++ xs) (spans_join g d.low.0 hi (d ∷ cs))

-- ---- the walk
over_is : (used : ℕ) (f : Span → Set → Code.Option Set) (ok : Span → Bool) (r : Span → List ℕ) → ((t : Span) (m : Set) → f t m ≡ guard (ok t) (marks used (r t) m))
    → (ts : List Span) (m : Set) → walk_over f ts m ≡ guard (all ok ts) (marks used (join r ts) m)
unfolding walk_over all join marks
over_is used f ok r h [] m = refl
over_is used f ok r h (t ∷ ts) m =
    ap (λ w. after w (walk_over f ts)) (h t m)
    ∙ guard_after (ok t) (marks used (r t) m) (walk_over f ts)
    ∙ ap (guard (ok t)) (after_ext (marks used (r t) m) (walk_over f ts) (λ k. guard (all ok ts) (marks used (join r ts) k)) (over_is used f ok r h ts)
    ∙ after_guard (marks used (r t) m) (all ok ts) (marks used (join r ts)))
    ∙ guard_both (ok t) (all ok ts) (after (marks used (r t) m) (marks used (join r ts)))
    ∙ ap (guard (ok t && all ok ts)) (sym (marks_append used (r t) (join r ts) m))

pub walk_is : (n least : ℕ) (s : List ℕ) (used : ℕ) (t : Span) (m : Set) → walk_at n least s used t m ≡ guard (tree_ok n least s t) (marks used (reached n s t.page) m)
unfolding walk_at tree_ok reached marks
walk_is zero least s used t m = after_guard (mark_at used m t.page) (page_ok zero least s t) (λ k. Code.Some k)
walk_is (suc n) least s used t m =
    let ts = spans t.low.0 t.high.0 (children_of (page_at s t.page)) in
    let r : Span → List ℕ = (λ u. reached n s u.page) in
    after_ext (mark_at used m t.page) (λ k. guard (page_ok (suc n) least s t) (walk_over (walk_at n inner_fewest s used) ts k))
    (λ k. guard (page_ok (suc n) least s t && all (tree_ok n inner_fewest s) ts) (marks used (join r ts) k))
    (λ k. ap (guard (page_ok (suc n) least s t)) (over_is used (walk_at n inner_fewest s used) (tree_ok n inner_fewest s) r (walk_is n inner_fewest s used) ts k)
    ∙ guard_both (page_ok (suc n) least s t) (all (tree_ok n inner_fewest s) ts) (marks used (join r ts) k))
    ∙ after_guard (mark_at used m t.page) (page_ok (suc n) least s t && all (tree_ok n inner_fewest s) ts) (marks used (join r ts))
    ∙ ap (λ qs. guard (page_ok (suc n) least s t && all (tree_ok n inner_fewest s) ts) (after (mark_at used m t.page) (marks used qs)))
    (spans_join (reached n s) t.low.0 t.high.0 (children_of (page_at s t.page)))

-- ---- the pages set down
module _ (used : ℕ) (m : Set) (q : ℕ) where
  pub mark_is : q < used → times_in q m ≡ 0 → mark_at used m q ≡ Code.Some (with_one m q)
  unfolding mark_at
  mark_is h e = ap₂ (λ a b. cond (a && not b) (Code.Some (with_one m q)) Code.None) (lt-ltb q used h) (has_of_times m q false e)

  pub mark_went : (k : Set) → mark_at used m q ≡ Code.Some k → (q < used) × (times_in q m ≡ 0) × (k ≡ with_one m q)
  unfolding mark_at
  mark_went k h = go (ltb q used) refl (has m q) refl h
    where
      go : (a : Bool) → ltb q used ≡ a → (b : Bool) → has m q ≡ b → cond (a && not b) (Code.Some (with_one m q)) Code.None ≡ Code.Some k → (q < used) × (times_in q m ≡ 0) × (k ≡ with_one m q)
      go true a false b h = (ltb-true q used a, times_of_has m q false b, cc)
      go true a true b h = absurd (let z : ◌≡◌ {A = ℕ} 0 1 = cc in omega arith)
      go false a b c h = absurd (let z : ◌≡◌ {A = ℕ} 0 1 = cc in omega arith)

pub marks_went : (used : ℕ) (qs : List ℕ) (m k : Set) → marks used qs m ≡ Code.Some k → (q : ℕ) → times_in q k ≡ times_in q m + times q qs
unfolding marks times
marks_went used [] m k h q = let e : m ≡ k = cc in ap (times_in q) (sym e) ∙ sym (add-zero (times_in q m))
marks_went used (p ∷ ps) m k h q = go (mark_at used m p) refl h (λ j f. marks_went used ps j k f q)
  where
    go : (w : Code.Option Set) → mark_at used m p ≡ w → after w (marks used ps) ≡ Code.Some k → ((j : Set) → marks used ps j ≡ Code.Some k → times_in q k ≡ times_in q j + times q ps)
        → times_in q k ≡ times_in q m + (cond (eqb p q) 1 0 + times q ps)
    go (Code.Some j) e f more =
        let a = mark_went used m p j e in
        let b : times_in q k ≡ times_in q j + times q ps = more j f in
        let c : times_in q j ≡ times_in q m + cond (eqb p q) 1 0 = ap (times_in q) a.2 ∙ in_with m p q a.1 in
        omega arith
    go Code.None e f more = absurd (let z : ◌≡◌ {A = ℕ} 0 1 = cc in omega arith)

pub marks_used : (used : ℕ) (qs : List ℕ) (m k : Set) → marks used qs m ≡ Code.Some k → (q : ℕ) → used ≤ q → times q qs ≡ 0
unfolding marks times
marks_used used [] m k h q l = refl
marks_used used (p ∷ ps) m k h q l = go (mark_at used m p) refl h (λ j f. marks_used used ps j k f q l)
  where
    go : (w : Code.Option Set) → mark_at used m p ≡ w → after w (marks used ps) ≡ Code.Some k → ((j : Set) → marks used ps j ≡ Code.Some k → times q ps ≡ 0)
        → cond (eqb p q) 1 0 + times q ps ≡ 0
    go (Code.Some j) e f more =
        let a : p < used = (mark_went used m p j e).0 in
        let b : times q ps ≡ 0 = more j f in
        let c : eqb p q ≡ false = ne_eqb p q (λ d. omega arith) in
        rw (c, b) refl
    go Code.None e f more = absurd (let z : ◌≡◌ {A = ℕ} 0 1 = cc in omega arith)

pub marks_go : (used : ℕ) (qs : List ℕ) (m : Set) → ((q : ℕ) → 0 < times q qs → q < used) → ((q : ℕ) → times_in q m + times q qs ≤ 1) → (k : Set) × (marks used qs m ≡ Code.Some k)
unfolding marks times
marks_go used [] m f g = (m, refl)
marks_go used (p ∷ ps) m f g =
    let itself : eqb p p ≡ true = eq-eqb p p refl in
    let one : ◌≡◌ {A = ℕ} (cond (eqb p p) 1 0) 1 = ap (λ b. cond {A = ℕ} b 1 0) itself in
    let z : times_in p m ≡ 0 = omega (arith, g p) in
    let l : p < used = f p (omega arith) in
    let t = marks_go used ps (with_one m p) (λ q h. f q (omega arith)) (λ q. omega (arith, g q, in_with m p q z)) in
    (t.0, ap (λ w. after w (marks used ps)) (mark_is used m p l z) ∙ t.1)
