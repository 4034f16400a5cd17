-- What one way through the walk comes to, in the very facts that the code has there.
-- Each unfolds the walk by one step; the level is a number that is not 0, so one more than another. Assumes nothing.
use mathlib.Core.Path.{◌≡◌, refl, sym, ap, ap₂, subst, ◌∙◌}
use Rattle.std.specs.Prelude as Code
use mathlib.Core.Bool.{Bool, true, false, not, cond, ◌&&◌}
use mathlib.Core.List.{List, ◌∷◌}
use Prim.Native.Nat.{ℕ, zero, suc, ◌+◌, ◌*◌, ◌-◌, ◌≤◌, ◌<◌}
use native.Mathlib.Nat.{sub-zero}
use native.Mathlib.Decide.{dec_lt}
use native.Mathlib.Omega.{arith}
use borrow.Author.Tests.{ltb-true, leb-true, lt-ltb, le-ltb, not-true, not-false}
use lib.Dec.{leb, ltb}
use Rattle.limits.specs.Limits.{pages_most, head_size, body_size, child_size, inner_most, inner_fewest}
use Rattle.lists.specs.Lists.{tab}
use Rattle.lists.proofs.Tests.{and_left, and_right}
use Rattle.lists.proofs.Tables.{tab_next, tab_done}
use Rattle.numbers.specs.Numbers.{zero_at}
use Rattle.sets.specs.declared.Set.{Set}
use Rattle.sets.specs.Sets.{has, with_one}
use Rattle.rows.specs.PageHead.{count_of}
use Rattle.pages.specs.PageLayout.{child_at, children_of}
use Rattle.keys.specs.declared.Key.{Key}
use Rattle.index.specs.Pictures.{page_at}
use Rattle.judging_pages.specs.declared.Span.{Span}
use Rattle.judging_pages.specs.PageChecks.{head_ok, first_ok, child_fields_at, children_ok, inner_ok}
use Rattle.judging_pages.specs.Walks.{span_of, spans, high_at, after, guard, mark_at, page_ok, walk_over, walk_at}

-- ---- the ranges of the children, one after the other
module _ (p : List ℕ) (hi n : ℕ) where
  pub spans_next : (lo i : ℕ) → i < n → spans lo hi (tab (n - i) i (child_at p)) ≡ span_of (child_at p i).page lo (high_at p n i hi) ∷ spans (high_at p n i hi) hi (tab (n - (i + 1)) (i + 1) (child_at p))
  unfolding spans high_at
  spans_next lo i h = ap (spans lo hi) (tab_next n i (child_at p) h) ∙ go (dec_lt (i + 1) n)
    where
      go : Dec (i + 1 < n) → spans lo hi (child_at p i ∷ tab (n - (i + 1)) (i + 1) (child_at p))
          ≡ span_of (child_at p i).page lo (cond (ltb (i + 1) n) (child_at p (i + 1)).low.0 hi) ∷ spans (cond (ltb (i + 1) n) (child_at p (i + 1)).low.0 hi) hi (tab (n - (i + 1)) (i + 1) (child_at p))
      go (yes l) =
          let t = tab_next n (i + 1) (child_at p) l in
          rw (lt-ltb (i + 1) n l, t) refl
      go (no l) =
          let t = tab_done n (i + 1) (child_at p) (omega arith) in
          rw (le-ltb (i + 1) n (omega arith), t) refl

-- ---- the code's choice of an end
pub high_next : (p : List ℕ) (n i hi k : ℕ) → k ≡ (child_at p (i + 1)).low.0 → i + 1 < n → k ≡ high_at p n i hi
unfolding high_at
high_next p n i hi k e h = e ∙ sym (ap (λ b. cond b (child_at p (i + 1)).low.0 hi) (lt-ltb (i + 1) n h))

pub high_last : (p : List ℕ) (n i hi : ℕ) → n ≤ i + 1 → hi ≡ high_at p n i hi
unfolding high_at
high_last p n i hi h = sym (ap (λ b. cond b (child_at p (i + 1)).low.0 hi) (le-ltb (i + 1) n h))

-- ---- a page set down as seen
module _ (used : ℕ) (m : Set) (q : ℕ) where
  pub mark_unused : used ≤ q → Code.None ≡ mark_at used m q
  unfolding mark_at
  mark_unused h = sym (ap (λ a. cond (a && not (has m q)) (Code.Some (with_one m q)) Code.None) (le-ltb q used h))

  module _ (l : q < used) (b : Bool) (e : b ≡ has m q) where
    pub mark_again : b ≡ true → Code.None ≡ mark_at used m q
    unfolding mark_at
    mark_again h = sym (ap₂ (λ x y. cond (x && not y) (Code.Some (with_one m q)) Code.None) (lt-ltb q used l) (sym e ∙ h))

    pub mark_done : b ≡ false → (k : Set) → k ≡ with_one m q → Code.Some k ≡ mark_at used m q
    unfolding mark_at
    mark_done h k f = ap Code.Some f ∙ sym (ap₂ (λ x y. cond (x && not y) (Code.Some (with_one m q)) Code.None) (lt-ltb q used l) (sym e ∙ h))

-- ---- by the level
one_more : (level : ℕ) → (level ≡ 0 → ⊥) → level ≡ suc (level - 1)
one_more level h = omega arith

pub inner_page : (level least : ℕ) (s : List ℕ) (t : Span) → (level ≡ 0 → ⊥) → inner_ok level least t.low.0 t.high.0 (page_at s t.page) ≡ page_ok level least s t
unfolding page_ok
inner_page level least s t z =
    ap (λ x. inner_ok x least t.low.0 t.high.0 (page_at s t.page)) (one_more level z) ∙ ap (λ x. page_ok x least s t) (sym (one_more level z))

walked : (level least : ℕ) (s : List ℕ) (used : ℕ) (t : Span) (m : Set) → (level ≡ 0 → ⊥)
    → walk_at level least s used t m ≡ after (mark_at used m t.page) (λ k. guard (page_ok level least s t) (walk_over (walk_at (level - 1) inner_fewest s used) (spans t.low.0 t.high.0 (children_of (page_at s t.page))) k))
unfolding walk_at
walked level least s used t m z =
    let e = one_more level z in
    ap (λ x. walk_at x least s used t m) e
    ∙ ap (λ x. after (mark_at used m t.page) (λ k. guard (page_ok x least s t) (walk_over (walk_at (level - 1) inner_fewest s used) (spans t.low.0 t.high.0 (children_of (page_at s t.page))) k))) (sym e)

-- ---- the walk
module _ (level least : ℕ) (s : List ℕ) (used : ℕ) (t : Span) (m : Set) (w : Code.Option Set) (e : w ≡ mark_at used m t.page) where
  pub walk_unmarked : w ≡ Code.None → Code.None ≡ walk_at level least s used t m
  unfolding walk_at
  walk_unmarked b = go level
    where
      q : mark_at used m t.page ≡ Code.None
      q = sym e ∙ b

      go : (n : ℕ) → Code.None ≡ walk_at n least s used t m
      go zero = sym (ap (λ x. after x (λ k. guard (page_ok zero least s t) (Code.Some k))) q)
      go (suc n) = sym (ap (λ x. after x (λ k. guard (page_ok (suc n) least s t) (walk_over (walk_at n inner_fewest s used) (spans t.low.0 t.high.0 (children_of (page_at s t.page))) k))) q)

  module _ (k : Set) (g : w ≡ Code.Some k) where
    marked : mark_at used m t.page ≡ Code.Some k
    marked = sym e ∙ g

    pub marked_page : used ≤ pages_most → t.page < pages_most
    unfolding mark_at
    marked_page h = go (ltb t.page used) refl (not (has m t.page)) marked
      where
        go : (a : Bool) → ltb t.page used ≡ a → (b : Bool) → cond (a && b) (Code.Some (with_one m t.page)) Code.None ≡ Code.Some k → t.page < pages_most
        go true c b f = let l = ltb-true t.page used c in omega arith
        go false c b f = absurd (let z : ◌≡◌ {A = ℕ} 0 1 = cc in omega arith)

    module _ (b : Bool) (f : b ≡ page_ok level least s t) where
      pub walk_page_bad : not b ≡ true → Code.None ≡ walk_at level least s used t m
      unfolding walk_at
      walk_page_bad h = go level (sym f ∙ not-true b h)
        where
          go : (n : ℕ) → page_ok n least s t ≡ false → Code.None ≡ walk_at n least s used t m
          go zero c = sym (ap (λ x. after x (λ k. guard (page_ok zero least s t) (Code.Some k))) marked ∙ ap (λ x. guard x (Code.Some k)) c)
          go (suc n) c =
              sym (ap (λ x. after x (λ j. guard (page_ok (suc n) least s t) (walk_over (walk_at n inner_fewest s used) (spans t.low.0 t.high.0 (children_of (page_at s t.page))) j))) marked
              ∙ ap (λ x. guard x (walk_over (walk_at n inner_fewest s used) (spans t.low.0 t.high.0 (children_of (page_at s t.page))) k)) c)

      pub walk_leaf : not b ≡ false → level ≡ 0 → Code.Some k ≡ walk_at level least s used t m
      unfolding walk_at
      walk_leaf h z =
          let c : page_ok 0 least s t ≡ true = ap (λ x. page_ok x least s t) (sym z) ∙ sym f ∙ not-false b h in
          sym (ap (λ x. walk_at x least s used t m) z ∙ ap (λ x. after x (λ k. guard (page_ok zero least s t) (Code.Some k))) marked ∙ ap (λ x. guard x (Code.Some k)) c)

      pub walk_few : not b ≡ false → (level ≡ 0 → ⊥) → (n : ℕ) → n ≡ count_of (page_at s t.page) → n ≤ inner_most
      unfolding inner_ok
      walk_few h z n c =
          let p = page_at s t.page in
          let i : inner_ok level least t.low.0 t.high.0 (page_at s t.page) ≡ true = inner_page level least s t z ∙ sym f ∙ not-false b h in
          let front = head_ok 3 level p && (leb least (count_of p) && leb (count_of p) inner_most) in
          few (head_ok 3 level (page_at s t.page)) (leb least (count_of (page_at s t.page))) n (first_ok (child_fields_at (page_at s t.page) 0)) (children_ok t.low.0 t.high.0 (tab (count_of (page_at s t.page) - 1) 1 (child_fields_at (page_at s t.page))))
          (zero_at (body_size - child_size * count_of (page_at s t.page)) (head_size + child_size * count_of (page_at s t.page)) (page_at s t.page))
          (subst (λ x. ((((head_ok 3 level (page_at s t.page) && (leb least (count_of (page_at s t.page)) && leb x inner_most)) && first_ok (child_fields_at (page_at s t.page) 0)) && children_ok t.low.0 t.high.0 (tab (count_of (page_at s t.page) - 1) 1 (child_fields_at (page_at s t.page)))) && zero_at (body_size - child_size * count_of (page_at s t.page)) (head_size + child_size * count_of (page_at s t.page)) (page_at s t.page)) ≡ true) (sym c) i)
        where
          few : (x y : Bool) (n : ℕ) (u v r : Bool) → ((((x && (y && leb n inner_most)) && u) && v) && r) ≡ true → n ≤ inner_most
          few x y n u v r a =
              leb-true n inner_most (and_right y (leb n inner_most) (and_right x (y && leb n inner_most) (and_left (x && (y && leb n inner_most)) u (and_left ((x && (y && leb n inner_most)) && u) v (and_left (((x && (y && leb n inner_most)) && u) && v) r a)))))

      pub walk_over_lem : not b ≡ false → (level ≡ 0 → ⊥) → (n : ℕ) → n ≡ count_of (page_at s t.page) → (v : Code.Option Set)
          → v ≡ walk_over (walk_at (level - 1) inner_fewest s used) (spans t.low.0 t.high.0 (tab n 0 (child_at (page_at s t.page)))) k
          → v ≡ walk_at level least s used t m
      unfolding children_of
      walk_over_lem h z n c v o =
          let d : page_ok level least s t ≡ true = sym f ∙ not-false b h in
          o
          ∙ sym (walked level least s used t m z
          ∙ ap (λ x. after x (λ j. guard (page_ok level least s t) (walk_over (walk_at (level - 1) inner_fewest s used) (spans t.low.0 t.high.0 (children_of (page_at s t.page))) j))) marked
          ∙ ap (λ x. guard x (walk_over (walk_at (level - 1) inner_fewest s used) (spans t.low.0 t.high.0 (children_of (page_at s t.page))) k)) d
          ∙ ap (λ x. walk_over (walk_at (level - 1) inner_fewest s used) (spans t.low.0 t.high.0 (tab x 0 (child_at (page_at s t.page)))) k) (sym c))

-- ---- over the children
module _ (f : Span → Set → Code.Option Set) (p : List ℕ) (first hi n : ℕ) (k : Set) where
  abbrev whole : Code.Option Set
  whole = walk_over f (spans first hi (tab n 0 (child_at p))) k

  pub walk_start : whole ≡ walk_over f (spans first hi (tab (n - 0) 0 (child_at p))) k
  walk_start = ap (λ x. walk_over f (spans first hi (tab x 0 (child_at p))) k) (sym (sub-zero n))

  pub walk_next : (lo next : Key) (i : ℕ) (m : Set) (page : ℕ) (w : Code.Option Set) (more : Set) → i < n → next.0 ≡ high_at p n i hi → page ≡ (child_at p i).page
      → w ≡ f (record { page = page; low = lo; high = next }) m → w ≡ Code.Some more → whole ≡ walk_over f (spans lo.0 hi (tab (n - i) i (child_at p))) m
      → whole ≡ walk_over f (spans next.0 hi (tab (n - (i + 1)) (i + 1) (child_at p))) more
  unfolding walk_over
  walk_next lo next i m page w more l e g d v h =
      h
      ∙ ap (λ ts. walk_over f ts m) (spans_next p hi n lo.0 i l)
      ∙ ap₂ (λ x y. after (f (span_of x lo.0 y) m) (walk_over f (spans y hi (tab (n - (i + 1)) (i + 1) (child_at p))))) (sym g) (sym e)
      ∙ ap (λ x. after x (walk_over f (spans next.0 hi (tab (n - (i + 1)) (i + 1) (child_at p))))) (sym d ∙ v)

  pub walk_stop : (lo next : Key) (i : ℕ) (m : Set) (page : ℕ) (w : Code.Option Set) → i < n → next.0 ≡ high_at p n i hi → page ≡ (child_at p i).page
      → w ≡ f (record { page = page; low = lo; high = next }) m → w ≡ Code.None → whole ≡ walk_over f (spans lo.0 hi (tab (n - i) i (child_at p))) m
      → Code.None ≡ whole
  unfolding walk_over
  walk_stop lo next i m page w l e g d v h =
      sym (h
      ∙ ap (λ ts. walk_over f ts m) (spans_next p hi n lo.0 i l)
      ∙ ap₂ (λ x y. after (f (span_of x lo.0 y) m) (walk_over f (spans y hi (tab (n - (i + 1)) (i + 1) (child_at p))))) (sym g) (sym e)
      ∙ ap (λ x. after x (walk_over f (spans next.0 hi (tab (n - (i + 1)) (i + 1) (child_at p))))) (sym d ∙ v))

  pub walk_end : (lo i : ℕ) (m : Set) → whole ≡ walk_over f (spans lo hi (tab (n - i) i (child_at p))) m → n ≤ i → Code.Some m ≡ whole
  unfolding walk_over spans
  walk_end lo i m h l = sym (h ∙ ap (λ cs. walk_over f (spans lo hi cs) m) (tab_done n i (child_at p) l))
