-- What one way through the tests of a page comes to, in the very facts that the code has there.
-- Each unfolds the test of the whole page and rewrites what is known of its parts. Assumes nothing.
use mathlib.Core.Path.{◌≡◌, refl, sym, ap, ap₂, ◌∙◌}
use mathlib.Core.Bool.{Bool, true, false, not, ◌&&◌}
use mathlib.Core.List.{List}
use Prim.Native.Nat.{ℕ, ◌+◌, ◌*◌, ◌-◌, ◌≤◌, ◌<◌}
use native.Mathlib.Omega.{arith}
use borrow.Author.Tests.{ne_eqb, not-true, not-false}
use lib.Dec.{eqb, leb}
use Rattle.limits.specs.Limits.{head_size, body_size, entry_size, leaf_most, child_size, inner_most}
use Rattle.lists.specs.Lists.{tab}
use Rattle.lists.proofs.Tables.{tab_next, tab_done}
use Rattle.numbers.specs.Numbers.{zero_at}
use Rattle.rows.specs.PageHead.{count_of}
use Rattle.pages.specs.PageLayout.{entry_in, entry_at, child_in, child_at}
use Rattle.judging_pages.specs.PageChecks.{head_ok, next_ok, entry_ok, entry_fields_at, entries_ok, leaf_ok, between, fillers_ok, first_ok, child_fields_at, children_ok, inner_ok}

and_false : (a : Bool) → (a && false) ≡ false
and_false true = refl
and_false false = refl

-- ---- leaves
module _ (p : List ℕ) (lo hi n : ℕ) where
  pub leaf_headless : (h : Bool) → n ≡ count_of p → h ≡ head_ok 2 0 p → not (h && leb n leaf_most) ≡ true → false ≡ leaf_ok lo hi p
  unfolding leaf_ok
  leaf_headless h c e t =
      let q : (head_ok 2 0 p && leb (count_of p) leaf_most) ≡ false = ap₂ (λ x y. x && leb y leaf_most) (sym e) (sym c) ∙ not-true (h && leb n leaf_most) t in
      sym (ap (λ x. (x && entries_ok true lo hi (tab (count_of p) 0 (entry_fields_at p))) && zero_at (body_size - entry_size * count_of p) (head_size + entry_size * count_of p) p) q)

  leaf_left : (first : Bool) (low i : ℕ) → i < n → entries_ok first low hi (tab (n - i) i (entry_fields_at p))
      ≡ ((next_ok first low hi (entry_at p i).key && entry_ok (entry_fields_at p i)) && entries_ok false (entry_at p i).key hi (tab (n - (i + 1)) (i + 1) (entry_fields_at p)))
  unfolding entries_ok entry_fields_at entry_at entry_in
  leaf_left first low i h = ap (entries_ok first low hi) (tab_next n i (entry_fields_at p) h)

  module _ (low i k : ℕ) (a b : Bool) (l : i < n) (e : k ≡ (entry_at p i).key) (f : a ≡ next_ok (eqb i 0) low hi k) (g : b ≡ entry_ok (entry_fields_at p i))
      (w : entries_ok true lo hi (tab n 0 (entry_fields_at p)) ≡ entries_ok (eqb i 0) low hi (tab (n - i) i (entry_fields_at p))) where
    turn : entries_ok true lo hi (tab n 0 (entry_fields_at p)) ≡ ((a && b) && entries_ok false k hi (tab (n - (i + 1)) (i + 1) (entry_fields_at p)))
    turn = rw (f, g, e) (w ∙ leaf_left (eqb i 0) low i l)

    pub leaf_bad : n ≡ count_of p → not (a && b) ≡ true → false ≡ leaf_ok lo hi p
    unfolding leaf_ok
    leaf_bad c t =
        let q : entries_ok true lo hi (tab (count_of p) 0 (entry_fields_at p)) ≡ false =
        ap (λ x. entries_ok true lo hi (tab x 0 (entry_fields_at p))) (sym c)
        ∙ turn
        ∙ ap (λ x. x && entries_ok false k hi (tab (n - (i + 1)) (i + 1) (entry_fields_at p))) (not-true (a && b) t) in
        sym (ap (λ x. ((head_ok 2 0 p && leb (count_of p) leaf_most) && x) && zero_at (body_size - entry_size * count_of p) (head_size + entry_size * count_of p) p) q
        ∙ ap (λ x. x && zero_at (body_size - entry_size * count_of p) (head_size + entry_size * count_of p) p) (and_false (head_ok 2 0 p && leb (count_of p) leaf_most)))

    pub leaf_next : not (a && b) ≡ false → entries_ok true lo hi (tab n 0 (entry_fields_at p)) ≡ entries_ok (eqb (i + 1) 0) k hi (tab (n - (i + 1)) (i + 1) (entry_fields_at p))
    leaf_next t =
        turn
        ∙ ap (λ x. x && entries_ok false k hi (tab (n - (i + 1)) (i + 1) (entry_fields_at p))) (not-false (a && b) t)
        ∙ ap (λ x. entries_ok x k hi (tab (n - (i + 1)) (i + 1) (entry_fields_at p))) (sym (ne_eqb (i + 1) 0 (λ z. omega (arith, z))))

  pub leaf_done : (h z : Bool) (low i : ℕ) → n ≡ count_of p → h ≡ head_ok 2 0 p → not (h && leb n leaf_most) ≡ false → n ≤ i
      → entries_ok true lo hi (tab n 0 (entry_fields_at p)) ≡ entries_ok (eqb i 0) low hi (tab (n - i) i (entry_fields_at p)) → z ≡ zero_at (body_size - entry_size * n) (head_size + entry_size * n) p
      → z ≡ leaf_ok lo hi p
  unfolding leaf_ok entries_ok
  leaf_done h z low i c e t l w f =
      let q : (head_ok 2 0 p && leb (count_of p) leaf_most) ≡ true = ap₂ (λ x y. x && leb y leaf_most) (sym e) (sym c) ∙ not-false (h && leb n leaf_most) t in
      let r : entries_ok true lo hi (tab (count_of p) 0 (entry_fields_at p)) ≡ true =
      ap (λ x. entries_ok true lo hi (tab x 0 (entry_fields_at p))) (sym c) ∙ w ∙ ap (entries_ok (eqb i 0) low hi) (tab_done n i (entry_fields_at p) l) in
      f
      ∙ ap (λ x. zero_at (body_size - entry_size * x) (head_size + entry_size * x) p) c
      ∙ sym (ap₂ (λ x y. (x && y) && zero_at (body_size - entry_size * count_of p) (head_size + entry_size * count_of p) p) q r)

-- ---- inner pages
module _ (p : List ℕ) (level least lo hi n : ℕ) where
  pub inner_headless : (h g : Bool) → n ≡ count_of p → h ≡ head_ok 3 level p → g ≡ first_ok (child_fields_at p 0)
      → not ((h && (leb least n && leb n inner_most)) && g) ≡ true → false ≡ inner_ok level least lo hi p
  unfolding inner_ok
  inner_headless h g c e f t =
      let q : ((head_ok 3 level p && (leb least (count_of p) && leb (count_of p) inner_most)) && first_ok (child_fields_at p 0)) ≡ false =
      rw (← e, ← c, ← f) (not-true ((h && (leb least n && leb n inner_most)) && g) t) in
      sym (ap (λ x. (x && children_ok lo hi (tab (count_of p - 1) 1 (child_fields_at p))) && zero_at (body_size - child_size * count_of p) (head_size + child_size * count_of p) p) q)

  inner_left : (low i : ℕ) → i < n → children_ok low hi (tab (n - i) i (child_fields_at p))
      ≡ ((between low hi (child_at p i).low.0 && fillers_ok (child_fields_at p i)) && children_ok (child_at p i).low.0 hi (tab (n - (i + 1)) (i + 1) (child_fields_at p)))
  unfolding children_ok child_fields_at child_at child_in
  inner_left low i h = ap (children_ok low hi) (tab_next n i (child_fields_at p) h)

  module _ (low i k : ℕ) (a b : Bool) (l : i < n) (e : k ≡ (child_at p i).low.0) (f : a ≡ between low hi k) (g : b ≡ fillers_ok (child_fields_at p i))
      (w : children_ok lo hi (tab (n - 1) 1 (child_fields_at p)) ≡ children_ok low hi (tab (n - i) i (child_fields_at p))) where
    passed : children_ok lo hi (tab (n - 1) 1 (child_fields_at p)) ≡ ((a && b) && children_ok k hi (tab (n - (i + 1)) (i + 1) (child_fields_at p)))
    passed = rw (f, g, e) (w ∙ inner_left low i l)

    pub inner_bad : n ≡ count_of p → not (a && b) ≡ true → false ≡ inner_ok level least lo hi p
    unfolding inner_ok
    inner_bad c t =
        let q : children_ok lo hi (tab (count_of p - 1) 1 (child_fields_at p)) ≡ false =
        ap (λ x. children_ok lo hi (tab (x - 1) 1 (child_fields_at p))) (sym c)
        ∙ passed
        ∙ ap (λ x. x && children_ok k hi (tab (n - (i + 1)) (i + 1) (child_fields_at p))) (not-true (a && b) t) in
        sym (ap (λ x. (front && x) && zero_at (body_size - child_size * count_of p) (head_size + child_size * count_of p) p) q
        ∙ ap (λ x. x && zero_at (body_size - child_size * count_of p) (head_size + child_size * count_of p) p) (and_false front))
      where
        front : Bool
        front = (head_ok 3 level p && (leb least (count_of p) && leb (count_of p) inner_most)) && first_ok (child_fields_at p 0)

    pub inner_next : not (a && b) ≡ false → children_ok lo hi (tab (n - 1) 1 (child_fields_at p)) ≡ children_ok k hi (tab (n - (i + 1)) (i + 1) (child_fields_at p))
    inner_next t = passed ∙ ap (λ x. x && children_ok k hi (tab (n - (i + 1)) (i + 1) (child_fields_at p))) (not-false (a && b) t)

  pub inner_done : (h g z : Bool) (low i : ℕ) → n ≡ count_of p → h ≡ head_ok 3 level p → g ≡ first_ok (child_fields_at p 0)
      → not ((h && (leb least n && leb n inner_most)) && g) ≡ false → n ≤ i
      → children_ok lo hi (tab (n - 1) 1 (child_fields_at p)) ≡ children_ok low hi (tab (n - i) i (child_fields_at p)) → z ≡ zero_at (body_size - child_size * n) (head_size + child_size * n) p
      → z ≡ inner_ok level least lo hi p
  unfolding inner_ok children_ok
  inner_done h g z low i c e f t l w y =
      let q : ((head_ok 3 level p && (leb least (count_of p) && leb (count_of p) inner_most)) && first_ok (child_fields_at p 0)) ≡ true =
      rw (← e, ← c, ← f) (not-false ((h && (leb least n && leb n inner_most)) && g) t) in
      let r : children_ok lo hi (tab (count_of p - 1) 1 (child_fields_at p)) ≡ true =
      ap (λ x. children_ok lo hi (tab (x - 1) 1 (child_fields_at p))) (sym c) ∙ w ∙ ap (children_ok low hi) (tab_done n i (child_fields_at p) l) in
      y
      ∙ ap (λ x. zero_at (body_size - child_size * x) (head_size + child_size * x) p) c
      ∙ sym (ap₂ (λ x v. (x && v) && zero_at (body_size - child_size * count_of p) (head_size + child_size * count_of p) p) q r)
