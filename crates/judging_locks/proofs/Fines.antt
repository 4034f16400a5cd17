-- A tree of pages that are in order: its page is one of the 64, with no more entries or children than there may be, and its children are
-- such trees; and what one way through a walk of it comes to. From the tests of its pages. Assumes nothing.
use mathlib.Core.Path.{◌≡◌, refl, sym, ap, subst, ◌∙◌}
use mathlib.Core.Logic.{inl, inr}
use mathlib.Core.Bool.{Bool, true, false, not, ◌&&◌, ◌||◌}
use mathlib.Core.List.{List, [], ◌∷◌}
use Prim.Native.Nat.{ℕ, zero, suc, ◌+◌, ◌*◌, ◌-◌, ◌≤◌, ◌<◌}
use native.Mathlib.Nat.{sub-zero}
use native.Mathlib.Decide.{dec_lt}
use native.Mathlib.Omega.{arith}
use borrow.Author.Tests.{leb-true, not-true, not-false}
use lib.Dec.{leb, lit≤}
use lib.ListN.{length, drop_of_length-le}
use Rattle.limits.specs.Limits.{pages_most, page_size, head_size, body_size, pages_size, entry_size, leaf_most, child_size, inner_most, inner_fewest}
use Rattle.lists.specs.Lists.{tab, all, any, In}
use Rattle.lists.proofs.Tests.{both}
use Rattle.lists.proofs.Tables.{all_next, all_done, any_next, any_done}
use Rattle.lists.proofs.Elements.{in_tab}
use Rattle.numbers.specs.Numbers.{number_at, part, zero_at}
use Rattle.numbers.proofs.Numbers.{number_none}
use Rattle.rows.specs.PageHead.{count_of}
use Rattle.pages.specs.PageLayout.{entries_of, child_at, children_of}
use Rattle.pages.specs.declared.Child.{Child}
use Rattle.index.specs.Pictures.{page_at}
use Rattle.judging_pages.specs.declared.Span.{Span}
use Rattle.judging_pages.specs.PageChecks.{head_ok, entries_ok, entry_fields_at, leaf_ok, first_ok, child_fields_at, children_ok, inner_ok}
use Rattle.judging_pages.specs.Walks.{span_of, spans, page_ok, tree_ok}
use Rattle.judging_pages.proofs.InnersJudged.{head_length}
use Rattle.judging_locks.specs.LockChecks.{entry_held, has_key, find_at, owners_at, Fine}

there : (s : List ℕ) (q : ℕ) → length s ≡ pages_size → number_at 2 (page_at s q) 0 ≡ page_size → q < pages_most
unfolding page_at part
there s q h e =
    elim (dec_lt q pages_most) [
      | yes l ↦ l
      | no l ↦
          let z : page_at s q ≡ [] = ap (λ x. part 0 page_size x) (drop_of_length-le s {i = page_size * q} (omega arith)) in
          let w : ◌≡◌ {A = ℕ} 0 page_size = sym (ap (λ x. number_at 2 x 0) z ∙ number_none 2 0) ∙ e in
          absurd (omega arith)
    ]

leaf_parts : (lo hi : ℕ) (p : List ℕ) → leaf_ok lo hi p ≡ true → (head_ok 2 0 p ≡ true) × (count_of p ≤ leaf_most)
unfolding leaf_ok
leaf_parts lo hi p h =
    let a = both ((head_ok 2 0 p && leb (count_of p) leaf_most) && entries_ok true lo hi (tab (count_of p) 0 (entry_fields_at p))) (zero_at (body_size - entry_size * count_of p) (head_size + entry_size * count_of p) p) h in
    let b = both (head_ok 2 0 p) (leb (count_of p) leaf_most) (both (head_ok 2 0 p && leb (count_of p) leaf_most) (entries_ok true lo hi (tab (count_of p) 0 (entry_fields_at p))) a.0).0 in
    (b.0, leb-true (count_of p) leaf_most b.1)

inner_parts : (level least lo hi : ℕ) (p : List ℕ) → inner_ok level least lo hi p ≡ true → (head_ok 3 level p ≡ true) × (count_of p ≤ inner_most)
unfolding inner_ok
inner_parts level least lo hi p h =
    let front = head_ok 3 level p && (leb least (count_of p) && leb (count_of p) inner_most) in
    let a = both ((front && first_ok (child_fields_at p 0)) && children_ok lo hi (tab (count_of p - 1) 1 (child_fields_at p))) (zero_at (body_size - child_size * count_of p) (head_size + child_size * count_of p) p) h in
    let b = both front (first_ok (child_fields_at p 0)) (both (front && first_ok (child_fields_at p 0)) (children_ok lo hi (tab (count_of p - 1) 1 (child_fields_at p))) a.0).0 in
    let c = both (head_ok 3 level p) (leb least (count_of p) && leb (count_of p) inner_most) b.0 in
    (c.0, leb-true (count_of p) inner_most (both (leb least (count_of p)) (leb (count_of p) inner_most) c.1).1)

span_there : (P : Span → Bool) (hi : ℕ) (lo : ℕ) (cs : List Child) → all P (spans lo hi cs) ≡ true → (c : Child) → In c cs → (l : ℕ) × (h : ℕ) × (P (span_of c.page l h) ≡ true)
unfolding spans all
span_there P hi lo (c ∷ []) h x (inr m) = elim m [ ]
span_there P hi lo [] h x x3 = elim x3 [ ]
span_there P hi lo (c ∷ []) h x (inl e) = (lo, hi, subst (λ y. P (span_of y.page lo hi) ≡ true) e (both (P (span_of c.page lo hi)) true h).0)
span_there P hi lo (c ∷ d ∷ cs) h x (inl e) =
    (lo, d.low.0, subst (λ y. P (span_of y.page lo d.low.0) ≡ true) e (both (P (span_of c.page lo d.low.0)) (all P (spans d.low.0 hi (d ∷ cs))) h).0)
span_there P hi lo (c ∷ d ∷ cs) h x (inr m) =
    span_there P hi d.low.0 (d ∷ cs) (both (P (span_of c.page lo d.low.0)) (all P (spans d.low.0 hi (d ∷ cs))) h).1 x m

-- ---- the tree
module _ (s : List ℕ) (q : ℕ) where
  pub fine_page : (n : ℕ) → Fine n s q → q < pages_most
  unfolding tree_ok page_ok
  fine_page zero f = there s q f.size (head_length 2 0 (page_at s q) (leaf_parts f.low f.high (page_at s q) f.ok).0)
  fine_page (suc n) f =
      let a = both (inner_ok (suc n) f.least f.low f.high (page_at s q)) (all (tree_ok n inner_fewest s) (spans f.low f.high (children_of (page_at s q)))) f.ok in
      there s q f.size (head_length 3 (suc n) (page_at s q) (inner_parts (suc n) f.least f.low f.high (page_at s q) a.0).0)

  pub fine_leaf : (n : ℕ) → Fine n s q → n ≡ 0 → count_of (page_at s q) ≤ leaf_most
  unfolding tree_ok page_ok
  fine_leaf zero f e = (leaf_parts f.low f.high (page_at s q) f.ok).1
  fine_leaf (suc n) f e = absurd (omega arith)

  pub fine_few : (n k : ℕ) → Fine n s q → (n ≡ 0 → ⊥) → k ≡ count_of (page_at s q) → k ≤ inner_most
  unfolding tree_ok page_ok
  fine_few zero k f z e = absurd (z refl)
  fine_few (suc n) k f z e =
      let a = both (inner_ok (suc n) f.least f.low f.high (page_at s q)) (all (tree_ok n inner_fewest s) (spans f.low f.high (children_of (page_at s q)))) f.ok in
      let b = (inner_parts (suc n) f.least f.low f.high (page_at s q) a.0).1 in
      omega arith

  pub fine_child : (n i k c : ℕ) → Fine n s q → (n ≡ 0 → ⊥) → k ≡ count_of (page_at s q) → i < k → c ≡ (child_at (page_at s q) i).page → Fine (n - 1) s c
  unfolding tree_ok children_of
  fine_child zero i k c f z e l g = absurd (z refl)
  fine_child (suc n) i k c f z e l g =
      let a = both (page_ok (suc n) f.least s (span_of q f.low f.high)) (all (tree_ok n inner_fewest s) (spans f.low f.high (children_of (page_at s q)))) f.ok in
      let b = span_there (tree_ok n inner_fewest s) f.high f.low (children_of (page_at s q)) a.1 (child_at (page_at s q) i) (in_tab (count_of (page_at s q)) 0 (child_at (page_at s q)) i (omega arith) (omega arith)) in
      let w : Fine n s c = record { least = inner_fewest; low = b.0; high = b.1; one = lit≤ tt; bytes = f.bytes; size = f.size; ok = subst (λ x. tree_ok n inner_fewest s (span_of x b.0 b.1) ≡ true) (sym g) b.2 } in
      let same : n ≡ suc n - 1 = omega arith in
      subst (λ m. Fine m s c) same w

pub one_more : (n : ℕ) → (n ≡ 0 → ⊥) → n ≡ suc (n - 1)
one_more n h = omega arith

-- ---- owners
module _ (s d : List ℕ) (n q : ℕ) where
  pub owners_leaf : (r : Bool) → r ≡ all (entry_held d) (entries_of (page_at s q)) → n ≡ 0 → r ≡ owners_at n s d q
  unfolding owners_at
  owners_leaf r e z = e ∙ ap (λ x. owners_at x s d q) (sym z)

  pub owners_start : (k : ℕ) → (n ≡ 0 → ⊥) → k ≡ count_of (page_at s q) → owners_at n s d q ≡ all (λ c. owners_at (n - 1) s d c.page) (tab (k - 0) 0 (child_at (page_at s q)))
  unfolding owners_at children_of
  owners_start k z e =
      ap (λ x. owners_at x s d q) (one_more n z) ∙ ap (λ x. all (λ (c : Child). owners_at (n - 1) s d c.page) (tab x 0 (child_at (page_at s q)))) (sym e ∙ sym (sub-zero k))

  module _ (k i c : ℕ) (b : Bool) (inv : owners_at n s d q ≡ all (λ c. owners_at (n - 1) s d c.page) (tab (k - i) i (child_at (page_at s q)))) where
    owners_turn : i < k → c ≡ (child_at (page_at s q) i).page → b ≡ owners_at (n - 1) s d c
        → owners_at n s d q ≡ (b && all (λ c. owners_at (n - 1) s d c.page) (tab (k - (i + 1)) (i + 1) (child_at (page_at s q))))
    owners_turn l e f =
        inv
        ∙ all_next (λ (c : Child). owners_at (n - 1) s d c.page) k i (child_at (page_at s q)) l
        ∙ ap (λ x. x && all (λ (c : Child). owners_at (n - 1) s d c.page) (tab (k - (i + 1)) (i + 1) (child_at (page_at s q)))) (ap (owners_at (n - 1) s d) (sym e) ∙ sym f)

    pub owners_bad : i < k → c ≡ (child_at (page_at s q) i).page → b ≡ owners_at (n - 1) s d c → not b ≡ true → false ≡ owners_at n s d q
    owners_bad l e f t = sym (owners_turn l e f ∙ ap (λ x. x && all (λ (c : Child). owners_at (n - 1) s d c.page) (tab (k - (i + 1)) (i + 1) (child_at (page_at s q)))) (not-true b t))

    pub owners_next : i < k → c ≡ (child_at (page_at s q) i).page → b ≡ owners_at (n - 1) s d c → not b ≡ false
        → owners_at n s d q ≡ all (λ c. owners_at (n - 1) s d c.page) (tab (k - (i + 1)) (i + 1) (child_at (page_at s q)))
    owners_next l e f t = owners_turn l e f ∙ ap (λ x. x && all (λ (c : Child). owners_at (n - 1) s d c.page) (tab (k - (i + 1)) (i + 1) (child_at (page_at s q)))) (not-false b t)

  pub owners_end : (k i : ℕ) → owners_at n s d q ≡ all (λ c. owners_at (n - 1) s d c.page) (tab (k - i) i (child_at (page_at s q))) → k ≤ i → true ≡ owners_at n s d q
  owners_end k i inv l = sym (inv ∙ all_done (λ (c : Child). owners_at (n - 1) s d c.page) k i (child_at (page_at s q)) l)

-- ---- a key
module _ (s : List ℕ) (x n q : ℕ) where
  pub find_leaf : (r : Bool) → r ≡ any (has_key x) (entries_of (page_at s q)) → n ≡ 0 → r ≡ find_at n s x q
  unfolding find_at
  find_leaf r e z = e ∙ ap (λ y. find_at y s x q) (sym z)

  pub find_start : (k : ℕ) → (n ≡ 0 → ⊥) → k ≡ count_of (page_at s q) → find_at n s x q ≡ any (λ c. find_at (n - 1) s x c.page) (tab (k - 0) 0 (child_at (page_at s q)))
  unfolding find_at children_of
  find_start k z e =
      ap (λ y. find_at y s x q) (one_more n z) ∙ ap (λ y. any (λ (c : Child). find_at (n - 1) s x c.page) (tab y 0 (child_at (page_at s q)))) (sym e ∙ sym (sub-zero k))

  module _ (k i c : ℕ) (b : Bool) (inv : find_at n s x q ≡ any (λ c. find_at (n - 1) s x c.page) (tab (k - i) i (child_at (page_at s q)))) where
    find_turn : i < k → c ≡ (child_at (page_at s q) i).page → b ≡ find_at (n - 1) s x c
        → find_at n s x q ≡ (b || any (λ c. find_at (n - 1) s x c.page) (tab (k - (i + 1)) (i + 1) (child_at (page_at s q))))
    find_turn l e f =
        inv
        ∙ any_next (λ (c : Child). find_at (n - 1) s x c.page) k i (child_at (page_at s q)) l
        ∙ ap (λ y. y || any (λ (c : Child). find_at (n - 1) s x c.page) (tab (k - (i + 1)) (i + 1) (child_at (page_at s q)))) (ap (find_at (n - 1) s x) (sym e) ∙ sym f)

    pub find_hit : i < k → c ≡ (child_at (page_at s q) i).page → b ≡ find_at (n - 1) s x c → b ≡ true → true ≡ find_at n s x q
    find_hit l e f t = sym (find_turn l e f ∙ ap (λ y. y || any (λ (c : Child). find_at (n - 1) s x c.page) (tab (k - (i + 1)) (i + 1) (child_at (page_at s q)))) t)

    pub find_next : i < k → c ≡ (child_at (page_at s q) i).page → b ≡ find_at (n - 1) s x c → b ≡ false
        → find_at n s x q ≡ any (λ c. find_at (n - 1) s x c.page) (tab (k - (i + 1)) (i + 1) (child_at (page_at s q)))
    find_next l e f t = find_turn l e f ∙ ap (λ y. y || any (λ (c : Child). find_at (n - 1) s x c.page) (tab (k - (i + 1)) (i + 1) (child_at (page_at s q)))) t

  pub find_end : (k i : ℕ) → find_at n s x q ≡ any (λ c. find_at (n - 1) s x c.page) (tab (k - i) i (child_at (page_at s q))) → k ≤ i → false ≡ find_at n s x q
  find_end k i inv l = sym (inv ∙ any_done (λ (c : Child). find_at (n - 1) s x c.page) k i (child_at (page_at s q)) l)
