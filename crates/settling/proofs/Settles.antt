-- Settling, page by page: those passed are settled, the others are as they were; when all used ones are passed, the index is settled.
-- Every page from 1 to the last used is in the tree, so a leaf among them has few entries. Assumes nothing.
use Prim.Native.Nat.{ℕ, zero, suc, ◌+◌, ◌*◌, ◌-◌, ◌≤◌, ◌<◌}
use mathlib.Core.Path.{◌≡◌, refl, sym, ap, subst, ◌∙◌}
use mathlib.Core.Bool.{Bool, true, false, cond}
use mathlib.Core.List.{List}
use native.Mathlib.Decide.{dec_lt}
use native.Mathlib.Omega.{arith}
use lib.Dec.{eqb, lit<}
use lib.ListN.{length, take, drop}
use borrow.Author.Tests.{eqb-true, eq-eqb, ne_eqb, le-leb, lt-leb}
use borrow.Rule.Slice.PartMut.{put_mid}
use Rattle.limits.specs.Limits.{pages_most, page_size, pages_size, leaf_most}
use Rattle.rules.specs.Entries.{settled}
use Rattle.numbers.proofs.Parts.{put_part_part}
use Rattle.rows.specs.PageHead.{kind_of, count_of, root_of, used_of, height_of}
use Rattle.pages.specs.PageLayout.{entries_of}
use Rattle.pages.specs.PageChanges.{end_of, leaf_settled}
use Rattle.pages.proofs.EntryRows.{length_entries}
use Rattle.trees.proofs.Thinning.{settled_thins}
use Rattle.index.specs.declared.Top.{Top}
use Rattle.index.specs.Pictures.{page_at, put_page, index_of, leaf_page, WholePages}
use Rattle.index.specs.Changes.{settled_in, Becomes}
use Rattle.index.specs.Descents.{TopOf, LeafIn, settled_page}
use Rattle.index.proofs.Buffers.{page_lent, page_back, length_page, length_put_page, page_same, page_other}
use Rattle.index.proofs.LeafPages.{leaf_settled_lem, settled_few, settled_small, laid_small, end_key, leaf_length}
use Rattle.index.proofs.Frame.{own_page}
use Rattle.index.proofs.Subtrees.{used_page, subtree_root}
use Rattle.index.proofs.BlankPages.{kind_head}
use Rattle.index.proofs.Refills.{refilled, Good, leaf_good, refill_whole}

-- ---- the pages used: one at least
pub used_some : (s : List ℕ) (top : Top) → WholePages s → TopOf s top → 1 ≤ top.used
used_some s top w o =
    let p = page_at s 0 in
    let t = subtree_root s w in
    let r = used_page (used_of p) (root_of p) (omega (arith, t.alone (root_of p), own_page (height_of p - 1) s (root_of p))) in
    omega (arith, o.used)

-- ---- one page
pub kind_lent : (s : List ℕ) (q k : ℕ) → k ≡ kind_of (take (page_size * q + page_size - page_size * q) (drop (page_size * q) s)) → k ≡ 2 → LeafIn s q
    → count_of (take (page_size * q + page_size - page_size * q) (drop (page_size * q) s)) ≤ leaf_most
kind_lent s q k e h l =
    let p = page_lent s q in
    subst (λ x. count_of x ≤ leaf_most) (sym p) (l.few (sym (e ∙ ap kind_of p) ∙ h))

module _ (commits : Bool) (t : ℕ) where
  pub page_stays : (s : List ℕ) (q k : ℕ) → k ≡ kind_of (take (page_size * q + page_size - page_size * q) (drop (page_size * q) s)) → (k ≡ 2 → ⊥) → LeafIn s q
      → s ≡ put_page s q (settled_page commits t (page_at s q))
  unfolding settled_page put_page page_at
  page_stays s q k e h l =
      let n : kind_of (page_at s q) ≡ 2 → ⊥ = λ i. h (e ∙ ap kind_of (page_lent s q) ∙ i) in
      sym (ap (λ b. put_page s q (cond b (leaf_settled commits t (page_at s q)) (page_at s q))) (ne_eqb (kind_of (page_at s q)) 2 n)
      ∙ put_part_part (page_size * q) page_size s (omega (arith, l.size, l.which)))

  pub page_settled : (s : List ℕ) (q k : ℕ) (p : List ℕ) → k ≡ kind_of (take (page_size * q + page_size - page_size * q) (drop (page_size * q) s)) → k ≡ 2
      → length p ≡ length (take (page_size * q + page_size - page_size * q) (drop (page_size * q) s))
      → p ≡ leaf_settled commits t (take (page_size * q + page_size - page_size * q) (drop (page_size * q) s))
      → put_mid (page_size * q) (page_size * q + page_size - page_size * q) s p ≡ put_page s q (settled_page commits t (page_at s q))
  unfolding settled_page
  page_settled s q k p e h l b =
      let i : kind_of (page_at s q) ≡ 2 = sym (e ∙ ap kind_of (page_lent s q)) ∙ h in
      page_back s q p (settled_page commits t (page_at s q)) l
      (b ∙ ap (leaf_settled commits t) (page_lent s q)
      ∙ sym (ap (λ b. cond b (leaf_settled commits t (page_at s q)) (page_at s q)) (eq-eqb (kind_of (page_at s q)) 2 i)))

  -- ---- a leaf of the tree, settled
  good_settled : (p : List ℕ) → Good p → leaf_settled commits t p ≡ leaf_page (settled (end_of commits) t (entries_of p))
  good_settled p g = ap (leaf_settled commits t) g.laid ∙ leaf_settled_lem commits t (entries_of p) g.few (laid_small p g.laid g.few)

  settled_is : (p : List ℕ) → (kind_of p ≡ 2 → Good p) → settled_page commits t p ≡ refilled (settled (end_of commits) t) p
  unfolding settled_page
  settled_is p g = go (eqb (kind_of p) 2) refl
    where
      go : (b : Bool) → eqb (kind_of p) 2 ≡ b → cond b (leaf_settled commits t p) p ≡ cond b (leaf_page (settled (end_of commits) t (entries_of p))) p
      go true e = good_settled p (g (eqb-true (kind_of p) 2 e))
      go false e = refl

  length_settled : (p : List ℕ) → (kind_of p ≡ 2 → Good p) → length p ≡ page_size → length (settled_page commits t p) ≡ page_size
  unfolding settled_page
  length_settled p g l = go (eqb (kind_of p) 2) refl
    where
      go : (b : Bool) → eqb (kind_of p) 2 ≡ b → length (cond b (leaf_settled commits t p) p) ≡ page_size
      go true e =
          let d = g (eqb-true (kind_of p) 2 e) in
          ap length (good_settled p d)
          ∙ leaf_length (settled (end_of commits) t (entries_of p)) (omega (arith, settled_few commits t (entries_of p), d.few))
      go false e = l

  -- ---- the pages below q
  pub record SettledTo (s₀ s : List ℕ) (q : ℕ) : Type 0 where
    pub size : length s ≡ pages_size
    pub first : page_at s 0 ≡ page_at s₀ 0
    pub done : (r : ℕ) → 1 ≤ r → r < q → page_at s r ≡ settled_page commits t (page_at s₀ r)
    pub rest : (r : ℕ) → q ≤ r → r < pages_most → page_at s r ≡ page_at s₀ r

  module _ (s₀ : List ℕ) (w : WholePages s₀) where
    pub settled_none : SettledTo s₀ s₀ 1
    settled_none = record { size = w.size; first = refl; done = λ r h l. absurd (omega arith); rest = λ r h l. refl }

    used_good : (q : ℕ) → 1 ≤ q → q < used_of (page_at s₀ 0) → kind_of (page_at s₀ q) ≡ 2 → Good (page_at s₀ q)
    unfolding index_of
    used_good q h l k =
        let p = page_at s₀ 0 in
        let e = ap (λ b. cond {A = ℕ} b 1 0) (lt-leb (used_of p) q l) in
        let f = ap (λ b. cond {A = ℕ} b 1 0) (le-leb 1 q h) in
        leaf_good s₀ (height_of p - 1) (root_of p) (used_of p) q (subtree_root s₀ w) (omega (arith, w.index.pages.once q)) k

    module _ (top : Top) (o : TopOf s₀ top) (s : List ℕ) (q : ℕ) (h : 1 ≤ q) (d : SettledTo s₀ s q) where
      pub leaf_in : q < top.used → LeafIn s q
      leaf_in l =
          let u : q < used_of (page_at s₀ 0) = omega (arith, o.used) in
          let k : q < pages_most = omega (arith, o.few) in
          let e = d.rest q (omega arith) k in
          record {
            size = d.size;
            which = k;
            few = λ i.
                let g = used_good q h u (sym (ap kind_of e) ∙ i) in
                omega (arith, ap count_of e, g.few, length_entries (page_at s₀ q));
          }

      pub settled_on : (s₁ : List ℕ) → q < top.used → s₁ ≡ put_page s q (settled_page commits t (page_at s q)) → SettledTo s₀ s₁ (q + 1)
      settled_on s₁ l b =
          let u : q < used_of (page_at s₀ 0) = omega (arith, o.used) in
          let k : q < pages_most = omega (arith, o.few) in
          let e = d.rest q (omega arith) k in
          let g = settled_page commits t (page_at s₀ q) in
          let n : length g ≡ page_size = length_settled (page_at s₀ q) (used_good q h u) (length_page s₀ w.size q k) in
          let c : s₁ ≡ put_page s q g = b ∙ ap (λ p. put_page s q (settled_page commits t p)) e in
          record {
            size = ap length c ∙ length_put_page s d.size q k g n;
            first = ap (λ z. page_at z 0) c ∙ page_other s d.size q k g n 0 (lit< tt) (omega arith) ∙ d.first;
            done = λ r i j. ap (λ z. page_at z r) c ∙ at r i j (dec_lt r q);
            rest = λ r i j. ap (λ z. page_at z r) c ∙ page_other s d.size q k g n r j (omega arith) ∙ d.rest r (omega arith) j;
          }
        where
          at : (r : ℕ) → 1 ≤ r → r < q + 1 → Dec (r < q) → page_at (put_page s q (settled_page commits t (page_at s₀ q))) r ≡ settled_page commits t (page_at s₀ r)
          at r i j (yes a) =
              let k : q < pages_most = omega (arith, o.few) in
              let u : q < used_of (page_at s₀ 0) = omega (arith, o.used) in
              let n = length_settled (page_at s₀ q) (used_good q h u) (length_page s₀ w.size q k) in
              page_other s d.size q k (settled_page commits t (page_at s₀ q)) n r (omega arith) (omega arith) ∙ d.done r i a
          at r i j (no a) =
              let k : q < pages_most = omega (arith, o.few) in
              let u : q < used_of (page_at s₀ 0) = omega (arith, o.used) in
              let n = length_settled (page_at s₀ q) (used_good q h u) (length_page s₀ w.size q k) in
              let e : r ≡ q = omega arith in
              subst (λ x. page_at (put_page s q (settled_page commits t (page_at s₀ q))) x ≡ settled_page commits t (page_at s₀ x)) (sym e)
              (page_same s d.size q k (settled_page commits t (page_at s₀ q)) n)

      pub settled_all : (1 ≤ top.used → q ≤ top.used) → top.used ≤ q → Becomes s (settled_in commits t (index_of s₀))
      unfolding settled_in
      settled_all a b =
          let f = settled (end_of commits) t in
          let u : q ≡ used_of (page_at s₀ 0) = omega (arith, o.used, a (used_some s₀ top w o)) in
          refill_whole f (settled_few commits t) (settled_small commits t) s₀ s w (settled_thins (end_of commits) (end_key commits) t) d.size
          (λ r l. at r (omega arith))
          (λ r i j. d.rest r (omega arith) j)
        where
          at : (r : ℕ) → r < q → page_at s r ≡ refilled (settled (end_of commits) t) (page_at s₀ r)
          at zero l =
              let p = page_at s₀ 0 in
              d.first
              ∙ sym (ap (λ m. cond (eqb m 2) (leaf_page (settled (end_of commits) t (entries_of p))) p)
              (ap kind_of w.head ∙ kind_head (root_of p) (used_of p) (height_of p)))
          at (suc r) l =
              d.done (suc r) (omega arith) l ∙ settled_is (page_at s₀ (suc r)) (used_good (suc r) (omega arith) (omega (arith, o.used, a (used_some s₀ top w o))))
