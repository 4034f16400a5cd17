-- The leaf that a key belongs to changed by a function that leaves a list without the key as it is: the index changed by it in every leaf.
-- No other leaf has the key, so the function leaves it. Assumes nothing.
use Prim.Native.Nat.{ℕ, zero, suc, ◌+◌, ◌-◌, ◌≤◌, ◌<◌, compare}
use mathlib.Core.Path.{◌≡◌, refl, sym, ap, subst, ◌∙◌}
use mathlib.Core.Logic.{◌≢◌}
use mathlib.Core.Bool.{Bool, true, false, cond}
use mathlib.Core.List.{List}
use native.Mathlib.Omega.{arith}
use lib.Dec.{eqb}
use lib.ListN.{length}
use borrow.Author.Tests.{eqb-true, eqb-false, le-leb, lt-leb}
use Rattle.limits.specs.Limits.{page_size, leaf_most}
use Rattle.rows.specs.PageHead.{kind_of, root_of, used_of, height_of}
use Rattle.pages.specs.PageLayout.{entries_of}
use Rattle.pages.proofs.EntryRows.{length_entries}
use Rattle.trees.specs.Trees.{above}
use Rattle.trees.specs.Growth.{in_leaves, missing}
use Rattle.trees.proofs.Thinning.{Thins, thinner}
use Rattle.index.specs.declared.Top.{Top}
use Rattle.index.specs.Pictures.{Item, key_of, page_at, put_page, index_of, leaf_page, WholePages}
use Rattle.index.specs.Changes.{Becomes}
use Rattle.index.specs.Descents.{TopOf, LeafFor}
use Rattle.index.proofs.Buffers.{length_put_page, page_same, page_kept}
use Rattle.index.proofs.BlankPages.{kind_leaf, kind_head}
use Rattle.index.proofs.LeafPages.{Smalls, leaf_length}
use Rattle.index.proofs.Frame.{Times}
use Rattle.index.proofs.Subtrees.{used_page, subtree_root}
use Rattle.index.proofs.Refills.{refilled, leaf_good, refill_whole}

module _ (f : List Item → List Item) (thins : Thins key_of key_of f) (small : (es : List Item) → Smalls es → Smalls (f es)) (k : ℕ)
    (none : (es : List Item) → missing compare key_of k es ≡ true → f es ≡ es) (s : List ℕ) (w : WholePages s) (t : Top) (o : TopOf s t) (q : ℕ)
    (l : LeafFor s t.level t.root k q) where
  abbrev p₀ : List ℕ
  p₀ = page_at s 0

  leaf : LeafFor s (height_of p₀ - 1) (root_of p₀) k q
  leaf = subst (λ m. LeafFor s m (root_of p₀) k q) o.level (subst (λ m. LeafFor s t.level m k q) o.root l)

  few : (es : List Item) → length (f es) ≤ length es
  few es = (thinner key_of key_of f thins es).fewer

  own : length (entries_of (page_at s q)) ≤ leaf_most
  own = omega (arith, l.at.leaf.few, length_entries (page_at s q))

  used : q < used_of p₀
  used = let r = subtree_root s w in used_page (used_of p₀) q (omega (arith, r.alone q, leaf.inside))

  once : (r : ℕ) → Times (height_of p₀ - 1) r s (root_of p₀) + above (used_of p₀) r ≡ above 1 r
  unfolding index_of
  once r = w.index.pages.once r

  -- a page that is not the leaf stays
  stays : (r : ℕ) → r < used_of p₀ → r ≢ q → page_at s r ≡ refilled f (page_at s r)
  stays r h d = go r h d (eqb (kind_of (page_at s r)) 2) refl
    where
      go : (r : ℕ) → r < used_of p₀ → r ≢ q → (b : Bool) → eqb (kind_of (page_at s r)) 2 ≡ b
          → page_at s r ≡ cond b (leaf_page (f (entries_of (page_at s r)))) (page_at s r)
      go r h d false i = refl
      go zero h d true i =
          absurd (omega (arith, eqb-true (kind_of p₀) 2 i, ap kind_of w.head, kind_head (root_of p₀) (used_of p₀) (height_of p₀)))
      go (suc r) h d true i =
          let a = ap (λ b. cond {A = ℕ} b 1 0) (lt-leb (used_of p₀) (suc r) h) in
          let c = ap (λ b. cond {A = ℕ} b 1 0) (le-leb 1 (suc r) (omega arith)) in
          let n : 0 < Times (height_of p₀ - 1) (suc r) s (root_of p₀) = omega (arith, once (suc r)) in
          let j = eqb-true (kind_of (page_at s (suc r))) 2 i in
          (leaf_good s (height_of p₀ - 1) (root_of p₀) (used_of p₀) (suc r) (subtree_root s w) n j).laid
          ∙ ap leaf_page (sym (none (entries_of (page_at s (suc r))) (leaf.others (suc r) n d j)))

  pub leaf_changed : (s' : List ℕ) → s' ≡ put_page s q (leaf_page (f (entries_of (page_at s q)))) → Becomes s' (in_leaves ℕ Item Item f (index_of s))
  leaf_changed s' b =
      let es = entries_of (page_at s q) in
      let g = leaf_page (f es) in
      let n : length g ≡ page_size = leaf_length (f es) (omega (arith, few es, own)) in
      let a = l.at in
      let kept : (r : ℕ) → r ≢ q → page_at s' r ≡ page_at s r = λ r d. ap (λ z. page_at z r) b ∙ page_kept s a.size q a.which g n r d in
      refill_whole f few small s s' w thins (ap length b ∙ length_put_page s a.size q a.which g n)
      (λ r h. go r h kept (ap (λ z. page_at z q) b ∙ page_same s a.size q a.which g n) (eqb r q) refl)
      (λ r h i. kept r (λ j. omega (arith, used)))
    where
      there : refilled f (page_at s q) ≡ leaf_page (f (entries_of (page_at s q)))
      there =
          let i : kind_of (page_at s q) ≡ 2 = ap kind_of l.at.leaf.laid ∙ kind_leaf (entries_of (page_at s q)) own in
          ap (λ x. cond (eqb x 2) (leaf_page (f (entries_of (page_at s q)))) (page_at s q)) i

      go : (r : ℕ) → r < used_of p₀ → ((r : ℕ) → r ≢ q → page_at s' r ≡ page_at s r) → page_at s' q ≡ leaf_page (f (entries_of (page_at s q)))
          → (c : Bool) → eqb r q ≡ c → page_at s' r ≡ refilled f (page_at s r)
      go r h kept put true c = subst (λ x. page_at s' x ≡ refilled f (page_at s x)) (sym (eqb-true r q c)) (put ∙ sym there)
      go r h kept put false c = let d = eqb-false r q c in kept r d ∙ stays r h d
