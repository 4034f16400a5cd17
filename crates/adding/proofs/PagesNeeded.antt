-- The pages that an insert needs, carried down as the code carries them: what the tree's definition counts from the leaf upward.
-- The child that the code goes into is the one that the key belongs to. Assumes nothing.
use Prim.Native.Nat.{ℕ, zero, suc, ◌+◌, ◌*◌, ◌-◌, ◌≤◌, ◌<◌, compare}
use mathlib.Core.Path.{◌≡◌, refl, sym, ap, subst, ◌∙◌}
use mathlib.Core.Bool.{Bool, true, false, cond, ◌&&◌}
use mathlib.Core.List.{List, map}
use mathlib.Core.Option.{Option, none, some}
use native.Mathlib.Nat.{zero-add}
use native.Mathlib.Omega.{arith}
use lib.Dec.{leb, eqb}
use lib.ListN.{length, get_or, take, drop, length-map, get_or-map}
use borrow.Author.Tests.{eqb-true, eqb-false, le-leb, lt-leb, eq-eqb, ne_eqb}
use Rattle.limits.specs.Limits.{page_size, leaf_most, inner_most}
use Rattle.lists.proofs.Tables.{get_d_tab}
use Rattle.pages.specs.declared.Child as P
use Rattle.rows.specs.PageHead.{count_of}
use Rattle.pages.specs.PageLayout.{entries_of, child_at, children_of}
use Rattle.pages.proofs.ChildRows.{length_children}
use Rattle.trees.specs.Trees.{Child, Tree, document_sizes}
use Rattle.trees.specs.Growth.{place, belongs, full_run}
use Rattle.trees.proofs.ChildPlaces.{belongs_at}
use Rattle.trees.proofs.Need.{Run, grown_needs}
use Rattle.index.specs.declared.Step.{Step}
use Rattle.index.specs.Pictures.{Item, key_of, page_at, tree_of}
use Rattle.index.specs.Descents.{Subtree, Starts, run_of}
use Rattle.adding.specs.Growing.{needed_in, needed_above, grown_of}
use Rattle.index.proofs.Buffers.{page_lent}
use Rattle.index.proofs.Frame.{kid}
use Rattle.index.proofs.Subtrees.{child_in, inner_filled, child_place}

-- ---- the child that k belongs to
pub chosen : (s : List ℕ) (n pg u k : ℕ) (r : Step) (d : P.Child) → Subtree s (suc n) pg u → Starts s pg k r
    → let cs = map (kid n s) (children_of (page_at s pg)) in get_or cs (place compare k cs) (kid n s d) ≡ kid n s (child_at (page_at s pg) r.slot)
unfolding children_of
chosen s n pg u k r d t h =
    let p = page_at s pg in
    ap (λ i. get_or (map (kid n s) (children_of p)) i (kid n s d)) (sym (child_place s n pg u k r.slot t h.place))
    ∙ get_or-map (kid n s) (children_of p) r.slot d
    ∙ ap (kid n s) (get_d_tab (count_of p) 0 (child_at p) r.slot d h.place.within ∙ ap (child_at p) (zero-add r.slot))

pub child_chosen : (s : List ℕ) (n pg u k : ℕ) (st : Step) (q : ℕ) → Subtree s n pg u → (n ≡ 0 → ⊥) → Starts s pg k st
    → q ≡ (child_at (page_at s pg) st.slot).page → Subtree s (n - 1) q u
child_chosen s n pg u k st q t z h c = child_in s n pg u st.slot (count_of (page_at s pg)) q t z refl h.place.within c

-- ---- the run
run_inner : (s : List ℕ) (n pg u k : ℕ) (st : Step) (q r : ℕ) → Subtree s (suc n) pg u → Starts s pg k st
    → q ≡ (child_at (page_at s pg) st.slot).page → r ≡ run_of n k s q
    → run_of (suc n) k s pg ≡ cond (eqb r (suc n) && leb inner_most st.count) (suc r) r
unfolding full_run tree_of
run_inner s n pg u k st q r t h c e =
    let p = page_at s pg in
    let d = child_at p 0 in
    let f = inner_filled s n pg u t in
    let l = length-map (children_of p) (kid n s) in
    let b : belongs compare k (full_run compare key_of 0 document_sizes n k) (map (kid n s) (children_of p)) ≡ r =
    belongs_at compare k (kid n s d) (full_run compare key_of 0 document_sizes n k) (map (kid n s) (children_of p)) (omega (arith, f.few, t.enough))
    ∙ ap (λ x. full_run compare key_of 0 document_sizes n k x.tree) (chosen s n pg u k st d t h)
    ∙ ap (λ x. run_of n k s x) (sym c)
    ∙ sym e in
    ap (λ m. cond (eqb m (suc n) && leb inner_most (length (map (kid n s) (children_of p)))) (suc m) m) b
    ∙ ap (λ m. cond (eqb r (suc n) && leb inner_most m) (suc r) r) (l ∙ length_children p ∙ sym h.count)

run_most : (s : List ℕ) (n pg u : ℕ) (e : Item) → Subtree s n pg u → run_of n e.key s pg ≤ suc n
run_most s n pg u e t = go (grown_of n e u s pg).beside (grown_needs compare key_of 0 document_sizes n t.least e u (tree_of n s pg) t.counts).run
  where
    go : (o : Option (Child ℕ (Tree ℕ Item n))) → Run n (run_of n e.key s pg) o → run_of n e.key s pg ≤ suc n
    go none h = omega arith
    go (some c) h = omega arith

-- ---- the pages needed: those of the tree are those of the child, with what is needed above it
need_is : (n r R above : ℕ) (b c : Bool) → eqb r (suc n) ≡ b → R ≡ cond (b && c) (suc r) r → r ≤ suc n
    → cond (eqb R (suc (suc n))) (R + above) R ≡ cond b (r + cond c (above + 1) 0) r
need_is n r R above true true e f l =
    let i = eqb-true r (suc n) e in
    let j : R + above ≡ r + (above + 1) = omega arith in
    ap (λ x. cond x (R + above) R) (eq-eqb R (suc (suc n)) (omega arith)) ∙ j
need_is n r R above true false e f l =
    let i = eqb-true r (suc n) e in
    let j : R ≡ r + 0 = omega arith in
    ap (λ x. cond x (R + above) R) (ne_eqb R (suc (suc n)) (λ z. omega arith)) ∙ j
need_is n r R above false c e f l =
    let i = eqb-false r (suc n) e in
    ap (λ x. cond x (R + above) R) (ne_eqb R (suc (suc n)) (λ z. omega arith)) ∙ f

pub need_below : (s : List ℕ) (n pg u : ℕ) (e : Item) (st : Step) (q above : ℕ) → Subtree s n pg u → (n ≡ 0 → ⊥) → Starts s pg e.key st
    → q ≡ (child_at (page_at s pg) st.slot).page
    → needed_in n e.key s pg above ≡ needed_in (n - 1) e.key s q (needed_above (count_of (page_at s pg)) above)
need_below s zero pg u e st q above t z h c = absurd (z refl)
need_below s (suc n) pg u e st q above t z h c =
    let k : suc n - 1 ≡ n = omega arith in
    let a = needed_above (count_of (page_at s pg)) above in
    let child = subst (λ m. Subtree s m q u) k (child_chosen s (suc n) pg u e.key st q t z h c) in
    let r = run_of n e.key s q in
    need_is n r (run_of (suc n) e.key s pg) above (eqb r (suc n)) (leb inner_most (count_of (page_at s pg))) refl
    (run_inner s n pg u e.key st q r t h c refl ∙ ap (λ m. cond (eqb r (suc n) && leb inner_most m) (suc r) r) h.count) (run_most s n q u e child)
    ∙ ap (λ m. needed_in m e.key s q a) (sym k)

-- ---- and of a leaf
pub need_none : (s : List ℕ) (pg k above : ℕ) → length (entries_of (page_at s pg)) < leaf_most → needed_in 0 k s pg above ≡ 0
unfolding full_run tree_of
need_none s pg k above h =
    ap (λ b. cond {A = ℕ} (eqb (cond b 1 0) 1) (cond b 1 0 + above) (cond b 1 0)) (lt-leb leaf_most (length (entries_of (page_at s pg))) h)

pub need_full : (s : List ℕ) (pg k above : ℕ) → leaf_most ≤ length (entries_of (page_at s pg)) → needed_in 0 k s pg above ≡ 1 + above
unfolding full_run tree_of
need_full s pg k above h =
    ap (λ b. cond {A = ℕ} (eqb (cond b 1 0) 1) (cond b 1 0 + above) (cond b 1 0)) (le-leb leaf_most (length (entries_of (page_at s pg))) h)

-- ---- as the code counts above a child
module _ (s : List ℕ) (pg n above : ℕ) (e : n ≡ count_of (take (page_size * pg + page_size - page_size * pg) (drop (page_size * pg) s))) where
  count_is : count_of (page_at s pg) ≡ n
  count_is = sym (e ∙ ap count_of (page_lent s pg))

  pub above_full : inner_most ≤ n → above + 1 ≡ needed_above (count_of (page_at s pg)) above
  above_full h = sym (ap (λ b. cond b (above + 1) 0) (le-leb inner_most (count_of (page_at s pg)) (omega (arith, count_is))))

  pub above_none : n < inner_most → 0 ≡ needed_above (count_of (page_at s pg)) above
  above_none h = sym (ap (λ b. cond b (above + 1) 0) (lt-leb inner_most (count_of (page_at s pg)) (omega (arith, count_is))))
