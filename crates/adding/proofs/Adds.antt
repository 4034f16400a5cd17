-- An insert of a missing key, from the root: the tree grown, with a new root if it was divided, and page 0 written, is the index with the
-- entry, whole again. Page 0 and a new root are pages apart from the tree's. Assumes nothing.
use Rattle.limits.specs.Limits.{pages_most}
use Rattle.pages.specs.PageLayout.{EntryFits, ChildFits, children_of}
use Rattle.rows.specs.PageHead.{root_of, used_of, height_of, put_root}
use Rattle.std.specs.Prelude as Code
use Prim.Native.Nat.{ℕ, suc, ◌+◌, ◌-◌, ◌≤◌, ◌<◌, compare}
use mathlib.Core.Path.{◌≡◌, refl, sym, ap, ap₂, subst, ◌∙◌}
use mathlib.Core.Logic.{◌≢◌, inl, inr}
use mathlib.Core.Bool.{true, false, cond, not}
use mathlib.Core.List.{List, [], ◌∷◌, map}
use mathlib.Core.Option.{some}
use native.Mathlib.Omega.{arith}
use lib.Dec.{leb, eqb, lit<, lit≤}
use borrow.Author.Tests.{le-leb, lt-leb, eq-eqb}
use Rattle.lists.specs.Lists.{In}
use Rattle.rules.specs.Document.{end_mark}
use Rattle.rules.proofs.Orders.{numbers_ordered}
use Rattle.pages.specs.declared.Child as P
use Rattle.trees.specs.Trees.{Index, WholeIndex, document_sizes, summed, above, times}
use Rattle.trees.specs.Growth as G
use Rattle.trees.specs.Growth.{missing, rooted, with_item, fits, needed}
use Rattle.trees.proofs.PageCounts.{grown_times, above_yes}
use Rattle.trees.proofs.Need.{Run, grown_needs}
use Rattle.trees.proofs.Wholes.{with_whole, document_fair}
use Rattle.index.specs.declared.Top.{Top}
use Rattle.adding.specs.declared.Grown.{Grown}
use Rattle.index.specs.Pictures.{Item, key_of, page_at, put_page, tree_of, index_of, entries_in, head_page, inner_page, Laid, WholePages}
use Rattle.index.specs.Changes.{with_entry, entry_fits, Becomes, Added}
use Rattle.index.specs.Descents.{Subtree, TopOf, run_of}
use Rattle.adding.specs.Growing.{one_tree, two_trees, needed_in, GrowIn, Grew, Outcome, Tried, grown_of, root_page, RootIn}
use Rattle.index.proofs.Buffers.{length_put_page, page_same, page_kept}
use Rattle.index.proofs.InnerPages as Inner
use Rattle.index.proofs.Frame as F
use Rattle.index.proofs.Frame.{Times, own_page, frame, laid_frame}
use Rattle.index.proofs.Subtrees.{used_page, subtree_root}
use Rattle.index.proofs.Heads.{length_head, head_again, level_small}
use Rattle.index.proofs.Becoming.{becomes}

module _ (s : List ℕ) (w : WholePages s) (t : Top) (o : TopOf s t) (e : Item) where
  abbrev p₀ : List ℕ
  p₀ = page_at s 0

  abbrev n : ℕ
  n = t.level

  sub : Subtree s t.level t.root t.used
  sub =
      subst (λ m. Subtree s m t.root t.used) (sym o.level) (subst (λ m. Subtree s (height_of p₀ - 1) m t.used) (sym o.root)
      (subst (λ m. Subtree s (height_of p₀ - 1) (root_of p₀) m) (sym o.used) (subtree_root s w)))

  x_is : index_of s ≡ record { level = t.level; used = t.used; tree = tree_of t.level s t.root }
  unfolding index_of
  x_is =
      ap (λ m. record { level = m; used = used_of p₀; tree = tree_of m s (root_of p₀) }) (sym o.level)
      ∙ ap (λ m. record { level = t.level; used = m; tree = tree_of t.level s (root_of p₀) }) (sym o.used)
      ∙ ap (λ m. record { level = t.level; used = t.used; tree = tree_of t.level s m }) (sym o.root)

  abbrev need : ℕ
  need = needed_in n e.key s t.root 1

  fits_is : entry_fits e.key (index_of s) ≡ leb (t.used + need) pages_most
  unfolding entry_fits fits needed
  fits_is =
      let r = run_of n e.key s t.root in
      let k : suc r ≡ r + 1 = omega arith in
      ap (entry_fits e.key) x_is ∙ ap (λ m. leb (t.used + cond (eqb r (suc n)) m r) pages_most) k

  pub grow_top : EntryFits e → GrowIn s t.level t.root t.used e
  grow_top m =
      record {
        sub = sub;
        used = used_page t.used t.root (omega (arith, sub.alone t.root, own_page n s t.root));
        most = sub.few;
        small = m;
      }

  once : (q : ℕ) → Times n q s t.root + above t.used q ≡ above 1 q
  once q = subst (λ (x : Index ℕ Item). times ℕ Item x.level q x.tree + above x.used q ≡ above 1 q) x_is (w.index.pages.once q)

  used_some : 0 < t.used
  used_some = omega (arith, used_page t.used t.root (omega (arith, sub.alone t.root, own_page n s t.root)))

  -- where the pages are short, nothing has changed
  short : (s₁ : List ℕ) → Outcome n s s₁ t.root t.used 1 e Code.None → Added s s₁ e false
  short s₁ c =
      record {
        fit = sym (fits_is ∙ lt-leb (t.used + need) pages_most c.1);
        becomes = subst (λ p. Becomes p (index_of s)) (sym c.0) (record { whole = w; index = refl });
      }

  module _ (s₁ : List ℕ) (g : Grown) (d : Grew n s s₁ t.root t.used e g) (room : t.used + need ≤ pages_most) where
    fit : entry_fits e.key (index_of s) ≡ true
    fit = fits_is ∙ le-leb (t.used + need) pages_most room

    top_kept : page_at s₁ 0 ≡ page_at s 0
    top_kept = d.kept 0 used_some (omega (arith, once 0))

    wholeness : missing compare key_of e.key (entries_in s) ≡ true → e.key < end_mark → WholeIndex compare key_of 0 (some end_mark) document_sizes (with_entry e (index_of s))
    unfolding with_entry entries_in fits entry_fits
    wholeness m h =
        with_whole numbers_ordered key_of 0 (some end_mark) document_sizes document_fair e (index_of s) w.index (le-leb 0 e.key (omega arith))
        (ap not (lt-leb end_mark e.key h)) m fit

    head_now : (root used height : ℕ) → put_root (page_at s₁ 0) root used height ≡ head_page root used height
    head_now root used height =
        ap (λ p. put_root p root used height) (top_kept ∙ w.head) ∙ head_again (root_of p₀) (used_of p₀) (height_of p₀) root used height

    added : (s₂ : List ℕ) → Becomes s₂ (with_entry e (index_of s)) → Added s s₂ e true
    added s₂ b = record { fit = sym fit; becomes = b }

    -- how often a page stands in what has grown
    total : (q : ℕ) → Times n q s₁ t.root + summed (λ c. times ℕ Item n q c.tree) (G.beside (grown_of n e t.used s t.root).beside) + above (grown_of n e t.used s t.root).used q ≡ above 1 q
    unfolding summed
    total q =
        let k = grown_times compare key_of 0 document_sizes n q e 0 t.used (tree_of n s t.root) in
        let i = ap (λ y. times ℕ Item n q y) d.tree in
        omega (arith, once q)

    module _ (m : missing compare key_of e.key (entries_in s) ≡ true) (h : e.key < end_mark) where
      add_same : (v : ℕ) (s₂ : List ℕ) → g ≡ one_tree v → s₂ ≡ put_page s₁ 0 (put_root (page_at s₁ 0) t.root v (n + 1)) → Added s s₂ e true
      unfolding with_entry with_item rooted
      add_same v s₂ z f =
          let d' : Grew n s s₁ t.root t.used e (one_tree v) = subst (λ x. Grew n s s₁ t.root t.used e x) z d in
          let H = head_page t.root v (n + 1) in
          let i = length_head t.root v (n + 1) in
          let y : s₂ ≡ put_page s₁ 0 H = f ∙ ap (put_page s₁ 0) (head_now t.root v (n + 1)) in
          let low = level_small s n t.root t.used sub in
          let same : F.Same n s₁ (put_page s₁ 0 H) t.root =
          λ q k. page_kept s₁ d.size 0 (lit< tt) H i q (λ j. omega (arith, subst (λ x. 0 < Times n x s₁ t.root) j k, total 0)) in
          let x : record { level = n; used = v; tree = tree_of n (put_page s₁ 0 H) t.root } ≡ with_entry e (index_of s) =
          ap (λ k. record { level = n; used = v; tree = k }) (frame n s₁ (put_page s₁ 0 H) t.root same ∙ d.tree)
          ∙ ap (λ k. record { level = n; used = k; tree = (grown_of n e t.used s t.root).tree }) d'.told.0
          ∙ ap (λ k. rooted compare key_of 0 document_sizes n (grown_of n e t.used s t.root) k) (sym d'.told.1)
          ∙ ap (with_item compare key_of 0 document_sizes e) (sym x_is) in
          added s₂ (subst (λ k. Becomes k (with_entry e (index_of s))) (sym y)
          (becomes (put_page s₁ 0 H) t.root v n (with_entry e (index_of s)) (length_put_page s₁ d.size 0 (lit< tt) H i) (page_same s₁ d.size 0 (lit< tt) H i)
          (omega (arith, sub.which)) d'.most (omega arith) (laid_frame n s₁ (put_page s₁ 0 H) t.root same d.laid)
          (λ q j k. page_kept s₁ d.size 0 (lit< tt) H i q (λ l. omega (arith, d'.more, used_some))
          ∙ d'.spare q j k ∙ w.spare q (omega (arith, d'.more, o.used)) k)
          x (wholeness m h)))

      module _ (v : ℕ) (c : P.Child) (z : g ≡ two_trees v c) where
        d' : Grew n s s₁ t.root t.used e (two_trees v c)
        d' = subst (λ x. Grew n s s₁ t.root t.used e x) z d

        next : v < pages_most
        next =
            let taken = grown_needs compare key_of 0 document_sizes n sub.least e t.used (tree_of n s t.root) sub.counts in
            let run : run_of n e.key s t.root ≡ suc n = subst (λ y. Run n (run_of n e.key s t.root) y) d'.told.1 taken.run in
            let k = ap (λ b. cond b (run_of n e.key s t.root + 1) (run_of n e.key s t.root)) (eq-eqb (run_of n e.key s t.root) (suc n) run) in
            omega (arith, taken.more, d'.told.0, room)

        total' : (q : ℕ) → Times n q s₁ t.root + Times n q s₁ c.page + above v q ≡ above 1 q
        unfolding summed
        total' q =
            let k = ap (λ y. summed (λ c. times ℕ Item n q c.tree) (G.beside y)) d'.told.1 in
            let j = ap (λ y. above y q) d'.told.0 in
            omega (arith, total q)

        root_in : RootIn s₁ t.level t.root v c
        root_in =
            record {
              size = d.size;
              next = next;
              some = omega (arith, d'.more, used_some);
              low = level_small s n t.root t.used sub;
              old = sub.which;
              blank = d'.spare v (omega arith) next ∙ w.spare v (omega (arith, d'.more, o.used)) next;
            }

        add_split : (s₂ : List ℕ) → s₂ ≡ put_page (put_page s₁ v (root_page t.level t.root c)) 0 (put_root (page_at s₁ 0) v (v + 1) (t.level + 2)) → Added s s₂ e true
        unfolding with_entry with_item rooted tree_of
        add_split s₂ f =
            let two : List P.Child = record { low = record { 0 = 0 }; page = t.root } ∷ c ∷ [] in
            let e₁ : n + 1 ≡ suc n = omega arith in
            let e₂ : n + 2 ≡ suc n + 1 = omega arith in
            let R = inner_page (suc n) two in
            let H = head_page v (v + 1) (suc n + 1) in
            let i = Inner.inner_length (suc n) two (lit≤ tt) in
            let j = length_head v (v + 1) (suc n + 1) in
            let sa = put_page s₁ v R in
            let za = length_put_page s₁ d.size v next R i in
            let sb = put_page sa 0 H in
            let y : s₂ ≡ sb = f ∙ ap (λ k. put_page (put_page s₁ v (inner_page k two)) 0 (put_root (page_at s₁ 0) v (v + 1) (n + 2))) e₁
            ∙ ap (λ k. put_page sa 0 k) (head_now v (v + 1) (n + 2) ∙ ap (head_page v (v + 1)) e₂) in
            let low = level_small s n t.root t.used sub in
            let pos : 0 < v = omega (arith, d'.more, used_some) in
            let kept : (q : ℕ) → q ≢ 0 → q ≢ v → page_at sb q ≡ page_at s₁ q =
            λ q a b. page_kept sa za 0 (lit< tt) H j q a ∙ page_kept s₁ d.size v next R i q b in
            let uv = above_yes v v (omega arith) in
            let ul = above_yes 1 v pos in
            let old : F.Same n s₁ sb t.root =
            λ q k. kept q (λ l. omega (arith, subst (λ x. 0 < Times n x s₁ t.root) l k, total' 0)) (λ l. omega (arith, subst (λ x. 0 < Times n x s₁ t.root) l k, total' v)) in
            let new : F.Same n s₁ sb c.page =
            λ q k. kept q (λ l. omega (arith, subst (λ x. 0 < Times n x s₁ c.page) l k, total' 0)) (λ l. omega (arith, subst (λ x. 0 < Times n x s₁ c.page) l k, total' v)) in
            let small : Inner.Smalls two = smalls in
            let pv : page_at sb v ≡ R = page_kept sa za 0 (lit< tt) H j v (λ l. omega arith) ∙ page_same s₁ d.size v next R i in
            let kids : children_of (page_at sb v) ≡ two = ap children_of pv ∙ Inner.inner_children (suc n) two (lit≤ tt) small in
            let x : record { level = suc n; used = v + 1; tree = tree_of (suc n) sb v } ≡ with_entry e (index_of s) =
            ap (λ k. record { level = suc n; used = v + 1; tree = record { number = v; holds = map (F.kid n sb) k } }) kids
            ∙ ap₂ (λ k l. record { level = suc n; used = v + 1; tree = record { number = v; holds = record { low = 0; tree = k } ∷ record { low = c.low.0; tree = l } ∷ [] } })
            (frame n s₁ sb t.root old ∙ d.tree) (frame n s₁ sb c.page new)
            ∙ ap (λ k. record { level = suc n; used = k + 1; tree = record { number = k; holds = record { low = 0; tree = (grown_of n e t.used s t.root).tree } ∷ record { low = c.low.0; tree = tree_of n s₁ c.page } ∷ [] } }) d'.told.0
            ∙ ap (λ k. rooted compare key_of 0 document_sizes n (grown_of n e t.used s t.root) k) (sym d'.told.1)
            ∙ ap (with_item compare key_of 0 document_sizes e) (sym x_is) in
            added s₂ (subst (λ k. Becomes k (with_entry e (index_of s))) (sym y)
            (becomes sb v (v + 1) (suc n) (with_entry e (index_of s)) (length_put_page sa za 0 (lit< tt) H j) (page_same sa za 0 (lit< tt) H j)
            (omega (arith, next)) (omega (arith, next)) (omega arith)
            (pv ∙ ap (inner_page (suc n)) (sym kids), λ y l. laid_two y (subst (In y) kids l) sb old new)
            (λ q k l. kept q (λ b. omega arith) (λ b. omega arith) ∙ d'.spare q (omega arith) l ∙ w.spare q (omega (arith, d'.more, o.used)) l)
            x (wholeness m h)))
          where
            smalls : Inner.Smalls (record { low = record { 0 = 0 }; page = t.root } ∷ c ∷ [])
            smalls y (inl i) = subst ChildFits i (record { low = lit< tt; page = omega (arith, sub.which) })
            smalls y (inr (inl i)) = subst ChildFits i d'.told.3
            smalls y (inr (inr i)) = absurd i

            laid_two : (y : P.Child) → In y (record { low = record { 0 = 0 }; page = t.root } ∷ c ∷ []) → (sb : List ℕ) → F.Same n s₁ sb t.root → F.Same n s₁ sb c.page → Laid n sb y.page
            laid_two y (inl i) sb a b = subst (λ k. Laid n sb k.page) i (laid_frame n s₁ sb t.root a d.laid)
            laid_two y (inr (inl i)) sb a b = subst (λ k. Laid n sb k.page) i (laid_frame n s₁ sb c.page b d'.told.2)
            laid_two y (inr (inr i)) sb a b = absurd i

  -- ---- the steps of the code
  module _ (s₁ : List ℕ) (r : Code.Option Grown) (d : Tried t.level s s₁ t.root t.used 1 e r) where
    came : (b : Code.Option Grown) → r ≡ b → Outcome n s s₁ t.root t.used 1 e b
    came b z = subst (Outcome n s s₁ t.root t.used 1 e) z d.outcome

    pub not_added : r ≡ Code.None → Added s s₁ e false
    not_added z = short s₁ (came Code.None z)

    module _ (g : Grown) (y : r ≡ Code.Some g) (m : missing compare key_of e.key (entries_in s) ≡ true) (h : e.key < end_mark) where
      is : (b : Code.Option P.Child) → g.beside ≡ b → g ≡ record { used = g.used; beside = b }
      is b z = ap (λ b. record { used = g.used; beside = b }) z

      pub added_same : (s₂ : List ℕ) → g.beside ≡ Code.None → s₂ ≡ put_page s₁ 0 (put_root (page_at s₁ 0) t.root g.used (t.level + 1)) → Added s s₂ e true
      added_same s₂ z f = let o = came (Code.Some g) y in add_same s₁ g o.0 o.1 m h g.used s₂ (is Code.None z) f

      pub added_split : (x : P.Child) (s₂ : List ℕ) → g.beside ≡ Code.Some x
          → s₂ ≡ put_page (put_page s₁ g.used (root_page t.level t.root x)) 0 (put_root (page_at s₁ 0) g.used (g.used + 1) (t.level + 2)) → Added s s₂ e true
      added_split x s₂ z f = let o = came (Code.Some g) y in add_split s₁ g o.0 o.1 m h g.used x (is (Code.Some x) z) s₂ f

      pub new_root : (x : P.Child) → g.beside ≡ Code.Some x → RootIn s₁ t.level t.root g.used x
      new_root x z = let o = came (Code.Some g) y in root_in s₁ g o.0 o.1 m h g.used x (is (Code.Some x) z)
