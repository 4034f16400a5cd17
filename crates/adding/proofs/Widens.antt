-- An inner page when the child that the entry belongs to has grown: its children are then the row that the tree has, and with the new child
-- put in the page is the tree's, whole or divided. The other children's pages are not touched. Assumes nothing.
use Rattle.limits.specs.Limits.{pages_most, page_size, inner_most, inner_stay, inner_go}
use Rattle.pages.specs.PageLayout.{ChildFits, child_at, children_of}
use Rattle.rows.specs.PageHead.{count_of}
use Rattle.std.specs.Prelude as Code
use Prim.Native.Nat.{ℕ, zero, suc, ◌+◌, ◌-◌, ◌≤◌, ◌<◌, compare}
use mathlib.Core.Path.{◌≡◌, refl, sym, ap, subst, ◌∙◌}
use mathlib.Core.Logic.{◌≢◌, ◌⊎◌, inl, inr, ⊎_elim}
use mathlib.Core.Bool.{cond}
use mathlib.Core.List.{List, [], ◌∷◌, ◌++◌, map}
use mathlib.Core.Option.{some}
use native.Mathlib.Nat.{zero-add}
use native.Mathlib.Omega.{arith}
use lib.Dec.{leb, lit<}
use lib.ListN.{length, set, take, drop, length-map, length-drop}
use lib.Seq.{split_at, set_at, length-take-le}
use borrow.Author.Tests.{le-leb, lt-leb, eq-eqb}
use Rattle.lists.specs.Lists.{In, insert_at}
use Rattle.lists.proofs.Elements.{append_in, insert_at_in, drop_in, take_in}
use Rattle.lists.proofs.Places.{length_insert_at, map_insert_at}
use Rattle.lists.proofs.Tables.{get_d_tab}
use Rattle.lists.proofs.Joins.{map_append, map_take, map_drop, map_same}
use Rattle.pages.specs.declared.Child as P
use Rattle.pages.proofs.ChildRows.{length_children}
use Rattle.trees.specs.Trees.{Child, Tree, document_sizes, summed, is_page, above, times}
use Rattle.trees.specs.Growth as G
use Rattle.trees.specs.Growth.{halves, grown, place, widened}
use Rattle.trees.proofs.ChildPlaces.{grown_at, widened_at}
use Rattle.trees.proofs.PageCounts.{grown_times, summed_in, summed_append, above_yes}
use Rattle.trees.proofs.Need.{Run, grown_needs}
use Rattle.adding.specs.declared.Grown.{Grown}
use Rattle.index.specs.declared.Step.{Step}
use Rattle.index.specs.declared.Way.{Way}
use Rattle.index.specs.Pictures.{Item, key_of, page_at, put_page, tree_of, inner_page, Laid, zero_first, low_first}
use Rattle.index.specs.Descents.{Subtree, Starts, Goes, run_of}
use Rattle.adding.specs.Growing.{one_tree, two_trees, needed_in, needed_above, GrowIn, Grew, grown_of, Outcome, Tried, Wider, Widened, InnerRoom, Rising, Rises, Rose, Risen}
use Rattle.index.proofs.Buffers.{length_put_page, page_same, page_kept}
use Rattle.index.proofs.InnerPages as Inner
use Rattle.index.proofs.Frame as F
use Rattle.index.proofs.Frame.{kid, Times, own_page, times_inner, frame, laid_frame}
use Rattle.index.proofs.Subtrees.{used_page, inner_filled, child_place}
use Rattle.adding.proofs.PagesNeeded.{chosen, child_chosen, need_below}

is_page_own : (q : ℕ) → is_page q q ≡ 1
is_page_own q = ap (λ b. cond {A = ℕ} b 1 0) (eq-eqb q q refl)

module _ (s : List ℕ) (n pg u : ℕ) (e : Item) (g : GrowIn s (suc n) pg u e) (st : Step) (h : Starts s pg e.key st) (q : ℕ)
    (c : q ≡ (child_at (page_at s pg) st.slot).page) (s₁ : List ℕ) (r₁ : Grown) (w : Grew n s s₁ q u e r₁) where
  t : Subtree s (suc n) pg u
  t = g.sub

  abbrev cs : List P.Child
  cs = children_of (page_at s pg)

  abbrev d : P.Child
  d = child_at (page_at s pg) st.slot

  abbrev b : List P.Child
  b = take st.slot cs

  abbrev a : List P.Child
  a = drop (suc st.slot) cs

  inside : st.slot < length cs
  inside = omega (arith, length_children (page_at s pg), h.place.within)

  parts : cs ≡ b ++ d ∷ a
  unfolding children_of
  parts =
      split_at cs st.slot d inside
      ∙ ap (λ x. b ++ x ∷ a) (get_d_tab (count_of (page_at s pg)) 0 (child_at (page_at s pg)) st.slot d h.place.within ∙ ap (child_at (page_at s pg)) (zero-add st.slot))

  -- ---- how often a page stands in the children
  sum_is : (m : ℕ) → summed (λ (x : P.Child). Times n m s x.page) cs ≡ summed (λ (x : P.Child). Times n m s x.page) b + (Times n m s q + summed (λ (x : P.Child). Times n m s x.page) a)
  unfolding summed
  sum_is m =
      ap (summed (λ (x : P.Child). Times n m s x.page)) parts ∙ summed_append (λ (x : P.Child). Times n m s x.page) b (d ∷ a)
      ∙ ap (λ z. summed (λ (x : P.Child). Times n m s x.page) b + (Times n m s z + summed (λ (x : P.Child). Times n m s x.page) a)) (sym c)

  once : (m : ℕ) → is_page m pg + summed (λ (x : P.Child). Times n m s x.page) cs + above u m ≤ 1
  once m = omega (arith, t.alone m, times_inner n m s pg)

  beside_own : (m : ℕ) (x : P.Child) → In x b ⊎ In x a → Times n m s x.page + Times n m s q + above u m ≤ 1
  beside_own m x (inl i) = omega (arith, once m, sum_is m, summed_in (λ (x : P.Child). Times n m s x.page) b x i)
  beside_own m x (inr i) = omega (arith, once m, sum_is m, summed_in (λ (x : P.Child). Times n m s x.page) a x i)

  -- the other children are as they were
  side : (x : P.Child) → In x b ⊎ In x a → F.Same n s s₁ x.page
  side x i m k = w.kept m (used_page u m (omega (arith, beside_own m x i))) (omega (arith, beside_own m x i))

  pub page_stays : page_at s₁ pg ≡ page_at s pg
  page_stays = w.kept pg g.used (omega (arith, once pg, sum_is pg, is_page_own pg))

  where_in : (x : P.Child) → In x cs → (d ≡ x) ⊎ (In x b ⊎ In x a)
  where_in x i =
      ⊎_elim (λ j. inr (inl j)) (λ j. ⊎_elim (λ k. inl k) (λ k. inr (inr k)) j) (append_in b (d ∷ a) x (subst (In x) parts i))

  pub laid_on : (x : P.Child) → In x cs → Laid n s₁ x.page
  laid_on x i =
      ⊎_elim (λ j. subst (λ y. Laid n s₁ y.page) j (subst (Laid n s₁) c w.laid))
      (λ j. laid_frame n s s₁ x.page (side x j) (t.laid.1 x i)) (where_in x i)

  -- ---- the row
  row_kept : map (kid n s₁) cs ≡ set (map (kid n s) cs) st.slot (record { low = d.low.0; tree = (grown_of n e u s q).tree })
  row_kept =
      let one : kid n s₁ d ≡ record { low = d.low.0; tree = (grown_of n e u s q).tree } =
      ap (λ y. record { low = d.low.0; tree = y }) (ap (tree_of n s₁) (sym c) ∙ w.tree) in
      let same : (xs : List P.Child) → ((x : P.Child) → In x xs → In x b ⊎ In x a) → map (kid n s₁) xs ≡ map (kid n s) xs =
      λ xs o. map_same (kid n s₁) (kid n s) xs (λ x i. ap (λ y. record { low = x.low.0; tree = y }) (frame n s s₁ x.page (side x (o x i)))) in
      ap (map (kid n s₁)) parts ∙ map_append (kid n s₁) b (d ∷ a)
      ∙ ap (λ ys. ys ++ kid n s₁ d ∷ map (kid n s₁) a) (same b (λ x i. inl i))
      ∙ ap (λ ys. map (kid n s) b ++ kid n s₁ d ∷ ys) (same a (λ x i. inr i))
      ∙ ap (λ y. map (kid n s) b ++ y ∷ map (kid n s) a) one
      ∙ sym (ap (λ ys. set ys st.slot (record { low = d.low.0; tree = (grown_of n e u s q).tree })) (ap (map (kid n s)) parts ∙ map_append (kid n s) b (d ∷ a))
      ∙ set_at (map (kid n s) b) (kid n s d) (map (kid n s) a) (record { low = d.low.0; tree = (grown_of n e u s q).tree }) st.slot
      (length-map b (kid n s) ∙ length-take-le st.slot cs (omega (arith, inside))))

  row_is : widened compare e.key (grown compare key_of 0 document_sizes n e u) u (map (kid n s) cs)
      ≡ record {
        used = (grown_of n e u s q).used;
        children = grown_at st.slot (kid n s d) (grown_of n e u s q).tree (grown_of n e u s q).beside (map (kid n s) cs);
      }
  row_is =
      let f = inner_filled s n pg u t in
      let k = chosen s n pg u e.key st d t h in
      let p = child_at_place in
      widened_at compare e.key (kid n s d) (grown compare key_of 0 document_sizes n e u) u (map (kid n s) cs)
      (omega (arith, length-map cs (kid n s), f.few, t.enough))
      ∙ ap (λ y. record {
        used = (grown compare key_of 0 document_sizes n e u y.tree).used;
        children = grown_at (place compare e.key (map (kid n s) cs)) y (grown compare key_of 0 document_sizes n e u y.tree).tree
            (grown compare key_of 0 document_sizes n e u y.tree).beside (map (kid n s) cs);
      }) k
      ∙ ap (λ j. record {
        used = (grown_of n e u s d.page).used;
        children = grown_at j (kid n s d) (grown_of n e u s d.page).tree (grown_of n e u s d.page).beside (map (kid n s) cs);
      }) (sym p)
      ∙ ap (λ z. record {
        used = (grown_of n e u s z).used;
        children = grown_at st.slot (kid n s d) (grown_of n e u s z).tree (grown_of n e u s z).beside (map (kid n s) cs);
      }) (sym c)
    where
      child_at_place : st.slot ≡ place compare e.key (map (kid n s) cs)
      child_at_place = child_place s n pg u e.key st.slot t h.place

  -- the tree, by its row
  pub grown_row : (v : ℕ) (xs : List (Child ℕ (Tree ℕ Item n))) → v ≡ (grown_of n e u s q).used
      → grown_at st.slot (kid n s d) (grown_of n e u s q).tree (grown_of n e u s q).beside (map (kid n s) cs) ≡ xs
      → grown_of (suc n) e u s pg ≡ halves (leb (length xs) inner_most) inner_stay (G.low_of 0) (G.from_lowest 0) v pg xs
  unfolding grown tree_of
  grown_row v xs y z =
      ap (λ r. halves (leb (length r.children) inner_most) inner_stay (G.low_of 0) (G.from_lowest 0) r.used pg r.children) row_is
      ∙ ap (λ zs. halves (leb (length zs) inner_most) inner_stay (G.low_of 0) (G.from_lowest 0) (grown_of n e u s q).used pg zs) z
      ∙ ap (λ m. halves (leb (length xs) inner_most) inner_stay (G.low_of 0) (G.from_lowest 0) m pg xs) (sym y)

  -- ---- the child was not divided
  pub same_grew : (v : ℕ) → r₁ ≡ one_tree v → Grew (suc n) s s₁ pg u e (one_tree v)
  unfolding tree_of
  same_grew v z =
      let w' : Grew n s s₁ q u e (one_tree v) = subst (λ r. Grew n s s₁ q u e r) z w in
      let f = inner_filled s n pg u t in
      let k = grown_row v (map (kid n s₁) cs) w'.told.0
      (ap (λ o. grown_at st.slot (kid n s d) (grown_of n e u s q).tree o (map (kid n s) cs)) w'.told.1 ∙ sym row_kept)
      ∙ ap (λ x. halves x inner_stay (G.low_of 0) (G.from_lowest 0) v pg (map (kid n s₁) cs)) (le-leb (length (map (kid n s₁) cs)) inner_most (omega (arith, length-map cs (kid n s₁), f.many))) in
      record {
        size = w.size;
        tree = ap (λ p. record { number = pg; holds = map (kid n s₁) (children_of p) }) page_stays ∙ sym (ap (λ x. x.tree) k);
        laid = (
          subst (λ p. p ≡ inner_page (suc n) (children_of p)) (sym page_stays) t.laid.0,
          λ x i. laid_on x (subst (λ p. In x (children_of p)) page_stays i),
        );
        told = (sym (ap (λ x. x.used) k), ap (λ x. x.beside) k);
        more = w'.more;
        most = w'.most;
        kept = λ m o y. w.kept m o (omega (arith, y, times_inner n m s pg, sum_is m));
        spare = w'.spare;
      }

  -- ---- the child was divided
  module _ (v : ℕ) (x : P.Child) (z : r₁ ≡ two_trees v x) where
    w' : Grew n s s₁ q u e (two_trees v x)
    w' = subst (λ r. Grew n s s₁ q u e r) z w

    abbrev ds : List P.Child
    ds = insert_at (st.slot + 1) x cs

    row_more : grown_at st.slot (kid n s d) (grown_of n e u s q).tree (grown_of n e u s q).beside (map (kid n s) cs) ≡ map (kid n s₁) ds
    row_more =
        ap (λ o. grown_at st.slot (kid n s d) (grown_of n e u s q).tree o (map (kid n s) cs)) w'.told.1
        ∙ ap (insert_at (st.slot + 1) (kid n s₁ x)) (sym row_kept)
        ∙ sym (map_insert_at (kid n s₁) (st.slot + 1) x cs)

    -- how often a page stands in the two halves
    total : (m : ℕ) → Times n m s₁ q + Times n m s₁ x.page + above v m ≡ Times n m s q + above u m
    unfolding summed
    total m =
        let k = grown_times compare key_of 0 document_sizes n m e 0 u (tree_of n s q) in
        let o = ap (λ y. summed (λ c. times ℕ Item n m c.tree) (G.beside y)) w'.told.1 in
        let i = ap (λ y. times ℕ Item n m y) w'.tree in
        let j = ap (λ y. above y m) w'.told.0 in
        omega arith

    clear : (m : ℕ) → Times n m s q + above u m ≤ above v m → summed (λ (y : P.Child). Times n m s y.page) cs ≡ 0
        → (y : P.Child) → In y ds → Times n m s₁ y.page ≡ 0
    clear m o k y i = ⊎_elim new (λ j. ⊎_elim own sides (where_in y j)) (insert_at_in (st.slot + 1) x cs y i)
      where
        new : x ≡ y → Times n m s₁ y.page ≡ 0
        new j = subst (λ p. Times n m s₁ p.page ≡ 0) j (omega (arith, total m))

        own : d ≡ y → Times n m s₁ y.page ≡ 0
        own j = subst (λ p. Times n m s₁ p.page ≡ 0) j (subst (λ p. Times n m s₁ p ≡ 0) c (omega (arith, total m)))

        sides : In y b ⊎ In y a → Times n m s₁ y.page ≡ 0
        sides j =
            ap (times ℕ Item n m) (frame n s s₁ y.page (side y j))
            ∙ zero_in (⊎_elim (λ l. summed_in (λ (x : P.Child). Times n m s x.page) b y l) (λ l. below l) j)
          where
            below : In y a → Times n m s y.page ≤ summed (λ (x : P.Child). Times n m s x.page) b
            below l = omega (arith, sum_is m, summed_in (λ (x : P.Child). Times n m s x.page) a y l)

            zero_in : Times n m s y.page ≤ summed (λ (x : P.Child). Times n m s x.page) b → Times n m s y.page ≡ 0
            zero_in l = omega (arith, sum_is m)

    clear_own : (y : P.Child) → In y ds → Times n pg s₁ y.page ≡ 0
    clear_own = clear pg (omega (arith, once pg, sum_is pg, is_page_own pg)) (omega (arith, once pg, is_page_own pg))

    clear_next : (y : P.Child) → In y ds → Times n v s₁ y.page ≡ 0
    clear_next =
        let o = above_yes u v w'.more in
        let i = above_yes v v (omega arith) in
        clear v (omega (arith, once v, sum_is v)) (omega (arith, once v))

    laid_all : (y : P.Child) → In y ds → Laid n s₁ y.page
    laid_all y i = ⊎_elim (λ j. subst (λ p. Laid n s₁ p.page) j w'.told.2) (laid_on y) (insert_at_in (st.slot + 1) x cs y i)

    small_all : Inner.Smalls ds
    small_all y i =
        let f = inner_filled s n pg u t in
        ⊎_elim (λ j. subst ChildFits j w'.told.3) (Inner.laid_small (suc n) (page_at s pg) t.laid.0 f.many y)
        (insert_at_in (st.slot + 1) x cs y i)

    -- a page written with some of these children, where the children's pages are as they were
    page_tree : (s₂ : List ℕ) (p : ℕ) (xs : List P.Child) → page_at s₂ p ≡ inner_page (suc n) xs → length xs ≤ inner_most → Inner.Smalls xs
        → ((y : P.Child) → In y xs → F.Same n s₁ s₂ y.page) → ((y : P.Child) → In y xs → Laid n s₁ y.page)
        → (tree_of (suc n) s₂ p ≡ record { number = p; holds = map (kid n s₁) xs }) × Laid (suc n) s₂ p
    unfolding tree_of
    page_tree s₂ p xs y l m o k =
        let i : children_of (page_at s₂ p) ≡ xs = ap children_of y ∙ Inner.inner_children (suc n) xs l m in (
          ap (λ ys. record { number = p; holds = map (kid n s₂) ys }) i
              ∙ ap (λ ys. record { number = p; holds = ys })
              (map_same (kid n s₂) (kid n s₁) xs (λ y j. ap (λ v. record { low = y.low.0; tree = v }) (frame n s₁ s₂ y.page (o y j)))),
          (
            y ∙ ap (inner_page (suc n)) (sym i),
            λ y j. let j' = subst (In y) i j in laid_frame n s₁ s₂ y.page (o y j') (k y j'),
          ),
        )

    -- ---- there is a page for a full one that is to be divided
    abbrev Room : ℕ → Type 0
    Room above = u + needed_in n e.key s q (needed_above (count_of (page_at s pg)) above) ≤ pages_most

    next_page : (above : ℕ) → Room above → inner_most ≤ count_of (page_at s pg) → v < pages_most
    next_page above room i =
        let k : suc n - 1 ≡ n = omega arith in
        let sub = subst (λ m. Subtree s m q u) k (child_chosen s (suc n) pg u e.key st q t (λ y. omega arith) h c) in
        let need = grown_needs compare key_of 0 document_sizes n sub.least e u (tree_of n s q) sub.counts in
        let r = run_of n e.key s q in
        let run : r ≡ suc n = subst (λ y. Run n r y) w'.told.1 need.run in
        let all = ap (λ b. cond b (r + needed_above (count_of (page_at s pg)) above) r) (eq-eqb r (suc n) run)
        ∙ ap (λ b. r + cond b (above + 1) 0) (le-leb inner_most (count_of (page_at s pg)) i) in
        omega (arith, need.more, w'.told.0)

    pub split_room : (above : ℕ) → Room above → InnerRoom s₁ (suc n) pg v (st.slot + 1) x
    split_room above room =
        let f = inner_filled s n pg u t in
        let k = ap count_of page_stays in
        let o = h.place.within in
        record {
          size = w.size;
          which = t.which;
          most = w'.most;
          other = omega (arith, g.used, w'.more);
          few = omega (arith, length_children (page_at s pg), f.many);
          place = omega arith;
          next = λ i. next_page above room (omega arith);
          laid = subst (λ p. p ≡ inner_page (suc n) (children_of p)) (sym page_stays) t.laid.0;
          small = w'.told.3;
        }

    other : (m : ℕ) → Times (suc n) m s pg ≡ 0 → m ≢ pg
    other m o y = let k = subst (λ p. Times (suc n) p s pg ≡ 0) y o in let l = own_page (suc n) s pg in omega arith

    pub put_grew : (s₂ : List ℕ) → s₂ ≡ put_page s₁ pg (inner_page (suc n) ds) → length cs ≤ inner_most - 1 → Grew (suc n) s s₂ pg u e (one_tree v)
    put_grew s₂ y l =
        let m : length ds ≤ inner_most = omega (arith, length_insert_at (st.slot + 1) x cs) in
        let i = Inner.inner_length (suc n) ds m in
        let p = inner_page (suc n) ds in
        let s' = put_page s₁ pg p in
        let same : (y : P.Child) → In y ds → F.Same n s₁ s' y.page =
        λ y j m k. page_kept s₁ w.size pg t.which p i m (λ o. omega (arith, subst (λ v. 0 < Times n v s₁ y.page) o k, clear_own y j)) in
        let f = page_tree s' pg ds (page_same s₁ w.size pg t.which p i) m small_all same laid_all in
        let k = grown_row v (map (kid n s₁) ds) w'.told.0 row_more
        ∙ ap (λ o. halves o inner_stay (G.low_of 0) (G.from_lowest 0) v pg (map (kid n s₁) ds)) (le-leb (length (map (kid n s₁) ds)) inner_most (omega (arith, length-map ds (kid n s₁)))) in
        subst (λ o. Grew (suc n) s o pg u e (one_tree v)) (sym y)
        (record {
          size = length_put_page s₁ w.size pg t.which p i;
          tree = f.0 ∙ sym (ap (λ o. o.tree) k);
          laid = f.1;
          told = (sym (ap (λ o. o.used) k), ap (λ o. o.beside) k);
          more = w'.more;
          most = w'.most;
          kept = λ m o j. page_kept s₁ w.size pg t.which p i m (other m j) ∙ w.kept m o (omega (arith, j, times_inner n m s pg, sum_is m));
          spare = λ m o j. page_kept s₁ w.size pg t.which p i m (λ k. omega (arith, g.used, w'.more)) ∙ w'.spare m o j;
        })

    -- ---- and the page is full
    zero_in : (xs : List P.Child) (y : P.Child) → In y (zero_first xs) → (o : P.Child) × In o xs × (o.page ≡ y.page)
    zero_in [] y x'' = elim x'' [ ]
    zero_in (o ∷ xs) y (inl i) = (o, inl refl, ap (λ k. k.page) i)
    zero_in (o ∷ xs) y (inr i) = (y, inr i, refl)

    zero_small : (xs : List P.Child) → Inner.Smalls xs → Inner.Smalls (zero_first xs)
    zero_small [] m y x3 = elim x3 [ ]
    zero_small (o ∷ xs) m y (inl i) = subst ChildFits i (record { low = lit< tt; page = (m o (inl refl)).page })
    zero_small (o ∷ xs) m y (inr i) = m y (inr i)

    zero_row : (xs : List P.Child) → map (kid n s₁) (zero_first xs) ≡ G.from_lowest 0 (map (kid n s₁) xs)
    zero_row [] = refl
    zero_row (o ∷ xs) = refl

    low_row : (xs : List P.Child) → G.low_of 0 (map (kid n s₁) xs) ≡ low_first xs
    low_row [] = refl
    low_row (o ∷ xs) = refl

    zero_length : (xs : List P.Child) → length (zero_first xs) ≡ length xs
    zero_length [] = refl
    zero_length (o ∷ xs) = refl

    low_small : (xs : List P.Child) → Inner.Smalls xs → low_first xs < 18446744073709551616
    low_small [] m = lit< tt
    low_small (o ∷ xs) m = (m o (inl refl)).low

    abbrev lo : List P.Child
    lo = take inner_stay ds

    abbrev hi : List P.Child
    hi = drop inner_stay ds

    pub divide_grew : (s₂ : List ℕ) → v < pages_most → s₂ ≡ put_page (put_page s₁ pg (inner_page (suc n) lo)) v (inner_page (suc n) (zero_first hi)) → length cs ≡ inner_most
        → Grew (suc n) s s₂ pg u e (two_trees (v + 1) (record { low = record { 0 = low_first hi }; page = v }))
    divide_grew s₂ vm y l =
        let k : length ds ≡ inner_most + 1 = length_insert_at (st.slot + 1) x cs ∙ ap (λ o. o + 1) l in
        let len-lo : length lo ≡ inner_stay = length-take-le inner_stay ds (omega arith) in
        let len-hi : length hi ≡ inner_go = length-drop inner_stay ds ∙ ap (λ o. o - inner_stay) k in
        let pl = inner_page (suc n) lo in
        let pr = inner_page (suc n) (zero_first hi) in
        let il : length pl ≡ page_size = Inner.inner_length (suc n) lo (omega arith) in
        let ir : length pr ≡ page_size = Inner.inner_length (suc n) (zero_first hi) (omega (arith, zero_length hi)) in
        let sa = put_page s₁ pg pl in
        let za = length_put_page s₁ w.size pg t.which pl il in
        let sb = put_page sa v pr in
        let pv : pg ≢ v = λ o. omega (arith, g.used, w'.more) in
        let same : (y : P.Child) → In y ds → F.Same n s₁ sb y.page =
        λ y j m i. page_kept sa za v vm pr ir m (λ o. omega (arith, subst (λ p. 0 < Times n p s₁ y.page) o i, clear_next y j))
        ∙ page_kept s₁ w.size pg t.which pl il m (λ o. omega (arith, subst (λ p. 0 < Times n p s₁ y.page) o i, clear_own y j)) in
        let fl = page_tree sb pg lo (page_kept sa za v vm pr ir pg pv ∙ page_same s₁ w.size pg t.which pl il) (omega arith)
        (λ y j. small_all y (take_in inner_stay ds y j)) (λ y j. same y (take_in inner_stay ds y j)) (λ y j. laid_all y (take_in inner_stay ds y j)) in
        let fr = page_tree sb v (zero_first hi) (page_same sa za v vm pr ir) (omega (arith, zero_length hi))
        (zero_small hi (λ y j. small_all y (drop_in inner_stay ds y j)))
        (λ y j. let o = zero_in hi y j in subst (F.Same n s₁ sb) o.2 (same o.0 (drop_in inner_stay ds o.0 o.1)))
        (λ y j. let o = zero_in hi y j in subst (Laid n s₁) o.2 (laid_all o.0 (drop_in inner_stay ds o.0 o.1))) in
        let gr = grown_row v (map (kid n s₁) ds) w'.told.0 row_more
        ∙ ap (λ o. halves o inner_stay (G.low_of 0) (G.from_lowest 0) v pg (map (kid n s₁) ds)) (lt-leb (length (map (kid n s₁) ds)) inner_most (omega (arith, length-map ds (kid n s₁)))) in
        subst (λ o. Grew (suc n) s o pg u e (two_trees (v + 1) (record { low = record { 0 = low_first hi }; page = v }))) (sym y)
        (record {
          size = length_put_page sa za v vm pr ir;
          tree = fl.0 ∙ ap (λ ys. record { number = pg; holds = ys }) (map_take (kid n s₁) inner_stay ds) ∙ sym (ap (λ o. o.tree) gr);
          laid = fl.1;
          told = (
            sym (ap (λ o. o.used) gr),
            ap (λ o. o.beside) gr
                ∙ ap (λ ys. some (record { low = G.low_of 0 ys; tree = record { number = v; holds = G.from_lowest 0 ys } })) (sym (map_drop (kid n s₁) inner_stay ds))
                ∙ ap (λ o. some (record { low = o; tree = record { number = v; holds = G.from_lowest 0 (map (kid n s₁) hi) } })) (low_row hi)
                ∙ ap (λ ys. some (record { low = low_first hi; tree = record { number = v; holds = ys } })) (sym (zero_row hi))
                ∙ ap (λ o. some (record { low = low_first hi; tree = o })) (sym fr.0),
            fr.1,
            record { low = low_small hi (λ y j. small_all y (drop_in inner_stay ds y j)); page = omega arith },
          );
          more = omega (arith, w'.more);
          most = omega arith;
          kept = λ m o j. page_kept sa za v vm pr ir m (λ i. omega (arith, w'.more)) ∙ page_kept s₁ w.size pg t.which pl il m (other m j)
              ∙ w.kept m o (omega (arith, j, times_inner n m s pg, sum_is m));
          spare = λ m o j. page_kept sa za v vm pr ir m (λ i. omega arith) ∙ page_kept s₁ w.size pg t.which pl il m (λ i. omega (arith, g.used, w'.more))
              ∙ w'.spare m (omega arith) j;
        })

    pub widened_grew : (above : ℕ) → Room above → (s₂ : List ℕ) (r : Grown) → Widened s₁ s₂ (suc n) pg v (st.slot + 1) x r → Grew (suc n) s s₂ pg u e r
    widened_grew above room s₂ r o =
        go r.used r.beside (subst (λ p. Wider s₁ s₂ (suc n) pg v (children_of p) (insert_at (st.slot + 1) x (children_of p)) r.used r.beside) page_stays o.how)
      where
        go : (v' : ℕ) (b : Code.Option P.Child) → Wider s₁ s₂ (suc n) pg v cs ds v' b → Grew (suc n) s s₂ pg u e (record { used = v'; beside = b })
        go v' Code.None (i, j, k) = subst (λ m. Grew (suc n) s s₂ pg u e (one_tree m)) (sym i) (put_grew s₂ j k)
        go v' (Code.Some y) (i, j, k, l) =
            let m : v < pages_most = next_page above room (omega (arith, length_children (page_at s pg))) in
            subst (λ a. Grew (suc n) s s₂ pg u e (two_trees a y)) (sym i)
            (subst (λ a. Grew (suc n) s s₂ pg u e (two_trees (v + 1) a)) (sym k) (divide_grew s₂ m j l))

-- ---- the steps of the code, at a level that is not 0
module _ (s : List ℕ) (n pg u above : ℕ) (e : Item) (g : GrowIn s n pg u e) (z : n ≡ 0 → ⊥) (way : Way) (goes : Goes s pg e.key way) where
  abbrev st : Step
  st = record { slot = way.slot; count = count_of (page_at s pg) }

  abbrev q : ℕ
  q = way.page

  abbrev below : ℕ
  below = needed_above (count_of (page_at s pg)) above

  pub grow_child : GrowIn s (n - 1) way.page u e
  grow_child =
      let k = child_chosen s n pg u e.key st q g.sub z goes.starts goes.page in
      record {
        sub = k;
        used = used_page u q (omega (arith, k.alone q, own_page (n - 1) s q));
        most = g.most;
        small = g.small;
      }

  needs_same : needed_in n e.key s pg above ≡ needed_in (n - 1) e.key s q below
  needs_same = need_below s n pg u e st q above g.sub z goes.starts goes.page

  module _ (s₁ : List ℕ) (m : ℕ) (b : m ≡ needed_above (count_of (page_at s pg)) above) where
    came : (r : Code.Option Grown) → Tried (n - 1) s s₁ way.page u m e r → Outcome (n - 1) s s₁ q u below e r
    came r w = subst (λ a. Outcome (n - 1) s s₁ q u a e r) b w.outcome

    pub grow_short : (r : Code.Option Grown) → Tried (n - 1) s s₁ way.page u m e Code.None → r ≡ Code.None → Tried n s s₁ pg u above e r
    grow_short r w z =
        let o = came Code.None w in
        subst (Tried n s s₁ pg u above e) (sym z) (record { outcome = (o.0, omega (arith, o.1, needs_same)) })

    module _ (r₁ : Grown) (w : Tried (n - 1) s s₁ way.page u m e (Code.Some r₁)) where
      fits : u + needed_in (n - 1) e.key s q below ≤ pages_most
      fits = (came (Code.Some r₁) w).1

      room : (v : ℕ) (x : P.Child) → Grew (n - 1) s s₁ q u e (two_trees v x) → InnerRoom s₁ n pg v (way.slot + 1) x
      room v x o = go n z g o fits
        where
          go : (n : ℕ) → (n ≡ 0 → ⊥) → GrowIn s n pg u e → Grew (n - 1) s s₁ q u e (two_trees v x) → u + needed_in (n - 1) e.key s q below ≤ pages_most
              → InnerRoom s₁ n pg v (way.slot + 1) x
          go zero z g o f = absurd (z refl)
          go (suc m) z g o f =
              let k : suc m - 1 ≡ m = omega arith in
              let P : ℕ → Type 0 = λ j. u + needed_in j e.key s q below ≤ pages_most in
              split_room s m pg u e g st goes.starts q goes.page s₁ (two_trees v x) (subst (λ j. Grew j s s₁ q u e (two_trees v x)) k o) v x refl above (subst P k f)

      pub grow_rises : Rises s₁ n pg (way.slot + 1) r₁
      grow_rises = record { room = go r₁.used r₁.beside (came (Code.Some r₁) w).0 }
        where
          go : (v : ℕ) (b : Code.Option P.Child) → Grew (n - 1) s s₁ q u e (record { used = v; beside = b }) → Rising s₁ n pg (way.slot + 1) v b
          go v Code.None o = tt
          go v (Code.Some x) o = room v x o

      same : (v : ℕ) → Grew (n - 1) s s₁ q u e (one_tree v) → Grew n s s₁ pg u e (one_tree v)
      same v d = go n z g d
        where
          go : (n : ℕ) → (n ≡ 0 → ⊥) → GrowIn s n pg u e → Grew (n - 1) s s₁ q u e (one_tree v) → Grew n s s₁ pg u e (one_tree v)
          go zero z g w = absurd (z refl)
          go (suc m) z g w =
              let k : suc m - 1 ≡ m = omega arith in
              same_grew s m pg u e g st goes.starts q goes.page s₁ (one_tree v) (subst (λ j. Grew j s s₁ q u e (one_tree v)) k w) v refl

      more : (v : ℕ) (x : P.Child) (s₂ : List ℕ) (r : Grown) → Grew (n - 1) s s₁ q u e (two_trees v x)
          → Widened s₁ s₂ n pg v (way.slot + 1) x r → Grew n s s₂ pg u e r
      more v x s₂ r o d = go n z g o fits d
        where
          go : (n : ℕ) → (n ≡ 0 → ⊥) → GrowIn s n pg u e → Grew (n - 1) s s₁ q u e (two_trees v x) → u + needed_in (n - 1) e.key s q below ≤ pages_most
              → Widened s₁ s₂ n pg v (way.slot + 1) x r → Grew n s s₂ pg u e r
          go zero z g o f d = absurd (z refl)
          go (suc m) z g o f d =
              let k : suc m - 1 ≡ m = omega arith in
              let P : ℕ → Type 0 = λ j. u + needed_in j e.key s q below ≤ pages_most in
              widened_grew s m pg u e g st goes.starts q goes.page s₁ (two_trees v x) (subst (λ j. Grew j s s₁ q u e (two_trees v x)) k o) v x refl above (subst P k f) s₂ r d

      pub grow_risen : (s₂ : List ℕ) (r : Grown) → Risen s₁ s₂ n pg (way.slot + 1) r₁ r → Tried n s s₂ pg u above e (Code.Some r)
      grow_risen s₂ r d = record { outcome = (go r₁.used r₁.beside (came (Code.Some r₁) w).0 d.how, omega (arith, fits, needs_same)) }
        where
          go : (v : ℕ) (b : Code.Option P.Child) → Grew (n - 1) s s₁ q u e (record { used = v; beside = b }) → Rose s₁ s₂ n pg (way.slot + 1) v b r
              → Grew n s s₂ pg u e r
          go v Code.None o d =
              subst (Grew n s s₂ pg u e) (sym d.1) (subst (λ s₂. Grew n s s₂ pg u e (one_tree v)) (sym d.0) (same v o))
          go v (Code.Some x) o d = more v x s₂ r o d

-- ---- a page above a child that has grown
module _ (s : List ℕ) (n pg i : ℕ) (g : Grown) where
  pub risen_same : g.beside ≡ Code.None → Risen s s n pg i g g
  risen_same z =
      record { how = subst (λ b. Rose s s n pg i g.used b g) (sym z) (refl, ap (λ b. record { used = g.used; beside = b }) z) }

  pub rises_room : (c : P.Child) → Rises s n pg i g → g.beside ≡ Code.Some c → InnerRoom s n pg g.used i c
  rises_room c h z = subst (Rising s n pg i g.used) z h.room

  pub risen_wider : (c : P.Child) (s' : List ℕ) (r : Grown) → g.beside ≡ Code.Some c → Widened s s' n pg g.used i c r → Risen s s' n pg i g r
  risen_wider c s' r z d = record { how = subst (λ b. Rose s s' n pg i g.used b r) (sym z) d }

pub grow_leaf_lem : (s : List ℕ) (n pg u : ℕ) (e : Item) → GrowIn s n pg u e → n ≡ 0 → GrowIn s 0 pg u e
grow_leaf_lem s n pg u e g z = subst (λ m. GrowIn s m pg u e) z g

pub leaf_tried : (s s' : List ℕ) (n pg u above : ℕ) (e : Item) (r : Code.Option Grown) → n ≡ 0 → Tried 0 s s' pg u above e r → Tried n s s' pg u above e r
leaf_tried s s' n pg u above e r z w = subst (λ m. Tried m s s' pg u above e r) (sym z) w
