-- A tree of pages that are all in order is laid out as its entries and children write it, counted, ranged, with every entry settled or owned;
-- and the other way. By induction on the level, and within a page on its children. Assumes nothing.
use mathlib.Core.Path.{◌≡◌, refl, sym, ap, ap₂, subst, ◌∙◌}
use mathlib.Core.Logic.{inl, inr, ⊎_elim}
use mathlib.Core.Bool.{Bool, true, cond, ◌&&◌}
use mathlib.Core.List.{List, [], ◌∷◌, map}
use mathlib.Core.Option.{Option, some}
use Prim.Native.Nat.{ℕ, zero, suc, ◌+◌, ◌*◌, ◌-◌, ◌≤◌, ◌<◌, compare}
use native.Mathlib.Nat.{sub-zero, add-zero}
use native.Mathlib.Decide.{dec_lt}
use native.Mathlib.Omega.{arith}
use borrow.Author.Tests.{eqb-true, eq-eqb, leb-true, le-leb, ltb-true, lt-ltb}
use lib.Dec.{eqb, leb, ltb, lit≤}
use lib.ListN.{length, length-map, drop_of_length-le}
use Rattle.limits.specs.Limits.{pages_most, page_size, pages_size, leaf_most, inner_most, inner_fewest}
use Rattle.lists.specs.Lists.{tab, all, join, In}
use Rattle.lists.specs.Lists as L
use Rattle.lists.proofs.Tests.{both, and_both, eqb_turn}
use Rattle.lists.proofs.Tables.{tab_next}
use Rattle.lists.proofs.Joins.{times_append}
use Rattle.lists.proofs.Elements.{append_in, in_left, in_right}
use Rattle.numbers.specs.Numbers.{number_at, part, Bytes}
use Rattle.numbers.proofs.Numbers.{number_none}
use Rattle.numbers.proofs.Parts.{length_part}
use Rattle.numbers.proofs.BytesKept.{bytes_part}
use Rattle.trees.specs.Trees.{Tree, document_sizes, flat, times, summed, counted, ranges, ranged, first_low, under, inside}
use Rattle.trees.proofs.Sorted.{sorted_test, test_sorted}
use Rattle.rows.specs.PageHead.{count_of}
use Rattle.pages.specs.PageLayout.{child_at, children_of, entries_of}
use Rattle.pages.specs.declared.Child as P
use Rattle.pages.proofs.EntryRows.{length_entries}
use Rattle.pages.proofs.ChildRows.{length_children}
use Rattle.index.specs.Pictures.{Item, key_of, page_at, tree_of, Laid}
use Rattle.index.proofs.Frame.{kid}
use Rattle.judging_pages.specs.declared.Span.{Span}
use Rattle.judging_pages.specs.PageChecks.{head_ok, between, first_ok, child_fields_at, children_ok, entries_ok, entry_fields_at, leaf_ok, inner_ok, aboves}
use Rattle.judging_pages.specs.Walks.{span_of, spans, page_ok, tree_ok}
use Rattle.judging_pages.proofs.EntriesJudged.{Rests}
use Rattle.judging_pages.proofs.LeavesJudged.{under_is, is_under, leaf_facts, facts_leaf}
use Rattle.judging_pages.proofs.InnersJudged.{inner_facts, facts_inner, head_length}
use Rattle.judging_pages.proofs.PagesMarked.{reached}

-- ---- the pages of the tree, counted
times_over : (n : ℕ) (s : List ℕ) (q : ℕ) → ((r : ℕ) → times ℕ Item n q (tree_of n s r) ≡ L.times q (reached n s r)) → (cs : List P.Child)
    → summed (λ c. times ℕ Item n q c.tree) (map (kid n s) cs) ≡ L.times q (join (λ c. reached n s c.page) cs)
unfolding summed join L.times
times_over n s q h [] = refl
times_over n s q h (c ∷ cs) =
    ap₂ (λ x y. x + y) (h c.page) (times_over n s q h cs) ∙ sym (times_append q (reached n s c.page) (join (λ d. reached n s d.page) cs))

pub times_reached : (n : ℕ) (s : List ℕ) (p q : ℕ) → times ℕ Item n q (tree_of n s p) ≡ L.times q (reached n s p)
unfolding times tree_of reached L.times
times_reached zero s p q = ap (λ b. cond {A = ℕ} b 1 0) (eqb_turn q p) ∙ sym (add-zero (cond (eqb p q) 1 0))
times_reached (suc n) s p q = ap₂ (λ b x. cond b 1 0 + x) (eqb_turn q p) (times_over n s q (λ r. times_reached n s r q) (children_of (page_at s p)))

-- ---- what the tree is
pub record TreeFacts (n least : ℕ) (s : List ℕ) (t : Span) : Type 0 where
  pub laid : Laid n s t.page
  pub counts : counted ℕ Item document_sizes least n (tree_of n s t.page) ≡ true
  pub keys : ranged compare key_of 0 n t.low.0 (some t.high.0) (tree_of n s t.page) ≡ true
  pub rests : (e : Item) → In e (flat ℕ Item n (tree_of n s t.page)) → e.owner ≡ 0 → Rests e

-- of the children of a page, with the page's range
pub record KidsFacts (n : ℕ) (s : List ℕ) (lo hi : ℕ) (cs : List P.Child) : Type 0 where
  pub laid : (c : P.Child) → In c cs → Laid n s c.page
  pub counts : all (λ c. counted ℕ Item document_sizes inner_fewest n c.tree) (map (kid n s) cs) ≡ true
  pub keys : ranges compare (ranged compare key_of 0 n) lo (some hi) (map (kid n s) cs) ≡ true
  pub rests : (e : Item) → In e (join (λ c. flat ℕ Item n c.tree) (map (kid n s) cs)) → e.owner ≡ 0 → Rests e

-- the separators after the first
abbrev pub aboves_of : ℕ → ℕ → List P.Child → Bool
aboves_of lo hi [] = true
aboves_of lo hi (c ∷ cs) = aboves lo hi cs

module _ (n : ℕ) (s : List ℕ) (hi : ℕ) where
  abbrev R : ℕ → Option ℕ → Tree ℕ Item n → Bool
  R lo h t = ranged compare key_of 0 n lo h t

  module _ (h : (t : Span) → tree_ok n inner_fewest s t ≡ true → TreeFacts n inner_fewest s t) where
    pub kids_facts : (lo : ℕ) (cs : List P.Child) → all (tree_ok n inner_fewest s) (spans lo hi cs) ≡ true → aboves_of lo hi cs ≡ true → KidsFacts n s lo hi cs
    unfolding spans all ranges aboves join
    kids_facts lo [] a b = record { laid = λ c m. absurd m; counts = refl; keys = refl; rests = λ e m. absurd m }
    kids_facts lo (c ∷ []) a b =
        let f = h (span_of c.page lo hi) (both (tree_ok n inner_fewest s (span_of c.page lo hi)) true a).0 in
        record {
          laid = λ x m. ⊎_elim (λ e. subst (λ y. Laid n s y.page) e f.laid) (λ z. absurd z) m;
          counts = and_both (counted ℕ Item document_sizes inner_fewest n (tree_of n s c.page)) true f.counts refl;
          keys = f.keys;
          rests = λ e m. ⊎_elim (λ l. f.rests e l) (λ z. absurd z) (append_in (flat ℕ Item n (tree_of n s c.page)) [] e m);
        }
    kids_facts lo (c ∷ d ∷ cs) a b =
        let x = both (tree_ok n inner_fewest s (span_of c.page lo d.low.0)) (all (tree_ok n inner_fewest s) (spans d.low.0 hi (d ∷ cs))) a in
        let f = h (span_of c.page lo d.low.0) x.0 in
        let y = both (between lo hi d.low.0) (aboves d.low.0 hi cs) b in
        let z = both (ltb lo d.low.0) (ltb d.low.0 hi) y.0 in
        let g = kids_facts d.low.0 (d ∷ cs) x.1 y.1 in
        record {
          laid = λ x m. ⊎_elim (λ e. subst (λ y. Laid n s y.page) e f.laid) (λ z. g.laid x z) m;
          counts = and_both (counted ℕ Item document_sizes inner_fewest n (tree_of n s c.page)) (all (λ c. counted ℕ Item document_sizes inner_fewest n c.tree) (map (kid n s) (d ∷ cs))) f.counts g.counts;
          keys = and_both (R lo (some d.low.0) (tree_of n s c.page) && (under compare lo d.low.0 && inside compare d.low.0 (some hi)))
              (ranges compare (ranged compare key_of 0 n) d.low.0 (some hi) (map (kid n s) (d ∷ cs)))
              (and_both (R lo (some d.low.0) (tree_of n s c.page)) (under compare lo d.low.0 && inside compare d.low.0 (some hi)) f.keys
              (and_both (under compare lo d.low.0) (under compare d.low.0 hi) (under_is lo d.low.0 (ltb-true lo d.low.0 z.0)) (under_is d.low.0 hi (ltb-true d.low.0 hi z.1))))
              g.keys;
          rests = λ e m. ⊎_elim (λ l. f.rests e l) (λ r. g.rests e r) (append_in (flat ℕ Item n (tree_of n s c.page)) (join (λ c. flat ℕ Item n c.tree) (map (kid n s) (d ∷ cs))) e m);
        }

  module _ (h : (t : Span) → TreeFacts n inner_fewest s t → tree_ok n inner_fewest s t ≡ true) where
    pub facts_kids : (lo : ℕ) (cs : List P.Child) → KidsFacts n s lo hi cs → (all (tree_ok n inner_fewest s) (spans lo hi cs) ≡ true) × (aboves_of lo hi cs ≡ true)
    unfolding spans all ranges aboves join
    facts_kids lo [] f = (refl, refl)
    facts_kids lo (c ∷ []) f = (
      and_both (tree_ok n inner_fewest s (span_of c.page lo hi)) true
          (h (span_of c.page lo hi)
          (record {
            laid = f.laid c (inl refl);
            counts = (both (counted ℕ Item document_sizes inner_fewest n (tree_of n s c.page)) true f.counts).0;
            keys = f.keys;
            rests = λ e m. f.rests e (in_left (flat ℕ Item n (tree_of n s c.page)) [] e m);
          })) refl,
      refl,
    )
    facts_kids lo (c ∷ d ∷ cs) f =
        let k = both (R lo (some d.low.0) (tree_of n s c.page) && (under compare lo d.low.0 && inside compare d.low.0 (some hi)))
        (ranges compare (ranged compare key_of 0 n) d.low.0 (some hi) (map (kid n s) (d ∷ cs))) f.keys in
        let i = both (R lo (some d.low.0) (tree_of n s c.page)) (under compare lo d.low.0 && inside compare d.low.0 (some hi)) k.0 in
        let u = both (under compare lo d.low.0) (under compare d.low.0 hi) i.1 in
        let w = both (counted ℕ Item document_sizes inner_fewest n (tree_of n s c.page)) (all (λ c. counted ℕ Item document_sizes inner_fewest n c.tree) (map (kid n s) (d ∷ cs))) f.counts in
        let g = facts_kids d.low.0 (d ∷ cs)
        (record {
          laid = λ x m. f.laid x (inr m);
          counts = w.1;
          keys = k.1;
          rests = λ e m. f.rests e (in_right (flat ℕ Item n (tree_of n s c.page)) (join (λ c. flat ℕ Item n c.tree) (map (kid n s) (d ∷ cs))) e m);
        }) in (
          and_both (tree_ok n inner_fewest s (span_of c.page lo d.low.0)) (all (tree_ok n inner_fewest s) (spans d.low.0 hi (d ∷ cs)))
              (h (span_of c.page lo d.low.0)
              (record {
                laid = f.laid c (inl refl);
                counts = w.0;
                keys = i.0;
                rests = λ e m. f.rests e (in_left (flat ℕ Item n (tree_of n s c.page)) (join (λ c. flat ℕ Item n c.tree) (map (kid n s) (d ∷ cs))) e m);
              })) g.0,
          and_both (between lo hi d.low.0) (aboves d.low.0 hi cs)
              (and_both (ltb lo d.low.0) (ltb d.low.0 hi) (lt-ltb lo d.low.0 (is_under lo d.low.0 u.0)) (lt-ltb d.low.0 hi (is_under d.low.0 hi u.1)))
              g.1,
        )

-- ---- a page that has a length is one of the 64
within : (s : List ℕ) (q : ℕ) → length s ≡ pages_size → number_at 2 (page_at s q) 0 ≡ page_size → length (page_at s q) ≡ page_size
unfolding page_at part
within s q h e =
    elim (dec_lt q pages_most) [
      | yes l ↦ length_part (page_size * q) page_size s (omega arith)
      | no l ↦
          let z : page_at s q ≡ [] = ap (λ x. part 0 page_size x) (drop_of_length-le s {i = page_size * q} (omega arith)) in
          let w : ◌≡◌ {A = ℕ} 0 page_size = sym (ap (λ x. number_at 2 x 0) z ∙ number_none 2 0) ∙ e in
          absurd (omega arith)
    ]

leaf_length : (lo hi : ℕ) (p : List ℕ) → leaf_ok lo hi p ≡ true → number_at 2 p 0 ≡ page_size
unfolding leaf_ok
leaf_length lo hi p h =
    head_length 2 0 p (both (head_ok 2 0 p) (leb (count_of p) leaf_most)
    (both (head_ok 2 0 p && leb (count_of p) leaf_most) (entries_ok true lo hi (tab (count_of p) 0 (entry_fields_at p))) (both ((head_ok 2 0 p && leb (count_of p) leaf_most) && entries_ok true lo hi (tab (count_of p) 0 (entry_fields_at p))) _ h).0).0).0

inner_length : (level least lo hi : ℕ) (p : List ℕ) → inner_ok level least lo hi p ≡ true → number_at 2 p 0 ≡ page_size
unfolding inner_ok
inner_length level least lo hi p h =
    let front = head_ok 3 level p && (leb least (count_of p) && leb (count_of p) inner_most) in
    let a = both ((front && first_ok (child_fields_at p 0)) && children_ok lo hi (tab (count_of p - 1) 1 (child_fields_at p))) _ h in
    let b = both (front && first_ok (child_fields_at p 0)) (children_ok lo hi (tab (count_of p - 1) 1 (child_fields_at p))) a.0 in
    let c = both front (first_ok (child_fields_at p 0)) b.0 in
    head_length 3 level p (both (head_ok 3 level p) (leb least (count_of p) && leb (count_of p) inner_most) c.0).0

-- ---- the children of a page, the first apart
children_cons : (p : List ℕ) → 1 ≤ count_of p → children_of p ≡ child_at p 0 ∷ tab (count_of p - 1) 1 (child_at p)
unfolding children_of
children_cons p h = ap (λ n. tab n 0 (child_at p)) (sym (sub-zero (count_of p))) ∙ tab_next (count_of p) 0 (child_at p) (omega arith)

-- ---- the tree
module _ (s : List ℕ) (g : Bytes s) (size : length s ≡ pages_size) where
  page_bytes : (q : ℕ) → Bytes (page_at s q)
  unfolding page_at
  page_bytes q = bytes_part (page_size * q) page_size s g

  pub tree_facts : (n least : ℕ) (t : Span) → 1 ≤ least → tree_ok n least s t ≡ true → TreeFacts n least s t
  unfolding tree_ok page_ok counted ranged flat tree_of
  tree_facts zero least t one h =
      let p = page_at s t.page in
      let f = leaf_facts p (page_bytes t.page) t.low.0 t.high.0 (within s t.page size (leaf_length t.low.0 t.high.0 p h)) h in
      let l = length_entries p in
      record {
        laid = f.laid;
        counts = le-leb (length (entries_of p)) leaf_most (let m = f.few in omega arith);
        keys = sorted_test compare key_of t.low.0 (some t.high.0) (entries_of p) f.order;
        rests = f.rests;
      }
  tree_facts (suc n) least t one h =
      let p = page_at s t.page in
      let a = both (inner_ok (suc n) least t.low.0 t.high.0 p) (all (tree_ok n inner_fewest s) (spans t.low.0 t.high.0 (children_of p))) h in
      let f = inner_facts p (page_bytes t.page) (suc n) least t.low.0 t.high.0 (within s t.page size (inner_length (suc n) least t.low.0 t.high.0 p a.0)) one a.0 in
      let some' : 1 ≤ count_of p = (let m = f.enough in omega arith) in
      let e = children_cons p some' in
      let k = kids_facts n s t.high.0 (λ u v. tree_facts n inner_fewest u (lit≤ tt) v) t.low.0 (children_of p) a.1 (subst (λ cs. aboves_of t.low.0 t.high.0 cs ≡ true) (sym e) f.above) in
      let l : length (map (kid n s) (children_of p)) ≡ count_of p = length-map (children_of p) (kid n s) ∙ length_children p in
      record {
        laid = (f.laid, k.laid);
        counts = and_both (leb least (length (map (kid n s) (children_of p))) && leb (length (map (kid n s) (children_of p))) inner_most) (all (λ c. counted ℕ Item document_sizes inner_fewest n c.tree) (map (kid n s) (children_of p)))
            (and_both (leb least (length (map (kid n s) (children_of p)))) (leb (length (map (kid n s) (children_of p))) inner_most)
            (le-leb least (length (map (kid n s) (children_of p))) (let m = f.enough in omega arith)) (le-leb (length (map (kid n s) (children_of p))) inner_most (let m = f.few in omega arith)))
            k.counts;
        keys = and_both (first_low compare 0 (map (kid n s) (children_of p))) (ranges compare (ranged compare key_of 0 n) t.low.0 (some t.high.0) (map (kid n s) (children_of p)))
            (subst (λ cs. first_low compare 0 (map (kid n s) cs) ≡ true) (sym e) (eq-eqb (child_at p 0).low.0 0 f.first))
            k.keys;
        rests = k.rests;
      }

  pub facts_tree : (n least : ℕ) (t : Span) → n < 65536 → 1 ≤ least → TreeFacts n least s t → tree_ok n least s t ≡ true
  unfolding tree_ok page_ok counted ranged flat tree_of
  facts_tree zero least t small one f =
      let p = page_at s t.page in
      let l = length_entries p in
      facts_leaf p (page_bytes t.page) t.low.0 t.high.0
      (record {
        laid = f.laid;
        few = (let m = leb-true (length (entries_of p)) leaf_most f.counts in omega arith);
        order = test_sorted compare key_of t.low.0 (some t.high.0) (entries_of p) f.keys;
        rests = f.rests;
      })
  facts_tree (suc n) least t small one f =
      let p = page_at s t.page in
      let l : length (map (kid n s) (children_of p)) ≡ count_of p = length-map (children_of p) (kid n s) ∙ length_children p in
      let a = both (leb least (length (map (kid n s) (children_of p))) && leb (length (map (kid n s) (children_of p))) inner_most) (all (λ c. counted ℕ Item document_sizes inner_fewest n c.tree) (map (kid n s) (children_of p))) f.counts in
      let b = both (leb least (length (map (kid n s) (children_of p)))) (leb (length (map (kid n s) (children_of p))) inner_most) a.0 in
      let many : least ≤ length (map (kid n s) (children_of p)) = leb-true least (length (map (kid n s) (children_of p))) b.0 in
      let few : length (map (kid n s) (children_of p)) ≤ inner_most = leb-true (length (map (kid n s) (children_of p))) inner_most b.1 in
      let c = both (first_low compare 0 (map (kid n s) (children_of p))) (ranges compare (ranged compare key_of 0 n) t.low.0 (some t.high.0) (map (kid n s) (children_of p))) f.keys in
      let e = children_cons p (omega arith) in
      let k = facts_kids n s t.high.0 (λ u v. facts_tree n inner_fewest u (omega arith) (lit≤ tt) v) t.low.0 (children_of p)
      (record { laid = f.laid.1; counts = a.1; keys = c.1; rests = f.rests }) in
      and_both (inner_ok (suc n) least t.low.0 t.high.0 p) (all (tree_ok n inner_fewest s) (spans t.low.0 t.high.0 (children_of p)))
      (facts_inner p (page_bytes t.page) (suc n) least t.low.0 t.high.0 small one
      (record {
        laid = f.laid.0;
        enough = omega arith;
        few = omega arith;
        first = eqb-true (child_at p 0).low.0 0 (subst (λ cs. first_low compare 0 (map (kid n s) cs) ≡ true) e c.0);
        above = subst (λ cs. aboves_of t.low.0 t.high.0 cs ≡ true) e k.1;
      }))
      k.0
