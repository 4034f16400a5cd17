-- The page buffer passes its test exactly where it is whole and every entry that has no owner is settled.
-- The walk sets down each page of the tree as often as it stands there, and at the end just the used ones are set. Assumes nothing.
use mathlib.Core.Path.{◌≡◌, refl, sym, ap, ap₂, ◌∙◌}
use Rattle.std.specs.Prelude as Code
use mathlib.Core.Bool.{Bool, true, false, cond, ◌&&◌, false≢true}
use mathlib.Core.List.{List}
use Prim.Native.Nat.{ℕ, zero, suc, ◌+◌, ◌*◌, ◌-◌, ◌≤◌, ◌<◌}
use native.Mathlib.Decide.{dec_lt, ℕ_discrete}
use native.Mathlib.Omega.{arith}
use borrow.Author.Tests.{eq-eqb, le-leb, lt-ltb}
use lib.Dec.{eqb, leb, ltb, lit≤}
use lib.ListN.{length}
use Rattle.limits.specs.Limits.{pages_most, page_size, head_size, pages_size}
use Rattle.lists.specs.Lists.{In}
use Rattle.lists.specs.Lists as L
use Rattle.lists.proofs.Tests.{both, and_both}
use Rattle.lists.proofs.Tables.{all_tab, all_of_tab}
use Rattle.numbers.specs.Numbers.{zero_at, Bytes}
use Rattle.numbers.proofs.Numbers.{number_below}
use Rattle.numbers.proofs.Parts.{length_part}
use Rattle.numbers.proofs.BytesKept.{bytes_part}
use Rattle.sets.specs.declared.Set.{Set}
use Rattle.sets.specs.Sets.{has}
use Rattle.sets.proofs.Sets.{times_in, times_of_has, has_of_times, alone_one, alone_none}
use Rattle.rules.specs.Document.{end_mark}
use Rattle.trees.specs.Trees.{above}
use Rattle.trees.proofs.PageCounts.{above_yes, above_no}
use Rattle.rows.specs.PageHead.{root_of, used_of, height_of}
use Rattle.index.specs.Pictures.{Item, page_at, index_of, entries_in, WholePages}
use Rattle.judging_pages.specs.declared.Span.{Span}
use Rattle.judging_pages.specs.PageChecks.{first_page_ok}
use Rattle.judging_pages.specs.Walks.{span_of, only_zero, guard, marks, tree_ok, seen_ok, went_ok, front_ok, tree_in, pages_ok}
use Rattle.judging_pages.proofs.EntriesJudged.{Rests}
use Rattle.judging_pages.proofs.PagesMarked.{reached, walk_is, marks_went, marks_used, marks_go}
use Rattle.judging_pages.proofs.TreesJudged.{times_reached, tree_facts, facts_tree}
use Rattle.judging_pages.proofs.PageZero.{first_laid, laid_first, spare_zero, zero_spare}
use Rattle.judging_pages.proofs.Tops.{front_parts}

pub record PagesFacts (s : List ℕ) : Type 0 where
  pub whole : WholePages s
  pub rests : (e : Item) → In e (entries_in s) → e.owner ≡ 0 → Rests e

pub guard_went : (b : Bool) (w : Code.Option Set) (m : Set) → guard b w ≡ Code.Some m → (b ≡ true) × (w ≡ Code.Some m)
guard_went true w m h = (refl, h)
guard_went false w m h = absurd (let z : ◌≡◌ {A = ℕ} 0 1 = cc in omega arith)

pub went_ok_lem : (used : ℕ) (w : Code.Option Set) → went_ok used w ≡ true → (m : Set) × (w ≡ Code.Some m) × (seen_ok used m ≡ true)
went_ok_lem used (Code.Some m) h = (m, refl, h)
went_ok_lem used Code.None h = absurd (false≢true h)

-- ---- each page once
module _ (used n : ℕ) (s : List ℕ) (root : ℕ) where
  abbrev ps : List ℕ
  ps = reached n s root

  root_there : 0 < L.times root (reached n s root)
  unfolding reached L.times
  root_there = go n
    where
      itself : ◌≡◌ {A = ℕ} (cond (eqb root root) 1 0) 1
      itself = ap (λ b. cond {A = ℕ} b 1 0) (eq-eqb root root refl)

      go : (n : ℕ) → 0 < L.times root (reached n s root)
      go zero = omega (arith, itself)
      go (suc n) = omega (arith, itself)

  seen_at : (m : Set) (q : ℕ) → seen_ok used m ≡ true → q < used → times_in q m ≡ 1
  unfolding seen_ok
  seen_at m q h l = times_of_has m q true (all_tab (has m) used 0 (λ k. k) q h (omega arith) (omega arith))

  at_seen : (m : Set) → ((q : ℕ) → q < used → times_in q m ≡ 1) → seen_ok used m ≡ true
  unfolding seen_ok
  at_seen m h = all_of_tab (has m) used 0 (λ k. k) (λ q a b. has_of_times m q true (h q (omega arith)))

  pub once_each : (m : Set) → marks used (reached n s root) only_zero ≡ Code.Some m → seen_ok used m ≡ true → (q : ℕ) → L.times q (reached n s root) + above used q ≡ above 1 q
  once_each m w h q =
      let any : 1 ≤ used =
      elim (dec_lt root used) [
        | yes l ↦ omega arith
        | no l ↦ absurd (let z = marks_used used ps only_zero m w root (omega arith) in let r = root_there in omega arith)
      ] in
      at any (dec_lt q used) (ℕ_discrete q 0)
    where
      at : 1 ≤ used → Dec (q < used) → Dec (q ≡ 0) → L.times q (reached n s root) + above used q ≡ above 1 q
      at i (yes l) (yes z) =
          let b = marks_went used ps only_zero m w q in
          let e = seen_at m q h l in
          let o = alone_one 0 q (sym z) in
          omega (arith, above_no used q l, above_no 1 q (omega arith))
      at i (yes l) (no z) =
          let b = marks_went used ps only_zero m w q in
          let e = seen_at m q h l in
          let o = alone_none 0 q (λ e. z (sym e)) in
          omega (arith, above_no used q l, above_yes 1 q (omega arith))
      at i (no l) z =
          let t = marks_used used ps only_zero m w q (omega arith) in
          omega (arith, above_yes used q (omega arith), above_yes 1 q (omega arith))

  module _ (h : (q : ℕ) → L.times q (reached n s root) + above used q ≡ above 1 q) where
    small : (q : ℕ) → above 1 q ≤ 1
    small q = elim (dec_lt q 1) [ yes l ↦ omega (arith, above_no 1 q l) | no l ↦ omega (arith, above_yes 1 q (omega arith)) ]

    pub each_once : (m : Set) × (marks used (reached n s root) only_zero ≡ Code.Some m) × (seen_ok used m ≡ true)
    each_once =
        let w = marks_go used ps only_zero
        (λ q l. elim (dec_lt q used) [
          | yes i ↦ i
          | no i ↦ absurd (omega (arith, h q, small q, above_yes used q (omega arith)))
        ])
        (λ q. elim (ℕ_discrete q 0) [
          | yes z ↦ let o = alone_one 0 q (sym z) in omega (arith, h q, above_no 1 q (omega arith))
          | no z ↦ let o = alone_none 0 q (λ e. z (sym e)) in omega (arith, h q, small q)
        ]) in (
          w.0,
          w.1,
          at_seen w.0
              (λ q l.
              let b = marks_went used ps only_zero w.0 w.1 q in
              elim (ℕ_discrete q 0) [
                | yes z ↦ let o = alone_one 0 q (sym z) in omega (arith, h q, above_no 1 q (omega arith))
                | no z ↦ let o = alone_none 0 q (λ e. z (sym e)) in omega (arith, h q, above_no used q l, above_yes 1 q (omega arith))
              ]),
        )

-- ---- the buffer
module _ (s : List ℕ) (g : Bytes s) where
  first_bytes : Bytes (page_at s 0)
  unfolding page_at
  first_bytes = bytes_part (page_size * 0) page_size s g

  first_size : length s ≡ pages_size → length (page_at s 0) ≡ page_size
  unfolding page_at
  first_size size = length_part (page_size * 0) page_size s (omega arith)

  abbrev root : ℕ
  root = root_of (page_at s 0)

  abbrev used : ℕ
  used = used_of (page_at s 0)

  abbrev level : ℕ
  level = height_of (page_at s 0) - 1

  abbrev top : Span
  top = span_of root 0 end_mark

  tree_is : tree_in s ≡ guard (tree_ok level 2 s top) (marks used (reached level s root) only_zero)
  unfolding tree_in
  tree_is = walk_is level 2 s used top only_zero

  pub pages_sound : length s ≡ pages_size → pages_ok s ≡ true → PagesFacts s
  unfolding pages_ok index_of entries_in
  pages_sound size h =
      let a = both (front_ok s && went_ok used (tree_in s)) (zero_at (pages_size - page_size * used) (page_size * used) s) h in
      let b = both (front_ok s) (went_ok used (tree_in s)) a.0 in
      let f = front_parts s b.0 in
      let w = went_ok_lem used (tree_in s) b.1 in
      let d = guard_went (tree_ok level 2 s top) (marks used (reached level s root) only_zero) w.0 (sym tree_is ∙ w.1) in
      let t = tree_facts s g size level 2 top (lit≤ tt) d.0 in
      record {
        whole = record {
          size = size;
          head = first_laid (page_at s 0) first_bytes (first_size size) f.0;
          tall = f.2;
          laid = t.laid;
          spare = spare_zero s size used f.1 a.1;
          index = record {
            pages = record { once = λ q. ap (λ x. x + above used q) (times_reached level s root q) ∙ once_each used level s root w.0 d.1 w.2 q };
            counts = t.counts;
            keys = t.keys;
            room = f.1;
          };
        };
        rests = t.rests;
      }

  pub pages_complete : PagesFacts s → pages_ok s ≡ true
  unfolding pages_ok index_of entries_in front_ok
  pages_complete k =
      let size = k.whole.size in
      let x = k.whole.index in
      let few : used ≤ pages_most = x.room in
      let low : level < 65536 = (let m = number_below 2 (page_at s 0) (head_size + 4) first_bytes in omega arith) in
      let t = facts_tree s g size level 2 top low (lit≤ tt) (record { laid = k.whole.laid; counts = x.counts; keys = x.keys; rests = k.rests }) in
      let w = each_once used level s root (λ q. ap (λ y. y + above used q) (sym (times_reached level s root q)) ∙ x.pages.once q) in
      let d : tree_in s ≡ Code.Some w.0 = tree_is ∙ ap₂ (λ b v. guard b v) t w.1 in
      let f = laid_first (page_at s 0) first_bytes k.whole.head in
      and_both (front_ok s && went_ok used (tree_in s)) (zero_at (pages_size - page_size * used) (page_size * used) s)
      (and_both (front_ok s) (went_ok used (tree_in s))
      (and_both (first_page_ok (page_at s 0)) (leb used pages_most && ltb 0 (height_of (page_at s 0))) f.0
      (and_both (leb used pages_most) (ltb 0 (height_of (page_at s 0))) (le-leb used pages_most few) (lt-ltb 0 (height_of (page_at s 0)) k.whole.tall)))
      (ap (went_ok used) d ∙ w.2))
      (zero_spare s size used few k.whole.spare)
