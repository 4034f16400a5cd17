-- An inner page that passes its test has the bytes that its children write, with as many of them as it may have, the first separator 0 and
-- the others in order and in range; and a page that has all this passes. By the law of pages of rows. Assumes nothing.
use mathlib.Core.Path.{◌≡◌, refl, sym, subst}
use mathlib.Core.Bool.{Bool, true, ◌&&◌}
use mathlib.Core.List.{List, [], ◌∷◌, map}
use Prim.Native.Nat.{ℕ, ◌+◌, ◌*◌, ◌-◌, ◌≤◌, ◌<◌}
use native.Mathlib.Decide.{ℕ_discrete}
use native.Mathlib.Omega.{arith}
use borrow.Author.Tests.{leb-true, le-leb, eqb-true, eq-eqb}
use lib.Dec.{leb, eqb, lit<, lit≤}
use lib.ListN.{length, get_or}
use Rattle.limits.specs.Limits.{key_size, page_size, head_size, body_size, child_size, inner_most}
use Rattle.lists.specs.Lists.{tab, all}
use Rattle.lists.proofs.Tests.{both, and_both}
use Rattle.lists.proofs.Tables.{map_tab, all_tab, all_of_tab}
use Rattle.numbers.specs.Numbers.{number_at, fields_at, width_of, zero_at, Bytes, Fits}
use Rattle.numbers.proofs.Numbers.{number_below}
use Rattle.rows.specs.PageHead.{count_of, level_of, kind_of}
use Rattle.pages.specs.PageLayout.{child_widths, child_in, child_fields, child_at, children_of}
use Rattle.pages.specs.PageChanges.{child_row}
use Rattle.index.specs.Pictures.{inner_page}
use Rattle.judging_pages.specs.PageChecks.{head_ok, between, fillers_ok, first_ok, child_fields_at, children_ok, inner_ok, aboves}
use Rattle.judging_pages.proofs.Layouts.{laid, told_head, told_rest, told_each}
use Rattle.judging_pages.proofs.EntriesJudged.{child_back, back_child, child_fits}

children_above : (lo hi : ℕ) (vss : List (List ℕ)) → children_ok lo hi vss ≡ true → (aboves lo hi (map child_in vss) ≡ true) × (all fillers_ok vss ≡ true)
unfolding children_ok aboves all child_in
children_above lo hi [] h = (refl, refl)
children_above lo hi (vs ∷ vss) h =
    let a = both (between lo hi (get_or vs 0 0) && fillers_ok vs) (children_ok (get_or vs 0 0) hi vss) h in
    let b = both (between lo hi (get_or vs 0 0)) (fillers_ok vs) a.0 in
    let t = children_above (get_or vs 0 0) hi vss a.1 in
    (and_both (between lo hi (get_or vs 0 0)) (aboves (get_or vs 0 0) hi (map child_in vss)) b.0 t.0, and_both (fillers_ok vs) (all fillers_ok vss) b.1 t.1)

above_children : (lo hi : ℕ) (vss : List (List ℕ)) → aboves lo hi (map child_in vss) ≡ true → all fillers_ok vss ≡ true → children_ok lo hi vss ≡ true
unfolding children_ok aboves all child_in
above_children lo hi [] s h = refl
above_children lo hi (vs ∷ vss) s h =
    let a = both (between lo hi (get_or vs 0 0)) (aboves (get_or vs 0 0) hi (map child_in vss)) s in
    let b = both (fillers_ok vs) (all fillers_ok vss) h in
    and_both (between lo hi (get_or vs 0 0) && fillers_ok vs) (children_ok (get_or vs 0 0) hi vss) (and_both (between lo hi (get_or vs 0 0)) (fillers_ok vs) a.0 b.0)
    (above_children (get_or vs 0 0) hi vss a.1 b.1)

pub record InnerFacts (level least lo hi : ℕ) (p : List ℕ) : Type 0 where
  pub laid : p ≡ inner_page level (children_of p)
  pub enough : least ≤ count_of p
  pub few : count_of p ≤ inner_most
  pub first : (child_at p 0).low.0 ≡ 0
  pub above : aboves lo hi (tab (count_of p - 1) 1 (child_at p)) ≡ true

children_map : (p : List ℕ) → map child_in (tab (count_of p - 1) 1 (child_fields_at p)) ≡ tab (count_of p - 1) 1 (child_at p)
unfolding child_at child_fields_at
children_map p = map_tab child_in (count_of p - 1) 1 (child_fields_at p)

head_level : (kind level : ℕ) (p : List ℕ) → head_ok kind level p ≡ true → level_of p ≡ level
unfolding head_ok
head_level kind level p h =
    eqb-true (level_of p) level (both (eqb (number_at 2 p 0) page_size && eqb (kind_of p) kind) (eqb (level_of p) level)
    (both ((eqb (number_at 2 p 0) page_size && eqb (kind_of p) kind) && eqb (level_of p) level) (eqb (number_at 8 p 8) 0) h).0).1

pub head_length : (kind level : ℕ) (p : List ℕ) → head_ok kind level p ≡ true → number_at 2 p 0 ≡ page_size
unfolding head_ok
head_length kind level p h =
    eqb-true (number_at 2 p 0) page_size (both (eqb (number_at 2 p 0) page_size) (eqb (kind_of p) kind)
    (both (eqb (number_at 2 p 0) page_size && eqb (kind_of p) kind) (eqb (level_of p) level)
    (both ((eqb (number_at 2 p 0) page_size && eqb (kind_of p) kind) && eqb (level_of p) level) (eqb (number_at 8 p 8) 0) h).0).0).0

module _ (p : List ℕ) (g : Bytes p) where
  plain_at : (i : ℕ) → fillers_ok (child_fields_at p i) ≡ true → child_fields (child_in (fields_at child_widths p (head_size + child_size * i))) ≡ fields_at child_widths p (head_size + child_size * i)
  unfolding child_fields_at fields_at
  plain_at i h =
      child_back (number_at key_size p (head_size + child_size * i)) (number_at 2 p (head_size + child_size * i + key_size)) (number_at 2 p (head_size + child_size * i + key_size + 2)) (number_at 4 p (head_size + child_size * i + key_size + 2 + 2)) h

  at_plain : (i : ℕ) → child_fields (child_in (fields_at child_widths p (head_size + child_size * i))) ≡ fields_at child_widths p (head_size + child_size * i) → fillers_ok (child_fields_at p i) ≡ true
  unfolding child_fields_at fields_at
  at_plain i e =
      back_child (number_at key_size p (head_size + child_size * i)) (number_at 2 p (head_size + child_size * i + key_size)) (number_at 2 p (head_size + child_size * i + key_size + 2)) (number_at 4 p (head_size + child_size * i + key_size + 2 + 2)) e

  fits_at : (i : ℕ) → Fits child_widths (child_fields (child_in (fields_at child_widths p (head_size + child_size * i))))
  unfolding fields_at
  fits_at i =
      child_fits (number_at key_size p (head_size + child_size * i)) (number_at 2 p (head_size + child_size * i + key_size)) (number_at 2 p (head_size + child_size * i + key_size + 2)) (number_at 4 p (head_size + child_size * i + key_size + 2 + 2))
      (number_below key_size p (head_size + child_size * i) g) (number_below 2 p (head_size + child_size * i + key_size) g)

  module _ (level least lo hi : ℕ) where
    abbrev front : Bool
    front = head_ok 3 level p && (leb least (count_of p) && leb (count_of p) inner_most)

    pub inner_facts : length p ≡ page_size → 1 ≤ least → inner_ok level least lo hi p ≡ true → InnerFacts level least lo hi p
    unfolding inner_ok inner_page child_row children_of child_at child_in child_fields_at first_ok width_of
    inner_facts size one h =
        let a = both ((front && first_ok (child_fields_at p 0)) && children_ok lo hi (tab (count_of p - 1) 1 (child_fields_at p))) (zero_at (body_size - child_size * count_of p) (head_size + child_size * count_of p) p) h in
        let b = both (front && first_ok (child_fields_at p 0)) (children_ok lo hi (tab (count_of p - 1) 1 (child_fields_at p))) a.0 in
        let c = both front (first_ok (child_fields_at p 0)) b.0 in
        let d = both (head_ok 3 level p) (leb least (count_of p) && leb (count_of p) inner_most) c.0 in
        let f = both (leb least (count_of p)) (leb (count_of p) inner_most) d.1 in
        let enough = leb-true least (count_of p) f.0 in
        let few = leb-true (count_of p) inner_most f.1 in
        let z = both (eqb (get_or (child_fields_at p 0) 0 0) 0) (fillers_ok (child_fields_at p 0)) c.1 in
        let o = children_above lo hi (tab (count_of p - 1) 1 (child_fields_at p)) b.1 in
        let l : level < 65536 = subst (λ x. x < 65536) (head_level 3 level p d.0) (number_below 2 p 6 g) in
        let each : (i : ℕ) → i < count_of p → fillers_ok (child_fields_at p i) ≡ true =
        (λ i m. elim (ℕ_discrete i 0) [
          | yes e ↦ rw e z.1
          | no e ↦ all_tab fillers_ok (count_of p - 1) 1 (child_fields_at p) i o.1 (omega arith) (omega arith)
        ]) in
        record {
          laid = laid 3 level child_size inner_most child_widths (lit< tt) l refl (lit≤ tt) (lit< tt) child_in child_fields p g few size d.0 a.1 (λ i m. plain_at i (each i m));
          enough = enough;
          few = few;
          first = eqb-true (get_or (child_fields_at p 0) 0 0) 0 z.0;
          above = subst (λ cs. aboves lo hi cs ≡ true) (children_map p) o.0;
        }

    module _ (l : level < 65536) (one : 1 ≤ least) (f : InnerFacts level least lo hi p) where
      pub facts_inner : inner_ok level least lo hi p ≡ true
      unfolding inner_ok inner_page child_row children_of child_at child_in child_fields_at first_ok width_of
      facts_inner =
          let plain = told_each 3 level child_size inner_most child_widths (lit< tt) l refl (lit≤ tt) (lit< tt) child_in child_fields p g f.few fits_at f.laid in
          let each : (i : ℕ) → i < count_of p → fillers_ok (child_fields_at p i) ≡ true = (λ i m. at_plain i (plain i m)) in
          let some : 1 ≤ count_of p = (let e = f.enough in omega arith) in
          and_both ((front && first_ok (child_fields_at p 0)) && children_ok lo hi (tab (count_of p - 1) 1 (child_fields_at p))) (zero_at (body_size - child_size * count_of p) (head_size + child_size * count_of p) p)
          (and_both (front && first_ok (child_fields_at p 0)) (children_ok lo hi (tab (count_of p - 1) 1 (child_fields_at p)))
          (and_both front (first_ok (child_fields_at p 0))
          (and_both (head_ok 3 level p) (leb least (count_of p) && leb (count_of p) inner_most)
          (told_head 3 level child_size inner_most child_widths (lit< tt) l refl (lit≤ tt) (lit< tt) child_in child_fields p g f.few fits_at f.laid)
          (and_both (leb least (count_of p)) (leb (count_of p) inner_most) (le-leb least (count_of p) f.enough) (le-leb (count_of p) inner_most f.few)))
          (and_both (eqb (get_or (child_fields_at p 0) 0 0) 0) (fillers_ok (child_fields_at p 0)) (eq-eqb (get_or (child_fields_at p 0) 0 0) 0 f.first) (each 0 (omega arith))))
          (above_children lo hi (tab (count_of p - 1) 1 (child_fields_at p)) (subst (λ cs. aboves lo hi cs ≡ true) (sym (children_map p)) f.above)
          (all_of_tab fillers_ok (count_of p - 1) 1 (child_fields_at p) (λ i m n. each i (omega arith)))))
          (told_rest 3 level child_size inner_most child_widths (lit< tt) l refl (lit≤ tt) (lit< tt) child_in child_fields p g f.few fits_at f.laid)
