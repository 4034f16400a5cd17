-- The whole: an index that is whole stays so when a missing key that fits is put in, its items are then those before with the new one where
-- it belongs, and a fresh index is whole. The parts put together, with the new root if there is one. Assumes nothing.
use Prim.Native.Nat.{ℕ, ◌+◌, Ordering}
use mathlib.Core.Path.{◌≡◌, refl, sym, ◌∙◌}
use mathlib.Core.Bool.{true}
use mathlib.Core.List.{[], ◌∷◌, append-nil}
use mathlib.Core.Option.{Option, none, some}
use native.Mathlib.Omega.{arith}
use lib.Dec.{leb-zero}
use borrow.Author.Tests.{leb-true}
use Rattle.lists.specs.Lists.{all, pairs, join, insert_before}
use Rattle.rules.specs.Kinds.{Ordered}
use Rattle.trees.specs.Trees.{Sizes, document_sizes, Fair, Child, Tree, Index, WholeIndex, flat, times, counted, at_most, inside, ranges, ranged}
use Rattle.trees.specs.Growth.{Grown, beside, missing, grown, rooted, with_item, needed, fits}
use Rattle.trees.specs.Shapes.{bare}
use Rattle.trees.proofs.KeyOrder.{same_itself}
use Rattle.trees.proofs.ChildRanges.{in_ranged}
use Rattle.trees.proofs.PageCounts.{above_next, with_once}
use Rattle.trees.proofs.Counts.{with_counted}
use Rattle.trees.proofs.Need.{with_needed}
use Rattle.trees.proofs.ItemOrder.{grown_flat, grown_ranged}

pub document_fair : Fair document_sizes
document_fair =
    record {
      leaf_some = omega arith;
      leaf_left = omega arith;
      inner_enough = omega arith;
      inner_moved = omega arith;
      fewest_some = omega arith;
      fresh = omega arith;
    }

module _ {K A : Type 0} {compare : K → K → Ordering} (L : Ordered K compare) (key : A → K) (lowest : K) (top : Option K) (Z : Sizes)
    (fair : Fair Z) where
  rooted_flat : (n : ℕ) (g : Grown K (Tree K A n)) (o : Option (Child K (Tree K A n)))
      → let x = rooted compare key lowest Z n g o in
      flat K A x.level x.tree ≡ join (λ c. flat K A n c.tree) (record { low = lowest; tree = g.tree } ∷ beside o)
  unfolding rooted flat join
  rooted_flat n g none = sym (append-nil (flat K A n g.tree))
  rooted_flat n g (some c) = refl

  rooted_ranged : (n : ℕ) (g : Grown K (Tree K A n)) (o : Option (Child K (Tree K A n)))
      → ranges compare (ranged compare key lowest n) lowest top (record { low = lowest; tree = g.tree } ∷ beside o) ≡ true
      → let x = rooted compare key lowest Z n g o in ranged compare key lowest x.level lowest top x.tree ≡ true
  unfolding rooted ranges
  rooted_ranged n g none h = h
  rooted_ranged n g (some c) h =
      in_ranged compare key lowest n lowest top (record { number = g.used; holds = record { low = lowest; tree = g.tree } ∷ c ∷ [] })
      (record { first = same_itself L lowest; each = h })

  pub with_flat : (a : A) (x : Index K A) → WholeIndex compare key lowest top Z x
      → at_most compare lowest (key a) ≡ true → inside compare (key a) top ≡ true
      → let y = with_item compare key lowest Z a x in
      flat K A y.level y.tree ≡ insert_before (λ i. at_most compare (key a) (key i)) a (flat K A x.level x.tree)
  unfolding with_item
  with_flat a x w l u =
      let g = grown compare key lowest Z x.level a x.used x.tree in
      rooted_flat x.level g g.beside
      ∙ grown_flat L key lowest Z fair x.level 2 a lowest lowest top x.used x.tree (omega arith) w.counts w.keys l u

  pub with_whole : (a : A) (x : Index K A) → WholeIndex compare key lowest top Z x
      → at_most compare lowest (key a) ≡ true → inside compare (key a) top ≡ true → missing compare key (key a) (flat K A x.level x.tree) ≡ true
      → fits compare key lowest Z (key a) x ≡ true → WholeIndex compare key lowest top Z (with_item compare key lowest Z a x)
  unfolding with_item fits
  with_whole a x w l u m f =
      let g = grown compare key lowest Z x.level a x.used x.tree in
      record {
        pages = with_once compare key lowest Z a x w.pages;
        counts = with_counted K A Z fair compare key lowest a x w.counts;
        keys = rooted_ranged x.level g g.beside
            (grown_ranged L key lowest Z fair x.level a lowest lowest top x.used x.tree w.keys l u m);
        room = omega
            (arith, with_needed compare key lowest Z 2 a x w.counts, leb-true (x.used + needed compare key lowest Z (key a) x) Z.pages f);
      }

  pub bare_whole : WholeIndex {A = A} compare key lowest top Z bare
  unfolding times counted ranged all pairs
  bare_whole =
      record { pages = record { once = above_next 1 }; counts = leb-zero Z.leaf_most; keys = refl; room = fair.fresh }
