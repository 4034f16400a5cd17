-- The items in order: a tree's items ascend within its range, an insert puts the item in among them where it belongs, and the halves of what
-- it divides lie on their sides of the new separator. By induction on the level, from the ranges of the children. Assumes nothing.
use Prim.Native.Nat.{ℕ, zero, suc, ◌≤◌, Ordering}
use mathlib.Core.Path.{◌≡◌, refl, sym, ap, subst, ◌∙◌}
use mathlib.Core.Bool.{Bool, true, false, not}
use mathlib.Core.List.{List, [], ◌∷◌, ◌++◌, append-nil}
use mathlib.Core.Option.{Option, some}
use native.Mathlib.Omega.{arith}
use lib.Dec.{leb, compare_is_eq}
use lib.ListN.{length, take, drop, take-append-drop}
use borrow.Author.Tests.{leb-false}
use Rattle.lists.specs.Lists.{all, join, insert_before}
use Rattle.lists.proofs.Tests.{all_head, all_left, all_right}
use Rattle.lists.proofs.Joins.{join_append, Cut, cut}
use Rattle.lists.proofs.Places.{insert_before_past, insert_before_front}
use Rattle.rules.specs.Kinds.{Ordered}
use Rattle.trees.specs.Trees.{Sizes, Fair, Page, Child, Tree, flat, counted, at_most, inside, first_low, ranges, ranged}
use Rattle.trees.specs.Growth.{Grown, halves, divided, beside, parts, from_lowest, low_key, low_of, widened, missing, grown}
use Rattle.trees.proofs.KeyOrder.{same_itself}
use Rattle.trees.proofs.Spots.{Lies, start_of, end_of, widen}
use Rattle.trees.proofs.Sorted.{Sorted, test_sorted, sorted_test, sorted_cut, sorted_above, sorted_insert}
use Rattle.trees.proofs.ChildRanges.{Halves, InRange, ranged_in, in_ranged, ranges_sorted, ranges_cut, ranges_glue, child_range, child_changed, before_under, after_above}
use Rattle.trees.proofs.Counts.{counted_filled}

-- what a page holds is held by its halves, in order
halves_join : {K C B : Type 0} (w : List C → List B) → ((xs ys : List C) → w (xs ++ ys) ≡ w xs ++ w ys)
    → (stay : ℕ) (low : List C → K) (first : List C → List C) → ((xs : List C) → w (first xs) ≡ w xs)
    → (b : Bool) (s : K) (used number : ℕ) (xs : List C)
    → join (λ c. w c.tree.holds) (parts s (halves b stay low first used number xs)) ≡ w xs
unfolding join
halves_join w sum stay low first same true s used number xs = append-nil (w xs)
halves_join w sum stay low first same false s used number xs =
    ap (λ zs. w (take stay xs) ++ zs) (append-nil (w (first (drop stay xs))) ∙ same (drop stay xs))
    ∙ (sym (sum (take stay xs) (drop stay xs)) ∙ ap w (take-append-drop stay xs))

from_lowest_joins : {K T B : Type 0} (lowest : K) (g : T → List B) (cs : List (Child K T))
    → join (λ c. g c.tree) (from_lowest lowest cs) ≡ join (λ c. g c.tree) cs
unfolding join
from_lowest_joins lowest g [] = refl
from_lowest_joins lowest g (c ∷ cs) = refl

module _ {K A : Type 0} {compare : K → K → Ordering} (L : Ordered K compare) (key : A → K) (lowest : K) where
  pub flat_sorted : (n : ℕ) (lo : K) (hi : Option K) (t : Tree K A n) → ranged compare key lowest n lo hi t ≡ true
      → Sorted compare key lo hi (flat K A n t)
  unfolding ranged flat
  flat_sorted zero lo hi t h = test_sorted compare key lo hi t.holds h
  flat_sorted (suc n) lo hi t h =
      ranges_sorted L (ranged compare key lowest n) key (flat K A n) (flat_sorted n) lo hi t.holds (ranged_in compare key lowest n lo hi t h).each

  -- the item is put in among the items of the child that its key belongs to
  widened_flat : {T : Type 0} (f : K → Option K → T → Bool) (g : T → List A)
      → ((lo : K) (hi : Option K) (t : T) → f lo hi t ≡ true → Sorted compare key lo hi (g t))
      → (a : A) (p : T → Bool) (grow : T → Grown K T) (used : ℕ)
      → ((s lo : K) (hi : Option K) (t : T) → p t ≡ true → f lo hi t ≡ true → at_most compare lo (key a) ≡ true → inside compare (key a) hi ≡ true
      → join (λ c. g c.tree) (parts s (grow t)) ≡ insert_before (λ x. at_most compare (key a) (key x)) a (g t))
      → (lo : K) (hi : Option K) → at_most compare lo (key a) ≡ true → inside compare (key a) hi ≡ true
      → (cs : List (Child K T)) → 1 ≤ length cs → all (λ c. p c.tree) cs ≡ true → ranges compare f lo hi cs ≡ true
      → join (λ c. g c.tree) (widened compare (key a) grow used cs).children
      ≡ insert_before (λ x. at_most compare (key a) (key x)) a (join (λ c. g c.tree) cs)
  unfolding join all
  widened_flat {T} f g asc a p grow used ih lo hi l u =
      widen compare (key a) grow used
      (λ cs r. 1 ≤ length cs → all q cs ≡ true → ranges compare f lo hi cs ≡ true → items r.children ≡ put (items cs))
      (λ e m h. absurd (omega arith)) step
    where
      q : Child K T → Bool
      q c = p c.tree

      items : List (Child K T) → List A
      items = join (λ c. g c.tree)

      put : List A → List A
      put = insert_before (λ x. at_most compare (key a) (key x)) a

      step : (b : List (Child K T)) (c : Child K T) (r : List (Child K T)) → Lies compare (key a) (b ++ c ∷ r) b c r
          → 1 ≤ length (b ++ c ∷ r) → all q (b ++ c ∷ r) ≡ true → ranges compare f lo hi (b ++ c ∷ r) ≡ true
          → items (b ++ (parts c.low (grow c.tree) ++ r)) ≡ put (items (b ++ c ∷ r))
      step b c r lies e m h =
          let new = parts c.low (grow c.tree) in
          let own = ih c.low (start_of lo b c) (end_of hi r) c.tree (all_head q c r (all_right q b (c ∷ r) m))
          (child_range L f lo hi b c r h) (lies.from lo l) (lies.upto hi u) in
          let left = before_under L f key g asc (key a) lo lo hi b c r h (lies.from lo l) in
          let right = after_above L f key g asc (key a) lo hi b c r h (lies.upto hi u) in
          join_append (λ c. g c.tree) b (new ++ r)
          ∙ (ap (λ zs. items b ++ zs) (join_append (λ c. g c.tree) new r ∙ (ap (λ zs. zs ++ items r) own
          ∙ sym (insert_before_front (λ x. at_most compare (key a) (key x)) a (g c.tree) (items r) right)))
          ∙ (sym (insert_before_past (λ x. at_most compare (key a) (key x)) a (items b) (g c.tree ++ items r) left)
          ∙ ap put (sym (join_append (λ c. g c.tree) b (c ∷ r)))))

  pub grown_flat : (Z : Sizes) → Fair Z → (n least : ℕ) (a : A) (s lo : K) (hi : Option K) (used : ℕ) (t : Tree K A n) → 1 ≤ least
      → counted K A Z least n t ≡ true → ranged compare key lowest n lo hi t ≡ true
      → at_most compare lo (key a) ≡ true → inside compare (key a) hi ≡ true
      → join (λ c. flat K A n c.tree) (parts s (grown compare key lowest Z n a used t))
      ≡ insert_before (λ x. at_most compare (key a) (key x)) a (flat K A n t)
  unfolding grown flat
  grown_flat Z fair zero least a s lo hi used t e c h l u =
      let xs = insert_before (λ x. at_most compare (key a) (key x)) a t.holds in
      halves_join (λ ys. ys) (λ ys zs. refl) Z.leaf_stay (low_key key lowest) (λ ys. ys) (λ ys. refl)
      (leb (length xs) Z.leaf_most) s used t.number xs
  grown_flat Z fair (suc n) least a s lo hi used t e c h l u =
      let f = ranged compare key lowest n in
      let r = widened compare (key a) (grown compare key lowest Z n a used) used t.holds in
      let p = counted_filled K A Z least n t c in
      halves_join (join (λ c. flat K A n c.tree)) (join_append (λ c. flat K A n c.tree)) Z.inner_stay (low_of lowest) (from_lowest lowest)
      (from_lowest_joins lowest (flat K A n)) (leb (length r.children) Z.inner_most) s r.used t.number r.children
      ∙ widened_flat f (flat K A n) (flat_sorted n) a (counted K A Z Z.fewest n) (grown compare key lowest Z n a used) used
      (λ s lo hi t c h l u. grown_flat Z fair n Z.fewest a s lo hi used t (omega (arith, fair.fewest_some)) c h l u)
      lo hi l u t.holds (omega (arith, p.few)) p.each
      (ranged_in compare key lowest n lo hi t h).each

  -- the halves of a page on their sides of the new separator, for any test f of a range and a page
  halves_ranged : {C : Type 0} (f : K → Option K → Page C → Bool) (most stay : ℕ) (low : List C → K) (first : List C → List C)
      (s lo : K) (hi : Option K) (used number : ℕ) (xs : List C) → 1 ≤ stay → stay ≤ most
      → f lo hi (record { number = number; holds = xs }) ≡ true
      → ((c : Cut stay xs) → Halves L f lo (low (c.next ∷ c.rest)) hi
      (record { low = s; tree = record { number = number; holds = c.head ∷ c.heads } } ∷ [])
      (record { low = low (c.next ∷ c.rest); tree = record { number = used; holds = first (c.next ∷ c.rest) } } ∷ []))
      → ranges compare f lo hi (parts s (halves (leb (length xs) most) stay low first used number xs)) ≡ true
  unfolding ranges
  halves_ranged f most stay low first s lo hi used number xs some_stay few whole split = go (leb (length xs) most) refl
    where
      two : (c : Cut stay xs) → ranges compare f lo hi (parts s (halves false stay low first used number xs)) ≡ true
      two c =
          rw (c.taken, c.dropped)
          (ranges_glue L f lo hi (record { low = s; tree = record { number = number; holds = c.head ∷ c.heads } }) []
          (record { low = low (c.next ∷ c.rest); tree = record { number = used; holds = first (c.next ∷ c.rest) } }) [] (split c))

      go : (b : Bool) → leb (length xs) most ≡ b → ranges compare f lo hi (parts s (halves b stay low first used number xs)) ≡ true
      go true e = whole
      go false e = two (cut stay xs some_stay (omega (arith, leb-false (length xs) most e)))

  leaf_ranged : (Z : Sizes) → Fair Z → (s lo : K) (hi : Option K) (used number : ℕ) (xs : List A) → Sorted compare key lo hi xs
      → ranges compare (ranged compare key lowest 0) lo hi
      (parts s (divided Z.leaf_most Z.leaf_stay (low_key key lowest) (λ ys. ys) used number xs)) ≡ true
  unfolding ranges ranged
  leaf_ranged Z fair s lo hi used number xs d =
      halves_ranged (ranged compare key lowest 0) Z.leaf_most Z.leaf_stay (low_key key lowest) (λ ys. ys) s lo hi used number xs
      fair.leaf_some fair.leaf_left (sorted_test compare key lo hi xs d) split
    where
      split : (c : Cut Z.leaf_stay xs) → Halves L (ranged compare key lowest 0) lo (key c.next) hi
          (record { low = s; tree = record { number = number; holds = c.head ∷ c.heads } } ∷ [])
          (record { low = key c.next; tree = record { number = used; holds = c.next ∷ c.rest } } ∷ [])
      split c =
          let w = subst (Sorted compare key lo hi) c.whole d in
          let h = sorted_cut L key lo hi (c.head ∷ c.heads) c.next c.rest w in
          record {
            left = sorted_test compare key lo (some (key c.next)) (c.head ∷ c.heads) h.left;
            right = sorted_test compare key (key c.next) hi (c.next ∷ c.rest) h.right;
            over = sorted_above L key lo hi c.head c.next c.heads c.rest w;
            upto = h.upto;
          }

  first_low_free : {T : Type 0} (f : K → Option K → T → Bool) (lo x : K) (hi : Option K) (c : Child K T) (cs : List (Child K T))
      → ranges compare f lo hi (c ∷ cs) ≡ true → ranges compare f lo hi (record { low = x; tree = c.tree } ∷ cs) ≡ true
  unfolding ranges
  first_low_free f lo x hi c [] h = h
  first_low_free f lo x hi c (d ∷ cs) h = h

  inner_ranged : (Z : Sizes) → Fair Z → (n : ℕ) (s lo : K) (hi : Option K) (used number : ℕ) (cs : List (Child K (Tree K A n)))
      → InRange compare key lowest n lo hi cs
      → ranges compare (ranged compare key lowest (suc n)) lo hi
      (parts s (divided Z.inner_most Z.inner_stay (low_of lowest) (from_lowest lowest) used number cs)) ≡ true
  unfolding ranges
  inner_ranged Z fair n s lo hi used number cs r =
      halves_ranged (ranged compare key lowest (suc n)) Z.inner_most Z.inner_stay (low_of lowest) (from_lowest lowest) s lo hi used number cs
      (omega (arith, fair)) (omega (arith, fair)) (in_ranged compare key lowest n lo hi (record { number = number; holds = cs }) r) split
    where
      f : K → Option K → Tree K A n → Bool
      f = ranged compare key lowest n

      split : (c : Cut Z.inner_stay cs) → Halves L (ranged compare key lowest (suc n)) lo c.next.low hi
          (record { low = s; tree = record { number = number; holds = c.head ∷ c.heads } } ∷ [])
          (record { low = c.next.low; tree = record { number = used; holds = from_lowest lowest (c.next ∷ c.rest) } } ∷ [])
      split c =
          let w = subst (InRange compare key lowest n lo hi) c.whole r in
          let h = ranges_cut L f lo hi c.head c.heads c.next c.rest w.each in
          record {
            left = in_ranged compare key lowest n lo (some c.next.low) (record { number = number; holds = c.head ∷ c.heads })
                (record { first = w.first; each = h.left });
            right = in_ranged compare key lowest n c.next.low hi (record { number = used; holds = from_lowest lowest (c.next ∷ c.rest) })
                (record { first = same_itself L lowest; each = first_low_free f c.next.low lowest hi c.next c.rest h.right });
            over = h.over;
            upto = h.upto;
          }

  -- a row of children, one of which has grown
  first_kept : {T : Type 0} (b : List (Child K T)) (c : Child K T) (r xs : List (Child K T)) (t : T)
      → first_low compare lowest (b ++ c ∷ r) ≡ true → first_low compare lowest (b ++ (record { low = c.low; tree = t } ∷ xs)) ≡ true
  first_kept [] c r xs t h = h
  first_kept (b ∷ bs) c r xs t h = h

  widened_ranged : (n : ℕ) (a : A) (grow : Tree K A n → Grown K (Tree K A n)) (used : ℕ)
      → ((s lo : K) (hi : Option K) (t : Tree K A n) → ranged compare key lowest n lo hi t ≡ true → at_most compare lo (key a) ≡ true
      → inside compare (key a) hi ≡ true → missing compare key (key a) (flat K A n t) ≡ true
      → ranges compare (ranged compare key lowest n) lo hi (parts s (grow t)) ≡ true)
      → (lo : K) (hi : Option K) → at_most compare lo (key a) ≡ true → inside compare (key a) hi ≡ true
      → (cs : List (Child K (Tree K A n))) → missing compare key (key a) (join (λ c. flat K A n c.tree) cs) ≡ true
      → InRange compare key lowest n lo hi cs → InRange compare key lowest n lo hi (widened compare (key a) grow used cs).children
  unfolding join
  widened_ranged n a grow used ih lo hi l u =
      widen compare (key a) grow used
      (λ cs r. all other (items cs) ≡ true → InRange compare key lowest n lo hi cs → InRange compare key lowest n lo hi r.children) (λ m h. h) step
    where
      other : A → Bool
      other x = not (compare_is_eq (compare (key x) (key a)))

      items : List (Child K (Tree K A n)) → List A
      items = join (λ c. flat K A n c.tree)

      step : (b : List (Child K (Tree K A n))) (c : Child K (Tree K A n)) (r : List (Child K (Tree K A n))) → Lies compare (key a) (b ++ c ∷ r) b c r
          → all other (items (b ++ c ∷ r)) ≡ true → InRange compare key lowest n lo hi (b ++ c ∷ r)
          → InRange compare key lowest n lo hi (b ++ (parts c.low (grow c.tree) ++ r))
      step b c r lies m h =
          let f = ranged compare key lowest n in
          let g = grow c.tree in
          let absent = all_right other (items b) (items (c ∷ r))
          (subst (λ zs. all other zs ≡ true) (join_append (λ c. flat K A n c.tree) b (c ∷ r)) m) in
          record {
            first = first_kept b c r (beside g.beside ++ r) g.tree h.first;
            each = child_changed L f lo hi b c r g.tree (beside g.beside) h.each
                (ih c.low (start_of lo b c) (end_of hi r) c.tree (child_range L f lo hi b c r h.each) (lies.from lo l) (lies.upto hi u)
                (all_left other (flat K A n c.tree) (items r) absent));
          }

  pub grown_ranged : (Z : Sizes) → Fair Z → (n : ℕ) (a : A) (s lo : K) (hi : Option K) (used : ℕ) (t : Tree K A n)
      → ranged compare key lowest n lo hi t ≡ true → at_most compare lo (key a) ≡ true → inside compare (key a) hi ≡ true
      → missing compare key (key a) (flat K A n t) ≡ true
      → ranges compare (ranged compare key lowest n) lo hi (parts s (grown compare key lowest Z n a used t)) ≡ true
  unfolding grown flat
  grown_ranged Z fair zero a s lo hi used t h l u m =
      leaf_ranged Z fair s lo hi used t.number (insert_before (λ x. at_most compare (key a) (key x)) a t.holds)
      (sorted_insert L key lo hi a t.holds l u m (flat_sorted 0 lo hi t h))
  grown_ranged Z fair (suc n) a s lo hi used t h l u m =
      let r = widened compare (key a) (grown compare key lowest Z n a used) used t.holds in
      inner_ranged Z fair n s lo hi r.used t.number r.children
      (widened_ranged n a (grown compare key lowest Z n a used) used (λ s lo hi t. grown_ranged Z fair n a s lo hi used t)
      lo hi l u t.holds m (ranged_in compare key lowest n lo hi t h))
