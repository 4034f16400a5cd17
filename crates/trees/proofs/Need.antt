-- How many pages an insert takes: as many as full_run counts, and one more for a new root; a tree is put beside just where the run is
-- unbroken to the top. By induction on the level; of the children only how many they are is known. Assumes nothing.
use Prim.Native.Nat.{ℕ, zero, suc, ◌+◌, ◌≤◌, Ordering}
use mathlib.Core.Path.{◌≡◌, refl}
use mathlib.Core.Logic.{◌⊎◌, inl, inr}
use mathlib.Core.Bool.{Bool, true, false, cond, ◌&&◌}
use mathlib.Core.List.{List, ◌∷◌, ◌++◌}
use mathlib.Core.Option.{Option, none, some}
use native.Mathlib.Omega.{arith}
use lib.Dec.{leb, eqb}
use lib.ListN.{length, length-append}
use borrow.Author.Tests.{leb-true, leb-false, le-leb, eq-eqb, ne_eqb}
use Rattle.lists.specs.Lists.{insert_before, all}
use Rattle.lists.proofs.Tests.{all_head, all_right}
use Rattle.lists.proofs.Places.{length_insert_before}
use Rattle.trees.specs.Trees.{Sizes, Child, Tree, Index, counted, at_most}
use Rattle.trees.specs.Growth.{Grown, Row, halves, beside, parts, from_lowest, low_key, low_of, widened, belongs, grown, rooted, with_item, full_run, needed}
use Rattle.trees.proofs.Spots.{widen}
use Rattle.trees.proofs.Counts.{counted_filled}

-- whether there is a tree beside, by the run r of full pages in a tree of level n
abbrev pub Run : {K T : Type 0} → ℕ → ℕ → Option (Child K T) → Type 0
Run n r none = r ≤ n
Run n r (some c) = r ≡ suc n

pub record Needs {K T : Type 0} (n used r : ℕ) (g : Grown K T) : Type 0 where
  pub more : g.used ≡ used + r
  pub run : Run n r g.beside

-- the same of a row of children: one more of them just where the run is unbroken
record Needs-row {K T : Type 0} (n used r : ℕ) (cs : List (Child K T)) (row : Row K T) : Type 0 where
  more : row.used ≡ used + r
  run : ((length row.children ≡ length cs) × (r ≤ n)) ⊎ ((length row.children ≡ suc (length cs)) × (r ≡ suc n))

module _ {K C : Type 0} (stay : ℕ) (low : List C → K) (first : List C → List C) where
  leaf_needs : (most used number m : ℕ) (xs : List C) → length xs ≡ suc m
      → Needs 0 used (cond (leb most m) 1 0) (halves (leb (length xs) most) stay low first used number xs)
  leaf_needs most used number m xs h = go (leb most m) (leb (length xs) most) refl refl
    where
      go : (b c : Bool) → leb most m ≡ b → leb (length xs) most ≡ c → Needs 0 used (cond b 1 0) (halves c stay low first used number xs)
      go true true d e = absurd (omega (arith, leb-true most m d, leb-true (length xs) most e))
      go true false d e = record { more = refl; run = refl }
      go false true d e = record { more = omega arith; run = omega arith }
      go false false d e = absurd (omega (arith, leb-false most m d, leb-false (length xs) most e))

  inner_needs : (n most used number r m : ℕ) (cs : List C) (u : ℕ) → m ≤ most → u ≡ used + r
      → ((length cs ≡ m) × (r ≤ n)) ⊎ ((length cs ≡ suc m) × (r ≡ suc n))
      → Needs (suc n) used (cond (eqb r (suc n) && leb most m) (suc r) r) (halves (leb (length cs) most) stay low first u number cs)
  inner_needs n most used number r m cs u h e (inl w) =
      rw (le-leb (length cs) most (omega arith), ne_eqb r (suc n) (λ p. omega arith)) (record { more = e; run = omega arith })
  inner_needs n most used number r m cs u h e (inr w) = rw (eq-eqb r (suc n) w.1) (go (leb most m) (leb (length cs) most) refl refl)
    where
      go : (b c : Bool) → leb most m ≡ b → leb (length cs) most ≡ c → Needs (suc n) used (cond b (suc r) r) (halves c stay low first u number cs)
      go true true p q = absurd (omega (arith, leb-true most m p, leb-true (length cs) most q))
      go true false p q = record { more = omega arith; run = omega arith }
      go false true p q = record { more = e; run = omega arith }
      go false false p q = absurd (omega (arith, leb-false most m p, leb-false (length cs) most q))

module _ {K A : Type 0} (compare : K → K → Ordering) (key : A → K) (lowest : K) (Z : Sizes) where
  widened_needs : {T : Type 0} (n : ℕ) (k : K) (p : T → Bool) (f : T → Grown K T) (g : T → ℕ) (used : ℕ)
      → ((t : T) → p t ≡ true → Needs n used (g t) (f t))
      → (cs : List (Child K T)) → all (λ c. p c.tree) cs ≡ true
      → Needs-row n used (belongs compare k g cs) cs (widened compare k f used cs)
  unfolding belongs all
  widened_needs {T} n k p f g used h =
      widen compare k f used
      (λ cs row. all (λ c. p c.tree) cs ≡ true → Needs-row n used (belongs compare k g cs) cs row)
      (λ e. record { more = omega arith; run = inl (refl, omega arith) })
      (λ b c a l e. rw (l.says g) (step b c a (h c.tree (all_head (λ c. p c.tree) c a (all_right (λ c. p c.tree) b (c ∷ a) e)))))
    where
      step : (b : List (Child K T)) (c : Child K T) (a : List (Child K T)) → Needs n used (g c.tree) (f c.tree)
          → Needs-row n used (g c.tree) (b ++ c ∷ a)
          (record { used = (f c.tree).used; children = b ++ (parts c.low (f c.tree) ++ a) })
      step b c a w = record { more = w.more; run = go (f c.tree).beside w.run }
        where
          go : (o : Option (Child K T)) → Run n (g c.tree) o
              → let m = length (b ++ (record { low = c.low; tree = (f c.tree).tree } ∷ (beside o ++ a))) in
              ((m ≡ length (b ++ c ∷ a)) × (g c.tree ≤ n)) ⊎ ((m ≡ suc (length (b ++ c ∷ a))) × (g c.tree ≡ suc n))
          go none r = inl (omega (arith, length-append b (c ∷ a), length-append b (record { low = c.low; tree = (f c.tree).tree } ∷ a)), r)
          go (some d) r = inr (omega (arith, length-append b (c ∷ a), length-append b (record { low = c.low; tree = (f c.tree).tree } ∷ d ∷ a)), r)

  pub grown_needs : (n least : ℕ) (a : A) (used : ℕ) (t : Tree K A n) → counted K A Z least n t ≡ true
      → Needs n used (full_run compare key lowest Z n (key a) t) (grown compare key lowest Z n a used t)
  unfolding full_run grown
  grown_needs zero least a used t h =
      leaf_needs Z.leaf_stay (low_key key lowest) (λ xs. xs) Z.leaf_most used t.number (length t.holds)
      (insert_before (λ x. at_most compare (key a) (key x)) a t.holds) (length_insert_before _ a t.holds)
  grown_needs (suc n) least a used t h =
      let row = widened compare (key a) (grown compare key lowest Z n a used) used t.holds in
      let r = belongs compare (key a) (full_run compare key lowest Z n (key a)) t.holds in
      let c = counted_filled K A Z least n t h in
      let w : Needs-row n used r t.holds row = widened_needs n (key a) (counted K A Z Z.fewest n) (grown compare key lowest Z n a used)
      (full_run compare key lowest Z n (key a)) used (grown_needs n Z.fewest a used) t.holds c.each in
      inner_needs Z.inner_stay (low_of lowest) (from_lowest lowest) n Z.inner_most used t.number r (length t.holds)
      row.children row.used
      c.many w.more w.run

  rooted_needs : (n used r : ℕ) (g : Grown K (Tree K A n)) (o : Option (Child K (Tree K A n))) → g.used ≡ used + r → Run n r o
      → (rooted compare key lowest Z n g o).used ≡ used + cond (eqb r (suc n)) (suc r) r
  unfolding rooted
  rooted_needs n used r g none e h = rw (ne_eqb r (suc n) (λ p. omega arith)) e
  rooted_needs n used r g (some c) e h = rw (eq-eqb r (suc n) h) (omega arith)

  pub with_needed : (least : ℕ) (a : A) (x : Index K A) → counted K A Z least x.level x.tree ≡ true
      → (with_item compare key lowest Z a x).used ≡ x.used + needed compare key lowest Z (key a) x
  unfolding with_item needed
  with_needed least a x h =
      let g = grown compare key lowest Z x.level a x.used x.tree in
      let w = grown_needs x.level least a x.used x.tree h in
      rooted_needs x.level x.used (full_run compare key lowest Z x.level (key a) x.tree) g g.beside w.more w.run
