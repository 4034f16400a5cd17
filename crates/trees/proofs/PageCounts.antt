-- Each page once: a page stands in the grown tree, in the tree beside it and among the unused as often as before. By induction on the level;
-- of a list of children only sums are known. Assumes nothing.
use Prim.Native.Nat.{ℕ, zero, suc, ◌+◌, Ordering, ◌<◌, ◌≤◌}
use mathlib.Core.Path.{◌≡◌, refl, sym, ap, ◌∙◌}
use mathlib.Core.Bool.{Bool, true, false, cond}
use mathlib.Core.List.{List, [], ◌∷◌, ◌++◌, map}
use mathlib.Core.Option.{Option, none, some}
use lib.Dec.{leb, eqb}
use lib.ListN.{length, take, drop, take-append-drop}
use borrow.Author.Tests.{leb-true, leb-false, eqb-true, eqb-false, le-leb, lt-leb}
use native.Mathlib.Omega.{arith}
use mathlib.Core.Logic.{inl, inr}
use Rattle.lists.specs.Lists.{insert_before, In}
use Rattle.trees.specs.Trees.{at_most, Sizes, Page, Child, Tree, Index, summed, is_page, above, times, EachOnce}
use Rattle.trees.specs.Growth.{Grown, halves, beside, parts, from_lowest, low_key, low_of, widened, grown, rooted, with_item}
use Rattle.trees.proofs.Spots.{Lies, widen}

pub summed_append : {A : Type 0} (f : A → ℕ) (xs ys : List A) → summed f (xs ++ ys) ≡ summed f xs + summed f ys
unfolding summed
summed_append f [] ys = omega arith
summed_append f (x ∷ xs) ys = let r = summed_append f xs ys in omega arith

pub summed_in : {A : Type 0} (f : A → ℕ) (xs : List A) (x : A) → In x xs → f x ≤ summed f xs
unfolding summed
summed_in {A = A} f [] x x3 = elim x3 [ ]
summed_in f (y ∷ ys) x (inl e) = omega (arith, ap f e)
summed_in f (y ∷ ys) x (inr i) = omega (arith, summed_in f ys x i)

pub summed_some : {A : Type 0} (f : A → ℕ) (xs : List A) → 0 < summed f xs → (x : A) × In x xs × (0 < f x)
unfolding summed
summed_some f [] h = absurd (omega arith)
summed_some {A} f (x ∷ xs) h = go (f x) refl (summed_some f xs)
  where
    go : (m : ℕ) → f x ≡ m → (0 < summed f xs → (y : A) × In y xs × (0 < f y)) → (y : A) × In y (x ∷ xs) × (0 < f y)
    go zero e r = let y = r (omega arith) in (y.0, inr y.1, y.2)
    go (suc m) e r = (x, inl refl, omega arith)

pub summed_map : {A B : Type 0} (g : B → ℕ) (f : A → B) (xs : List A) → summed g (map f xs) ≡ summed (λ x. g (f x)) xs
unfolding summed
summed_map g f [] = refl
summed_map g f (x ∷ xs) = ap (λ m. g (f x) + m) (summed_map g f xs)

-- page q is unused, or used
pub above_yes : (u q : ℕ) → u ≤ q → above u q ≡ 1
above_yes u q h = ap (λ b. cond {A = ℕ} b 1 0) (le-leb u q h)

pub above_no : (u q : ℕ) → q < u → above u q ≡ 0
above_no u q h = ap (λ b. cond {A = ℕ} b 1 0) (lt-leb u q h)

-- page u is taken into use
pub above_next : (u q : ℕ) → is_page q u + above (u + 1) q ≡ above u q
above_next u q = go (eqb q u) (leb u q) (leb (u + 1) q) refl refl refl
  where
    go : (a b c : Bool) → eqb q u ≡ a → leb u q ≡ b → leb (u + 1) q ≡ c → cond a 1 0 + cond c 1 0 ≡ cond b 1 0
    go true true true d e f = absurd (omega (arith, eqb-true q u d, leb-true (u + 1) q f))
    go true true false d e f = refl
    go true false c d e f = absurd (omega (arith, eqb-true q u d, leb-false u q e))
    go false true true d e f = refl
    go false true false d e f = absurd (eqb-false q u d (omega (arith, leb-true u q e, leb-false (u + 1) q f)))
    go false false true d e f = absurd (omega (arith, leb-false u q e, leb-true (u + 1) q f))
    go false false false d e f = refl

-- what a page weighs, itself and what it holds, is weighed by its halves
halves_weigh : {K C : Type 0} (q : ℕ) (v : Page C → ℕ) (w : List C → ℕ) → ((p : Page C) → v p ≡ is_page q p.number + w p.holds)
    → ((xs ys : List C) → w (xs ++ ys) ≡ w xs + w ys)
    → (stay : ℕ) (low : List C → K) (first : List C → List C) → ((xs : List C) → w (first xs) ≡ w xs)
    → (b : Bool) (s : K) (used number : ℕ) (xs : List C)
    → summed (λ c. v c.tree) (parts s (halves b stay low first used number xs)) + above (halves b stay low first used number xs).used q
    ≡ v (record { number = number; holds = xs }) + above used q
unfolding summed
halves_weigh q v w is sum stay low first same true s used number xs = omega arith
halves_weigh q v w is sum stay low first same false s used number xs =
    let e : w xs ≡ w (take stay xs) + w (drop stay xs) = ap w (sym (take-append-drop stay xs)) ∙ sum (take stay xs) (drop stay xs) in
    omega (
      arith,
      is (record { number = number; holds = xs }),
      is (record { number = number; holds = take stay xs }),
      is (record { number = used; holds = first (drop stay xs) }),
      same (drop stay xs),
      above_next used q,
    )

module _ {K A : Type 0} (compare : K → K → Ordering) (key : A → K) (lowest : K) (Z : Sizes) where
  from_lowest_weighs : {T : Type 0} (f : T → ℕ) (cs : List (Child K T))
      → summed (λ c. f c.tree) (from_lowest lowest cs) ≡ summed (λ c. f c.tree) cs
  unfolding summed
  from_lowest_weighs f [] = refl
  from_lowest_weighs f (c ∷ cs) = refl

  -- the child that grows, between its neighbours
  widened_weighs : {T : Type 0} (q : ℕ) (f : T → ℕ) (k : K) (g : T → Grown K T) (used : ℕ)
      → ((s : K) (t : T) → summed (λ c. f c.tree) (parts s (g t)) + above (g t).used q ≡ f t + above used q)
      → (cs : List (Child K T))
      → summed (λ c. f c.tree) (widened compare k g used cs).children + above (widened compare k g used cs).used q
      ≡ summed (λ c. f c.tree) cs + above used q
  unfolding summed
  widened_weighs {T} q f k g used h =
      widen compare k g used
      (λ cs r. summed (λ c. f c.tree) r.children + above r.used q ≡ summed (λ c. f c.tree) cs + above used q)
      refl step
    where
      w : List (Child K T) → ℕ
      w = summed (λ c. f c.tree)

      step : (b : List (Child K T)) (c : Child K T) (a : List (Child K T)) → Lies compare k (b ++ c ∷ a) b c a
          → w (b ++ (parts c.low (g c.tree) ++ a)) + above (g c.tree).used q ≡ w (b ++ c ∷ a) + above used q
      step b c a l =
          omega (
            arith,
            summed_append (λ c. f c.tree) b (parts c.low (g c.tree) ++ a),
            summed_append (λ c. f c.tree) b (c ∷ a),
            summed_append (λ c. f c.tree) (parts c.low (g c.tree)) a,
            summed_append (λ c. f c.tree) (c ∷ []) a,
            h c.low c.tree,
          )

  pub grown_times : (n q : ℕ) (a : A) (s : K) (used : ℕ) (t : Tree K A n)
      → let g = grown compare key lowest Z n a used t in
      summed (λ c. times K A n q c.tree) (parts s g) + above g.used q ≡ times K A n q t + above used q
  unfolding grown times
  grown_times zero q a s used t =
      halves_weigh q (times K A 0 q) (λ xs. 0) (λ p. omega arith) (λ xs ys. refl) Z.leaf_stay (low_key key lowest) (λ xs. xs)
      (λ xs. refl) (leb (length xs) Z.leaf_most) s used t.number xs
    where
      xs : List A
      xs = insert_before (λ x. at_most compare (key a) (key x)) a t.holds
  grown_times (suc n) q a s used t =
      let r = widened compare (key a) (grown compare key lowest Z n a used) used t.holds in
      let h = halves_weigh q (times K A (suc n) q) (summed (λ c. times K A n q c.tree)) (λ p. refl)
      (summed_append (λ c. times K A n q c.tree)) Z.inner_stay (low_of lowest) (from_lowest lowest) (from_lowest_weighs (times K A n q))
      (leb (length r.children) Z.inner_most) s r.used t.number r.children in
      let w = widened_weighs q (times K A n q) (key a) (grown compare key lowest Z n a used) used (λ s t. grown_times n q a s used t) t.holds in
      omega arith

  rooted_times : (n q : ℕ) (g : Grown K (Tree K A n)) (o : Option (Child K (Tree K A n)))
      → let x = rooted compare key lowest Z n g o in
      times K A x.level q x.tree + above x.used q
      ≡ summed (λ c. times K A n q c.tree) (record { low = lowest; tree = g.tree } ∷ beside o) + above g.used q
  unfolding rooted times summed
  rooted_times n q g none = omega arith
  rooted_times n q g (some c) = omega (arith, above_next g.used q)

  pub with_once : (a : A) (x : Index K A) → EachOnce K A x → EachOnce K A (with_item compare key lowest Z a x)
  unfolding with_item
  with_once a x e =
      let g = grown compare key lowest Z x.level a x.used x.tree in
      record {
        once = λ q. rooted_times x.level q g g.beside ∙ (grown_times x.level q a lowest x.used x.tree ∙ e.once q);
      }
