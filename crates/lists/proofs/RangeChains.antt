-- What a chain over a range answers, said over our own lists: `(a..b).all(..)`, `.any(..)` and `.find(..)`, where each call of the closure
-- with a number in the range answers what the test says of the element with that number, and leaves the closure as it was. The last fact of
-- each lemma is the clause `ran` of the call. By induction on the numbers that came. Assumes nothing.
use mathlib.Core.Path.{◌≡◌, refl, sym, ap, subst, ◌∙◌}
use mathlib.Core.Bool.{Bool, true, false, cond, ◌&&◌, ◌||◌}
use mathlib.Core.List.{List, [], ◌∷◌}
use Prim.Native.Nat.{ℕ, suc, ◌+◌, ◌-◌, ◌≤◌, ◌<◌}
use native.Mathlib.Omega.{arith}
use denote.Ref.{Bor}
use denote.Param.Members.{Mut}
use Rattle.std.specs.declared.option.Option.{Option}
use Rattle.std.specs.declared.option.Option.TheVariants.{None, Some}
use Rattle.std.specs.declared.ops.Range.{Range}
use Rattle.std.specs.Iterator.{Yields, ChecksAll, ChecksAny, FindsItem}
use Rattle.std.specs.List.{FoldsTo}
use Rattle.std.specs.Fn.{Called, CalledAt}
use Rattle.std.specs.Option.{MatchOption, unwrap_or}
use Rattle.std.proofs.iter.Yields.{nat_range_steps}
use Rattle.lists.specs.Lists.{all, any, place, tab}

module _ {A : Type 0} (h : ℕ → A) where
  -- the elements with the numbers that a range has left
  abbrev left : Range ℕ → List A
  left s = tab (s.end - s.start) s.start h

  left_more : (s t : Range ℕ) (x : ℕ) → nat_range_steps s (Some x) t → left s ≡ h x ∷ left t
  unfolding tab
  left_more s t x e =
      let n : s.end - s.start ≡ suc (t.end - t.start) = omega (arith, e.0, e.1.0, e.1.2) in
      ap (λ k. tab k s.start h) n ∙ ap (λ k. h s.start ∷ tab (t.end - t.start) k h) (sym e.1.2) ∙ ap (λ k. h k ∷ left t) (sym e.1.1)

  left_none : (s t : Range ℕ) → nat_range_steps s None t → left s ≡ []
  unfolding tab
  left_none s t e = ap (λ k. tab k s.start h) e.1.0

-- what a call with a number answers: R is a call, f is the closure, and b the answer with which the chain goes on
module _ {F : Type 0} (R : F → ℕ → Bool → F → Type 0) (a b : ℕ) (f : F) (p : ℕ → Bool)
    (calls : (x : ℕ) (o : Bool) (k : F) → a ≤ x → x < b → R f x o k → (k ≡ f) × (o ≡ p x)) where
  one_call : (i t : Range ℕ) (x : ℕ) (o : Bool) (j k : F) → a ≤ i.start → i.end ≡ b → j ≡ f → nat_range_steps i (Some x) t → R j x o k
      → (k ≡ f) × (o ≡ p x)
  one_call i t x o j k low high e y c =
      calls x o k (omega (arith, y.1.1)) (omega (arith, y.1.0, y.1.1)) (subst (λ w. R w x o k) e c)

  -- what no turn changes is the same after all
  no_turn : {C : Type 0} (on : Bool) (z : Range ℕ → C) → ((i t : Range ℕ) (x : ℕ) → nat_range_steps i (Some x) t → on ≡ p x → z i ≡ z t)
      → (xs : List ℕ) (i t : Range ℕ) (j k : F) → a ≤ i.start → i.end ≡ b → j ≡ f → Yields nat_range_steps i xs t
      → FoldsTo (λ q x w. R q x on w) j xs k → (z i ≡ z t) × (a ≤ t.start) × (t.end ≡ b) × (k ≡ f)
  no_turn on z turn [] i t j k low high e y c = (ap z y, subst (λ w. a ≤ w.start) y low, ap (λ w. w.end) (sym y) ∙ high, sym c ∙ e)
  no_turn on z turn (x ∷ xs) i t j k low high e y c =
      let one = one_call i y.0 x on j c.0 low high e y.1 c.1 in
      let r = no_turn on z turn xs y.0 t c.0 k (omega (arith, y.1.1.2)) (y.1.0 ∙ high) one.0 y.2 c.2 in
      (turn i y.0 x y.1 one.1 ∙ r.0, r.1, r.2, r.3)

-- one turn, and the last one, of each test
module _ {A : Type 0} (p : A → Bool) (h : ℕ → A) (i t : Range ℕ) where
  all_turn : (x : ℕ) (o : Bool) → nat_range_steps i (Some x) t → o ≡ p (h x) → all p (left h i) ≡ (o && all p (left h t))
  unfolding all
  all_turn x o y e = ap (all p) (left_more h i t x y) ∙ ap (λ b. b && all p (left h t)) (sym e)

  any_turn : (x : ℕ) (o : Bool) → nat_range_steps i (Some x) t → o ≡ p (h x) → any p (left h i) ≡ (o || any p (left h t))
  unfolding any
  any_turn x o y e = ap (any p) (left_more h i t x y) ∙ ap (λ b. b || any p (left h t)) (sym e)

  place_turn : (x : ℕ) (o : Bool) → nat_range_steps i (Some x) t → o ≡ p (h x) → place p (left h i) ≡ cond o 0 (suc (place p (left h t)))
  unfolding place
  place_turn x o y e = ap (place p) (left_more h i t x y) ∙ ap (λ b. cond b 0 (suc (place p (left h t)))) (sym e)

  all_last : nat_range_steps i None t → all p (left h i) ≡ true
  unfolding all
  all_last y = ap (all p) (left_none h i t y)

  any_last : nat_range_steps i None t → any p (left h i) ≡ false
  unfolding any
  any_last y = ap (any p) (left_none h i t y)

  place_last : nat_range_steps i None t → place p (left h i) ≡ 0
  unfolding place
  place_last y = ap (place p) (left_none h i t y)

module _ {A F : Type 0} {g : Mut F (ℕ × Unit {0}) Bool} {s u : Range ℕ} {f : F} {r : Bool} {n : ℕ} (p : A → Bool) {h : ℕ → A}
    (calls : (x : ℕ) (o : Bool) (k : F) → s.start ≤ x → x < s.end → Called g f (x, tt) o k → (k ≡ f) × (o ≡ p (h x))) where
  pub all_of_range : s.end - s.start ≡ n → ChecksAll nat_range_steps g s f r u → r ≡ all p (tab n s.start h)
  all_of_range e d = go d.1 d.3.2 d.5 ∙ sym w.0 ∙ ap (λ k. all p (tab k s.start h)) e
    where
      t : Range ℕ
      t = d.3.0

      R : F → ℕ → Bool → F → Type 0
      R q x o k = Called g q (x, tt) o k

      w : (all p (left h s) ≡ all p (left h t)) × (s.start ≤ t.start) × (t.end ≡ s.end) × (d.2 ≡ f)
      w = no_turn R s.start s.end f (λ x. p (h x)) calls true (λ i. all p (left h i)) (λ i t x. all_turn p h i t x true) d.0 s t f d.2
          (omega arith) refl refl d.3.1 d.4

      go : (o : Option ℕ) → nat_range_steps t o u → MatchOption o (r ≡ true) (λ x. (r ≡ false) × ((k : F) × R d.2 x false k)) → r ≡ all p (left h t)
      go None y m = m ∙ sym (all_last p h t u y)
      go (Some x) y m =
          m.0 ∙ sym (all_turn p h t u x false y (one_call R s.start s.end f (λ x. p (h x)) calls t u x false d.2 m.1.0 w.1 w.2 w.3 y m.1.1).1)

  pub any_of_range : s.end - s.start ≡ n → ChecksAny nat_range_steps g s f r u → r ≡ any p (tab n s.start h)
  any_of_range e d = go d.1 d.3.2 d.5 ∙ sym w.0 ∙ ap (λ k. any p (tab k s.start h)) e
    where
      t : Range ℕ
      t = d.3.0

      R : F → ℕ → Bool → F → Type 0
      R q x o k = Called g q (x, tt) o k

      w : (any p (left h s) ≡ any p (left h t)) × (s.start ≤ t.start) × (t.end ≡ s.end) × (d.2 ≡ f)
      w = no_turn R s.start s.end f (λ x. p (h x)) calls false (λ i. any p (left h i)) (λ i t x. any_turn p h i t x false) d.0 s t f d.2
          (omega arith) refl refl d.3.1 d.4

      go : (o : Option ℕ) → nat_range_steps t o u → MatchOption o (r ≡ false) (λ x. (r ≡ true) × ((k : F) × R d.2 x true k)) → r ≡ any p (left h t)
      go None y m = m ∙ sym (any_last p h t u y)
      go (Some x) y m =
          m.0 ∙ sym (any_turn p h t u x true y (one_call R s.start s.end f (λ x. p (h x)) calls t u x true d.2 m.1.0 w.1 w.2 w.3 y m.1.1).1)

-- `find` answers the number of the first element that passes: with the end of the range where there is none, it is the place of that element
module _ {A F : Type 0} {g : Mut F (Bor ℕ × Unit {0}) Bool} {s : Range ℕ} (u : Range ℕ) {f : F} (r : Option ℕ) (n : ℕ) (p : A → Bool) {h : ℕ → A}
    (calls : (x : ℕ) (o : Bool) (k : F) → s.start ≤ x → x < s.end → CalledAt g f x o k → (k ≡ f) × (o ≡ p (h x))) where
  pub found_in_range : s.start + n ≡ s.end → FindsItem nat_range_steps g s f r u → unwrap_or r (s.start + n) ≡ s.start + place p (tab n s.start h)
  found_in_range e d =
      let m : s.end - s.start ≡ n = omega arith in
      ap (unwrap_or r) e ∙ go r d.2.2 d.4 ∙ sym w.0 ∙ ap (λ k. s.start + place p (tab k s.start h)) m
    where
      t : Range ℕ
      t = d.2.0

      R : F → ℕ → Bool → F → Type 0
      R q x o k = CalledAt g q x o k

      same : {C : Type 0} (z : Range ℕ → C) → ((i t : Range ℕ) (x : ℕ) → nat_range_steps i (Some x) t → false ≡ p (h x) → z i ≡ z t)
          → (z s ≡ z t) × (s.start ≤ t.start) × (t.end ≡ s.end) × (d.1 ≡ f)
      same z turn = no_turn R s.start s.end f (λ x. p (h x)) calls false z turn d.0 s t f d.1 (omega arith) refl refl d.2.1 d.3

      w : (s.start + place p (left h s) ≡ t.start + place p (left h t)) × (s.start ≤ t.start) × (t.end ≡ s.end) × (d.1 ≡ f)
      w = same (λ i. i.start + place p (left h i)) (λ i t x y e. omega (arith, place_turn p h i t x false y e, y.1.2))

      -- the range does not run past its end
      v : s.start + (s.end - s.start) ≡ t.start + (t.end - t.start)
      v = (same (λ i. i.start + (i.end - i.start)) (λ i t x y e. omega (arith, y.0, y.1.0, y.1.2))).0

      go : (o : Option ℕ) → nat_range_steps t o u → MatchOption o (Unit {0}) (λ x. (k : F) × R d.1 x true k)
          → unwrap_or o s.end ≡ t.start + place p (left h t)
      go None y m = omega (arith, v, e, y.1.0, place_last p h t u y)
      go (Some x) y m =
          omega (arith, place_turn p h t u x true y (one_call R s.start s.end f (λ x. p (h x)) calls t u x true d.1 m.0 w.1 w.2 w.3 y m.1).1, y.1.1)

  -- the same where the range begins at zero
  pub place_of_range : s.start ≡ 0 → s.end ≡ n → FindsItem nat_range_steps g s f r u → unwrap_or r n ≡ place p (tab n 0 h)
  place_of_range z e d =
      let a : n ≡ s.start + n = omega arith in
      let b : s.start + place p (tab n s.start h) ≡ place p (tab n s.start h) = omega arith in
      ap (unwrap_or r) a ∙ found_in_range (omega arith) d ∙ b ∙ ap (λ k. place p (tab n k h)) z
