-- Scans over a table, place by place: for the first that passes a test, for one that does, and for one that does not; and what stands at
-- the place of the first. A scan that has passed i places has what is sought in the rest from i on. Assumes nothing.
use Prim.Native.Nat.{ℕ, suc, ◌+◌, ◌-◌, ◌≤◌, ◌<◌}
use mathlib.Core.Path.{◌≡◌, refl, sym, ap, ◌∙◌}
use mathlib.Core.Bool.{Bool, true, false, cond, ◌||◌, true≢false, false≢true, ◌&&◌, not}
use mathlib.Core.List.{List, [], ◌∷◌, ◌++◌}
use native.Mathlib.Nat.{sub-zero}
use native.Mathlib.Omega.{arith}
use borrow.Author.Tests.{lt-ltb, not-false, not-true}
use lib.Dec.{ltb, leb-suc-suc, eqb, eqb-zero-suc, eqb-suc-suc}
use lib.ListN.{length, get_or}
use Rattle.lists.specs.Lists.{any, tab, place, all}
use Rattle.lists.proofs.Tables.{tab_next, tab_done, all_done, all_next, any_done, any_next}

module _ {A : Type 0} (p : A → Bool) where
  place_hit : (x : A) (xs : List A) → p x ≡ true → place p (x ∷ xs) ≡ 0
  unfolding place
  place_hit x xs e = rw e

  place_miss : (x : A) (xs : List A) → p x ≡ false → place p (x ∷ xs) ≡ suc (place p xs)
  unfolding place
  place_miss x xs e = rw e

  -- ---- the loop
  module _ (n : ℕ) (f : ℕ → A) where
    pub scan_start_of : (m : ℕ) → m ≡ n → place p (tab n 0 f) ≡ 0 + place p (tab (m - 0) 0 f)
    scan_start_of m e = rw (sub-zero, e) (omega arith)

  module _ (n : ℕ) (f : ℕ → A) (whole : ℕ) where
    module _ (i : ℕ) (b : Bool) (q : b ≡ p (f i)) (h : i < n) (e : whole ≡ i + place p (tab (n - i) i f)) where
      pub scan_next : b ≡ false → whole ≡ i + 1 + place p (tab (n - (i + 1)) (i + 1) f)
      scan_next z =
          let r = ap (place p) (tab_next n i f h) ∙ place_miss (f i) (tab (n - (i + 1)) (i + 1) f) (sym q ∙ z) in
          omega arith

      pub scan_found : b ≡ true → i ≡ whole
      scan_found z =
          let r = ap (place p) (tab_next n i f h) ∙ place_hit (f i) (tab (n - (i + 1)) (i + 1) f) (sym q ∙ z) in
          omega arith

    none_left : place p [] ≡ 0
    unfolding place
    none_left = refl

    pub scan_done : (i : ℕ) → n ≤ i → i ≤ n → whole ≡ i + place p (tab (n - i) i f) → n ≡ whole
    scan_done i h l e = let r = ap (place p) (tab_done n i f h) ∙ none_left in omega arith

  -- ---- the list: some element passes where the place is one of its places, and the one there passes; where none does it is the length
  pub place_any : (xs : List A) → any p xs ≡ ltb (place p xs) (length xs)
  unfolding any place
  place_any [] = refl
  place_any (x ∷ xs) = go (p x) (place_any xs)
    where
      go : (b : Bool) → any p xs ≡ ltb (place p xs) (length xs) → (b || any p xs) ≡ ltb (cond b 0 (suc (place p xs))) (suc (length xs))
      go true r = sym (lt-ltb 0 (suc (length xs)) (omega arith))
      go false r = r ∙ sym (leb-suc-suc (suc (place p xs)) (length xs))

  pub place_passes : (xs : List A) (d : A) → any p xs ≡ true → p (get_or xs (place p xs) d) ≡ true
  unfolding any place
  place_passes [] d e = absurd (false≢true e)
  place_passes (x ∷ xs) d e = go (p x) refl e (place_passes xs d)
    where
      go : (b : Bool) → p x ≡ b → (b || any p xs) ≡ true → (any p xs ≡ true → p (get_or xs (place p xs) d) ≡ true)
          → p (get_or (x ∷ xs) (cond b 0 (suc (place p xs))) d) ≡ true
      go true q e r = q
      go false q e r = r e

  pub place_none : (xs : List A) → any p xs ≡ false → length xs ≡ place p xs
  unfolding any place
  place_none [] e = refl
  place_none (x ∷ xs) e = go (p x) e (place_none xs)
    where
      go : (b : Bool) → (b || any p xs) ≡ false → (any p xs ≡ false → length xs ≡ place p xs) → suc (length xs) ≡ cond b 0 (suc (place p xs))
      go true e r = absurd (true≢false e)
      go false e r = ap suc (r e)

  -- ---- with one element more: the place stays, unless there was none and the last does not pass either
  pub place_last : (xs : List A) (x : A) → place p (xs ++ (x ∷ [])) ≡ cond (eqb (place p xs) (length xs) && not (p x)) (length xs + 1) (place p xs)
  unfolding place
  place_last [] x = go (p x)
    where
      go : (b : Bool) → ◌≡◌ {A = ℕ} (cond b 0 1) (cond (not b) 1 0)
      go true = refl
      go false = refl
  place_last (y ∷ ys) x = go (p y) (place_last ys x)
    where
      none : Bool
      none = eqb (place p ys) (length ys) && not (p x)

      on : (b : Bool) (k n : ℕ) → suc (cond b (n + 1) k) ≡ cond b (suc n + 1) (suc k)
      on true k n = omega arith
      on false k n = refl

      go : (b : Bool) → place p (ys ++ (x ∷ [])) ≡ cond none (length ys + 1) (place p ys)
          → cond b 0 (suc (place p (ys ++ (x ∷ []))))
          ≡ cond (eqb (cond b 0 (suc (place p ys))) (suc (length ys)) && not (p x)) (suc (length ys) + 1) (cond b 0 (suc (place p ys)))
      go true r = sym (ap (λ c. cond (c && not (p x)) (suc (length ys) + 1) 0) (eqb-zero-suc (length ys)))
      go false r =
          ap suc r
          ∙ on none (place p ys) (length ys)
          ∙ sym (ap (λ c. cond (c && not (p x)) (suc (length ys) + 1) (suc (place p ys))) (eqb-suc-suc (place p ys) (length ys)))

-- ---- whether all pass, and whether one does
module _ {A : Type 0} (p : A → Bool) (f : ℕ → A) (whole : Bool) (n i : ℕ) where
  pub all_bad : (b : Bool) → whole ≡ all p (tab (n - i) i f) → i < n → b ≡ p (f i) → not b ≡ true → false ≡ whole
  all_bad b inv l e t = sym (inv ∙ all_next p n i f l ∙ ap (λ x. x && all p (tab (n - (i + 1)) (i + 1) f)) (sym e ∙ not-true b t))

  pub all_step : (b : Bool) → whole ≡ all p (tab (n - i) i f) → i < n → b ≡ p (f i) → not b ≡ false → whole ≡ all p (tab (n - (i + 1)) (i + 1) f)
  all_step b inv l e t = inv ∙ all_next p n i f l ∙ ap (λ x. x && all p (tab (n - (i + 1)) (i + 1) f)) (sym e ∙ not-false b t)

  pub all_end : whole ≡ all p (tab (n - i) i f) → n ≤ i → true ≡ whole
  all_end inv l = sym (inv ∙ all_done p n i f l)

  pub any_hit : (b : Bool) → whole ≡ any p (tab (n - i) i f) → i < n → b ≡ p (f i) → b ≡ true → true ≡ whole
  any_hit b inv l e t = sym (inv ∙ any_next p n i f l ∙ ap (λ x. x || any p (tab (n - (i + 1)) (i + 1) f)) (sym e ∙ t))

  pub any_step : (b : Bool) → whole ≡ any p (tab (n - i) i f) → i < n → b ≡ p (f i) → b ≡ false → whole ≡ any p (tab (n - (i + 1)) (i + 1) f)
  any_step b inv l e t = inv ∙ any_next p n i f l ∙ ap (λ x. x || any p (tab (n - (i + 1)) (i + 1) f)) (sym e ∙ t)

  pub any_end : whole ≡ any p (tab (n - i) i f) → n ≤ i → false ≡ whole
  any_end inv l = sym (inv ∙ any_done p n i f l)
