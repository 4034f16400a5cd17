-- Laws of a table by index: its length and places, its growth at either end, what changes f at one place, and loops that walk it.
-- Structure by induction on the number of places; everything that compares two tables by what stands at each place. Assumes nothing.
use mathlib.Core.Path.{◌≡◌, refl, sym, ap, ◌∙◌, subst}
use mathlib.Core.Logic.{◌≢◌}
use mathlib.Core.Bool.{Bool, true, false, ◌&&◌, ◌||◌}
use mathlib.Core.List.{List, [], ◌∷◌, ◌++◌, map}
use mathlib.Core.Option.{some}
use Prim.Native.Nat.{ℕ, zero, suc, ◌+◌, ◌-◌, ◌≤◌, ◌<◌}
use native.Mathlib.Nat.{not-suc-le-zero, le_of_suc-le-suc, add-zero, zero-add, sub-zero, zero-sub}
use native.Mathlib.Decide.{dec_lt, ℕ_discrete}
use native.Mathlib.Omega.{arith}
use lib.ListN.{length, get_or, set, take, drop, length-set}
use lib.Seq.{ext_get_or, get_or-set_same, get_or-set_other}
use Rattle.lists.specs.Lists.{tab, all, any, first, remove_at}
use Rattle.lists.proofs.Tests.{first_hit, first_miss}
use Rattle.lists.proofs.Places.{length_remove_at, get_d_remove_at_below, get_d_remove_at_above}
use Rattle.lists.proofs.Elements.{all_in, in_all, in_tab, tab_in}

module _ {A : Type 0} where
  pub length_tab : (n i : ℕ) (f : ℕ → A) → length (tab n i f) ≡ n
  unfolding tab
  length_tab zero i f = refl
  length_tab (suc n) i f = ap suc (length_tab n (i + 1) f)

  pub get_d_tab : (n i : ℕ) (f : ℕ → A) (k : ℕ) (d : A) → k < n → get_or (tab n i f) k d ≡ f (i + k)
  unfolding tab
  get_d_tab zero i f k d h = absurd (not-suc-le-zero h)
  get_d_tab (suc n) i f zero d h = rw add-zero
  get_d_tab (suc n) i f (suc k) d h = let e : i + 1 + k ≡ i + suc k = omega arith in get_d_tab n (i + 1) f k d (le_of_suc-le-suc h) ∙ ap f e

  -- what is left of a table of n from i on
  pub tab_next : (n i : ℕ) (f : ℕ → A) → i < n → tab (n - i) i f ≡ f i ∷ tab (n - (i + 1)) (i + 1) f
  unfolding tab
  tab_next n i f h = let e : n - i ≡ suc (n - (i + 1)) = omega arith in ap (λ m. tab m i f) e

  pub tab_done : (n i : ℕ) (f : ℕ → A) → n ≤ i → tab (n - i) i f ≡ []
  unfolding tab
  tab_done n i f h = let e : n - i ≡ 0 = omega arith in ap (λ m. tab m i f) e

  pub tab_append : (n m i : ℕ) (f : ℕ → A) → tab (n + m) i f ≡ tab n i f ++ tab m (i + n) f
  unfolding tab
  tab_append zero m i f = rw (zero-add, add-zero)
  tab_append (suc n) m i f =
      let e : suc n + m ≡ suc (n + m) = omega arith in
      let g : i + 1 + n ≡ i + suc n = omega arith in
      ap (λ k. tab k i f) e ∙ ap (λ r. f i ∷ r) (tab_append n m (i + 1) f ∙ ap (λ k. tab n (i + 1) f ++ tab m k f) g)

  pub tab_last : (n : ℕ) (f : ℕ → A) → tab n 0 f ++ (f n ∷ []) ≡ tab (n + 1) 0 f
  unfolding tab
  tab_last n f = sym (tab_append n 1 0 f ∙ ap (λ k. tab n 0 f ++ (f k ∷ [])) (zero-add n))

  -- two tables of one size are equal where they agree at each place
  pub tab_same : (n i j : ℕ) (f g : ℕ → A) → ((k : ℕ) → k < n → f (i + k) ≡ g (j + k)) → tab n i f ≡ tab n j g
  tab_same n i j f g h =
      ext_get_or (f i) (tab n i f) (tab n j g) (length_tab n i f ∙ sym (length_tab n j g))
      (λ k l. let m : k < n = omega (arith, length_tab n i f) in get_d_tab n i f k (f i) m ∙ h k m ∙ sym (get_d_tab n j g k (f i) m))

  pub tab_ext : (n i : ℕ) (f g : ℕ → A) → ((k : ℕ) → i ≤ k → k < i + n → f k ≡ g k) → tab n i f ≡ tab n i g
  tab_ext n i f g h = tab_same n i i f g (λ k l. h (i + k) (omega arith) (omega arith))

  -- a list is the table of its places
  pub tab_get_d : (l : List A) (d : A) → tab (length l) 0 (λ i. get_or l i d) ≡ l
  tab_get_d l d =
      ext_get_or d (tab (length l) 0 (λ i. get_or l i d)) l (length_tab (length l) 0 (λ i. get_or l i d))
      (λ k h. let m : k < length l = omega (arith, length_tab (length l) 0 (λ i. get_or l i d)) in get_d_tab (length l) 0 (λ i. get_or l i d) k d m ∙ ap (λ i. get_or l i d) (zero-add k))

  -- a list that has f's values at its places is the table of f
  pub is_tab : (l : List A) (n : ℕ) (f : ℕ → A) (d : A) → length l ≡ n → ((k : ℕ) → k < n → get_or l k d ≡ f k) → l ≡ tab n 0 f
  is_tab l n f d e h =
      ext_get_or d l (tab n 0 f) (e ∙ sym (length_tab n 0 f))
      (λ k l. let m : k < n = omega arith in h k m ∙ ap f (sym (zero-add k)) ∙ sym (get_d_tab n 0 f k d m))

  pub take_tab : (c n i : ℕ) (f : ℕ → A) → c ≤ n → take c (tab n i f) ≡ tab c i f
  unfolding tab
  take_tab zero n i f h = refl
  take_tab (suc c) zero i f h = absurd (not-suc-le-zero h)
  take_tab (suc c) (suc n) i f h = ap (λ r. f i ∷ r) (take_tab c n (i + 1) f (le_of_suc-le-suc h))

  pub drop_tab : (c n i : ℕ) (f : ℕ → A) → drop c (tab n i f) ≡ tab (n - c) (i + c) f
  unfolding tab
  drop_tab zero n i f = rw (sub-zero, add-zero)
  drop_tab (suc c) zero i f = rw zero-sub
  drop_tab (suc c) (suc n) i f =
      let e : n - c ≡ suc n - suc c = omega arith in
      let g : i + 1 + c ≡ i + suc c = omega arith in
      drop_tab c n (i + 1) f ∙ ap (λ k. tab k (i + 1 + c) f) e ∙ ap (λ k. tab (suc n - suc c) k f) g

  -- ---- one place changed, put in, taken out: g is f but for that
  pub tab_set : (n : ℕ) (f g : ℕ → A) (i : ℕ) (x : A) → i < n → g i ≡ x → ((k : ℕ) → k < n → k ≢ i → g k ≡ f k) → tab n 0 g ≡ set (tab n 0 f) i x
  tab_set n f g i x h e same =
      sym (is_tab (set (tab n 0 f) i x) n g x (length-set (tab n 0 f) i x ∙ length_tab n 0 f)
      (λ k l. elim (ℕ_discrete k i) [
        | yes q ↦ rw q (get_or-set_same (tab n 0 f) i x x (omega (arith, length_tab n 0 f)) ∙ sym e)
        | no q ↦ get_or-set_other (tab n 0 f) i k x x q ∙ get_d_tab n 0 f k x l ∙ ap f (zero-add k) ∙ sym (same k l q)
      ]))

  pub tab_remove : (n : ℕ) (f g : ℕ → A) (i : ℕ) → i < n → ((k : ℕ) → k < i → g k ≡ f k) → ((k : ℕ) → i ≤ k → k + 1 < n → g k ≡ f (k + 1))
      → tab (n - 1) 0 g ≡ remove_at i (tab n 0 f)
  tab_remove n f g i h below above =
      sym (is_tab (remove_at i (tab n 0 f)) (n - 1) g (f 0) (length_remove_at i (tab n 0 f) (omega (arith, len)) ∙ ap (λ m. m - 1) len) (λ k l. at k l (dec_lt k i)))
    where
      len : length (tab n 0 f) ≡ n
      len = length_tab n 0 f

      at : (k : ℕ) → k < n - 1 → Dec (k < i) → get_or (remove_at i (tab n 0 f)) k (f 0) ≡ g k
      at k l (yes a) = get_d_remove_at_below i (tab n 0 f) k (f 0) a ∙ get_d_tab n 0 f k (f 0) (omega arith) ∙ ap f (zero-add k) ∙ sym (below k a)
      at k l (no a) =
          get_d_remove_at_above i (tab n 0 f) k (f 0) (omega arith)
          ∙ get_d_tab n 0 f (k + 1) (f 0) (omega arith)
          ∙ ap f (zero-add (k + 1))
          ∙ sym (above k (omega arith) (omega arith))

  -- ---- loops over a table: the rest from i on is f i and the rest from i + 1 on
  pub all_next : (p : A → Bool) (n i : ℕ) (f : ℕ → A) → i < n → all p (tab (n - i) i f) ≡ (p (f i) && all p (tab (n - (i + 1)) (i + 1) f))
  unfolding all
  all_next p n i f h = rw (tab_next n i f h)

  pub all_done : (p : A → Bool) (n i : ℕ) (f : ℕ → A) → n ≤ i → all p (tab (n - i) i f) ≡ true
  unfolding all
  all_done p n i f h = rw (tab_done n i f h)

  pub any_next : (p : A → Bool) (n i : ℕ) (f : ℕ → A) → i < n → any p (tab (n - i) i f) ≡ (p (f i) || any p (tab (n - (i + 1)) (i + 1) f))
  unfolding any
  any_next p n i f h = rw (tab_next n i f h)

  pub any_done : (p : A → Bool) (n i : ℕ) (f : ℕ → A) → n ≤ i → any p (tab (n - i) i f) ≡ false
  unfolding any
  any_done p n i f h = rw (tab_done n i f h)

  pub first_next : (p : A → Bool) (n i : ℕ) (f : ℕ → A) → i < n → p (f i) ≡ false → first p (tab (n - i) i f) ≡ first p (tab (n - (i + 1)) (i + 1) f)
  first_next p n i f h e = ap (first p) (tab_next n i f h) ∙ first_miss p (f i) (tab (n - (i + 1)) (i + 1) f) e

  pub first_found : (p : A → Bool) (n i : ℕ) (f : ℕ → A) → i < n → p (f i) ≡ true → first p (tab (n - i) i f) ≡ some (f i)
  first_found p n i f h e = ap (first p) (tab_next n i f h) ∙ first_hit p (f i) (tab (n - (i + 1)) (i + 1) f) e

  -- a test that passes throughout a table passes at each place, and the other way round
  pub all_tab : (p : A → Bool) (n i : ℕ) (f : ℕ → A) (k : ℕ) → all p (tab n i f) ≡ true → i ≤ k → k < i + n → p (f k) ≡ true
  all_tab p n i f k e a b = all_in p (tab n i f) (f k) e (in_tab n i f k a b)

  pub all_of_tab : (p : A → Bool) (n i : ℕ) (f : ℕ → A) → ((k : ℕ) → i ≤ k → k < i + n → p (f k) ≡ true) → all p (tab n i f) ≡ true
  all_of_tab p n i f h =
      in_all p (tab n i f)
      (λ x m. let y = tab_in n i f x m in subst (λ z. p z ≡ true) y.3 (h y.0 y.1 y.2))

module _ {A B : Type 0} where
  pub map_tab : (g : A → B) (n i : ℕ) (f : ℕ → A) → map g (tab n i f) ≡ tab n i (λ k. g (f k))
  unfolding tab
  map_tab g zero i f = refl
  map_tab g (suc n) i f = ap (λ r. g (f i) ∷ r) (map_tab g n (i + 1) f)
