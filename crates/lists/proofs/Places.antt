-- Laws of a list with one element put in at a place, taken out there, or behind the last: its length, what stands where, its front and its
-- rest; and to put one in before the first that passes a test is to put it in at that place. By induction on place and list. Assumes nothing.
use mathlib.Core.Path.{◌≡◌, refl, sym, ap, ◌∙◌}
use mathlib.Core.Bool.{Bool, true, false, cond, ◌&&◌, and_assoc, and_comm, false≢true, not}
use mathlib.Core.List.{List, [], ◌∷◌, ◌++◌, map}
use Prim.Native.Nat.{ℕ, zero, suc, ◌+◌, ◌-◌, ◌≤◌, ◌<◌}
use native.Mathlib.Nat.{not-suc-le-zero, le_of_suc-le-suc, suc-sub-suc, sub-zero, suc-add}
use native.Mathlib.Numerals.{add-one}
use native.Mathlib.Omega.{arith}
use lib.ListN.{length, get_or, take, drop, replicate, set}
use mathlib.Core.Logic.{◌≢◌}
use Rattle.lists.specs.Lists.{all, place, insert_at, insert_before, remove_at}
use Rattle.lists.proofs.Tests.{all_head, and_both}

module _ {A : Type 0} where
  -- ---- one put in
  pub insert_at_is : (i : ℕ) (x : A) (xs : List A) → i ≤ length xs → insert_at i x xs ≡ take i xs ++ x ∷ drop i xs
  unfolding insert_at
  insert_at_is zero x xs h = refl
  insert_at_is (suc i) x [] h = absurd (not-suc-le-zero h)
  insert_at_is (suc i) x (y ∷ ys) h = ap (λ r. y ∷ r) (insert_at_is i x ys (le_of_suc-le-suc h))

  pub length_insert_at : (i : ℕ) (x : A) (xs : List A) → length (insert_at i x xs) ≡ length xs + 1
  unfolding insert_at
  length_insert_at zero x xs = omega arith
  length_insert_at (suc i) x [] = refl
  length_insert_at (suc i) x (y ∷ ys) = let r = length_insert_at i x ys in omega arith

  -- the first c and the rest, where x comes behind them, and where it comes among them
  pub take_insert_at_below : (c i : ℕ) (x : A) (xs : List A) → c ≤ i → i ≤ length xs → take c (insert_at i x xs) ≡ take c xs
  unfolding insert_at
  take_insert_at_below zero i x xs h k = refl
  take_insert_at_below (suc c) zero x xs h k = absurd (not-suc-le-zero h)
  take_insert_at_below (suc c) (suc i) x [] h k = absurd (not-suc-le-zero k)
  take_insert_at_below (suc c) (suc i) x (y ∷ ys) h k = ap (λ r. y ∷ r) (take_insert_at_below c i x ys (le_of_suc-le-suc h) (le_of_suc-le-suc k))

  pub drop_insert_at_below : (c i : ℕ) (x : A) (xs : List A) → c ≤ i → i ≤ length xs → drop c (insert_at i x xs) ≡ insert_at (i - c) x (drop c xs)
  unfolding insert_at
  drop_insert_at_below zero i x xs h k = rw sub-zero
  drop_insert_at_below (suc c) zero x xs h k = absurd (not-suc-le-zero h)
  drop_insert_at_below (suc c) (suc i) x [] h k = absurd (not-suc-le-zero k)
  drop_insert_at_below (suc c) (suc i) x (y ∷ ys) h k = rw suc-sub-suc (drop_insert_at_below c i x ys (le_of_suc-le-suc h) (le_of_suc-le-suc k))

  pub take_insert_at_above : (c i : ℕ) (x : A) (xs : List A) → i ≤ c → i ≤ length xs → take (c + 1) (insert_at i x xs) ≡ insert_at i x (take c xs)
  unfolding insert_at
  take_insert_at_above c zero x xs h k = rw add-one
  take_insert_at_above zero (suc i) x xs h k = absurd (not-suc-le-zero h)
  take_insert_at_above (suc c) (suc i) x [] h k = absurd (not-suc-le-zero k)
  take_insert_at_above (suc c) (suc i) x (y ∷ ys) h k =
      rw suc-add (ap (λ r. y ∷ r) (take_insert_at_above c i x ys (le_of_suc-le-suc h) (le_of_suc-le-suc k)))

  pub drop_insert_at_above : (c i : ℕ) (x : A) (xs : List A) → i ≤ c → i ≤ length xs → drop (c + 1) (insert_at i x xs) ≡ drop c xs
  unfolding insert_at
  drop_insert_at_above c zero x xs h k = rw add-one
  drop_insert_at_above zero (suc i) x xs h k = absurd (not-suc-le-zero h)
  drop_insert_at_above (suc c) (suc i) x [] h k = absurd (not-suc-le-zero k)
  drop_insert_at_above (suc c) (suc i) x (y ∷ ys) h k = rw suc-add (drop_insert_at_above c i x ys (le_of_suc-le-suc h) (le_of_suc-le-suc k))

  pub all_insert_at : (p : A → Bool) (i : ℕ) (x : A) (xs : List A) → all p (insert_at i x xs) ≡ (p x && all p xs)
  unfolding insert_at all
  all_insert_at p zero x xs = refl
  all_insert_at p (suc i) x [] = refl
  all_insert_at p (suc i) x (y ∷ ys) =
      ap (λ b. p y && b) (all_insert_at p i x ys)
      ∙ sym (and_assoc (p y) (p x) (all p ys))
      ∙ ap (λ b. b && all p ys) (and_comm (p y) (p x))
      ∙ and_assoc (p x) (p y) (all p ys)

  -- next behind an element
  pub insert_at_behind : (a x : A) (xs ys : List A) → insert_at (length xs + 1) a (xs ++ x ∷ ys) ≡ xs ++ x ∷ a ∷ ys
  unfolding insert_at
  insert_at_behind a x [] ys = refl
  insert_at_behind a x (z ∷ xs) ys =
      let e : suc (length xs) + 1 ≡ suc (length xs + 1) = omega arith in
      ap (λ i. insert_at i a (z ∷ (xs ++ x ∷ ys))) e ∙ ap (λ zs. z ∷ zs) (insert_at_behind a x xs ys)

  -- ---- one put in before the first that passes the test
  pub insert_before_is : (p : A → Bool) (x : A) (xs : List A) → insert_before p x xs ≡ insert_at (place p xs) x xs
  unfolding insert_before insert_at place
  insert_before_is p x [] = refl
  insert_before_is p x (y ∷ ys) = go (p y) (insert_before_is p x ys)
    where
      go : (b : Bool) → insert_before p x ys ≡ insert_at (place p ys) x ys
          → cond b (x ∷ y ∷ ys) (y ∷ insert_before p x ys) ≡ insert_at (cond b 0 (suc (place p ys))) x (y ∷ ys)
      go true r = refl
      go false r = ap (λ zs. y ∷ zs) r

  pub length_insert_before : (p : A → Bool) (x : A) (xs : List A) → length (insert_before p x xs) ≡ suc (length xs)
  length_insert_before p x xs = ap length (insert_before_is p x xs) ∙ (let e = length_insert_at (place p xs) x xs in omega arith)

  pub all_insert_before : (q p : A → Bool) (x : A) (xs : List A) → q x ≡ true → all q xs ≡ true → all q (insert_before p x xs) ≡ true
  all_insert_before q p x xs h k =
      ap (all q) (insert_before_is p x xs) ∙ all_insert_at q (place p xs) x xs ∙ and_both (q x) (all q xs) h k

  -- behind elements that fail the test, and in front of elements that pass it
  pub insert_before_past : (p : A → Bool) (a : A) (xs ys : List A) → all (λ x. not (p x)) xs ≡ true
      → insert_before p a (xs ++ ys) ≡ xs ++ insert_before p a ys
  unfolding insert_before all
  insert_before_past p a [] ys h = refl
  insert_before_past p a (x ∷ xs) ys h = go (p x) h (insert_before_past p a xs ys)
    where
      go : (b : Bool) → (not b && all (λ z. not (p z)) xs) ≡ true
          → (all (λ z. not (p z)) xs ≡ true → insert_before p a (xs ++ ys) ≡ xs ++ insert_before p a ys)
          → cond b (a ∷ x ∷ (xs ++ ys)) (x ∷ insert_before p a (xs ++ ys)) ≡ x ∷ (xs ++ insert_before p a ys)
      go true e f = absurd (false≢true e)
      go false e f = ap (λ zs. x ∷ zs) (f e)

  pub insert_before_front : (p : A → Bool) (a : A) (xs ys : List A) → all p ys ≡ true
      → insert_before p a (xs ++ ys) ≡ insert_before p a xs ++ ys
  unfolding insert_before all
  insert_before_front p a [] [] h = refl
  insert_before_front p a [] (y ∷ ys) h = rw (all_head p y ys h)
  insert_before_front p a (x ∷ xs) ys h = go (p x) (insert_before_front p a xs ys h)
    where
      go : (b : Bool) → insert_before p a (xs ++ ys) ≡ insert_before p a xs ++ ys
          → cond b (a ∷ x ∷ (xs ++ ys)) (x ∷ insert_before p a (xs ++ ys)) ≡ cond b (a ∷ x ∷ xs) (x ∷ insert_before p a xs) ++ ys
      go true e = refl
      go false e = ap (λ zs. x ∷ zs) e

  -- ---- one taken out
  pub remove_at_is : (i : ℕ) (xs : List A) → remove_at i xs ≡ take i xs ++ drop (i + 1) xs
  unfolding remove_at
  remove_at_is zero [] = refl
  remove_at_is (suc i) [] = rw add-one
  remove_at_is zero (x ∷ xs) = refl
  remove_at_is (suc i) (x ∷ xs) = rw suc-add (ap (λ r. x ∷ r) (remove_at_is i xs))

  pub length_remove_at : (i : ℕ) (xs : List A) → i < length xs → length (remove_at i xs) ≡ length xs - 1
  unfolding remove_at
  length_remove_at i [] h = refl
  length_remove_at zero (x ∷ xs) h = omega arith
  length_remove_at (suc i) (x ∷ xs) h = let r = length_remove_at i xs (le_of_suc-le-suc h) in omega arith

  pub get_d_remove_at_below : (i : ℕ) (xs : List A) (j : ℕ) (d : A) → j < i → get_or (remove_at i xs) j d ≡ get_or xs j d
  unfolding remove_at
  get_d_remove_at_below i [] j d h = refl
  get_d_remove_at_below zero (x ∷ xs) j d h = absurd (not-suc-le-zero h)
  get_d_remove_at_below (suc i) (x ∷ xs) zero d h = refl
  get_d_remove_at_below (suc i) (x ∷ xs) (suc j) d h = get_d_remove_at_below i xs j d (le_of_suc-le-suc h)

  pub get_d_remove_at_above : (i : ℕ) (xs : List A) (j : ℕ) (d : A) → i ≤ j → get_or (remove_at i xs) j d ≡ get_or xs (j + 1) d
  unfolding remove_at
  get_d_remove_at_above i [] j d h = refl
  get_d_remove_at_above zero (x ∷ xs) j d h = rw add-one
  get_d_remove_at_above (suc i) (x ∷ xs) zero d h = absurd (not-suc-le-zero h)
  get_d_remove_at_above (suc i) (x ∷ xs) (suc j) d h = rw suc-add (get_d_remove_at_above i xs j d (le_of_suc-le-suc h))

  -- ---- one behind the last
  pub at_last : (xs : List A) (x d : A) → get_or (xs ++ (x ∷ [])) (length xs) d ≡ x
  at_last [] x d = refl
  at_last (y ∷ xs) x d = at_last xs x d

  pub at_other : (xs : List A) (x : A) (i : ℕ) (d : A) → i ≢ length xs → get_or (xs ++ (x ∷ [])) i d ≡ get_or xs i d
  at_other [] x zero d h = absurd (h refl)
  at_other [] x (suc i) d h = refl
  at_other (y ∷ xs) x zero d h = refl
  at_other (y ∷ xs) x (suc i) d h = at_other xs x i d (λ e. h (ap suc e))

  -- ---- one value throughout
  pub get_d_alike : (n k : ℕ) (x : A) → get_or (replicate n x) k x ≡ x
  get_d_alike zero k x = refl
  get_d_alike (suc n) zero x = refl
  get_d_alike (suc n) (suc k) x = get_d_alike n k x

-- ---- over map
module _ {A B : Type 0} where
  pub map_insert_at : (f : A → B) (i : ℕ) (x : A) (xs : List A) → map f (insert_at i x xs) ≡ insert_at i (f x) (map f xs)
  unfolding insert_at
  map_insert_at f zero x xs = refl
  map_insert_at f (suc i) x [] = refl
  map_insert_at f (suc i) x (y ∷ ys) = ap (λ r. f y ∷ r) (map_insert_at f i x ys)

  pub map_insert_before : (p : B → Bool) (f : A → B) (a : A) (xs : List A)
      → map f (insert_before (λ x. p (f x)) a xs) ≡ insert_before p (f a) (map f xs)
  unfolding insert_before
  map_insert_before p f a [] = refl
  map_insert_before p f a (x ∷ xs) = go (p (f x)) (map_insert_before p f a xs)
    where
      go : (b : Bool) → map f (insert_before (λ x. p (f x)) a xs) ≡ insert_before p (f a) (map f xs)
          → map f (cond b (a ∷ x ∷ xs) (x ∷ insert_before (λ x. p (f x)) a xs)) ≡ cond b (f a ∷ f x ∷ map f xs) (f x ∷ insert_before p (f a) (map f xs))
      go true e = refl
      go false e = ap (λ zs. f x ∷ zs) e

  pub map_set : (f : A → B) (xs : List A) (i : ℕ) (x : A) → map f (set xs i x) ≡ set (map f xs) i (f x)
  map_set f [] i x = refl
  map_set f (y ∷ xs) zero x = refl
  map_set f (y ∷ xs) (suc i) x = ap (λ zs. f y ∷ zs) (map_set f xs i x)
