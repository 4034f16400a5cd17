-- The elements of a list: what the tests over it say of them, and which they are after ++, take, drop, keep, map, insert_at, insert_before and
-- in a table.
-- X-in says what an element of X is, in-X what is an element of X. By induction on the list. Assumes nothing.
use mathlib.Core.Path.{◌≡◌, refl, sym, ap, subst, ◌∙◌}
use mathlib.Core.Logic.{◌⊎◌, inl, inr, ⊎_elim}
use mathlib.Core.Bool.{Bool, true, false, cond, not, true≢false, false≢true}
use mathlib.Core.List.{List, [], ◌∷◌, ◌++◌, map}
use mathlib.Core.Option.{none, some, none-ne-some, some-injective}
use Prim.Native.Nat.{ℕ, zero, suc, ◌+◌, ◌≤◌, ◌<◌}
use native.Mathlib.Decide.{dec_lt}
use native.Mathlib.Omega.{arith}
use borrow.Author.Tests.{eqb-true, eq-eqb, not-true}
use lib.Dec.{eqb}
use lib.ListN.{drop, get_or, length, take}
use native.Mathlib.Nat.{le_of_suc-le-suc, not-suc-le-zero}
use Rattle.lists.specs.Lists.{all, any, keep, first, is_nil, In, member, tab, place, insert_at, insert_before}
use Rattle.lists.proofs.Tests.{and_left, and_right, and_both, either, or_left, or_right, fails, not_all, alike}
use Rattle.lists.proofs.Places.{insert_before_is}

module _ {A : Type 0} where
  -- ---- where there is one
  pub some_in : (xs : List A) → is_nil xs ≡ false → (x : A) × In x xs
  some_in [] h = absurd (true≢false h)
  some_in (x ∷ xs) h = (x, inl refl)

  -- ---- all
  pub all_in : (p : A → Bool) (xs : List A) (x : A) → all p xs ≡ true → In x xs → p x ≡ true
  unfolding all
  all_in p [] x h x4 = elim x4 [ ]
  all_in p (y ∷ ys) x h (inl e) = subst (λ z. p z ≡ true) e (and_left (p y) (all p ys) h)
  all_in p (y ∷ ys) x h (inr i) = all_in p ys x (and_right (p y) (all p ys) h) i

  pub in_all : (p : A → Bool) (xs : List A) → ((x : A) → In x xs → p x ≡ true) → all p xs ≡ true
  unfolding all
  in_all p [] h = refl
  in_all p (y ∷ ys) h = and_both (p y) (all p ys) (h y (inl refl)) (in_all p ys (λ x i. h x (inr i)))

  -- ---- any
  pub any_in : (p : A → Bool) (xs : List A) → any p xs ≡ true → (x : A) × In x xs × (p x ≡ true)
  unfolding any
  any_in p [] h = absurd (false≢true h)
  any_in p (y ∷ ys) h = ⊎_elim (λ e. (y, inl refl, e)) (λ e. later (any_in p ys e)) (either (p y) (any p ys) h)
    where
      later : ((x : A) × In x ys × (p x ≡ true)) → (x : A) × In x (y ∷ ys) × (p x ≡ true)
      later w = (w.0, inr w.1, w.2)

  pub in_any : (p : A → Bool) (xs : List A) (x : A) → In x xs → p x ≡ true → any p xs ≡ true
  unfolding any
  in_any p [] x x4 h = elim x4 [ ]
  in_any p (y ∷ ys) x (inl e) h = or_left (p y) (any p ys) (subst (λ z. p z ≡ true) (sym e) h)
  in_any p (y ∷ ys) x (inr i) h = or_right (p y) (any p ys) (in_any p ys x i h)

  -- where a test fails: some element fails all, and every element fails any
  pub all_fails : (p : A → Bool) (xs : List A) → all p xs ≡ false → (x : A) × In x xs × (p x ≡ false)
  all_fails p xs h =
      let w = any_in (λ x. not (p x)) xs (sym (not_all p xs) ∙ ap not h) in
      (w.0, w.1, not-true (p w.0) w.2)

  pub none_any : (p : A → Bool) (xs : List A) (x : A) → any p xs ≡ false → In x xs → p x ≡ false
  none_any p xs x h i = fails (p x) (λ e. true≢false (sym (in_any p xs x i e) ∙ h))

  -- ---- first and last
  pub first_in : (p : A → Bool) (xs : List A) (x : A) → first p xs ≡ some x → In x xs × (p x ≡ true)
  unfolding first
  first_in p [] x h = absurd (none-ne-some x h)
  first_in p (y ∷ ys) x h = go (p y) refl h (first_in p ys x)
    where
      go : (b : Bool) → p y ≡ b → cond b (some y) (first p ys) ≡ some x → (first p ys ≡ some x → In x ys × (p x ≡ true))
          → In x (y ∷ ys) × (p x ≡ true)
      go true e h r = let q : y ≡ x = some-injective y x h in (inl q, ap p (sym q) ∙ e)
      go false e h r = (inr (r h).0, (r h).1)

  pub none_first : (p : A → Bool) (xs : List A) (x : A) → first p xs ≡ none → In x xs → p x ≡ false
  unfolding first
  none_first p [] x h i = elim i [ ]
  none_first p (y ∷ ys) x h i = go (p y) refl h i (none_first p ys x)
    where
      go : (b : Bool) → p y ≡ b → cond b (some y) (first p ys) ≡ none → In x (y ∷ ys)
          → (first p ys ≡ none → In x ys → p x ≡ false) → p x ≡ false
      go true e h i r = absurd (none-ne-some y (sym h))
      go false e h (inl q) r = ap p (sym q) ∙ e
      go false e h (inr i) r = r h i

  -- ---- one list behind another
  pub append_in : (xs ys : List A) (x : A) → In x (xs ++ ys) → In x xs ⊎ In x ys
  append_in [] ys x i = inr i
  append_in (z ∷ xs) ys x (inl e) = inl (inl e)
  append_in (z ∷ xs) ys x (inr i) = ⊎_elim (λ j. inl (inr j)) inr (append_in xs ys x i)

  pub in_left : (xs ys : List A) (x : A) → In x xs → In x (xs ++ ys)
  in_left [] ys x x3 = elim x3 [ ]
  in_left (y ∷ xs) ys x (inl e) = inl e
  in_left (y ∷ xs) ys x (inr i) = inr (in_left xs ys x i)

  pub in_right : (xs ys : List A) (x : A) → In x ys → In x (xs ++ ys)
  in_right [] ys x i = i
  in_right (y ∷ xs) ys x i = inr (in_right xs ys x i)

  pub in_split : (xs : List A) (x : A) → In x xs → (b : List A) × (a : List A) × (xs ≡ b ++ x ∷ a)
  in_split [] x x3 = elim x3 [ ]
  in_split (y ∷ ys) x (inl e) = ([], ys, ap (λ z. z ∷ ys) e)
  in_split (y ∷ ys) x (inr i) = let r = in_split ys x i in (y ∷ r.0, r.1, ap (λ zs. y ∷ zs) r.2)

  -- ---- some of a list, and one place of it
  pub take_in : (n : ℕ) (xs : List A) (x : A) → In x (take n xs) → In x xs
  take_in zero xs x i = absurd i
  take_in (suc n) [] x i = i
  take_in (suc n) (y ∷ ys) x (inl e) = inl e
  take_in (suc n) (y ∷ ys) x (inr i) = inr (take_in n ys x i)

  pub drop_in : (n : ℕ) (xs : List A) (x : A) → In x (drop n xs) → In x xs
  drop_in zero xs x i = i
  drop_in (suc n) [] x i = i
  drop_in (suc n) (y ∷ ys) x i = inr (drop_in n ys x i)

  pub in_place_lem : (xs : List A) (i : ℕ) (d : A) → i < length xs → In (get_or xs i d) xs
  in_place_lem [] i d h = absurd (not-suc-le-zero h)
  in_place_lem (x ∷ xs) zero d h = inl refl
  in_place_lem (x ∷ xs) (suc i) d h = inr (in_place_lem xs i d (le_of_suc-le-suc h))

  -- ---- keep
  pub keep_in : (p : A → Bool) (xs : List A) (x : A) → In x (keep p xs) → In x xs × (p x ≡ true)
  unfolding keep
  keep_in p [] x i = elim i [ ]
  keep_in p (y ∷ ys) x i = go (p y) refl i (keep_in p ys x)
    where
      go : (b : Bool) → p y ≡ b → In x (cond b (y ∷ keep p ys) (keep p ys)) → (In x (keep p ys) → In x ys × (p x ≡ true))
          → In x (y ∷ ys) × (p x ≡ true)
      go true h (inl e) r = (inl e, subst (λ z. p z ≡ true) e h)
      go true h (inr i) r = (inr (r i).0, (r i).1)
      go false h i r = (inr (r i).0, (r i).1)

  pub in_keep : (p : A → Bool) (xs : List A) (x : A) → In x xs → p x ≡ true → In x (keep p xs)
  unfolding keep
  in_keep p [] x x4 h = elim x4 [ ]
  in_keep p (y ∷ ys) x (inl e) h = rw (subst (λ z. p z ≡ true) (sym e) h) (inl e)
  in_keep p (y ∷ ys) x (inr i) h = go (p y) (in_keep p ys x i h)
    where
      go : (b : Bool) → In x (keep p ys) → In x (cond b (y ∷ keep p ys) (keep p ys))
      go true j = inr j
      go false j = j

  -- ---- insert_at and insert_before
  pub insert_at_in : (i : ℕ) (x : A) (ys : List A) (y : A) → In y (insert_at i x ys) → (x ≡ y) ⊎ In y ys
  unfolding insert_at
  insert_at_in zero x ys y h = h
  insert_at_in (suc i) x [] y h = h
  insert_at_in (suc i) x (z ∷ zs) y (inl e) = inr (inl e)
  insert_at_in (suc i) x (z ∷ zs) y (inr h) = ⊎_elim inl (λ k. inr (inr k)) (insert_at_in i x zs y h)

  pub in_insert_at : (i : ℕ) (x : A) (ys : List A) (y : A) → (x ≡ y) ⊎ In y ys → In y (insert_at i x ys)
  unfolding insert_at
  in_insert_at zero x ys y h = h
  in_insert_at (suc i) x [] y h = h
  in_insert_at (suc i) x (z ∷ zs) y (inl e) = inr (in_insert_at i x zs y (inl e))
  in_insert_at (suc i) x (z ∷ zs) y (inr (inl e)) = inl e
  in_insert_at (suc i) x (z ∷ zs) y (inr (inr k)) = inr (in_insert_at i x zs y (inr k))

  pub insert_before_in : (p : A → Bool) (x : A) (ys : List A) (y : A) → In y (insert_before p x ys) → (x ≡ y) ⊎ In y ys
  insert_before_in p x ys y h = insert_at_in (place p ys) x ys y (rw insert_before_is at h)

  pub in_insert_before : (p : A → Bool) (x : A) (ys : List A) (y : A) → (x ≡ y) ⊎ In y ys → In y (insert_before p x ys)
  in_insert_before p x ys y h = rw insert_before_is (in_insert_at (place p ys) x ys y h)

  -- ---- tables
  pub in_tab : (n i : ℕ) (f : ℕ → A) (k : ℕ) → i ≤ k → k < i + n → In (f k) (tab n i f)
  unfolding tab
  in_tab zero i f k low high = absurd (omega arith)
  in_tab (suc n) i f k low high = go (dec_lt i k) (in_tab n (i + 1) f k)
    where
      go : Dec (i < k) → (i + 1 ≤ k → k < i + 1 + n → In (f k) (tab n (i + 1) f)) → In (f k) (f i ∷ tab n (i + 1) f)
      go (yes above) r = inr (r (omega arith) (omega arith))
      go (no same) r = inl (ap f (omega arith))

  pub tab_in : (n i : ℕ) (f : ℕ → A) (x : A) → In x (tab n i f) → (k : ℕ) × (i ≤ k) × (k < i + n) × (f k ≡ x)
  unfolding tab
  tab_in zero i f x m = absurd m
  tab_in (suc n) i f x (inl e) = (i, omega arith, omega arith, e)
  tab_in (suc n) i f x (inr m) =
      let y = tab_in n (i + 1) f x m in
      let a : i + 1 ≤ y.0 = y.1 in
      let b : y.0 < i + 1 + n = y.2 in
      (y.0, omega arith, omega arith, y.3)

-- ---- map
module _ {A B : Type 0} where
  pub map_in : (f : A → B) (xs : List A) (y : B) → In y (map f xs) → (x : A) × In x xs × (f x ≡ y)
  map_in f [] y x' = elim x' [ ]
  map_in f (x ∷ xs) y (inl e) = (x, inl refl, e)
  map_in f (x ∷ xs) y (inr i) = let w = map_in f xs y i in (w.0, inr w.1, w.2)

  pub in_map : (f : A → B) (xs : List A) (x : A) → In x xs → In (f x) (map f xs)
  in_map f [] x x3 = elim x3 [ ]
  in_map f (y ∷ ys) x (inl e) = inl (ap f e)
  in_map f (y ∷ ys) x (inr i) = inr (in_map f ys x i)

-- ---- member
pub member_in : (q : ℕ) (xs : List ℕ) → member q xs ≡ true → In q xs
member_in q xs h = let w = any_in (λ x. eqb x q) xs h in subst (λ x. In x xs) (eqb-true w.0 q w.2) w.1

pub in_member : (q : ℕ) (xs : List ℕ) → In q xs → member q xs ≡ true
in_member q xs i = in_any (λ x. eqb x q) xs q i (eq-eqb q q refl)

-- who is kept, where whoever passes the test is there
pub member_keep : (p : ℕ → Bool) (xs : List ℕ) (u : ℕ) → (p u ≡ true → In u xs) → member u (keep p xs) ≡ p u
member_keep p xs u f =
    alike (member u (keep p xs)) (p u) (λ h. (keep_in p xs u (member_in u (keep p xs) h)).1) (λ h. in_member u (keep p xs) (in_keep p xs u (f h) h))
