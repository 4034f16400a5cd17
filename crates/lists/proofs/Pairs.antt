-- Every two elements of a list pass a test, the earlier one first: what that says of its elements, and when it holds after ++, keep,
-- insert_at, one more behind the last, and map. By induction on the list, each element against those behind it. Assumes nothing.
use mathlib.Core.Path.{◌≡◌, refl, sym, subst, ap₂, ◌∙◌}
use mathlib.Core.Logic.{◌⊎◌, inl, inr, ⊎_elim}
use mathlib.Core.Bool.{Bool, true, false, cond, ◌&&◌}
use mathlib.Core.List.{List, [], ◌∷◌, ◌++◌, map}
use mathlib.Core.Option.{some}
use Prim.Native.Nat.{ℕ, zero, suc}
use Rattle.lists.specs.Lists.{all, keep, first, pairs, In, insert_at}
use Rattle.lists.proofs.Tests.{and_left, and_right, and_both, all_map, all_both, all_cons, all_head, all_left, all_right, all_tail}
use Rattle.lists.proofs.Elements.{all_in, in_all, append_in, keep_in, insert_at_in}

module _ {A : Type 0} where
  -- the first against those behind it, and those among themselves
  pub pairs_head : (r : A → A → Bool) (x : A) (xs : List A) → pairs r (x ∷ xs) ≡ true → all (r x) xs ≡ true
  unfolding pairs
  pairs_head r x xs h = and_left (all (r x) xs) (pairs r xs) h

  pub pairs_tail : (r : A → A → Bool) (x : A) (xs : List A) → pairs r (x ∷ xs) ≡ true → pairs r xs ≡ true
  unfolding pairs
  pairs_tail r x xs h = and_right (all (r x) xs) (pairs r xs) h

  pub pairs_cons : (r : A → A → Bool) (x : A) (xs : List A) → all (r x) xs ≡ true → pairs r xs ≡ true → pairs r (x ∷ xs) ≡ true
  unfolding pairs
  pairs_cons r x xs h k = and_both (all (r x) xs) (pairs r xs) h k

  -- of two lists, and of the elements of the one with those of the other
  pub record Pairs (r : A → A → Bool) (xs ys : List A) : Type 0 where
    pub left : pairs r xs ≡ true
    pub right : pairs r ys ≡ true
    pub across : all (λ x. all (r x) ys) xs ≡ true

  pub pairs_apart : (r : A → A → Bool) (xs ys : List A) → pairs r (xs ++ ys) ≡ true → Pairs r xs ys
  unfolding pairs all
  pairs_apart r [] ys h = record { left = refl; right = h; across = refl }
  pairs_apart r (x ∷ xs) ys h =
      let a = pairs_head r x (xs ++ ys) h in
      let p = pairs_apart r xs ys (pairs_tail r x (xs ++ ys) h) in
      record {
        left = pairs_cons r x xs (all_left (r x) xs ys a) p.left;
        right = p.right;
        across = all_cons (λ z. all (r z) ys) x xs (all_right (r x) xs ys a) p.across;
      }

  pub pairs_together : (r : A → A → Bool) (xs ys : List A) → Pairs r xs ys → pairs r (xs ++ ys) ≡ true
  pairs_together r [] ys p = p.right
  pairs_together r (x ∷ xs) ys p =
      let q : Pairs r xs ys
      = record { left = pairs_tail r x xs p.left; right = p.right; across = all_tail (λ z. all (r z) ys) x xs p.across } in
      pairs_cons r x (xs ++ ys) (all_both (r x) xs ys (pairs_head r x xs p.left) (all_head (λ z. all (r z) ys) x xs p.across))
      (pairs_together r xs ys q)

  -- any two elements, one way round or the other
  pub pairs_in : (r : A → A → Bool) (xs : List A) (x y : A) → pairs r xs ≡ true → In x xs → In y xs
      → (x ≡ y) ⊎ ((r x y ≡ true) ⊎ (r y x ≡ true))
  pairs_in r [] x y h x5 _ = elim x5 [ ]
  pairs_in r (z ∷ zs) x y h (inl d) (inl e) = inl (sym d ∙ e)
  pairs_in r (z ∷ zs) x y h (inl d) (inr j) = inr (inl (subst (λ v. r v y ≡ true) d (all_in (r z) zs y (pairs_head r z zs h) j)))
  pairs_in r (z ∷ zs) x y h (inr i) (inl e) = inr (inr (subst (λ v. r v x ≡ true) e (all_in (r z) zs x (pairs_head r z zs h) i)))
  pairs_in r (z ∷ zs) x y h (inr i) (inr j) = pairs_in r zs x y (pairs_tail r z zs h) i j

  -- the first that passes p comes before each other that does
  pub first_least : (p : A → Bool) (r : A → A → Bool) (xs : List A) (y : A) → pairs r xs ≡ true → In y xs → p y ≡ true
      → (x : A) × (first p xs ≡ some x) × ((x ≡ y) ⊎ (r x y ≡ true))
  unfolding first
  first_least p r [] y h x3 q = elim x3 [ ]
  first_least p r (x ∷ xs) y h (inl e) q = (x, rw (subst (λ z. p z ≡ true) (sym e) q) refl, inl e)
  first_least p r (x ∷ xs) y h (inr i) q = go (p x) refl (first_least p r xs y (pairs_tail r x xs h) i q)
    where
      go : (b : Bool) → p x ≡ b → ((z : A) × (first p xs ≡ some z) × ((z ≡ y) ⊎ (r z y ≡ true)))
          → (z : A) × (cond (p x) (some x) (first p xs) ≡ some z) × ((z ≡ y) ⊎ (r z y ≡ true))
      go true e w = (x, rw e refl, inr (all_in (r x) xs y (pairs_head r x xs h) i))
      go false e w = (w.0, rw e w.1, w.2)

  -- another test, that passes wherever the one does
  pub pairs_weaker : (r q : A → A → Bool) (xs : List A) → ((x y : A) → In x xs → In y xs → r x y ≡ true → q x y ≡ true)
      → pairs r xs ≡ true → pairs q xs ≡ true
  unfolding pairs
  pairs_weaker r q [] f h = refl
  pairs_weaker r q (x ∷ xs) f h =
      pairs_cons q x xs (in_all (q x) xs (λ y i. f x y (inl refl) (inr i) (all_in (r x) xs y (pairs_head r x xs h) i)))
      (pairs_weaker r q xs (λ y z i j. f y z (inr i) (inr j)) (pairs_tail r x xs h))

  -- fewer elements, or one more
  pub pairs_keep : (r : A → A → Bool) (p : A → Bool) (xs : List A) → pairs r xs ≡ true → pairs r (keep p xs) ≡ true
  unfolding pairs keep
  pairs_keep r p [] h = refl
  pairs_keep r p (x ∷ xs) h = go (p x) (pairs_keep r p xs (pairs_tail r x xs h))
    where
      go : (b : Bool) → pairs r (keep p xs) ≡ true → pairs r (cond b (x ∷ keep p xs) (keep p xs)) ≡ true
      go true k = pairs_cons r x (keep p xs) (in_all (r x) (keep p xs) (λ y i. all_in (r x) xs y (pairs_head r x xs h) (keep_in p xs y i).0)) k
      go false k = k

  pub pairs_insert_at : (r : A → A → Bool) (i : ℕ) (x : A) (ys : List A) → pairs r ys ≡ true
      → ((y : A) → In y ys → (r x y ≡ true) × (r y x ≡ true)) → pairs r (insert_at i x ys) ≡ true
  unfolding insert_at all
  pairs_insert_at r zero x ys h f = pairs_cons r x ys (in_all (r x) ys (λ y j. (f y j).0)) h
  pairs_insert_at r (suc i) x [] h f = pairs_cons r x [] refl h
  pairs_insert_at r (suc i) x (z ∷ zs) h f =
      pairs_cons r z (insert_at i x zs)
      (in_all (r z) (insert_at i x zs)
      (λ y j. ⊎_elim (λ e. subst (λ v. r z v ≡ true) e (f z (inl refl)).1) (all_in (r z) zs y (pairs_head r z zs h)) (insert_at_in i x zs y j)))
      (pairs_insert_at r i x zs (pairs_tail r z zs h) (λ y j. f y (inr j)))

  pub pairs_last : (r : A → A → Bool) (xs : List A) (y : A) → pairs r xs ≡ true → all (λ x. r x y) xs ≡ true → pairs r (xs ++ (y ∷ [])) ≡ true
  unfolding all
  pairs_last r [] y d h = pairs_cons r y [] refl d
  pairs_last r (x ∷ xs) y d h =
      pairs_cons r x (xs ++ (y ∷ [])) (in_all (r x) (xs ++ (y ∷ [])) (λ z i. go z (append_in xs (y ∷ []) z i)))
      (pairs_last r xs y (pairs_tail r x xs d) (and_right (r x y) (all (λ z. r z y) xs) h))
    where
      go : (z : A) → In z xs ⊎ In z (y ∷ []) → r x z ≡ true
      go z (inr (inr x5)) = elim x5 [ ]
      go z (inl i) = all_in (r x) xs z (pairs_head r x xs d) i
      go z (inr (inl e)) = subst (λ w. r x w ≡ true) e (and_left (r x y) (all (λ z. r z y) xs) h)

-- over map
module _ {A B : Type 0} where
  pub pairs_map : (r : B → B → Bool) (f : A → B) (xs : List A) → pairs r (map f xs) ≡ pairs (λ x y. r (f x) (f y)) xs
  unfolding pairs
  pairs_map r f [] = refl
  pairs_map r f (x ∷ xs) = ap₂ (λ a b. a && b) (all_map (r (f x)) f xs) (pairs_map r f xs)
