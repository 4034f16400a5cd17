-- Laws of lists put together, cut and mapped: ++, join, take and drop, and map over them.
-- Each by induction on the list. Assumes nothing.
use mathlib.Core.Path.{◌≡◌, refl, sym, ap, ap₂, ◌∙◌, subst}
use mathlib.Core.Bool.{Bool, true}
use mathlib.Core.List.{List, [], ◌++◌, ◌∷◌, append_assoc, map}
use Prim.Native.Nat.{◌*◌, ◌+◌, ◌<◌, ◌≤◌, suc, zero, ℕ}
use native.Mathlib.Omega.{arith}
use lib.ListN.{drop, length, length-append, take}
use mathlib.Core.Logic.{inl, inr}
use native.Mathlib.Nat.{le_of_suc-le-suc, not-suc-le-zero}
use Rattle.lists.specs.Lists.{In, all, first, first_some, join, or_else, times}
use Rattle.lists.proofs.Tests.{all_left, all_right, first_append}
use Rattle.lists.proofs.Elements.{in_right, in_left}

pub times_append : (q : ℕ) (xs ys : List ℕ) → times q (xs ++ ys) ≡ times q xs + times q ys
unfolding times
times_append q [] ys = omega arith
times_append q (x ∷ xs) ys = let r = times_append q xs ys in omega arith

module _ {A : Type 0} where
  -- ---- take and drop: a list cut at a place inside it
  pub record Cut (n : ℕ) (xs : List A) : Type 0 where
    pub head : A
    pub heads : List A
    pub next : A
    pub rest : List A
    pub taken : take n xs ≡ head ∷ heads
    pub dropped : drop n xs ≡ next ∷ rest
    pub whole : xs ≡ (head ∷ heads) ++ next ∷ rest

  pub cut : (n : ℕ) (xs : List A) → 1 ≤ n → n < length xs → Cut n xs
  cut zero xs h k = absurd (not-suc-le-zero h)
  cut (suc n) [] h k = absurd (not-suc-le-zero k)
  cut (suc zero) (x ∷ []) h k = absurd (not-suc-le-zero (le_of_suc-le-suc k))
  cut (suc zero) (x ∷ y ∷ ys) h k =
      record { head = x; heads = []; next = y; rest = ys; taken = refl; dropped = refl; whole = refl }
  cut (suc (suc n)) (x ∷ xs) h k =
      let c = cut (suc n) xs (omega arith) (le_of_suc-le-suc k) in
      record {
        head = x;
        heads = c.head ∷ c.heads;
        next = c.next;
        rest = c.rest;
        taken = ap (λ zs. x ∷ zs) c.taken;
        dropped = c.dropped;
        whole = ap (λ zs. x ∷ zs) c.whole;
      }

  -- two lists that are one, cut at one place
  pub append_apart : (xs us ys vs : List A) → length xs ≡ length us → xs ++ ys ≡ us ++ vs → (xs ≡ us) × (ys ≡ vs)
  append_apart [] [] ys vs h e = (refl, e)
  append_apart [] (u ∷ us) ys vs h e = absurd (omega arith)
  append_apart (x ∷ xs) [] ys vs h e = absurd (omega arith)
  append_apart (x ∷ xs) (u ∷ us) ys vs h e =
      let t : xs ++ ys ≡ us ++ vs = cc in
      let r = append_apart xs us ys vs (omega arith) t in
      let s : x ≡ u = cc in
      (ap₂ (λ z zs. z ∷ zs) s r.0, r.1)

-- ---- joined
module _ {A B : Type 0} where
  pub join_append : (f : A → List B) (xs ys : List A) → join f (xs ++ ys) ≡ join f xs ++ join f ys
  unfolding join
  join_append f [] ys = refl
  join_append f (x ∷ xs) ys = ap (λ r. f x ++ r) (join_append f xs ys) ∙ sym (append_assoc (f x) (join f xs) (join f ys))

  -- lists of one length n, joined
  pub length_join : (f : A → List B) (n : ℕ) (xs : List A) → ((x : A) → length (f x) ≡ n) → length (join f xs) ≡ n * length xs
  unfolding join
  length_join f n [] h = omega arith
  length_join f n (x ∷ xs) h = let r = length_join f n xs h in omega (arith, length-append (f x) (join f xs), h x)

  -- f of joined lists, where f takes a list piece by piece
  pub pieces_join : {C : Type 0} (f : List B → List C) → f [] ≡ [] → ((xs ys : List B) → f (xs ++ ys) ≡ f xs ++ f ys)
      → (g : A → List B) (xs : List A) → join (λ x. f (g x)) xs ≡ f (join g xs)
  unfolding join
  pieces_join f e pieces g [] = sym e
  pieces_join f e pieces g (x ∷ xs) = ap (λ zs. f (g x) ++ zs) (pieces_join f e pieces g xs) ∙ sym (pieces (g x) (join g xs))

  pub join_map : {C : Type 0} (g : B → List C) (f : A → B) (xs : List A) → join g (map f xs) ≡ join (λ x. g (f x)) xs
  unfolding join
  join_map g f [] = refl
  join_map g f (x ∷ xs) = ap (λ zs. g (f x) ++ zs) (join_map g f xs)

  pub all_join : (p : B → Bool) (f : A → List B) (xs : List A) (x : A) → all p (join f xs) ≡ true → In x xs → all p (f x) ≡ true
  unfolding join
  all_join p f [] x h x4 = elim x4 [ ]
  all_join p f (y ∷ ys) x h (inl e) = subst (λ z. all p (f z) ≡ true) e (all_left p (f y) (join f ys) h)
  all_join p f (y ∷ ys) x h (inr i) = all_join p f ys x (all_right p (f y) (join f ys) h) i

  -- the first of joined lists is the first that one of them has, in their order
  pub first_join : (p : B → Bool) (f : A → List B) (xs : List A) → first p (join f xs) ≡ first_some (λ x. first p (f x)) xs
  unfolding first join first_some
  first_join p f [] = refl
  first_join p f (x ∷ xs) = first_append p (f x) (join f xs) ∙ ap (or_else (first p (f x))) (first_join p f xs)

  -- ---- mapped
  -- two functions that are the same at every element
  pub map_same : (f g : A → B) (xs : List A) → ((x : A) → In x xs → f x ≡ g x) → map f xs ≡ map g xs
  map_same f g [] h = refl
  map_same f g (x ∷ xs) h = ap₂ (λ y ys. y ∷ ys) (h x (inl refl)) (map_same f g xs (λ y i. h y (inr i)))

  -- two functions that are the same wherever P holds of all of an element's items
  pub map_alike : {C : Type 0} (f g : A → B) (items : A → List C) (P : C → Type 0) → ((x : A) → ((y : C) → In y (items x) → P y) → f x ≡ g x)
      → (xs : List A) → ((y : C) → In y (join items xs) → P y) → map f xs ≡ map g xs
  unfolding join
  map_alike f g items P same [] h = refl
  map_alike f g items P same (x ∷ xs) h =
      ap₂ (λ z zs. z ∷ zs) (same x (λ y i. h y (in_left (items x) (join items xs) y i)))
      (map_alike f g items P same xs (λ y i. h y (in_right (items x) (join items xs) y i)))

  pub map_append : (f : A → B) (xs ys : List A) → map f (xs ++ ys) ≡ map f xs ++ map f ys
  map_append f [] ys = refl
  map_append f (x ∷ xs) ys = ap (λ zs. f x ∷ zs) (map_append f xs ys)

  pub map_take : (f : A → B) (n : ℕ) (xs : List A) → map f (take n xs) ≡ take n (map f xs)
  map_take f zero xs = refl
  map_take f (suc n) [] = refl
  map_take f (suc n) (x ∷ xs) = ap (λ zs. f x ∷ zs) (map_take f n xs)

  pub map_drop : (f : A → B) (n : ℕ) (xs : List A) → map f (drop n xs) ≡ drop n (map f xs)
  map_drop f zero xs = refl
  map_drop f (suc n) [] = refl
  map_drop f (suc n) (x ∷ xs) = map_drop f n xs
