-- The lightest of the elements that pass a test is one of them, none that passes is lighter, and none behind it that passes is as light; no
-- other has all of these, and where one passes there is a lightest. By induction on the list. Assumes nothing.
use Prim.Native.Nat.{ℕ, ◌≤◌, ◌<◌}
use mathlib.Core.Path.{◌≡◌, refl, sym, ap, subst, ◌∙◌}
use mathlib.Core.Logic.{◌⊎◌, inl, inr}
use mathlib.Core.Bool.{Bool, true, false, cond, true≢false}
use mathlib.Core.List.{List, [], ◌∷◌, ◌++◌, append_assoc}
use mathlib.Core.Option.{Option, none, some, none-ne-some, some-injective}
use native.Mathlib.Omega.{arith}
use borrow.Author.Tests.{leb-true, leb-false, le-leb}
use lib.Dec.{leb}
use Rattle.lists.specs.Lists.{In, lighter, lightest}
use Rattle.lists.proofs.Elements.{append_in}

pub stands : {A : Type 0} (ahead : List A) (v : A) (after : List A) → In v (ahead ++ (v ∷ after))
stands [] v after = inl refl
stands (u ∷ us) v after = inr (stands us v after)

module _ {A : Type 0} (p : A → Bool) (f : A → ℕ) where
  pub record Lightest (xs : List A) (x : A) : Type 0 where
    pub ahead : List A
    pub after : List A
    pub place : xs ≡ ahead ++ (x ∷ after)
    pub passes : p x ≡ true
    pub fewest : (y : A) → In y xs → p y ≡ true → f x ≤ f y
    pub last : (y : A) → In y after → p y ≡ true → f x < f y

  -- there is one, where one is compared with the lightest of the others
  some_lighter : (y : A) (o : Option A) → lighter f y o ≡ none → ⊥
  some_lighter y none e = none-ne-some y (sym e)
  some_lighter y (some z) e = go (leb (f z) (f y)) e
    where
      go : (c : Bool) → cond c (some z) (some y) ≡ none → ⊥
      go true e = none-ne-some z (sym e)
      go false e = none-ne-some y (sym e)

  pub none_lightest : (xs : List A) (x : A) → lightest p f xs ≡ none → In x xs → p x ≡ false
  unfolding lightest
  none_lightest [] x e i = absurd i
  none_lightest (y ∷ ys) x e i = go (p y) refl e i (none_lightest ys x)
    where
      go : (b : Bool) → p y ≡ b → cond b (lighter f y (lightest p f ys)) (lightest p f ys) ≡ none → In x (y ∷ ys)
          → (lightest p f ys ≡ none → In x ys → p x ≡ false) → p x ≡ false
      go true h e i r = absurd (some_lighter y (lightest p f ys) e)
      go false h e (inl q) r = ap p (sym q) ∙ h
      go false h e (inr i) r = r e i

  -- none passes: then there is no lightest
  pub lightest_none : (xs : List A) → ((x : A) → In x xs → p x ≡ false) → lightest p f xs ≡ none
  unfolding lightest
  lightest_none [] h = refl
  lightest_none (y ∷ ys) h = ap (λ b. cond b (lighter f y (lightest p f ys)) (lightest p f ys)) (h y (inl refl)) ∙ lightest_none ys (λ x i. h x (inr i))

  pub lightest_of : (xs : List A) (x : A) → lightest p f xs ≡ some x → Lightest xs x
  unfolding lightest
  lightest_of [] x e = absurd (none-ne-some x e)
  lightest_of (y ∷ ys) x e = go (p y) (lightest p f ys) refl refl e (lightest_of ys)
    where
      -- y itself, where those behind it that pass are heavier
      itself : p y ≡ true → ((z : A) → In z ys → p z ≡ true → f y < f z) → Lightest (y ∷ ys) y
      itself h heavier = record { ahead = []; after = ys; place = refl; passes = h; fewest = fewest; last = heavier }
        where
          fewest : (z : A) → In z (y ∷ ys) → p z ≡ true → f y ≤ f z
          fewest z (inl q) k = omega (arith, ap f q)
          fewest z (inr i) k = omega (arith, heavier z i k)

      -- one behind it, where y is no lighter or does not pass
      behind : (z : A) → Lightest ys z → (p y ≡ true → f z ≤ f y) → Lightest (y ∷ ys) z
      behind z l h =
          record {
            ahead = y ∷ l.ahead;
            after = l.after;
            place = ap (λ zs. y ∷ zs) l.place;
            passes = l.passes;
            fewest = fewest;
            last = l.last;
          }
        where
          fewest : (v : A) → In v (y ∷ ys) → p v ≡ true → f z ≤ f v
          fewest v (inl q) k = omega (arith, h (ap p q ∙ k), ap f q)
          fewest v (inr i) k = l.fewest v i k

      go : (b : Bool) (o : Option A) → p y ≡ b → lightest p f ys ≡ o → cond b (lighter f y o) o ≡ some x
          → ((z : A) → lightest p f ys ≡ some z → Lightest ys z) → Lightest (y ∷ ys) x
      go true none h k e r =
          subst (Lightest (y ∷ ys)) (some-injective y x e) (itself h (λ z i q. absurd (true≢false (sym q ∙ none_lightest ys z k i))))
      go true (some z) h k e r = which (leb (f z) (f y)) refl e
        where
          which : (c : Bool) → leb (f z) (f y) ≡ c → cond c (some z) (some y) ≡ some x → Lightest (y ∷ ys) x
          which true c e = subst (Lightest (y ∷ ys)) (some-injective z x e) (behind z (r z k) (λ q. leb-true (f z) (f y) c))
          which false c e =
              subst (Lightest (y ∷ ys)) (some-injective y x e)
              (itself h (λ v i q. omega (arith, leb-false (f z) (f y) c, (r z k).fewest v i q)))
      go false (some z) h k e r =
          subst (Lightest (y ∷ ys)) (some-injective z x e) (behind z (r z k) (λ q. absurd (true≢false (sym q ∙ h))))
      go false none h k e r = absurd (none-ne-some x e)

  -- behind it only heavier ones pass
  lightest_first : (x : A) (xs : List A) → p x ≡ true → ((y : A) → In y xs → p y ≡ true → f x < f y) → lightest p f (x ∷ xs) ≡ some x
  unfolding lightest
  lightest_first x xs h heavier =
      ap (λ b. cond b (lighter f x (lightest p f xs)) (lightest p f xs)) h ∙ go (lightest p f xs) refl
    where
      go : (o : Option A) → lightest p f xs ≡ o → lighter f x o ≡ some x
      go none e = refl
      go (some z) e = which (leb (f z) (f x)) refl
        where
          which : (c : Bool) → leb (f z) (f x) ≡ c → cond c (some z) (some x) ≡ some x
          which true c =
              let w = lightest_of xs z e in
              let k = heavier z (subst (In z) (sym w.place) (stands w.ahead z w.after)) w.passes in
              absurd (omega (arith, k, leb-true (f z) (f x) c))
          which false c = refl

  -- before it none that passes is lighter
  lightest_behind : (x : A) (ahead after : List A) → lightest p f (x ∷ after) ≡ some x
      → ((y : A) → In y (ahead ++ (x ∷ after)) → p y ≡ true → f x ≤ f y) → lightest p f (ahead ++ (x ∷ after)) ≡ some x
  unfolding lightest
  lightest_behind x [] after e h = e
  lightest_behind x (y ∷ ys) after e h = go (p y) refl (lightest_behind x ys after e (λ z i. h z (inr i)))
    where
      rest : Option A
      rest = lightest p f (ys ++ (x ∷ after))

      go : (b : Bool) → p y ≡ b → rest ≡ some x → cond b (lighter f y rest) rest ≡ some x
      go true c q = ap (lighter f y) q ∙ ap (λ b. cond b (some x) (some y)) (le-leb (f x) (f y) (h y (inl refl) c))
      go false c q = q

  pub lightest_is : (xs : List A) (x : A) → Lightest xs x → lightest p f xs ≡ some x
  lightest_is xs x l =
      ap (lightest p f) l.place
      ∙ lightest_behind x l.ahead l.after (lightest_first x l.after l.passes l.last) (λ y i. l.fewest y (subst (In y) (sym l.place) i))

  -- with one more at the end: it is the lightest, where it passes and none was lighter
  abbrev pub newer : A → Option A → Option A
  newer x none = some x
  newer x (some y) = cond (leb (f x) (f y)) (some x) (some y)

  pub lightest_last : (xs : List A) (x : A) → lightest p f (xs ++ (x ∷ [])) ≡ cond (p x) (newer x (lightest p f xs)) (lightest p f xs)
  lightest_last xs x = go (p x) (lightest p f xs) refl refl
    where
      end : List A
      end = xs ++ (x ∷ [])

      -- one of those before, where the last does not pass or is heavier
      before : (y : A) → lightest p f xs ≡ some y → (p x ≡ true → f y < f x) → lightest p f end ≡ some y
      before y e h =
          let l = lightest_of xs y e in
          lightest_is end y
          (record {
            ahead = l.ahead;
            after = l.after ++ (x ∷ []);
            place = ap (λ zs. zs ++ (x ∷ [])) l.place ∙ append_assoc l.ahead (y ∷ l.after) (x ∷ []);
            passes = l.passes;
            fewest = λ v i k. fewest l v (append_in xs (x ∷ []) v i) k;
            last = λ v i k. last l v (append_in l.after (x ∷ []) v i) k;
          })
        where
          fewest : Lightest xs y → (v : A) → In v xs ⊎ In v (x ∷ []) → p v ≡ true → f y ≤ f v
          fewest l v (inl i) k = l.fewest v i k
          fewest l v (inr (inl q)) k = omega (arith, h (ap p q ∙ k), ap f q)
          fewest l v (inr (inr i)) k = absurd i

          last : (l : Lightest xs y) → (v : A) → In v l.after ⊎ In v (x ∷ []) → p v ≡ true → f y < f v
          last l v (inl i) k = l.last v i k
          last l v (inr (inl q)) k = omega (arith, h (ap p q ∙ k), ap f q)
          last l v (inr (inr i)) k = absurd i

      -- the last, where those before that pass are no lighter
      itself : p x ≡ true → ((v : A) → In v xs → p v ≡ true → f x ≤ f v) → lightest p f end ≡ some x
      itself h k =
          lightest_is end x
          (record { ahead = xs; after = []; place = refl; passes = h; fewest = λ v i q. fewest v (append_in xs (x ∷ []) v i) q; last = λ v i q. absurd i })
        where
          fewest : (v : A) → In v xs ⊎ In v (x ∷ []) → p v ≡ true → f x ≤ f v
          fewest v (inl i) q = k v i q
          fewest v (inr (inl e)) q = omega (arith, ap f e)
          fewest v (inr (inr i)) q = absurd i

      go : (b : Bool) (o : Option A) → p x ≡ b → lightest p f xs ≡ o → lightest p f end ≡ cond b (newer x o) o
      go true none h e = itself h (λ v i q. absurd (true≢false (sym q ∙ none_lightest xs v e i)))
      go true (some y) h e = which (leb (f x) (f y)) refl
        where
          which : (c : Bool) → leb (f x) (f y) ≡ c → lightest p f end ≡ cond c (some x) (some y)
          which true c = itself h (λ v i q. omega (arith, leb-true (f x) (f y) c, (lightest_of xs y e).fewest v i q))
          which false c = before y e (λ q. omega (arith, leb-false (f x) (f y) c))
      go false (some y) h e = before y e (λ q. absurd (true≢false (sym q ∙ h)))
      go false none h e = lightest_none end (λ v i. nobody v (append_in xs (x ∷ []) v i))
        where
          nobody : (v : A) → In v xs ⊎ In v (x ∷ []) → p v ≡ false
          nobody v (inl i) = none_lightest xs v e i
          nobody v (inr (inl q)) = ap p (sym q) ∙ h
          nobody v (inr (inr i)) = absurd i
