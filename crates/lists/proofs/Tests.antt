-- Laws of tests: joined by && and ||, and over lists all, any, keep and first, over ++, over map, at a place, and against one another.
-- Each by induction on the list; where a test decides, its value is an argument of the step. Assumes nothing.
use mathlib.Core.Path.{◌≡◌, refl, sym, ap, ◌∙◌, ap₂}
use mathlib.Core.Logic.{◌⊎◌, inl, inr}
use mathlib.Core.Bool.{Bool, true, false, cond, not, ◌&&◌, ◌||◌, and_assoc, or_assoc, true≢false, false≢true}
use mathlib.Core.List.{List, [], ◌∷◌, ◌++◌, map}
use mathlib.Core.Option
use mathlib.Core.Option.{none, some, none-ne-some, some-injective, Option}
use Prim.Native.Nat.{ℕ, zero, suc, ◌<◌}
use native.Mathlib.Nat.{not-suc-le-zero, le_of_suc-le-suc, zero-lt-suc}
use native.Mathlib.Omega.{arith}
use borrow.Author.Tests.{eqb-true, eqb-false, eq-eqb, ne_eqb}
use lib.Dec.{eqb}
use lib.ListN.{length, get_or}
use Rattle.lists.specs.Lists.{all, any, keep, first, is_nil, first_some, or_else}

-- the two halves of a test, and a test of its halves
pub and_left : (a b : Bool) → (a && b) ≡ true → a ≡ true
and_left true b e = refl
and_left false b e = e

pub and_right : (a b : Bool) → (a && b) ≡ true → b ≡ true
and_right true b e = e
and_right false b e = absurd (false≢true e)

-- both halves at once
pub both : (a b : Bool) → (a && b) ≡ true → (a ≡ true) × (b ≡ true)
both a b h = (and_left a b h, and_right a b h)

pub and_both : (a b : Bool) → a ≡ true → b ≡ true → (a && b) ≡ true
and_both true b p q = q
and_both false b p q = p

-- which of two tests passes, and that one is enough
pub either : (a b : Bool) → (a || b) ≡ true → (a ≡ true) ⊎ (b ≡ true)
either true b e = inl refl
either false b e = inr e

pub or_left : (a b : Bool) → a ≡ true → (a || b) ≡ true
or_left true b p = refl
or_left false b p = absurd (false≢true p)

pub or_right : (a b : Bool) → b ≡ true → (a || b) ≡ true
or_right true b q = refl
or_right false b q = q

-- neither of two tests passes where their disjunction fails
pub neither : (a b : Bool) → (a || b) ≡ false → (a ≡ false) × (b ≡ false)
neither true b e = absurd (true≢false e)
neither false b e = (refl, e)

-- two tests that pass together
pub alike : (a b : Bool) → (a ≡ true → b ≡ true) → (b ≡ true → a ≡ true) → a ≡ b
alike true b f g = sym (f refl)
alike false true f g = g refl
alike false false f g = refl

-- a test that cannot pass fails
pub fails : (b : Bool) → (b ≡ true → ⊥) → b ≡ false
fails true f = absurd (f refl)
fails false f = refl

-- two numbers are compared either way round
pub eqb_turn : (a b : ℕ) → eqb a b ≡ eqb b a
eqb_turn a b = go (eqb a b) refl
  where
    go : (t : Bool) → eqb a b ≡ t → t ≡ eqb b a
    go true e = sym (eq-eqb b a (sym (eqb-true a b e)))
    go false e = sym (ne_eqb b a (λ q. eqb-false a b e (sym q)))

-- what can't be: `never (cc)` proves anything where the equations in scope make two constructors equal
pub never {ℓ} : {A : Type ℓ} → ◌≡◌ {A = ℕ} 0 1 → A
never e = absurd (differ e)
  where
    differ : ◌≡◌ {A = ℕ} 0 1 → ⊥
    differ e = omega arith

module _ {A : Type 0} where
  -- ---- the empty list
  pub nil_is : (xs : List A) → is_nil xs ≡ true → xs ≡ []
  nil_is [] e = refl
  nil_is (x ∷ xs) e = absurd (false≢true e)

  pub nil_left : (xs ys : List A) → xs ++ ys ≡ [] → xs ≡ []
  nil_left [] ys e = refl
  nil_left (x ∷ xs) ys e = never (cc)

  pub nil_append : (xs ys : List A) → is_nil (xs ++ ys) ≡ (is_nil xs && is_nil ys)
  nil_append [] ys = refl
  nil_append (x ∷ xs) ys = refl

  -- ---- all
  pub all_append : (p : A → Bool) (xs ys : List A) → all p (xs ++ ys) ≡ (all p xs && all p ys)
  unfolding all
  all_append p [] ys = refl
  all_append p (x ∷ xs) ys = ap (λ b. p x && b) (all_append p xs ys) ∙ sym (and_assoc (p x) (all p xs) (all p ys))

  pub all_head : (p : A → Bool) (x : A) (xs : List A) → all p (x ∷ xs) ≡ true → p x ≡ true
  unfolding all
  all_head p x xs h = and_left (p x) (all p xs) h

  pub all_tail : (p : A → Bool) (x : A) (xs : List A) → all p (x ∷ xs) ≡ true → all p xs ≡ true
  unfolding all
  all_tail p x xs h = and_right (p x) (all p xs) h

  pub all_cons : (p : A → Bool) (x : A) (xs : List A) → p x ≡ true → all p xs ≡ true → all p (x ∷ xs) ≡ true
  unfolding all
  all_cons p x xs h k = and_both (p x) (all p xs) h k

  pub all_left : (p : A → Bool) (xs ys : List A) → all p (xs ++ ys) ≡ true → all p xs ≡ true
  all_left p xs ys h = and_left (all p xs) (all p ys) (sym (all_append p xs ys) ∙ h)

  pub all_right : (p : A → Bool) (xs ys : List A) → all p (xs ++ ys) ≡ true → all p ys ≡ true
  all_right p xs ys h = and_right (all p xs) (all p ys) (sym (all_append p xs ys) ∙ h)

  pub all_both : (p : A → Bool) (xs ys : List A) → all p xs ≡ true → all p ys ≡ true → all p (xs ++ ys) ≡ true
  all_both p xs ys h k = all_append p xs ys ∙ and_both (all p xs) (all p ys) h k

  pub all_weaker : (p q : A → Bool) → ((x : A) → p x ≡ true → q x ≡ true) → (xs : List A) → all p xs ≡ true → all q xs ≡ true
  unfolding all
  all_weaker p q f [] h = refl
  all_weaker p q f (x ∷ xs) h = all_cons q x xs (f x (all_head p x xs h)) (all_weaker p q f xs (all_tail p x xs h))

  pub all_also : (p q : A → Bool) (xs : List A) → all p xs ≡ true → all q xs ≡ true → all (λ x. p x && q x) xs ≡ true
  unfolding all
  all_also p q [] h k = refl
  all_also p q (x ∷ xs) h k =
      all_cons (λ x. p x && q x) x xs (and_both (p x) (q x) (all_head p x xs h) (all_head q x xs k))
      (all_also p q xs (all_tail p x xs h) (all_tail q x xs k))

  pub all_at : (p : A → Bool) (xs : List A) (i : ℕ) (d : A) → all p xs ≡ true → i < length xs → p (get_or xs i d) ≡ true
  unfolding all
  all_at p [] i d e h = absurd (not-suc-le-zero h)
  all_at p (x ∷ xs) zero d e h = and_left (p x) (all p xs) e
  all_at p (x ∷ xs) (suc i) d e h = all_at p xs i d (and_right (p x) (all p xs) e) (le_of_suc-le-suc h)

  -- a test that passes at every place passes throughout
  pub all_each : (p : A → Bool) (xs : List A) (d : A) → ((i : ℕ) → i < length xs → p (get_or xs i d) ≡ true) → all p xs ≡ true
  unfolding all
  all_each p [] d h = refl
  all_each p (x ∷ xs) d h = and_both (p x) (all p xs) (h 0 (zero-lt-suc (length xs))) (all_each p xs d (λ i k. h (suc i) (omega arith)))

  -- ---- any
  pub any_append : (p : A → Bool) (xs ys : List A) → any p (xs ++ ys) ≡ (any p xs || any p ys)
  unfolding any
  any_append p [] ys = refl
  any_append p (x ∷ xs) ys = ap (λ b. p x || b) (any_append p xs ys) ∙ sym (or_assoc (p x) (any p xs) (any p ys))

  -- ---- all against any
  pub not_any : (p : A → Bool) (xs : List A) → not (any p xs) ≡ all (λ x. not (p x)) xs
  unfolding any all
  not_any p [] = refl
  not_any p (x ∷ xs) = rw (← (not_any p xs)) (elim (p x) as (λ b. not (b || any p xs) ≡ (not b && not (any p xs))) [ true ↦ refl | false ↦ refl ])

  pub not_all : (p : A → Bool) (xs : List A) → not (all p xs) ≡ any (λ x. not (p x)) xs
  unfolding any all
  not_all p [] = refl
  not_all p (x ∷ xs) = rw (← (not_all p xs)) (elim (p x) as (λ b. not (b && all p xs) ≡ (not b || not (all p xs))) [ true ↦ refl | false ↦ refl ])

  -- ---- keep
  pub keep_append : (p : A → Bool) (xs ys : List A) → keep p (xs ++ ys) ≡ keep p xs ++ keep p ys
  unfolding keep
  keep_append p [] ys = refl
  keep_append p (x ∷ xs) ys =
      rw (keep_append p xs ys)
      (elim (p x) as (λ b. cond b (x ∷ (keep p xs ++ keep p ys)) (keep p xs ++ keep p ys) ≡ cond b (x ∷ keep p xs) (keep p xs) ++ keep p ys)
      [ true ↦ refl | false ↦ refl ])

  -- where all pass, all are kept; where none does, none is
  pub keep_all : (p : A → Bool) (xs : List A) → all p xs ≡ true → keep p xs ≡ xs
  unfolding keep all
  keep_all p [] e = refl
  keep_all p (x ∷ xs) e = rw (and_left (p x) (all p xs) e, keep_all p xs (and_right (p x) (all p xs) e))

  pub keep_none : (p : A → Bool) (xs : List A) → any p xs ≡ false → keep p xs ≡ []
  unfolding keep any
  keep_none p [] e = refl
  keep_none p (x ∷ xs) e = go (p x) e (keep_none p xs)
    where
      go : (b : Bool) → (b || any p xs) ≡ false → (any p xs ≡ false → keep p xs ≡ []) → cond b (x ∷ keep p xs) (keep p xs) ≡ []
      go true h r = absurd (true≢false h)
      go false h r = r h

  -- what is kept passes, so that to keep again changes nothing
  pub all_keep : (p : A → Bool) (xs : List A) → all p (keep p xs) ≡ true
  unfolding keep all
  all_keep p [] = refl
  all_keep p (x ∷ xs) = go (p x) refl (all_keep p xs)
    where
      go : (b : Bool) → p x ≡ b → all p (keep p xs) ≡ true → all p (cond b (x ∷ keep p xs) (keep p xs)) ≡ true
      go true h r = and_both (p x) (all p (keep p xs)) h r
      go false h r = r

  -- ---- first
  pub first_hit : (p : A → Bool) (x : A) (xs : List A) → p x ≡ true → first p (x ∷ xs) ≡ some x
  unfolding first
  first_hit p x xs e = rw e

  pub first_miss : (p : A → Bool) (x : A) (xs : List A) → p x ≡ false → first p (x ∷ xs) ≡ first p xs
  unfolding first
  first_miss p x xs e = rw e

  pub first_passes : (p : A → Bool) (xs : List A) (y : A) → first p xs ≡ some y → p y ≡ true
  unfolding first
  first_passes p [] y e = absurd (none-ne-some y e)
  first_passes p (x ∷ xs) y e = go (p x) refl e (first_passes p xs y)
    where
      go : (b : Bool) → p x ≡ b → cond b (some x) (first p xs) ≡ some y → (first p xs ≡ some y → p y ≡ true) → p y ≡ true
      go true h e r = ap p (sym (some-injective x y e)) ∙ h
      go false h e r = r e

  -- there is a first where any passes, and only there
  pub first_none : (p : A → Bool) (xs : List A) → any p xs ≡ false → first p xs ≡ none
  unfolding first any
  first_none p [] e = refl
  first_none p (x ∷ xs) e = go (p x) e (first_none p xs)
    where
      go : (b : Bool) → (b || any p xs) ≡ false → (any p xs ≡ false → first p xs ≡ none) → cond b (some x) (first p xs) ≡ none
      go true h r = absurd (true≢false h)
      go false h r = r h

  pub first_some_lem : (p : A → Bool) (xs : List A) (y : A) → first p xs ≡ some y → any p xs ≡ true
  unfolding first any
  first_some_lem p [] y e = absurd (none-ne-some y e)
  first_some_lem p (x ∷ xs) y e = go (p x) e (first_some_lem p xs y)
    where
      go : (b : Bool) → cond b (some x) (first p xs) ≡ some y → (first p xs ≡ some y → any p xs ≡ true) → (b || any p xs) ≡ true
      go true h r = refl
      go false h r = r h

  pub first_append : (p : A → Bool) (xs ys : List A) → first p (xs ++ ys) ≡ or_else (first p xs) (first p ys)
  unfolding first
  first_append p [] ys = refl
  first_append p (x ∷ xs) ys = go (p x) (first_append p xs ys)
    where
      go : (b : Bool) → first p (xs ++ ys) ≡ or_else (first p xs) (first p ys)
          → cond b (some x) (first p (xs ++ ys)) ≡ or_else (cond b (some x) (first p xs)) (first p ys)
      go true e = refl
      go false e = e

  pub first_past : (p : A → Bool) (xs ys : List A) → all (λ x. not (p x)) xs ≡ true → first p (xs ++ ys) ≡ first p ys
  unfolding first all
  first_past p [] ys h = refl
  first_past p (x ∷ xs) ys h = go (p x) h (first_past p xs ys)
    where
      go : (b : Bool) → (not b && all (λ z. not (p z)) xs) ≡ true → (all (λ z. not (p z)) xs ≡ true → first p (xs ++ ys) ≡ first p ys)
          → cond b (some x) (first p (xs ++ ys)) ≡ first p ys
      go true e f = absurd (false≢true e)
      go false e f = f e

  -- two tests that pass alike
  pub first_same : (p q : A → Bool) → ((x : A) → p x ≡ q x) → (xs : List A) → first p xs ≡ first q xs
  unfolding first
  first_same p q h [] = refl
  first_same p q h (x ∷ xs) = ap₂ (λ b o. cond b (some x) o) (h x) (first_same p q h xs)

  -- where it is kept, it is the first of those kept
  pub first_keep : (p q : A → Bool) (xs : List A) → ((x : A) → first p xs ≡ some x → q x ≡ true) → first p (keep q xs) ≡ first p xs
  unfolding first keep
  first_keep p q [] f = refl
  first_keep p q (x ∷ xs) f = go (p x) (q x) refl refl f (first_keep p q xs)
    where
      go : (b c : Bool) → p x ≡ b → q x ≡ c → ((y : A) → cond b (some x) (first p xs) ≡ some y → q y ≡ true)
          → (((y : A) → first p xs ≡ some y → q y ≡ true) → first p (keep q xs) ≡ first p xs)
          → first p (cond c (x ∷ keep q xs) (keep q xs)) ≡ cond b (some x) (first p xs)
      go true true d e g h = rw d
      go true false d e g h = absurd (false≢true (sym e ∙ g x refl))
      go false true d e g h = rw d (h g)
      go false false d e g h = h g

-- ---- over map
module _ {A B : Type 0} where
  pub all_map : (p : B → Bool) (f : A → B) (xs : List A) → all p (map f xs) ≡ all (λ x. p (f x)) xs
  unfolding all
  all_map p f [] = refl
  all_map p f (x ∷ xs) = ap (λ b. p (f x) && b) (all_map p f xs)

  pub first_map : (p : B → Bool) (f : A → B) (xs : List A) → first p (map f xs) ≡ Option.map f (first (λ x. p (f x)) xs)
  unfolding first
  first_map p f [] = refl
  first_map p f (x ∷ xs) =
      rw (first_map p f xs)
      (elim (p (f x)) as (λ b. cond b (some (f x)) (Option.map f (first (λ x. p (f x)) xs)) ≡ Option.map f (cond b (some x) (first (λ x. p (f x)) xs)))
      [ true ↦ refl | false ↦ refl ])

  -- nothing is kept where nothing passes
  pub nil_kept : (f : A → B) (p : A → Bool) (xs : List A) → is_nil (map f (keep p xs)) ≡ not (any p xs)
  unfolding keep any
  nil_kept f p [] = refl
  nil_kept f p (x ∷ xs) = go (p x) (nil_kept f p xs)
    where
      go : (b : Bool) → is_nil (map f (keep p xs)) ≡ not (any p xs) → is_nil (map f (cond b (x ∷ keep p xs) (keep p xs))) ≡ not (b || any p xs)
      go true r = refl
      go false r = r

  pub some_map : {C : Type 0} (g : B → Option C) (f : A → B) (xs : List A) → first_some g (map f xs) ≡ first_some (λ x. g (f x)) xs
  unfolding first_some
  some_map g f [] = refl
  some_map g f (x ∷ xs) = ap (or_else (g (f x))) (some_map g f xs)
