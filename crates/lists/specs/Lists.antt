-- What every layer says about lists: tests over all and any, how often, the first, tables by index, a place put in or taken out.
-- Assumes nothing.
use Rattle.std.specs.Prelude.{ℕ, zero, suc, ◌+◌, ◌≡◌, ◌⊎◌, Bool, true, false, cond, ◌&&◌, ◌||◌, List, [], ◌∷◌, ◌++◌, eqb, leb}
use Rattle.std.proofs.Math.Option.{Option, none, some}

-- a value, or else another
abbrev pub or_else : {A : Type 0} → Option A → Option A → Option A
or_else (some x) y = some x
or_else none y = y

-- whether every element passes the test
unfoldable pub all : {A : Type 0} → (A → Bool) → List A → Bool
all p [] = true
all p (x ∷ xs) = p x && all p xs

-- whether some element passes the test
unfoldable pub any : {A : Type 0} → (A → Bool) → List A → Bool
any p [] = false
any p (x ∷ xs) = p x || any p xs

-- the elements that pass the test, in their order
unfoldable pub keep : {A : Type 0} → (A → Bool) → List A → List A
keep p [] = []
keep p (x ∷ xs) = cond (p x) (x ∷ keep p xs) (keep p xs)

-- the first element that passes the test
unfoldable pub first : {A : Type 0} → (A → Bool) → List A → Option A
first p [] = none
first p (x ∷ xs) = cond (p x) (some x) (first p xs)

-- the first value that f gives of the elements, where it gives one
unfoldable pub first_some : {A B : Type 0} → (A → Option B) → List A → Option B
first_some f [] = none
first_some f (x ∷ xs) = or_else (f x) (first_some f xs)

-- the place of the first element that passes the test, or how many elements there are
unfoldable pub place : {A : Type 0} → (A → Bool) → List A → ℕ
place p [] = 0
place p (x ∷ xs) = cond (p x) 0 (suc (place p xs))

-- whether the test passes at every two elements, the earlier one first
unfoldable pub pairs : {A : Type 0} → (A → A → Bool) → List A → Bool
pairs r [] = true
pairs r (x ∷ xs) = all (r x) xs && pairs r xs

-- whether there is no element
abbrev pub is_nil : {A : Type 0} → List A → Bool
is_nil [] = true
is_nil (x ∷ xs) = false

-- x is an element
abbrev pub In : {A : Type 0} → A → List A → Type 0
In x [] = ⊥
In x (y ∷ ys) = (y ≡ x) ⊎ In x ys

-- how often a number stands in a list of numbers
unfoldable pub times : ℕ → List ℕ → ℕ
times q [] = 0
times q (x ∷ xs) = cond (eqb x q) 1 0 + times q xs

-- whether a number stands in a list of numbers
abbrev pub member : ℕ → List ℕ → Bool
member q xs = any (λ x. eqb x q) xs

-- of the elements that pass the test the one that weighs least; of equals the last
abbrev pub lighter : {A : Type 0} → (A → ℕ) → A → Option A → Option A
lighter f x none = some x
lighter f x (some y) = cond (leb (f y) (f x)) (some y) (some x)

unfoldable pub lightest : {A : Type 0} → (A → Bool) → (A → ℕ) → List A → Option A
lightest p f [] = none
lightest p f (x ∷ xs) = cond (p x) (lighter f x (lightest p f xs)) (lightest p f xs)

-- the lowest of some numbers, or none where there are none
abbrev pub lowest : List ℕ → Option ℕ
lowest us = lightest (λ u. true) (λ u. u) us

-- the lists that f gives of the elements, one after the other
unfoldable pub join : {A B : Type 0} → (A → List B) → List A → List B
join f [] = []
join f (x ∷ xs) = f x ++ join f xs

-- the table of f at n places from i on
unfoldable pub tab : {A : Type 0} → ℕ → ℕ → (ℕ → A) → List A
tab zero i f = []
tab (suc n) i f = f i ∷ tab n (i + 1) f

-- the list with x put in at place i; behind the last element where i is past the end
unfoldable pub insert_at : {A : Type 0} → ℕ → A → List A → List A
insert_at zero x ys = x ∷ ys
insert_at (suc i) x [] = x ∷ []
insert_at (suc i) x (y ∷ ys) = y ∷ insert_at i x ys

-- the list with x put in before the first element that passes the test; behind the last where none does
unfoldable pub insert_before : {A : Type 0} → (A → Bool) → A → List A → List A
insert_before p x [] = x ∷ []
insert_before p x (y ∷ ys) = cond (p y) (x ∷ y ∷ ys) (y ∷ insert_before p x ys)

-- the list with place i taken out; the list itself where i is past the end
unfoldable pub remove_at : {A : Type 0} → ℕ → List A → List A
remove_at i [] = []
remove_at zero (x ∷ xs) = xs
remove_at (suc i) (x ∷ xs) = x ∷ remove_at i xs
