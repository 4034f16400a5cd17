-- Which element is the first to pass a test: the only one that passes, and the one that is first to pass another test too.
-- By induction on the list. Assumes nothing.
use mathlib.Core.Path.{◌≡◌, refl, sym, ◌∙◌}
use mathlib.Core.Bool.{Bool, true, false, cond, true≢false, false≢true}
use mathlib.Core.List.{List, [], ◌∷◌}
use mathlib.Core.Option.{Option, none, some}
use Rattle.lists.specs.Lists.{first, In}
use Rattle.lists.proofs.Tests.{never}
use Rattle.lists.proofs.Elements.{first_in, none_first}

module _ {A : Type 0} where
  -- an element that passes, where every other that does is the same
  pub first_only : (p : A → Bool) (xs : List A) (x : A) → In x xs → p x ≡ true → ((y : A) → In y xs → p y ≡ true → y ≡ x) → first p xs ≡ some x
  first_only p xs x i h f = go (first p xs) refl
    where
      go : (o : Option A) → first p xs ≡ o → first p xs ≡ some x
      go none e = absurd (true≢false (sym h ∙ none_first p xs x e i))
      go (some y) e = let w = first_in p xs y e in rw (f y w.0 w.1) at e

  -- the first of each of two tests, where each passes the other test too
  pub first_agree : (p q : A → Bool) (xs : List A) (x y : A) → first p xs ≡ some x → first q xs ≡ some y → p y ≡ true → q x ≡ true → x ≡ y
  unfolding first
  first_agree p q [] x y d e h k = never (cc)
  first_agree p q (z ∷ zs) x y d e h k = go (p z) (q z) refl refl d e (first_agree p q zs x y)
    where
      go : (b c : Bool) → p z ≡ b → q z ≡ c → cond b (some z) (first p zs) ≡ some x → cond c (some z) (first q zs) ≡ some y
          → (first p zs ≡ some x → first q zs ≡ some y → p y ≡ true → q x ≡ true → x ≡ y) → x ≡ y
      go true true m n d e f = cc
      go true false m n d e f = let w : z ≡ x = cc in absurd (false≢true (sym n ∙ (rw (← w) at k)))
      go false true m n d e f = let w : z ≡ y = cc in absurd (false≢true (sym m ∙ (rw (← w) at h)))
      go false false m n d e f = f d e h k
