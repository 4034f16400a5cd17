-- The lowest of some numbers is one of them, and none is below it; no other has both, and where there is a number there is a lowest.
-- By what is so of the lightest, each number its own weight. Assumes nothing.
use Prim.Native.Nat.{ℕ, ◌≤◌}
use mathlib.Core.Path.{◌≡◌, refl, sym, ap, subst}
use mathlib.Core.Bool.{true, true≢false}
use mathlib.Core.List.{List}
use mathlib.Core.Option.{Option, none, some}
use native.Mathlib.Omega.{arith}
use Rattle.lists.specs.Lists.{In, lowest}
use Rattle.lists.proofs.Lightest.{stands, none_lightest, lightest_of}

pub record Lowest (us : List ℕ) (u : ℕ) : Type 0 where
  pub among : In u us
  pub least : (v : ℕ) → In v us → u ≤ v

pub lowest_of : (us : List ℕ) (u : ℕ) → lowest us ≡ some u → Lowest us u
lowest_of us u e =
    let l = lightest_of (λ u. true) (λ u. u) us u e in
    record {
      among = subst (In u) (sym l.place) (stands l.ahead u l.after);
      least = λ v i. l.fewest v i refl;
    }

pub some_lowest : (us : List ℕ) (u : ℕ) → In u us → lowest us ≡ none → ⊥
some_lowest us u i e = true≢false (none_lightest (λ u. true) (λ u. u) us u e i)

pub lowest_is : (us : List ℕ) (u : ℕ) → Lowest us u → lowest us ≡ some u
lowest_is us u l = go (lowest us) refl
  where
    go : (o : Option ℕ) → lowest us ≡ o → o ≡ some u
    go none e = absurd (some_lowest us u l.among e)
    go (some v) e = let m = lowest_of us v e in ap some (omega (arith, l.least v m.among, m.least u l.among))
