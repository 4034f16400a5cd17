-- Document 02, [4]: who is in the way, as the code answers it: the lowest of a set, or nobody. Assumes nothing.
use Rattle.std.specs.Prelude.{ℕ, ◌≤◌, ◌<◌, ◌≡◌, true, false}
use Rattle.std.proofs.Math.Option.{Option, none, some}
use Rattle.circles.specs.declared.Blocker.{Blocker}
use Rattle.circles.specs.declared.Blocker.TheVariants.{By, Nobody}
use Rattle.circles.specs.CircleSets.{has}

-- what the answer means
abbrev pub book_blocker : Blocker → Option ℕ
book_blocker (By u) = some u
book_blocker Nobody = none

-- a set has none of the transactions from one number on and below another
pub record NoneIn (m from to : ℕ) : Type 0 where
  pub none : (u : ℕ) → from ≤ u → u < to → has m u ≡ false

-- t is the lowest of those that it has
pub record NextIs (m from to t : ℕ) : Type 0 where
  pub low : from ≤ t
  pub high : t < to
  pub is_in : has m t ≡ true
  pub lowest : NoneIn m from t

abbrev pub NextIn : ℕ → ℕ → ℕ → Blocker → Type 0
NextIn m from to (By t) = NextIs m from to t
NextIn m from to Nobody = NoneIn m from to
