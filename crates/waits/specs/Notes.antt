-- The wants of the queued requests, noted by their places; a request looked at.
-- Assumes nothing.
use Rattle.std.specs.Prelude.{ℕ, ◌+◌, ◌<◌, ◌≡◌, List, get_or}
use Rattle.locks.specs.declared.Mode.TheVariants as M
use Rattle.index.specs.Searches.{book_found}
use Rattle.waits.specs.declared.Want.{Want}
use Rattle.waits.specs.declared.Looked.{Looked}
use Rattle.waits.specs.Blocks.{target_at, WantAt}

-- what stands at a place that is not in the list
abbrev pub nothing : Want
nothing = record { asker = 0; name = record { 0 = 0 }; mode = M.S }

-- the wants of those before place q are noted
pub record Noted (p d : List ℕ) (ws : List Want) (q : ℕ) : Type 0 where
  pub wants : (i : ℕ) → i < q → WantAt p d i (get_or ws i nothing)

-- a request that has been looked at: its target and its want, which is noted
pub record LookedAt (p d : List ℕ) (ws : List Want) (q : ℕ) (l : Looked) : Type 0 where
  pub target : book_found l.target ≡ target_at p d q
  pub want : WantAt p d q l.want
  pub noted : Noted p d ws (q + 1)
