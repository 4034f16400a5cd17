-- Demand 2 on bytes: of every call, any bytes lent and sent, that isn't refused 10 to 12. The answers that its rule speaks of are the records that
-- the call wrote, and where it says 18 the pages are short by document 01's own count. Assumes nothing.
use Prim.Native.Nat.{ℕ, ◌+◌, ◌*◌, ◌<◌, compare}
use Rattle.std.specs.Prelude.{◌≡◌, false, List, length}
use Rattle.std.proofs.Math.Option.{some}
use Rattle.limits.specs.Limits.{pages_most, answer_size}
use Rattle.rules.specs.Kinds.{Call}
use Rattle.rules.specs.Runs.{Answer}
use Rattle.trees.specs.Trees.{document_sizes}
use Rattle.trees.specs.Growth.{needed}
use Rattle.index.specs.Pictures.{key_of, index_of}
use Rattle.requests.specs.RequestRecord.{heard}
use Rattle.answers.specs.AnswerRecord.{written}
use Rattle.states.specs.States.{book, state_of}
use Rattle.states.specs.Whole.{Whole}
use Rattle.calls.specs.Promise.{Lent, wrong_sizes, returned, Served}
use Rattle.promises.specs.Demand2.{Demand2}

-- "18 if used plus needed is over 64"
abbrev pub used_and_needed : List ℕ → ℕ → ℕ
used_and_needed p k = (index_of p).used + needed compare key_of 0 document_sizes k (index_of p)

-- what was lent, what it was when the call was over, what the call returned, and what it was asked
pub record Ruled (x y : Lent) (r : ℕ) (c : Call ℕ ℕ) : Type 0 where
  pub answers : List (Answer ℕ ℕ)
  -- "it returns 0 and the number of answer bytes"; bytes beyond those written keep their values
  pub space : y.answers ≡ written x.answers 0 answers
  pub result : r ≡ returned 0 (answer_size * length answers)
  -- demand 2, of what the bytes say before and after
  pub rule : Demand2 book (state_of x.pages x.desk) c.asker c.request (record { state = state_of y.pages y.desk; answers = answers })
  -- the pages are short of a missing key where they are by document 01's count, and only there
  pub short : (k : ℕ) → pages_most < used_and_needed x.pages k → book.paging.fits (state_of x.pages x.desk).pages k ≡ false
  pub short_only : (k : ℕ) → book.paging.fits (state_of x.pages x.desk).pages k ≡ false → pages_most < used_and_needed x.pages k

-- every call that isn't refused 10 to 12
abbrev pub Demand2OnBytes : Type 0
Demand2OnBytes = (q : List ℕ) (x y : Lent) (r : ℕ) (c : Call ℕ ℕ)
    → Served q x y r → wrong_sizes x ≡ false → Whole x.pages x.desk → heard q ≡ some c → Ruled x y r c
