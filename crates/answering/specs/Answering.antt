-- What the steps of an answer leave, between the functions that take them: whether t waits, said last, and 13 to 15. Not for readers of
-- the promises. Assumes nothing.
use Rattle.std.specs.Prelude.{ℕ, cond, List, [], ◌∷◌}
use Rattle.std.proofs.Math.Option.{Option, none, some}
use Rattle.std.specs.Prelude as Code
use Rattle.rules.specs.Desk.{waits_now, waiting_at}
use Rattle.rules.specs.Runs.{Sy, Worked}
use Rattle.answers.specs.AnswerMeaning.{book_says}
use Rattle.states.specs.States.{book, state_of}
use Rattle.answers.specs.declared.Says as CodeSays

-- "If the new request is still queued at rest, its answer 3 comes last.": nothing moves
unfoldable pub last_of : List ℕ → List ℕ → ℕ → Worked book
last_of p d t =
    record { state = state_of p d; answers = cond (waits_now book (state_of p d) t) (waiting_at book (state_of p d) t ∷ []) [] }

-- 13 to 15, or no refusal
abbrev pub book_refusal : Code.Option CodeSays.Says → Option (Sy book)
book_refusal (Code.Some m) = some (book_says m)
book_refusal Code.None = none
