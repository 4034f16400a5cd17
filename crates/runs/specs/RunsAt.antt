-- What a run makes of a whole picture: it is whole again, and says what the rule book's run makes of what it said before. Assumes nothing.
use Rattle.std.specs.Prelude.{ℕ, ◌<◌, ◌≡◌, List, []}
use Rattle.lists.specs.Lists.{tab}
use Rattle.rules.specs.Locks.{blockers}
use Rattle.rules.specs.Runs.{Turn, left, run}
use Rattle.answers.specs.declared.Answer.{Answer}
use Rattle.answers.specs.AnswerMeaning.{book_answer}
use Rattle.queue.specs.QueueLayout.{queued, queued_at}
use Rattle.locks.specs.SlotLayout.{slots_of}
use Rattle.index.specs.Pictures.{entries_in}
use Rattle.states.specs.States.{book, state_of}
use Rattle.states.specs.Whole.{Says}

-- nobody blocks the request at place q of the queue
pub record Clear (p d : List ℕ) (q : ℕ) : Type 0 where
  pub inside : q < queued d
  pub nobody : blockers book (entries_in p) (slots_of d) (tab q 0 (queued_at d)) (queued_at d q) ≡ []

-- its run, by the rule book
unfoldable pub ran_at : List ℕ → List ℕ → ℕ → Turn book
ran_at p d q = left book (state_of p d) (queued_at d q) (run book (state_of p d) (queued_at d q))

pub record Ran (p d p' d' : List ℕ) (q : ℕ) (r : Answer) : Type 0 where
  pub says : Says p' d' (ran_at p d q).state
  pub answer : book_answer r ≡ (ran_at p d q).answer
