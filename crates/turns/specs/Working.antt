-- What is left, and written, where the queue is worked: a turn, and the queue at rest. Not for readers of the promises. Assumes nothing.
use Rattle.std.specs.Prelude.{ℕ, ◌+◌, ◌*◌, ◌≤◌, ◌≡◌, List, length}
use Rattle.std.proofs.Math.Option.{Option, none, some}
use Rattle.std.specs.Prelude as Code
use Rattle.limits.specs.Limits.{answer_size}
use Rattle.rules.specs.Queue.{St}
use Rattle.rules.specs.Runs.{circle, unmoved, left, Turn, turn, Worked, worked, AtRest}
use Rattle.answers.specs.declared.Answer.{Answer}
use Rattle.answers.specs.AnswerMeaning.{book_answer}
use Rattle.answers.specs.AnswerRecord.{written}
use Rattle.queue.specs.QueueLayout.{queued, queued_at}
use Rattle.states.specs.States.{book, state_of}
use Rattle.states.specs.Whole.{Whole, Says}
use Rattle.waits.specs.Blocks.{Rows}

-- from the picture p d, with the answers written into o from place `at` on: the picture p' d' says where w leads, and r is where they end
pub record Wrote (o : List ℕ) (at : ℕ) (w : Worked book) (p' d' o' : List ℕ) (r : ℕ) : Type 0 where
  pub says : Says p' d' w.state
  pub answers : o' ≡ written o at w.answers
  pub ends : r ≡ at + answer_size * length w.answers

-- the queue worked
abbrev pub worked_of : List ℕ → List ℕ → Worked book
worked_of p d = worked book (state_of p d)

-- the desk at rest, with all who block each request in the row
pub record Rested (p d row : List ℕ) : Type 0 where
  pub rest : AtRest book (state_of p d)
  pub rows : Rows p d row

-- behind the answers there is room for one to each that is still queued
pub record RoomLeft (d o : List ℕ) (end : ℕ) : Type 0 where
  pub room : end + answer_size * queued d ≤ length o

-- the request at place q of the queue answered 19
unfoldable pub way_at : List ℕ → List ℕ → ℕ → Turn book
way_at p d q = left book (state_of p d) (queued_at d q) (unmoved book (state_of p d) circle)

pub record GaveWay (p d d' : List ℕ) (q : ℕ) (r : Answer) : Type 0 where
  pub says : Says p d' (way_at p d q).state
  pub answer : book_answer r ≡ (way_at p d q).answer

-- one turn of the queue, to the state s
abbrev pub book_turn : St book → Code.Option Answer → Option (Turn book)
book_turn s (Code.Some a) = some (record { state = s; answer = book_answer a })
book_turn s Code.None = none

-- at rest nothing has moved
abbrev pub StillAt : Code.Option Answer → St book → St book → Type 0
StillAt (Code.Some a) s s' = Unit {0}
StillAt Code.None s s' = s' ≡ s

-- and the row has all who block each request
abbrev pub RowsAt : Code.Option Answer → List ℕ → List ℕ → List ℕ → Type 0
RowsAt (Code.Some a) p d row = Unit {0}
RowsAt Code.None p d row = Rows p d row

pub record Turns (p d p' d' row : List ℕ) (r : Code.Option Answer) : Type 0 where
  pub whole : Whole p' d'
  pub turned : turn book (state_of p d) ≡ book_turn (state_of p' d') r
  pub still : StillAt r (state_of p d) (state_of p' d')
  pub rows : RowsAt r p' d' row
