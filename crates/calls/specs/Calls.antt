-- Calls one after the other on one picture, each as promised, from a fresh one: any bytes as requests, any space for the answers.
-- What the rule book says that they give back is a function of what was sent. Assumes nothing.
use Rattle.std.specs.Prelude.{ℕ, ◌*◌, ◌≡◌, cond, List, [], ◌∷◌, ltb, length, take, replicate}
use Rattle.std.proofs.Math.Option.{Option, none, some}
use Rattle.limits.specs.Limits.{answer_size}
use Rattle.lists.specs.Lists.{In}
use Rattle.numbers.specs.Numbers.{Bytes}
use Rattle.rules.specs.Kinds.{Call}
use Rattle.rules.specs.Queue.{St}
use Rattle.rules.specs.Runs.{Answer}
use Rattle.rules.specs.Desk.{step, fresh}
use Rattle.requests.specs.RequestRecord.{heard}
use Rattle.answers.specs.AnswerRecord.{put_answer, written}
use Rattle.states.specs.States.{book, state_of}
use Rattle.states.specs.Whole.{Whole}
use Rattle.calls.specs.Promise.{Served, lent, short_space, returned}

-- a call as it is sent: the request, and the space lent for its answers
pub record Sent : Type 0 where
  pub request : List ℕ
  pub space : List ℕ

-- what it gives back: what it returns, and the space afterwards
pub record Back : Type 0 where
  pub result : ℕ
  pub space : List ℕ

-- from the picture p d, what was sent gave this back and left the picture p' d'
pub data Runs : List ℕ → List ℕ → List Sent → List Back → List ℕ → List ℕ → Type 0 where
  rest : {p d : List ℕ} → Runs p d [] [] p d
  next : {p d p₁ d₁ p' d' : List ℕ} {a : Sent} {b : Back} {as' : List Sent} {bs : List Back}
      → Served a.request (lent p d a.space) (lent p₁ d₁ b.space) b.result
      → Runs p₁ d₁ as' bs p' d' → Runs p d (a ∷ as') (b ∷ bs) p' d'

-- and so from a fresh picture
pub record FromFresh (as' : List Sent) (bs : List Back) (p' d' : List ℕ) : Type 0 where
  pub pages : List ℕ
  pub desk : List ℕ
  pub whole : Whole pages desk
  pub state : state_of pages desk ≡ fresh book
  pub runs : Runs pages desk as' bs p' d'

-- what is sent is bytes
pub record BytesSent (as' : List Sent) : Type 0 where
  pub requests : (a : Sent) → In a as' → Bytes a.request
  pub spaces : (a : Sent) → In a as' → Bytes a.space

-- where a run from fresh leads
pub record Led (as' : List Sent) : Type 0 where
  pub backs : List Back
  pub pages : List ℕ
  pub desk : List ℕ
  pub run : FromFresh as' backs pages desk

-- the rule book's call in what was sent; none where the space is short (10) or the record bad (12)
unfoldable pub call_in : Sent → Option (Call ℕ ℕ)
call_in a = cond (short_space a.space) none (heard a.request)

abbrev pub with : Option (Call ℕ ℕ) → List (Call ℕ ℕ) → List (Call ℕ ℕ)
with none cs = cs
with (some c) cs = c ∷ cs

unfoldable pub calls_in : List Sent → List (Call ℕ ℕ)
calls_in [] = []
calls_in (a ∷ as') = with (call_in a) (calls_in as')

-- what comes back of answers given, and of a refusal
abbrev pub gives : List ℕ → List (Answer ℕ ℕ) → Back
gives o xs = record { result = returned 0 (answer_size * length xs); space = written o 0 xs }

abbrev pub refuses : List ℕ → ℕ → Back
refuses o number = record { result = returned number 0; space = o }

abbrev pub back_if : St book → List ℕ → Option (Call ℕ ℕ) → Back
back_if s o none = refuses o 12
back_if s o (some c) = gives o (step book s c.asker c.request).answers

unfoldable pub back_of : St book → Sent → Back
back_of s a = cond (short_space a.space) (refuses a.space 10) (back_if s a.space (heard a.request))

abbrev pub onward : St book → Option (Call ℕ ℕ) → St book
onward s none = s
onward s (some c) = (step book s c.asker c.request).state

unfoldable pub backs_from : St book → List Sent → List Back
backs_from s [] = []
backs_from s (a ∷ as') = back_of s a ∷ backs_from (onward s (call_in a)) as'

-- the bytes that a call wrote, and those of an answer
abbrev pub wrote : Back → List ℕ
wrote b = cond (ltb b.result 4294967296) (take b.result b.space) []

abbrev pub bytes_of : Answer ℕ ℕ → List ℕ
bytes_of a = put_answer (replicate answer_size 0) 0 a
