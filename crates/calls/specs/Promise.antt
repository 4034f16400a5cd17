-- The promise of the two calls (document 01, "What the desk says"): what comes back, and every byte of pages, desk and answers afterwards,
-- for any bytes of any length. Refusals change nothing; otherwise the picture is whole and says what the rule book's step says of what it
-- said before. Assumes nothing.
use Rattle.std.specs.Prelude.{ℕ, ◌*◌, ◌+◌, ◌≡◌, Bool, true, false, not, ◌||◌, List, eqb, ltb, length}
use Rattle.std.proofs.Math.Option.{none, some}
use Rattle.limits.specs.Limits.{pages_size, desk_size, answer_size, space_least}
use Rattle.numbers.specs.Numbers.{Bytes}
use Rattle.rules.specs.Kinds.{Call}
use Rattle.rules.specs.Runs.{Worked}
use Rattle.rules.specs.Desk.{step, fresh}
use Rattle.requests.specs.RequestRecord.{heard}
use Rattle.answers.specs.AnswerRecord.{written}
use Rattle.states.specs.States.{book, state_of}
use Rattle.states.specs.Whole.{Whole}

-- what a call was lent, and what it leaves
pub record Lent : Type 0 where
  pub pages : List ℕ
  pub desk : List ℕ
  pub answers : List ℕ

abbrev pub lent : List ℕ → List ℕ → List ℕ → Lent
lent p d o = record { pages = p; desk = d; answers = o }

-- what is lent is bytes
pub record BytesIn (x : Lent) : Type 0 where
  pub pages : Bytes x.pages
  pub desk : Bytes x.desk
  pub answers : Bytes x.answers

-- "10: pages not 32,768 bytes, desk not 4,672, or answers under 320"
abbrev pub wrong_picture : List ℕ → List ℕ → Bool
wrong_picture p d = not (eqb (length p) pages_size) || not (eqb (length d) desk_size)

abbrev pub short_space : List ℕ → Bool
short_space o = ltb (length o) space_least

abbrev pub wrong_sizes : Lent → Bool
wrong_sizes x = wrong_picture x.pages x.desk || short_space x.answers

-- "10 to 12 are returned by the call; otherwise it returns 0 and the number of answer bytes."
abbrev pub returned : ℕ → ℕ → ℕ
returned number bytes = number * 4294967296 + bytes

-- what the rule book's step makes of a whole picture
abbrev pub step_of : Call ℕ ℕ → Lent → Worked book
step_of c x = step book (state_of x.pages x.desk) c.asker c.request

-- one request answered on a whole picture
pub record Answered (c : Call ℕ ℕ) (x y : Lent) (n : ℕ) : Type 0 where
  pub whole : Whole y.pages y.desk
  pub state : state_of y.pages y.desk ≡ (step_of c x).state
  pub answers : y.answers ≡ written x.answers 0 (step_of c x).answers
  pub bytes : n ≡ answer_size * length (step_of c x).answers

-- the call: "Checks go in the order 10, 11, 12"
pub data Served (q : List ℕ) (x y : Lent) (r : ℕ) : Type 0 where
  sizes : wrong_sizes x ≡ true → y ≡ x → r ≡ returned 10 0 → Served q x y r
  broken : wrong_sizes x ≡ false → (Whole x.pages x.desk → ⊥) → y ≡ x → r ≡ returned 11 0 → Served q x y r
  bad : wrong_sizes x ≡ false → Whole x.pages x.desk → heard q ≡ none → y ≡ x → r ≡ returned 12 0 → Served q x y r
  good : (c : Call ℕ ℕ) (bytes : ℕ) → wrong_sizes x ≡ false → Whole x.pages x.desk → heard q ≡ some c
      → Answered c x y bytes → r ≡ returned 0 bytes → Served q x y r

-- a fresh picture made of any bytes: "Fresh: page 1 is an empty leaf and the root, used 2, height 1, desk empty."
pub data Freshened (p d p' d' : List ℕ) (r : ℕ) : Type 0 where
  sizes : wrong_picture p d ≡ true → p' ≡ p → d' ≡ d → r ≡ returned 10 0 → Freshened p d p' d' r
  made : wrong_picture p d ≡ false → Whole p' d' → state_of p' d' ≡ fresh book → r ≡ 0 → Freshened p d p' d' r

-- an outcome that keeps the promise. That there is one, for any bytes in all four slices, is proved in outcomes/proofs/Outcomes.antt; that there is no
-- second, in proofs/Determined.antt: the promise is a function of bytes.
pub record Outcome (q : List ℕ) (x : Lent) : Type 0 where
  pub lent : Lent
  pub result : ℕ
  pub served : Served q x lent result
  pub bytes : BytesIn lent
