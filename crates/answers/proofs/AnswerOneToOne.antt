-- Two answers that mean the same are the same. By a map back. Assumes nothing.
use Prim.Native.Nat.{ℕ}
use mathlib.Core.Path.{◌≡◌, refl, ap}
use mathlib.Core.Option.{none, some}
use Rattle.rules.specs.Runs as R
use Rattle.answers.specs.declared.Says.{Says}
use Rattle.answers.specs.declared.Says.TheVariants.{Done, Found, Nothing, Waiting, RunsAlready, RunsNot, WaitsAlready, IsPresent, LocksShort, PagesShort, Circle}
use Rattle.answers.specs.declared.Answer.{Answer}
use Rattle.answers.specs.AnswerMeaning.{book_says, book_answer}
use Rattle.entries.proofs.EntryOneToOne.{one_to_one, value_of, value_back}

-- ---- answers
abbrev says_of : R.Says ℕ ℕ → Says
says_of R.done = Done
says_of (R.found k r) = Found (record { 0 = k }) (value_of r)
says_of R.nothing = Nothing
says_of (R.waiting (some u)) = Waiting u
says_of (R.waiting none) = Waiting 0
says_of R.runs_already = RunsAlready
says_of R.runs_not = RunsNot
says_of R.waits_already = WaitsAlready
says_of (R.is_present k r) = IsPresent (record { 0 = k }) (value_of r)
says_of R.locks_short = LocksShort
says_of R.pages_short = PagesShort
says_of R.circle = Circle

says_back : (m : Says) → says_of (book_says m) ≡ m
says_back Done = refl
says_back (Found k v) = ap (Found k) (value_back v)
says_back Nothing = refl
says_back (Waiting u) = refl
says_back RunsAlready = refl
says_back RunsNot = refl
says_back WaitsAlready = refl
says_back (IsPresent k v) = ap (IsPresent k) (value_back v)
says_back LocksShort = refl
says_back PagesShort = refl
says_back Circle = refl

pub says_inj : (a b : Says) → book_says a ≡ book_says b → a ≡ b
says_inj = one_to_one book_says says_of says_back

abbrev answer_of : R.Answer ℕ ℕ → Answer
answer_of a = record { asker = a.asker; says = says_of a.says }

pub answer_inj : (a b : Answer) → book_answer a ≡ book_answer b → a ≡ b
answer_inj = one_to_one book_answer answer_of (λ a. ap (λ m. record { asker = a.asker; says = m }) (says_back a.says))
