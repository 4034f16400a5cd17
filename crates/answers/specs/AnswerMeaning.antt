-- What an answer means in the rule book, and the rule book's paper as it stands in bytes. Each map is one to one. Assumes nothing.
use Rattle.std.specs.Prelude.{ℕ, ◌≡◌}
use Rattle.std.proofs.Math.Option.{some}
use Rattle.lists.specs.Lists.{or_else}
use Rattle.rules.specs.Runs as R
use Rattle.entries.specs.Absent.{or_zero}
use Rattle.answers.specs.declared.Says.{Says}
use Rattle.answers.specs.declared.Says.TheVariants.{Done, Found, Nothing, Waiting, RunsAlready, RunsNot, WaitsAlready, IsPresent, LocksShort, PagesShort, Circle}
use Rattle.answers.specs.declared.Paper.{Paper}
use Rattle.answers.specs.declared.Answer.{Answer}
use Rattle.entries.specs.EntryMeaning.{book_value}

abbrev pub book_says : Says → R.Says ℕ ℕ
book_says Done = R.done
book_says (Found k v) = R.found k.0 (book_value v)
book_says Nothing = R.nothing
book_says (Waiting u) = R.waiting (some u)
book_says RunsAlready = R.runs_already
book_says RunsNot = R.runs_not
book_says WaitsAlready = R.waits_already
book_says (IsPresent k v) = R.is_present k.0 (book_value v)
book_says LocksShort = R.locks_short
book_says PagesShort = R.pages_short
book_says Circle = R.circle

abbrev pub book_answer : Answer → R.Answer ℕ ℕ
book_answer a = record { asker = a.asker; says = book_says a.says }

-- the rule book's paper as it stands in bytes: what is none is 0, and who is in the way stands in the record's place
pub record OnPaper (p : R.Paper ℕ ℕ) (r : Paper) : Type 0 where
  pub number : r.number ≡ p.number
  pub key : r.key.0 ≡ or_zero p.key
  pub rec : r.rec ≡ or_zero (or_else p.by p.rec)
