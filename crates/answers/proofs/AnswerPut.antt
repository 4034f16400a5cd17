-- Laws of the answer record: how the code writes it, that it touches its twenty bytes alone, and that it is read back.
-- By the laws of records, and by the offsets as sums of widths.
use Prim.Native.Nat.{ℕ, ◌+◌, ◌≤◌}
use mathlib.Core.Path.{◌≡◌}
use mathlib.Core.List.{List}
use native.Mathlib.Omega.{arith}
use lib.ListN.{length}
use Rattle.limits.specs.Limits.{key_size, answer_size}
use Rattle.numbers.specs.Numbers.{put_number, width_of, fields_at, put_fields, Fits}
use Rattle.numbers.proofs.Agree.{Touches}
use Rattle.numbers.proofs.Fields.{touches_put_fields, fields_same}
use Rattle.rules.specs.Runs as R
use Rattle.answers.specs.declared.Paper.{Paper}
use Rattle.answers.specs.declared.Answer.{Answer}
use Rattle.answers.specs.AnswerMeaning.{book_says, book_answer, OnPaper}
use Rattle.answers.specs.AnswerRecord.{answer_widths, answer_fields, put_answer}

-- ---- six numbers written one after the other are the record
pub answer_written : (s t₁ t₂ t₃ t₄ t₅ t₆ : List ℕ) (at : ℕ) (a : Answer) (p : Paper) → OnPaper (R.paper (book_says a.says)) p
    → t₁ ≡ put_number 2 s at answer_size → t₂ ≡ put_number 2 t₁ (at + 2) 7 → t₃ ≡ put_number 2 t₂ (at + 4) a.asker → t₄ ≡ put_number 2 t₃ (at + 6) p.number
    → t₅ ≡ put_number key_size t₄ (at + 8) p.key.0 → t₆ ≡ put_number 4 t₅ (at + (8 + key_size)) p.rec → t₆ ≡ put_answer s at (book_answer a)
unfolding put_answer answer_fields put_fields
answer_written s t₁ t₂ t₃ t₄ t₅ t₆ at a p o e₁ e₂ e₃ e₄ e₅ e₆ =
    let q₃ : at + 2 + 2 ≡ at + 4 = omega arith in
    let q₄ : at + 4 + 2 ≡ at + 6 = omega arith in
    let q₅ : at + 6 + 2 ≡ at + 8 = omega arith in
    let q₆ : at + 8 + key_size ≡ at + (8 + key_size) = omega arith in
    rw (q₃, q₄, q₅, q₆, ← o.number, ← o.key, ← o.rec, ← e₁, ← e₂, ← e₃, ← e₄, ← e₅) e₆

-- ---- what is written
pub touches_answer : (s : List ℕ) (at : ℕ) (a : R.Answer ℕ ℕ) → Touches at answer_size s (put_answer s at a)
unfolding put_answer width_of
touches_answer s at a = touches_put_fields answer_widths s at (answer_fields a)

pub length_put_answer : (s : List ℕ) (at : ℕ) (a : R.Answer ℕ ℕ) → length (put_answer s at a) ≡ length s
length_put_answer s at a = (touches_answer s at a).len

pub answer_same : (s : List ℕ) (at : ℕ) (a : R.Answer ℕ ℕ) → Fits answer_widths (answer_fields a) → at + answer_size ≤ length s
    → fields_at answer_widths (put_answer s at a) at ≡ answer_fields a
unfolding put_answer width_of
answer_same s at a f h = fields_same answer_widths s at (answer_fields a) f h
