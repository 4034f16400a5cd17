-- The bytes that a call wrote are those of its answers, one after the other. By the answers, each at its place. Assumes nothing.
use Prim.Native.Nat.{ℕ, suc, ◌+◌, ◌*◌, ◌≤◌}
use mathlib.Core.Path.{◌≡◌, refl, ap, ap₂, ◌∙◌}
use mathlib.Core.List.{List, [], ◌∷◌, ◌++◌}
use native.Mathlib.Omega.{arith}
use borrow.Author.Tests.{lt-ltb, le-ltb}
use lib.ListN.{length}
use Rattle.limits.specs.Limits.{answer_size, space_least}
use Rattle.lists.specs.Lists.{join}
use Rattle.numbers.specs.Numbers.{width_of, part}
use Rattle.numbers.proofs.Parts.{part_same, part_apart}
use Rattle.numbers.proofs.Splices.{part_append, put_row}
use Rattle.rules.specs.Runs.{Answer}
use Rattle.answers.specs.AnswerRecord.{answer_widths, answer_fields, put_answer, written}
use Rattle.answers.proofs.AnswerPut.{length_put_answer}
use Rattle.answers.proofs.AnswersWritten.{touches_written}
use Rattle.calls.specs.Promise.{returned}
use Rattle.calls.specs.Calls.{gives, refuses, wrote, bytes_of}

-- ---- answers written one after the other are their bytes, one after the other
answer_bytes : (s : List ℕ) (at : ℕ) (x : Answer ℕ ℕ) → at + answer_size ≤ length s → part at answer_size (put_answer s at x) ≡ bytes_of x
unfolding put_answer width_of
answer_bytes s at x h =
    ap (part at answer_size) (put_row answer_widths s at (answer_fields x) answer_size refl h) ∙ part_same at answer_size (bytes_of x) s (length_put_answer _ 0 x) h

written_bytes : (s : List ℕ) (at : ℕ) (xs : List (Answer ℕ ℕ)) → at + answer_size * length xs ≤ length s → part at (answer_size * length xs) (written s at xs) ≡ join bytes_of xs
unfolding written join part
written_bytes s at [] h = refl
written_bytes s at (x ∷ xs) h =
    let l = length_put_answer s at x in
    let w = written (put_answer s at x) (at + answer_size) xs in
    let n : answer_size * suc (length xs) ≡ answer_size + answer_size * length xs = omega arith in
    ap (λ m. part at m w) n
    ∙ part_append at answer_size (answer_size * length xs) w
    ∙ ap₂ (λ a b. a ++ b) (part_apart at answer_size (touches_written (put_answer s at x) (at + answer_size) xs) (omega arith) (omega arith) ∙ answer_bytes s at x (omega arith))
    (written_bytes (put_answer s at x) (at + answer_size) xs (omega arith))

-- ---- what a call wrote: nothing where it was refused, else its answers
pub refusal_wrote : (o : List ℕ) (number : ℕ) → 1 ≤ number → wrote (refuses o number) ≡ []
refusal_wrote o number h = rw (le-ltb (returned number 0) 4294967296 (omega arith))

pub answers_wrote : (o : List ℕ) (xs : List (Answer ℕ ℕ)) → space_least ≤ length o → answer_size * length xs ≤ space_least → wrote (gives o xs) ≡ join bytes_of xs
unfolding part
answers_wrote o xs h l =
    let n : returned 0 (answer_size * length xs) ≡ answer_size * length xs = omega arith in
    rw (n, lt-ltb (answer_size * length xs) 4294967296 (omega arith)) (written_bytes o 0 xs (omega arith))
