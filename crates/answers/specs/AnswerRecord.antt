-- Document 01, "Records and pages": the answer record. Assumes nothing.
use Rattle.std.specs.Prelude.{ℕ, ◌+◌, List, [], ◌∷◌}
use Rattle.limits.specs.Limits.{key_size, answer_size}
use Rattle.lists.specs.Lists.{or_else}
use Rattle.numbers.specs.Numbers.{put_fields}
use Rattle.rules.specs.Runs.{paper, Answer}
use Rattle.entries.specs.Absent.{or_zero}

-- "Answer: length 20, kind 7, transaction, number, key, record; key and record are zero except in 1 and 16." Document 02, [4]: "Answer 3 then
-- carries that number in its record field, no longer zero".
abbrev pub answer_widths : List ℕ
answer_widths = 2 ∷ 2 ∷ 2 ∷ 2 ∷ key_size ∷ 4 ∷ []

unfoldable pub answer_fields : Answer ℕ ℕ → List ℕ
answer_fields a =
    let p = paper a.says in answer_size ∷ 7 ∷ a.asker ∷ p.number ∷ or_zero p.key ∷ or_zero (or_else p.by p.rec) ∷ []

-- the bytes with an answer written at a place
unfoldable pub put_answer : List ℕ → ℕ → Answer ℕ ℕ → List ℕ
put_answer s at a = put_fields answer_widths s at (answer_fields a)

-- the answers written one after the other from the start: "Answer bytes beyond those written keep their values."
unfoldable pub written : List ℕ → ℕ → List (Answer ℕ ℕ) → List ℕ
written s at [] = s
written s at (a ∷ as') = written (put_answer s at a) (at + answer_size) as'
