-- Laws of answers written one after the other: which bytes they touch, that lists follow one another, and that the bytes tell the answers.
-- By induction on the list; a record that fits is read back, and the answer from its fields.
use Prim.Native.Nat.{ℕ, zero, suc, ◌+◌, ◌-◌, ◌*◌, ◌≤◌, ◌<◌}
use mathlib.Core.Path.{◌≡◌, refl, sym, ap, ap₂, ◌∙◌}
use mathlib.Core.Logic.{inl, inr}
use mathlib.Core.Bool.{Bool, true, false≢true}
use mathlib.Core.List.{List, [], ◌∷◌, ◌++◌}
use mathlib.Core.Option.{none, some}
use native.Mathlib.Nat.{add-zero}
use native.Mathlib.Omega.{arith}
use lib.ListN.{length, get_or, take, drop, replicate, length-take, length-drop}
use lib.Seq.{ext_get_or, get_or-take, get_or-drop}
use Rattle.limits.specs.Limits.{answer_size}
use Rattle.lists.specs.Lists.{In}
use Rattle.numbers.specs.Numbers.{width_of, fields_at, Fits}
use Rattle.numbers.proofs.Agree.{Touches, touches_wider, touches_then}
use Rattle.numbers.proofs.Fields.{fields_apart}
use Rattle.rules.specs.Entries.{is_there}
use Rattle.rules.specs.Runs.{Says, done, found, nothing, waiting, runs_already, runs_not, waits_already, is_present, locks_short, pages_short, circle, Answer}
use Rattle.answers.specs.AnswerRecord.{answer_widths, answer_fields, put_answer, written}
use Rattle.answers.proofs.AnswerPut.{touches_answer, length_put_answer, answer_same}

-- ---- what is written
pub touches_written : (s : List ℕ) (at : ℕ) (xs : List (Answer ℕ ℕ)) → Touches at (answer_size * length xs) s (written s at xs)
unfolding written
touches_written s at [] = record { len = refl; rest = λ k h. refl }
touches_written s at (x ∷ xs) =
    touches_then (touches_wider at (answer_size * suc (length xs)) (omega arith) (omega arith) (touches_answer s at x))
    (touches_wider at (answer_size * suc (length xs)) (omega arith) (omega arith) (touches_written (put_answer s at x) (at + answer_size) xs))

pub length_written : (s : List ℕ) (at : ℕ) (xs : List (Answer ℕ ℕ)) → length (written s at xs) ≡ length s
length_written s at xs = (touches_written s at xs).len

-- "Answer bytes beyond those written keep their values", and those before them
pub written_rest : (s : List ℕ) (at : ℕ) (xs : List (Answer ℕ ℕ)) → drop (at + answer_size * length xs) (written s at xs) ≡ drop (at + answer_size * length xs) s
written_rest s at xs =
    let n = at + answer_size * length xs in
    ext_get_or 0 (drop n (written s at xs)) (drop n s) (simp length-drop (ap (λ m. m - n) (length_written s at xs)))
    (λ k h. get_or-drop n (written s at xs) k 0 ∙ (touches_written s at xs).rest (n + k) (omega arith) ∙ sym (get_or-drop n s k 0))

pub written_front : (s : List ℕ) (at : ℕ) (xs : List (Answer ℕ ℕ)) → take at (written s at xs) ≡ take at s
written_front s at xs =
    ext_get_or 0 (take at (written s at xs)) (take at s) (simp length-take (omega (arith, length_written s at xs)))
    (λ k h. let l : k < at = omega (arith, length-take at (written s at xs)) in
    get_or-take at (written s at xs) k 0 l ∙ (touches_written s at xs).rest k (omega arith) ∙ sym (get_or-take at s k 0 l))

-- one list behind another
pub written_append : (s : List ℕ) (at : ℕ) (xs ys : List (Answer ℕ ℕ)) → written s at (xs ++ ys) ≡ written (written s at xs) (at + answer_size * length xs) ys
unfolding written
written_append s at [] ys = ap (λ n. written s n ys) (sym (add-zero at))
written_append s at (x ∷ xs) ys =
    let e : at + answer_size + answer_size * length xs ≡ at + answer_size * suc (length xs) = omega arith in
    written_append (put_answer s at x) (at + answer_size) xs ys ∙ ap (λ n. written (written (put_answer s at x) (at + answer_size) xs) n ys) e

-- ---- the way back: what is said from its number, key and record, an answer from its fields, answers from bytes
abbrev said_by : ℕ → ℕ → ℕ → Says ℕ ℕ
said_by n k r =
    get_or (done ∷ found k (some r) ∷ nothing ∷ waiting (some r) ∷ replicate 9 done
    ++ (runs_already ∷ runs_not ∷ waits_already ∷ is_present k (some r) ∷ locks_short ∷ pages_short ∷ circle ∷ [])) n done

abbrev answer_from : List ℕ → Answer ℕ ℕ
answer_from vs = record { asker = get_or vs 2 0; says = said_by (get_or vs 3 0) (get_or vs 4 0) (get_or vs 5 0) }

unfoldable answers_from : ℕ → List ℕ → ℕ → List (Answer ℕ ℕ)
answers_from zero s at = []
answers_from (suc n) s at = answer_from (fields_at answer_widths s at) ∷ answers_from n s (at + answer_size)

-- an answer that its bytes tell: its fields fit, and the record that it names, or who is in the way, is there
abbrev pub names_record : Says ℕ ℕ → Bool
names_record (found k r) = is_there r
names_record (is_present k r) = is_there r
names_record done = true
names_record nothing = true
names_record (waiting u) = is_there u
names_record runs_already = true
names_record runs_not = true
names_record waits_already = true
names_record locks_short = true
names_record pages_short = true
names_record circle = true

pub record Legible (a : Answer ℕ ℕ) : Type 0 where
  pub fits : Fits answer_widths (answer_fields a)
  pub there : names_record a.says ≡ true

answer_back : (t : ℕ) (m : Says ℕ ℕ) → names_record m ≡ true → answer_from (answer_fields (record { asker = t; says = m })) ≡ record { asker = t; says = m }
unfolding answer_fields
answer_back t done h = refl
answer_back t (found k (some r)) h = refl
answer_back t (found k none) h = absurd (false≢true h)
answer_back t nothing h = refl
answer_back t (waiting (some u)) h = refl
answer_back t (waiting none) h = absurd (false≢true h)
answer_back t runs_already h = refl
answer_back t runs_not h = refl
answer_back t waits_already h = refl
answer_back t (is_present k (some r)) h = refl
answer_back t (is_present k none) h = absurd (false≢true h)
answer_back t locks_short h = refl
answer_back t pages_short h = refl
answer_back t circle h = refl

written_back : (s : List ℕ) (at : ℕ) (xs : List (Answer ℕ ℕ)) → at + answer_size * length xs ≤ length s → ((x : Answer ℕ ℕ) → In x xs → Legible x)
    → answers_from (length xs) (written s at xs) at ≡ xs
unfolding written answers_from width_of
written_back s at [] h l = refl
written_back s at (x ∷ xs) h l =
    let f = l x (inl refl) in
    ap₂ (λ y ys. y ∷ ys)
    (ap answer_from (fields_apart answer_widths at (touches_written (put_answer s at x) (at + answer_size) xs) (omega arith) ∙ answer_same s at x f.fits (omega arith))
    ∙ answer_back x.asker x.says f.there)
    (written_back (put_answer s at x) (at + answer_size) xs (omega (arith, length_put_answer s at x)) (λ y i. l y (inr i)))

pub written_inj : (s t : List ℕ) (at : ℕ) (xs ys : List (Answer ℕ ℕ)) → length xs ≡ length ys → at + answer_size * length xs ≤ length s → at + answer_size * length ys ≤ length t
    → ((x : Answer ℕ ℕ) → In x xs → Legible x) → ((y : Answer ℕ ℕ) → In y ys → Legible y) → written s at xs ≡ written t at ys → xs ≡ ys
written_inj s t at xs ys e h k l m q =
    sym (written_back s at xs h l) ∙ ap₂ (λ n b. answers_from n b at) e q ∙ written_back t at ys k m
