-- The marks: there is one more than there are transactions, and a transaction runs in the rule book where its record says so.
-- By the laws of tables, with the marks counted from 1 on. Assumes nothing.
use Prim.Native.Nat.{ℕ, suc, ◌+◌, ◌-◌, ◌^◌, ◌≤◌, ◌<◌}
use mathlib.Core.Path.{◌≡◌, refl, ap, ◌∙◌}
use mathlib.Core.Bool.{Bool, true, false, cond}
use mathlib.Core.List.{List}
use native.Mathlib.Omega.{arith}
use lib.Dec.{lit<}
use lib.ListN.{length, get_or}
use Rattle.limits.specs.Limits.{transactions_most}
use Rattle.lists.proofs.Tables.{length_tab, get_d_tab}
use Rattle.numbers.specs.Numbers.{number_at}
use Rattle.rules.specs.Kinds.{Mark, idle, running}
use Rattle.rules.specs.Desk as D
use Rattle.queue.specs.QueueLayout.{record_place, mark_in, is_running, marks_of}
use Rattle.queue.specs.QueueMoves.{mark_number}

pub mark_fits : (b : Bool) → mark_number b < 256 ^ 2
mark_fits true = lit< tt
mark_fits false = lit< tt

pub length_marks : (d : List ℕ) → length (marks_of d) ≡ suc transactions_most
unfolding marks_of
length_marks d = ap suc (length_tab transactions_most 1 (λ t. mark_in (number_at 2 d (record_place t))))

-- whether t runs, by the rule book's mark and by the record's number
pub running_is : (d : List ℕ) (t : ℕ) → 1 ≤ t → t ≤ transactions_most → D.is_running (get_or (marks_of d) t idle) ≡ is_running d t
unfolding marks_of
running_is d t low high =
    let e : t ≡ suc (t - 1) = omega arith in
    let r : 1 + (t - 1) ≡ t = omega arith in
    ap (λ i. D.is_running (get_or (marks_of d) i idle)) e
    ∙ ap D.is_running (get_d_tab transactions_most 1 mark (t - 1) idle (omega arith) ∙ ap mark r)
    ∙ go (is_running d t)
  where
    mark : ℕ → Mark
    mark s = mark_in (number_at 2 d (record_place s))

    go : (b : Bool) → D.is_running (cond b running idle) ≡ b
    go true = refl
    go false = refl
