-- For any bytes there is an outcome that keeps the promise of a call, and so a desk that keeps it: the tests of judging tell of any bytes
-- whether they are whole. Assumes nothing.
use Prim.Native.Nat.{ℕ}
use mathlib.Core.Path.{refl}
use mathlib.Core.List.{List}
use Rattle.numbers.specs.Numbers.{Bytes}
use Rattle.judging.specs.Verdict.{whole_ok}
use Rattle.judging.proofs.Judging.{judged}
use Rattle.calls.specs.Promise.{Lent, BytesIn, Outcome}
use Rattle.calls.proofs.SomeOutcome.{Judgement, judged_outcome}
use Rattle.cases.specs.Idle.{Way, Keeps}
use Rattle.cases.proofs.Idle.{judge_keeps}

told : (x : Lent) → BytesIn x → Judgement x
told x b z =
    (whole_ok x.pages x.desk, judged x.pages x.desk z.pages z.desk b.pages b.desk (whole_ok x.pages x.desk) refl)

-- "for any bytes of any length"
pub some_outcome : (q : List ℕ) (x : Lent) → Bytes q → BytesIn x → Outcome q x
some_outcome q x f b = judged_outcome q x f b (told x b)

pub keeps_some : (f : Way) × Keeps f
keeps_some = judge_keeps told

-- so the promise does not shut out every desk
pub promise_kept : ((f : Way) → Keeps f → ⊥) → ⊥
promise_kept h = h keeps_some.0 keeps_some.1
