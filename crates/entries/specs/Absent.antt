-- Document 01, "Records and pages": "An absent record is 0." Assumes nothing.
use Rattle.std.specs.Prelude.{ℕ}
use Rattle.std.proofs.Math.Option.{Option, none, some}

abbrev pub or_zero : Option ℕ → ℕ
or_zero none = 0
or_zero (some n) = n
