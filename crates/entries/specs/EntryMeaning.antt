-- What the values of a record and of an entry mean in the rule book. Each map is one to one, so a promise about what a value means says
-- which value it is. Assumes nothing.
use Rattle.std.specs.Prelude.{ℕ}
use Rattle.std.proofs.Math.Option.{Option, none, some}
use Rattle.std.specs.Prelude as Code
use Rattle.rules.specs.Kinds as K
use Rattle.entries.specs.declared.Entry.{Entry}

abbrev pub book_value : Code.Option ℕ → Option ℕ
book_value (Code.Some r) = some r
book_value Code.None = none

abbrev pub book_entry : Entry → K.Entry ℕ ℕ
book_entry e = record { key = e.key.0; owner = e.owner; now = book_value e.now; before = book_value e.before }
