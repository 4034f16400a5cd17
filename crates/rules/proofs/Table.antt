-- The table of cases holds: the rule book, played on each case, gives what the case states. By computation.
-- Assumes nothing.
use mathlib.Core.Path.{refl}
use Rattle.rules.specs.Document.{endless}
use Rattle.rules.specs.Cases as C
use Rattle.rules.proofs.Computing.{the_book, the_cases}

pub cases_hold : C.AllHold endless
unfolding the_book the_cases C.played_with C.stated
cases_hold = record { how_many = refl; hold = refl; how_many_tight = refl; hold_tight = refl }
