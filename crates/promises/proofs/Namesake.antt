-- The story of the namesake goes as it is stated: the rule book, played on it, gives its answers and where things stand. By computation.
-- Assumes nothing.
use mathlib.Core.Path.{refl}
use Rattle.lists.specs.Lists.{all}
use Rattle.rules.specs.Cases as C
use Rattle.cases.proofs.CaseComputing.{the_book, the_pages, the_records, the_answers}
use Rattle.cases.proofs.Overs.{Plays, plays_on_bytes}
use Rattle.promises.specs.Namesake as N

pub namesake_waits : N.NamesakeWaits
unfolding the_book C.played_with C.stated N.namesake
namesake_waits = refl

-- on bytes, over the tree of pages
namesake_plays : Plays N.namesake_scored
unfolding the_book the_pages the_records the_answers all C.played_with C.stated N.namesake
namesake_plays = record { holds = refl; heard = refl; few = refl; literally = refl }

pub namesake_on_bytes : N.NamesakeOnBytes
namesake_on_bytes = plays_on_bytes N.namesake_scored namesake_plays
