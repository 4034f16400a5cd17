-- What a search in the index finds: the first entry that it seeks, in the order of the entries. (Document 01, "Locks", the targets.)
-- Assumes nothing.
use Rattle.std.specs.Prelude.{ℕ, Bool, not, ◌&&◌, ◌||◌, leb, eqb}
use Rattle.std.proofs.Math.Option.{Option, none, some}
use Rattle.std.specs.Prelude as Code
use Rattle.rules.specs.Kinds.{Entry}
use Rattle.rules.specs.Entries.{ghost}
use Rattle.entries.specs.EntryMeaning.{book_entry}
use Rattle.index.specs.declared.Sought.{Sought}
use Rattle.entries.specs.declared.Entry as CodeEntry

-- "first entry at or above lo that is above hi or isn't the asker's own ghost"; asker 0 is nobody and has no ghosts: then it is the first
-- entry at or above lo
abbrev pub seeks : Sought → Entry ℕ ℕ → Bool
seeks w e =
    leb w.lo.0 e.key
    && (not (leb e.key w.hi.0) || not ((not (eqb w.asker 0) && eqb e.owner w.asker) && ghost e))

abbrev pub book_found : Code.Option CodeEntry.Entry → Option (Entry ℕ ℕ)
book_found (Code.Some e) = some (book_entry e)
book_found Code.None = none
