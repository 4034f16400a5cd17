-- What an end settles: the entries under the X locks of its transaction. Not for readers of the promises. Assumes nothing.
use Rattle.std.specs.Prelude.{ℕ, Bool, cond, ◌&&◌, eqb}
use Rattle.std.proofs.Math.Option.{Option, none, some}
use Rattle.rules.specs.Kinds.{S, Lock}
use Rattle.rules.specs.Locks.{conflict}
use Rattle.trees.specs.Trees.{Index}
use Rattle.locks.specs.SlotLayout.{name_number}
use Rattle.index.specs.Pictures.{Item}
use Rattle.index.specs.Changes.{settled_at}

-- a slot if it is t's lock in X, the mode that does not go with S
abbrev pub exclusive : ℕ → Option (Lock ℕ) → Option (Lock ℕ)
exclusive t none = none
exclusive t (some l) = cond (eqb l.holder t && conflict l.mode S) (some l) none

-- t's entry of the lock's name settled
abbrev pub settled_under : Bool → ℕ → Option (Lock ℕ) → Index ℕ Item → Index ℕ Item
settled_under commits t none x = x
settled_under commits t (some l) x = settled_at commits t (name_number l.name) x
