-- What a scan of the lock table knows of the slots that it has passed. Assumes nothing.
use Rattle.std.specs.Prelude.{ℕ, ◌+◌, ◌≡◌, Bool, cond, not, ◌&&◌, List, eqb}
use Rattle.std.proofs.Math.Option.{Option}
use Rattle.lists.specs.Lists.{tab, place}
use Rattle.rules.specs.Kinds.{Lock}
use Rattle.rules.specs.Entries.{is_there}
use Rattle.rules.specs.Locks as K
use Rattle.locks.specs.SlotLayout.{slot_at}
use Rattle.locks.specs.SlotMoves.{is_slot_of}
use Rattle.states.specs.States.{book}
use Rattle.circles.specs.CircleSets.{SetOf}
use Rattle.waits.specs.declared.Collected.{Collected}
use Rattle.waits.specs.Blocks.{with_holder}

-- the first place to pass a test, with place i: it stays, unless none before has passed it and this one does not
abbrev pub first_to : ℕ → ℕ → Bool → ℕ
first_to k i b = cond (eqb k i && not b) (i + 1) k

abbrev pub collected_with : Collected → ℕ → ℕ → K.Want book → Option (Lock ℕ) → Collected
collected_with c i t w x =
    record {
      against = with_holder c.against t w x;
      own = first_to c.own i (is_slot_of t w.name x);
      free = first_to c.free i (not (is_there x));
    }

-- who holds what t wants in one of the slots before i, in a conflicting mode, the first that is t's lock on it, and the first that is free
pub record Scanned (d : List ℕ) (t : ℕ) (w : K.Want book) (i : ℕ) (c : Collected) : Type 0 where
  pub against : SetOf c.against (K.holders book (tab i 0 (slot_at d)) t w)
  pub own : c.own ≡ place (is_slot_of t w.name) (tab i 0 (slot_at d))
  pub free : c.free ≡ place (λ x. not (is_there x)) (tab i 0 (slot_at d))
