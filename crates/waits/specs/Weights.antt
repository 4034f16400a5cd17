-- How many locks each transaction holds, and which request is the lightest of those looked at (document 02, [14]). Assumes nothing.
use Rattle.std.specs.Prelude.{ℕ, ◌+◌, ◌≤◌, ◌≡◌, List, length, get_or}
use Rattle.std.proofs.Math.Option.{Option, none, some}
use Rattle.std.specs.Prelude as Code
use Rattle.limits.specs.Limits.{transactions_most, locks_most}
use Rattle.lists.specs.Lists.{lightest, tab}
use Rattle.rules.specs.Queue.{Wait, waits, on_circle, locks_held, weight}
use Rattle.queue.specs.QueueLayout.{queued}
use Rattle.locks.specs.SlotLayout.{slot_at}
use Rattle.states.specs.States.{book, state_of}
use Rattle.waits.specs.declared.Yielding.{Yielding}
use Rattle.waits.specs.Choices.{Chosen}
use Rattle.waits.specs.Blocks.{waits_to}

-- at each transaction's number, how many of the slots before i it holds
pub record CountedTo (d counts : List ℕ) (i : ℕ) : Type 0 where
  pub long : length counts ≡ transactions_most + 1
  pub most : (t : ℕ) → get_or counts t 0 ≤ i
  pub held : (t : ℕ) → 1 ≤ t → t ≤ transactions_most → get_or counts t 0 ≡ locks_held book (tab i 0 (slot_at d)) t

-- the lightest of the requests on a circle that stand before a place, and how many locks it holds; more than there are where there is none
unfoldable pub lightest_to : List ℕ → List ℕ → ℕ → Option (Wait book)
lightest_to p d q = lightest (on_circle book (waits book (state_of p d))) (weight book (state_of p d)) (waits_to p d q)

abbrev pub held_by : List ℕ → List ℕ → Option (Wait book) → ℕ
held_by p d none = locks_most + 1
held_by p d (some w) = weight book (state_of p d) w

pub record BestTo (p d : List ℕ) (q : ℕ) (y : Yielding) : Type 0 where
  pub chosen : Chosen d (lightest_to p d q) y.place
  pub held : y.held ≡ held_by p d (lightest_to p d q)

-- none of the requests that stand before a place lies on a circle
abbrev pub nobody_yet : Yielding
nobody_yet = record { place = Code.None; held = locks_most + 1 }

pub record NobodyTo (p d : List ℕ) (q : ℕ) : Type 0 where
  pub inside : q ≤ queued d
  pub nobody : BestTo p d q nobody_yet
