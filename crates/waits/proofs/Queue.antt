-- The oldest request that nobody blocks, place by place: what is chosen from the whole queue is chosen from the places that are left.
-- Assumes nothing.
use Prim.Native.Nat.{ℕ, ◌+◌, ◌-◌, ◌≤◌, ◌<◌}
use mathlib.Core.Path.{◌≡◌, ap, ◌∙◌}
use mathlib.Core.Bool.{cond}
use mathlib.Core.List.{List, [], ◌∷◌, ◌++◌}
use mathlib.Core.Option.{Option, none, some}
use native.Mathlib.Nat.{sub-zero}
use Rattle.lists.specs.Lists.{first, tab}
use Rattle.lists.proofs.Tables.{tab_next, tab_done, tab_last}
use Rattle.rules.specs.Kinds.{Entry}
use Rattle.rules.specs.Locks as K
use Rattle.rules.specs.Queue.{Wait, waits_from, waits, is_free, oldest}
use Rattle.queue.specs.QueueLayout.{queued, queued_at, queue_of}
use Rattle.locks.specs.SlotLayout.{slots_of}
use Rattle.index.specs.Pictures.{entries_in}
use Rattle.states.specs.States.{book, state_of}
use Rattle.waits.specs.Blocks.{ahead, blockers_at}

-- the request at a place, with all who block it
abbrev pub wait_at : List ℕ → List ℕ → ℕ → Wait book
wait_at p d q = record { request = queued_at d q; behind = blockers_at p d q }

pub ahead_next : (d : List ℕ) (q : ℕ) → ahead d q ++ (queued_at d q ∷ []) ≡ ahead d (q + 1)
unfolding ahead
ahead_next d q = tab_last q (queued_at d)

-- the oldest from a place on
unfoldable pub oldest_from : List ℕ → List ℕ → ℕ → Option (Wait book)
oldest_from p d q = first (is_free book) (waits_from book (entries_in p) (slots_of d) (ahead d q) (tab (queued d - q) q (queued_at d)))

module _ (p d : List ℕ) where
  pub oldest_start : oldest book (state_of p d) ≡ oldest_from p d 0
  unfolding oldest waits state_of oldest_from queue_of ahead tab
  oldest_start = rw sub-zero

  pub oldest_next : (q : ℕ) → q < queued d → oldest_from p d q ≡ cond (is_free book (wait_at p d q)) (some (wait_at p d q)) (oldest_from p d (q + 1))
  unfolding oldest_from waits_from first blockers_at
  oldest_next q h =
      ap (λ qs. first (is_free book) (waits_from book es ls (ahead d q) qs)) (tab_next (queued d) q (queued_at d) h)
      ∙ ap (λ qs. cond (is_free book (wait_at p d q)) (some (wait_at p d q)) (first (is_free book) (waits_from book es ls qs (tab (queued d - (q + 1)) (q + 1) (queued_at d)))))
      (ahead_next d q)
    where
      es : List (Entry ℕ ℕ)
      es = entries_in p

      ls : K.Slots book
      ls = slots_of d

  pub oldest_end : (q : ℕ) → queued d ≤ q → oldest_from p d q ≡ none
  unfolding oldest_from waits_from first
  oldest_end q h = ap (λ qs. first (is_free book) (waits_from book (entries_in p) (slots_of d) (ahead d q) qs)) (tab_done (queued d) q (queued_at d) h)
