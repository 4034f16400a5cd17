-- Document 01, **Whole**: "these layouts and entry rules; a tree of pages .." (`pages`); the desk's layout (`desk`); "owners ..; locks ..;
-- queue .." (`values`). The bytes are exactly those that what they say would be written as, so two whole pictures that say the same are the
-- same. Assumes nothing.
use Rattle.std.specs.Prelude.{ℕ, ◌≡◌, Bool, true, List, length}
use Rattle.limits.specs.Limits.{desk_size}
use Rattle.rules.specs.Queue.{St}
use Rattle.rules.specs.Good.{Good}
use Rattle.locks.specs.SlotLayout.{slots_of}
use Rattle.queue.specs.QueueLayout.{queue_of, marks_of}
use Rattle.index.specs.Pictures.{WholePages}
use Rattle.states.specs.States.{book, state_of, desk_with}

pub record Whole (p d : List ℕ) : Type 0 where
  pub pages : WholePages p
  pub size : length d ≡ desk_size
  pub desk : d ≡ desk_with (slots_of d) (queue_of d) (marks_of d)
  pub values : Good book (state_of p d)

-- the picture is whole and says s
pub record Says (p d : List ℕ) (s : St book) : Type 0 where
  pub whole : Whole p d
  pub state : state_of p d ≡ s

-- a judgement: yes exactly when the picture is whole
pub record Judged (p d : List ℕ) (r : Bool) : Type 0 where
  pub sound : r ≡ true → Whole p d
  pub complete : Whole p d → r ≡ true
