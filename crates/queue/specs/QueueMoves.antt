-- What joining and leaving the queue, beginning and ending do to the bytes of the desk. Assumes nothing.
use Rattle.std.specs.Prelude.{ℕ, ◌+◌, ◌*◌, ◌-◌, Bool, cond, List, [], ◌∷◌, eqb}
use Rattle.limits.specs.Limits.{transactions_most}
use Rattle.lists.specs.Lists.{place}
use Rattle.numbers.specs.Numbers.{put_number, moved, zeroed}
use Rattle.rules.specs.Kinds.{Ask}
use Rattle.queue.specs.QueueLayout.{queue_of, queued, queue_place, in_place, record_place, put_ask, ask_fields}

-- the place of t's request in the queue, or how many wait where t's does not
unfoldable pub waits_in : List ℕ → ℕ → ℕ
waits_in d t = place (λ q. eqb q.asker t) (queue_of d)

-- t's request joins the end of the queue
unfoldable pub queue_joined : List ℕ → ℕ → Ask ℕ ℕ → List ℕ
queue_joined d t a = put_number 2 (put_number 2 (put_ask d t (ask_fields a)) (queue_place (queued d)) t) 4 (queued d + 1)

-- the request at place q leaves: those behind it move up one place, and its record's request is zero
unfoldable pub queue_left : List ℕ → ℕ → List ℕ
queue_left d q =
    put_number 2
    (zeroed 2 (queue_place (transactions_most - 1)) (moved (2 * (transactions_most - 1 - q)) (queue_place (q + 1)) (queue_place q) (put_ask d (in_place d q) (0 ∷ 0 ∷ 0 ∷ 0 ∷ []))))
    4 (queued d - 1)

-- t runs, or no longer
abbrev pub mark_number : Bool → ℕ
mark_number b = cond b 1 0

unfoldable pub mark_put : List ℕ → ℕ → Bool → List ℕ
mark_put d t b = put_number 2 d (record_place t) (mark_number b)
