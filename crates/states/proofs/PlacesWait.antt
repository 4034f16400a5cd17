-- The request at a place of the queue, with all who block it, is one of the rule book's waits.
-- By cutting the queue at the place. Assumes nothing.
use Prim.Native.Nat.{ℕ, ◌+◌, ◌-◌, ◌<◌}
use mathlib.Core.Path.{◌≡◌, sym, ap, subst, ◌∙◌}
use mathlib.Core.Logic.{inl, inr}
use mathlib.Core.List.{List, [], ◌∷◌, ◌++◌, append_assoc, append-nil}
use native.Mathlib.Nat.{zero-add}
use native.Mathlib.Omega.{arith}
use Rattle.lists.specs.Lists.{In, tab}
use Rattle.lists.proofs.Tables.{tab_next, tab_append}
use Rattle.rules.specs.Entries.{Entries}
use Rattle.rules.specs.Locks.{Slots, blockers}
use Rattle.rules.specs.Queue.{Q, Wait, waits_from, waits}
use Rattle.queue.specs.QueueLayout.{queued, queued_at, queue_of}
use Rattle.locks.specs.SlotLayout.{slots_of}
use Rattle.index.specs.Pictures.{entries_in}
use Rattle.states.specs.States.{book, state_of}

abbrev wait_behind : Entries book → Slots book → List (Q book) → Q book → Wait book
wait_behind es ls ahead q = record { request = q; behind = blockers book es ls ahead q }

in_waits : (es : Entries book) (ls : Slots book) (ahead xs : List (Q book)) (q : Q book) (ys : List (Q book))
    → In (wait_behind es ls (ahead ++ xs) q) (waits_from book es ls ahead (xs ++ (q ∷ ys)))
unfolding waits_from
in_waits es ls ahead [] q ys = inl (ap (λ as'. wait_behind es ls as' q) (sym (append-nil ahead)))
in_waits es ls ahead (x ∷ xs) q ys =
    inr (subst (λ as'. In (wait_behind es ls as' q) (waits_from book es ls (ahead ++ (x ∷ [])) (xs ++ (q ∷ ys))))
    (append_assoc ahead (x ∷ []) xs) (in_waits es ls (ahead ++ (x ∷ [])) xs q ys))

-- the queue cut at a place
cut : (d : List ℕ) (q : ℕ) → q < queued d
    → queue_of d ≡ tab q 0 (queued_at d) ++ (queued_at d q ∷ tab (queued d - (q + 1)) (q + 1) (queued_at d))
unfolding queue_of
cut d q h =
    let e : queued d ≡ q + (queued d - q) = omega arith in
    ap (λ n. tab n 0 (queued_at d)) e ∙ tab_append q (queued d - q) 0 (queued_at d)
    ∙ ap (λ k. tab q 0 (queued_at d) ++ tab (queued d - q) k (queued_at d)) (zero-add q)
    ∙ ap (λ xs. tab q 0 (queued_at d) ++ xs) (tab_next (queued d) q (queued_at d) h)

pub place_waits : (p d : List ℕ) (q : ℕ) → q < queued d
    → In (wait_behind (entries_in p) (slots_of d) (tab q 0 (queued_at d)) (queued_at d q)) (waits book (state_of p d))
unfolding waits state_of
place_waits p d q h =
    subst (λ qs. In (wait_behind (entries_in p) (slots_of d) (tab q 0 (queued_at d)) (queued_at d q)) (waits_from book (entries_in p) (slots_of d) [] qs)) (sym (cut d q h))
    (in_waits (entries_in p) (slots_of d) [] (tab q 0 (queued_at d)) (queued_at d q) (tab (queued d - (q + 1)) (q + 1) (queued_at d)))
