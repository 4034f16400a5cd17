-- Whole pictures that say the same are the same: the shape and the entries tell the tree, the tree tells its pages, and the desk's tables
-- tell its bytes. Assumes nothing.
use mathlib.Core.Path.{◌≡◌, refl, sym, ap, ◌∙◌}
use mathlib.Core.List.{List}
use Prim.Native.Nat.{ℕ}
use Rattle.trees.proofs.Refill.{refill_index}
use Rattle.index.specs.Pictures.{key_of, index_of, entries_in}
use Rattle.index.proofs.Same.{pages_inj}
use Rattle.locks.specs.SlotLayout.{slots_of}
use Rattle.queue.specs.QueueLayout.{queue_of, marks_of}
use Rattle.states.specs.States.{state_of}
use Rattle.states.specs.Whole.{Whole}

pub desk_inj : (p d q e : List ℕ) → Whole p d → Whole q e → state_of p d ≡ state_of q e → d ≡ e
unfolding state_of
desk_inj p d q e w v h =
    let a : slots_of d ≡ slots_of e = ap (λ x. x.slots) h in
    let b : queue_of d ≡ queue_of e = ap (λ x. x.queue) h in
    let c : marks_of d ≡ marks_of e = ap (λ x. x.marks) h in
    w.desk ∙ rw (a, b, c) refl ∙ sym v.desk

-- Whole pictures that say the same are the same.
pub whole_inj : (p d q e : List ℕ) → Whole p d → Whole q e → state_of p d ≡ state_of q e → (p ≡ q) × (d ≡ e)
unfolding state_of entries_in
whole_inj p d q e w v h =
    (pages_inj p q w.pages v.pages (refill_index key_of (index_of p) (index_of q) (ap (λ x. x.pages) h) (ap (λ x. x.entries) h)), desk_inj p d q e w v h)
