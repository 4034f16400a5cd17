-- A transaction's mark written: the desk says the marks with that one set.
-- Its record has the new mark, and every other number stays. Assumes of the tables that they fit.
use Prim.Native.Nat.{ℕ, ◌≤◌}
use mathlib.Core.Path.{◌≡◌, refl, sym, ap, ◌∙◌}
use mathlib.Core.Bool.{Bool, true, false, cond}
use mathlib.Core.List.{List}
use mathlib.Core.Option.{Option}
use native.Mathlib.Decide.{ℕ_discrete}
use native.Mathlib.Omega.{arith}
use lib.ListN.{set}
use lib.Seq.{get_or-set_same, get_or-set_other}
use Rattle.limits.specs.Limits.{transactions_most}
use Rattle.numbers.specs.Numbers.{width_of}
use Rattle.numbers.proofs.Fields.{fields_apart}
use Rattle.numbers.proofs.BytesKept.{bytes_put_number}
use Rattle.rules.specs.Kinds.{Queued, Mark, idle, running, Lock}
use Rattle.queue.specs.QueueLayout.{record_place, record_at}
use Rattle.locks.specs.SlotLayout.{lock_widths, lock_place}
use Rattle.queue.specs.QueueMoves as M
use Rattle.queue.specs.QueueMoves.{mark_put}
use Rattle.queue.proofs.Frames.{place_beside, touches_mark, mark_head}
use Rattle.queue.proofs.RecordBytes.{record_marked, record_unmarked}
use Rattle.states.specs.States.{mark_number}
use Rattle.states.specs.Fitting.{Fitting}
use Rattle.states.proofs.DeskSays.{record_fields, Says}

mark_number_lem : (b : Bool) → M.mark_number b ≡ mark_number (cond b running idle)
mark_number_lem true = refl
mark_number_lem false = refl

module _ {d : List ℕ} {ls : List (Option (Lock ℕ))} {qs : List (Queued ℕ ℕ)} {ms : List Mark} (fit : Fitting ls qs ms) (f : Says d ls qs ms) where
  module _ (t : ℕ) (b : Bool) (low : 1 ≤ t) (high : t ≤ transactions_most) where
    record_is : (s : ℕ) → 1 ≤ s → s ≤ transactions_most → record_at (mark_put d t b) s ≡ record_fields qs (set ms t (cond b running idle)) s
    record_is s l h = go (ℕ_discrete s t)
      where
        go : Dec (s ≡ t) → record_at (mark_put d t b) s ≡ record_fields qs (set ms t (cond b running idle)) s
        go (yes e) =
            rw e
            (record_marked d t b f.len high
            ∙ ap (λ r. set r 0 (M.mark_number b)) (f.records t low high)
            ∙ ap (λ v. set (record_fields qs ms t) 0 v) (mark_number_lem b ∙ ap mark_number (sym (get_or-set_same ms t (cond b running idle) idle (omega (arith, fit.marks))))))
        go (no e) =
            record_unmarked d t b s e
            ∙ f.records s l h
            ∙ ap (λ m. set (record_fields qs ms s) 0 (mark_number m)) (sym (get_or-set_other ms t s (cond b running idle) idle e))

    pub says_marked : Says (mark_put d t b) ls qs (set ms t (cond b running idle))
    unfolding width_of mark_put
    says_marked =
        let touched = touches_mark d t b low in
        record {
          len = touched.len ∙ f.len;
          bytes = bytes_put_number 2 d (record_place t) (M.mark_number b) f.bytes;
          head = mark_head d t b low ∙ f.head;
          places = λ i h. place_beside touched i (omega arith) ∙ f.places i h;
          records = record_is;
          rows = λ i h. fields_apart lock_widths (lock_place i) touched (omega arith) ∙ f.rows i h;
        }
