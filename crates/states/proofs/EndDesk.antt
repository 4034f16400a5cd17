-- The end of a transaction, as commit and rollback write it: its request dropped, its locks released, its mark cleared.
-- One move after the other, each the desk of what the rule book makes of the tables. Assumes of the tables that they fit.
use Prim.Native.Nat.{ℕ, ◌≤◌, ◌<◌}
use mathlib.Core.Path.{◌≡◌, refl, sym, ap, ◌∙◌}
use mathlib.Core.Bool.{Bool, true, false, cond}
use mathlib.Core.List.{List}
use mathlib.Core.Option.{Option}
use native.Mathlib.Omega.{arith}
use borrow.Author.Tests.{ltb-true, ltb-false}
use lib.Dec.{ltb}
use lib.ListN.{length, set}
use Rattle.limits.specs.Limits.{transactions_most}
use Rattle.rules.specs.Kinds.{Queued, Mark, idle, Lock, Paging}
use Rattle.rules.specs.Locks.{released}
use Rattle.rules.specs.Queue.{leave}
use Rattle.rules.specs.Document.{document}
use Rattle.queue.specs.QueueLayout.{queued, queue_of}
use Rattle.locks.specs.SlotMoves.{locks_released}
use Rattle.queue.specs.QueueMoves.{waits_in, queue_left, mark_put}
use Rattle.queue.proofs.QueueBytes.{waits_there, leave_none}
use Rattle.states.specs.States.{desk_with}
use Rattle.states.specs.Fitting.{Fitting}
use Rattle.states.proofs.DeskSays.{asker_in}
use Rattle.states.proofs.DeskBytes.{desk_says}
use Rattle.states.proofs.Reading.{desk_queue, desk_queued}
use Rattle.states.proofs.FitKept.{fit_released, fit_left}
use Rattle.states.proofs.DeskMoves.{mark_put_lem, queue_left_lem, locks_released_lem}

-- t's request dropped, if it has one
abbrev pub dropped : ℕ → List ℕ → List ℕ
dropped t d = cond (ltb (waits_in d t) (queued d)) (queue_left d (waits_in d t)) d

module _ (P : Paging ℕ) (ls : List (Option (Lock ℕ))) (qs : List (Queued ℕ ℕ)) (ms : List Mark) (fit : Fitting ls qs ms) (t : ℕ) where
  abbrev desk : List ℕ
  desk = desk_with ls qs ms

  pub queue_dropped : dropped t desk ≡ desk_with ls (leave (document P) t qs) ms
  queue_dropped = go (ltb (waits_in desk t) (queued desk)) refl
    where
      i : ℕ
      i = waits_in desk t

      few : queued desk ≡ length qs
      few = desk_queued ls qs ms fit

      go : (b : Bool) → ltb i (queued desk) ≡ b → cond b (queue_left desk i) desk ≡ desk_with ls (leave (document P) t qs) ms
      go true e =
          let h : i < queued desk = ltb-true i (queued desk) e in
          let most = fit.few in
          let who : asker_in qs i ≡ t = sym ((desk_says ls qs ms fit).places i (omega (arith, few))) ∙ waits_there desk t h in
          queue_left_lem ls qs ms fit P i (omega (arith, few)) ∙ ap (λ u. desk_with ls (leave (document P) u qs) ms) who
      go false e =
          let none : leave (document P) t (queue_of desk) ≡ queue_of desk = leave_none desk t P (ltb-false i (queued desk) e) in
          ap (λ ps. desk_with ls ps ms)
          (sym (desk_queue ls qs ms fit) ∙ sym none ∙ ap (leave (document P) t) (desk_queue ls qs ms fit))

  pub desk_ended : 1 ≤ t → t ≤ transactions_most
      → mark_put (locks_released t (dropped t desk)) t false ≡ desk_with (released (document P) t ls) (leave (document P) t qs) (set ms t idle)
  desk_ended low high =
      let fit₁ = fit_left fit P t in
      ap (λ d. mark_put (locks_released t d) t false) queue_dropped
      ∙ ap (λ d. mark_put d t false) (locks_released_lem ls (leave (document P) t qs) ms fit₁ P t)
      ∙ mark_put_lem (released (document P) t ls) (leave (document P) t qs) ms (fit_released fit₁ P t) t false low high
