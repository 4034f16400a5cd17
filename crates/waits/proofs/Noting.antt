-- The wants that are noted: with the next one those before it stay as they are, and what is read at a place was noted there.
-- A want put into a list changes its own place alone. Assumes nothing.
use Prim.Native.Nat.{ℕ, ◌+◌, ◌<◌}
use mathlib.Core.Path.{◌≡◌, refl}
use mathlib.Core.Bool.{Bool, true, false}
use mathlib.Core.List.{List}
use native.Mathlib.Omega.{arith}
use borrow.Author.Tests.{eqb-true, eqb-false}
use lib.Dec.{eqb}
use lib.ListN.{length, get_or, set}
use lib.Seq.{get_or-set_same, get_or-set_other}
use Rattle.limits.specs.Limits.{transactions_most}
use Rattle.queue.specs.QueueLayout.{in_place}
use Rattle.waits.specs.declared.Want.{Want}
use Rattle.waits.specs.Blocks.{WantAt}
use Rattle.waits.specs.Notes.{nothing, Noted}

module _ (p d : List ℕ) (ws : List Want) where
  pub noted_none : Noted p d ws 0
  noted_none = record { wants = λ i z. absurd (omega arith) }

  -- ---- one more
  pub noted_more : (q : ℕ) → Noted p d ws q → (w : Want) → length ws ≡ transactions_most → q < transactions_most → WantAt p d q w → Noted p d (set ws q w) (q + 1)
  noted_more q k w n h e = record { wants = λ i l. at i l (eqb i q) refl }
    where
      at : (i : ℕ) → i < q + 1 → (b : Bool) → eqb i q ≡ b → WantAt p d i (get_or (set ws q w) i nothing)
      at i l true y = rw (eqb-true i q y, get_or-set_same ws q w nothing (omega (arith, n))) e
      at i l false y =
          let o = eqb-false i q y in
          rw (get_or-set_other ws q i w nothing o) (k.wants i (omega arith))

  pub noted_want : (q : ℕ) → Noted p d ws (q + 1) → WantAt p d q (get_or ws q nothing)
  noted_want q k = k.wants q (omega arith)

  pub noted_asker : (q : ℕ) → Noted p d ws (q + 1) → (get_or ws q nothing).asker ≡ in_place d q
  noted_asker q k = (noted_want q k).asker
