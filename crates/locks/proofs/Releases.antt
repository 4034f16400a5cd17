-- Releasing the locks of a transaction: one slot after the other as the code does it, and what stands in each row then.
-- When i slots are passed, the first i rows are released and the rest is as it was. Assumes nothing.
use Prim.Native.Nat.{ℕ, zero, suc, ◌+◌, ◌-◌, ◌*◌, ◌≤◌, ◌<◌}
use mathlib.Core.Path.{◌≡◌, refl, sym, ap, subst, ◌∙◌}
use mathlib.Core.Bool.{Bool, true, false, cond}
use mathlib.Core.List.{List, [], ◌∷◌, ◌++◌, append-nil}
use native.Mathlib.Nat.{zero-add}
use native.Mathlib.Omega.{arith}
use borrow.Author.Tests.{eq-eqb, ne_eqb}
use lib.Dec.{eqb}
use lib.ListN.{length, replicate, length-append, length-replicate}
use Rattle.limits.specs.Limits.{locks_most, key_size, slot_size, slots_place, desk_size}
use Rattle.lists.specs.Lists.{tab, join}
use Rattle.lists.proofs.Tables.{tab_append}
use Rattle.lists.proofs.Joins.{join_append}
use Rattle.numbers.specs.Numbers.{number_at, part, put_part, zeroed}
use Rattle.numbers.proofs.Agree.{Touches, touches_wider}
use Rattle.numbers.proofs.Parts.{length_part, number_at_part, put_part_part, put_part_none, part_apart, part_same, touches_put_part}
use Rattle.numbers.proofs.Splices.{put_part_behind}
use Rattle.locks.specs.SlotLayout.{lock_place}
use Rattle.locks.specs.SlotMoves.{row_freed, row_released, locks_released}

-- ---- one slot, as the code tests and writes it
module _ (d : List ℕ) (t i h : ℕ) (e : h ≡ number_at 2 d (slots_place + slot_size * i + key_size)) where
  holder_in : number_at 2 (part (lock_place i) slot_size d) key_size ≡ h
  holder_in = number_at_part 2 (lock_place i) slot_size d key_size (omega arith) ∙ sym e

  pub row_freed_lem : (u : List ℕ) (p : ℕ) → h ≡ t → p ≡ lock_place i → u ≡ zeroed slot_size p d → u ≡ row_released t i d
  unfolding row_released zeroed
  row_freed_lem u p q l w =
      let z : eqb (number_at 2 (part (lock_place i) slot_size d) key_size) t ≡ true = eq-eqb (number_at 2 (part (lock_place i) slot_size d) key_size) t (holder_in ∙ q) in
      let v : u ≡ zeroed slot_size (lock_place i) d = w ∙ ap (λ k. zeroed slot_size k d) l in
      rw z v

  pub row_kept : (h ≡ t → ⊥) → i < locks_most → length d ≡ desk_size → d ≡ row_released t i d
  unfolding row_released
  row_kept q l n =
      let z : eqb (number_at 2 (part (lock_place i) slot_size d) key_size) t ≡ false =
      ne_eqb (number_at 2 (part (lock_place i) slot_size d) key_size) t (λ x. q (sym holder_in ∙ x)) in
      rw z (sym (put_part_part (lock_place i) slot_size d (omega arith)))

-- ---- all of them
unfoldable pub released_to : ℕ → ℕ → List ℕ → List ℕ
released_to t i d = put_part (lock_place 0) (join (row_freed t) (tab i 0 (λ k. part (lock_place k) slot_size d))) d

pub release_start : (t : ℕ) (d : List ℕ) → d ≡ released_to t 0 d
unfolding released_to join tab
release_start t d = put_part_none (lock_place 0) d

module _ (t : ℕ) (d : List ℕ) (size : length d ≡ desk_size) where
  abbrev row : ℕ → List ℕ
  row k = part (lock_place k) slot_size d

  length_freed : (r : List ℕ) → length r ≡ slot_size → length (row_freed t r) ≡ slot_size
  length_freed r e = go (eqb (number_at 2 r key_size) t)
    where
      go : (b : Bool) → length (cond b (replicate slot_size 0) r) ≡ slot_size
      go true = length-replicate {A = ℕ} slot_size 0
      go false = e

  length_rows : (n i : ℕ) → i + n ≤ locks_most → length (join (row_freed t) (tab n i row)) ≡ slot_size * n
  unfolding join tab
  length_rows zero i h = refl
  length_rows (suc n) i h =
      let r = length_rows n (i + 1) (omega arith) in
      let f = length_freed (row i) (length_part (lock_place i) slot_size d (omega arith)) in
      omega (arith, length-append (row_freed t (row i)) (join (row_freed t) (tab n (i + 1) row)))

  rows_next : (i : ℕ) → join (row_freed t) (tab (i + 1) 0 row) ≡ join (row_freed t) (tab i 0 row) ++ row_freed t (row i)
  unfolding join tab
  rows_next i =
      ap (join (row_freed t)) (tab_append i 1 0 row)
      ∙ join_append (row_freed t) (tab i 0 row) (row (0 + i) ∷ [])
      ∙ ap (λ x. join (row_freed t) (tab i 0 row) ++ x) (append-nil (row_freed t (row (0 + i))) ∙ ap (λ k. row_freed t (row k)) (zero-add i))

  pub touches_released_to : (i : ℕ) → i ≤ locks_most → Touches slots_place (slot_size * i) d (released_to t i d)
  unfolding released_to
  touches_released_to i h =
      let e = length_rows i 0 (omega arith) in
      touches_wider slots_place (slot_size * i) (omega arith) (omega arith) (touches_put_part slots_place (join (row_freed t) (tab i 0 row)) d (omega arith))

  released_next : (i : ℕ) → i < locks_most → put_part (lock_place i) (row_freed t (row i)) (released_to t i d) ≡ released_to t (i + 1) d
  unfolding released_to
  released_next i h =
      let n = length_rows i 0 (omega arith) in
      let place : lock_place i ≡ slots_place + length (join (row_freed t) (tab i 0 row)) = omega arith in
      ap (λ p. put_part p (row_freed t (row i)) (released_to t i d)) place
      ∙ put_part_behind slots_place (length (join (row_freed t) (tab i 0 row))) (join (row_freed t) (tab i 0 row)) (row_freed t (row i)) d refl (omega arith)
      ∙ ap (λ rs. put_part slots_place rs d) (sym (rows_next i))

  -- what the loop has passed over is not touched yet
  row_before : (i : ℕ) → i < locks_most → part (lock_place i) slot_size (released_to t i d) ≡ row i
  row_before i h = part_apart (lock_place i) slot_size (touches_released_to i (omega arith)) (omega arith) (omega arith)

  pub release_turn : (i : ℕ) (u v : List ℕ) → u ≡ released_to t i d → v ≡ row_released t i u → i < locks_most → v ≡ released_to t (i + 1) d
  unfolding row_released
  release_turn i u v e q h =
      q
      ∙ ap (row_released t i) e
      ∙ ap (λ r. put_part (lock_place i) (row_freed t r) (released_to t i d)) (row_before i h)
      ∙ released_next i h

  pub release_end : (i : ℕ) (u : List ℕ) → u ≡ released_to t i d → i ≤ locks_most → locks_most ≤ i → u ≡ locks_released t d
  unfolding released_to locks_released
  release_end i u e h l = let q : i ≡ locks_most = omega arith in rw q at e

  -- ---- what stands in slot k then
  touches_later : (k n : ℕ) → k ≤ n → n ≤ locks_most → Touches (lock_place k) (slot_size * (n - k)) (released_to t k d) (released_to t n d)
  unfolding released_to
  touches_later k n h l =
      let e = length_rows k 0 (omega arith) in
      let f = length_rows (n - k) (0 + k) (omega arith) in
      let g : k + (n - k) ≡ n = omega arith in
      let parts : join (row_freed t) (tab n 0 row) ≡ join (row_freed t) (tab k 0 row) ++ join (row_freed t) (tab (n - k) (0 + k) row) =
      ap (λ x. join (row_freed t) (tab x 0 row)) (sym g)
      ∙ ap (join (row_freed t)) (tab_append k (n - k) 0 row)
      ∙ join_append (row_freed t) (tab k 0 row) (tab (n - k) (0 + k) row) in
      let whole : put_part slots_place (join (row_freed t) (tab n 0 row)) d
      ≡ put_part (slots_place + length (join (row_freed t) (tab k 0 row))) (join (row_freed t) (tab (n - k) (0 + k) row)) (released_to t k d) =
      ap (λ x. put_part slots_place x d) parts
      ∙ sym (put_part_behind slots_place (length (join (row_freed t) (tab k 0 row))) (join (row_freed t) (tab k 0 row))
      (join (row_freed t) (tab (n - k) (0 + k) row)) d refl (omega arith)) in
      let m = (touches_released_to k (omega arith)).len in
      subst (Touches (lock_place k) (slot_size * (n - k)) (released_to t k d)) (sym whole)
      (touches_wider (lock_place k) (slot_size * (n - k)) (omega arith) (omega arith)
      (touches_put_part (slots_place + length (join (row_freed t) (tab k 0 row))) (join (row_freed t) (tab (n - k) (0 + k) row)) (released_to t k d) (omega arith)))

  -- "a released one is zeroed", and the others keep their bytes
  pub row_released_lem : (k : ℕ) → k < locks_most → part (lock_place k) slot_size (locks_released t d) ≡ row_freed t (part (lock_place k) slot_size d)
  unfolding released_to locks_released
  row_released_lem k h =
      let m = touches_released_to k (omega arith) in
      let n = touches_released_to (k + 1) (omega arith) in
      part_apart (lock_place k) slot_size (touches_later (k + 1) locks_most (omega arith) (omega arith)) (omega arith) (omega (arith, n.len))
      ∙ ap (part (lock_place k) slot_size) (sym (released_next k h))
      ∙ part_same (lock_place k) slot_size (row_freed t (row k)) (released_to t k d) (length_freed (row k) (length_part (lock_place k) slot_size d (omega arith)))
      (omega (arith, m.len))
