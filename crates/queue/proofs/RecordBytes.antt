-- The records of the transactions, all their numbers: what each move writes there, and that it leaves the others.
-- A request is four numbers between the mark and the filler. Assumes of the queue that its places hold transactions.
use Prim.Native.Nat.{ℕ, ◌+◌, ◌≤◌, ◌<◌}
use mathlib.Core.Path.{◌≡◌, ap, ap₂, ◌∙◌}
use mathlib.Core.Logic.{◌≢◌}
use mathlib.Core.Bool.{Bool}
use mathlib.Core.List.{List, [], ◌∷◌, ◌++◌}
use native.Mathlib.Omega.{arith}
use lib.Dec.{lit<}
use lib.ListN.{length, get_or, set}
use Rattle.limits.specs.Limits.{transactions_most, key_size, record_size, desk_size}
use Rattle.numbers.specs.Numbers.{number_at, width_of, fields_at, Fits, Apart}
use Rattle.numbers.proofs.Agree.{Touches}
use Rattle.numbers.proofs.Numbers.{number_apart, number_same, touches_put_number}
use Rattle.numbers.proofs.Fields.{fields_apart, fields_same}
use Rattle.rules.specs.Kinds.{Ask}
use Rattle.queue.specs.QueueLayout.{queued, in_place, record_place, record_widths, record_at, ask_widths, ask_size, ask_fields, put_ask}
use Rattle.queue.specs.QueueMoves.{queue_joined, queue_left, mark_number, mark_put}
use Rattle.queue.proofs.QueueOrder.{InOrder}
use Rattle.queue.proofs.Frames.{OnlyLocks, touches_ask}
use Rattle.queue.proofs.MarkBytes.{mark_fits}
use Rattle.queue.proofs.QueueBytes.{touches_joined, touches_left}

pub record_beside : {b m : ℕ} {d u : List ℕ} → Touches b m d u → (t : ℕ) → Apart (record_place t) record_size b m → record_at u t ≡ record_at d t
unfolding record_at width_of
record_beside f t h = fields_apart record_widths (record_place t) f h

pub record_kept : {d u : List ℕ} → OnlyLocks d u → (t : ℕ) → t ≤ transactions_most → record_at u t ≡ record_at d t
record_kept f t h = record_beside f t (omega arith)

-- ---- a mark
module _ (d : List ℕ) (t : ℕ) (b : Bool) where
  pub record_marked : length d ≡ desk_size → t ≤ transactions_most → record_at (mark_put d t b) t ≡ set (record_at d t) 0 (mark_number b)
  unfolding record_at fields_at mark_put width_of
  record_marked size h =
      ap₂ (λ v vs. v ∷ vs) (number_same 2 d (record_place t) (mark_number b) (mark_fits b) (omega arith))
      (fields_apart (2 ∷ 4 ∷ key_size ∷ key_size ∷ 8 ∷ []) (record_place t + 2) (touches_put_number 2 d (record_place t) (mark_number b)) (omega arith))

  pub record_unmarked : (s : ℕ) → s ≢ t → record_at (mark_put d t b) s ≡ record_at d s
  unfolding mark_put
  record_unmarked s h = record_beside (touches_put_number 2 d (record_place t) (mark_number b)) s (omega arith)

-- ---- a request: the record with other numbers between its mark and its filler
abbrev pub with_ask : List ℕ → List ℕ → List ℕ
with_ask vs r = get_or r 0 0 ∷ (vs ++ (get_or r 5 0 ∷ []))

pub record_asked : (d : List ℕ) (t : ℕ) (vs : List ℕ) → length d ≡ desk_size → t ≤ transactions_most → Fits ask_widths vs
    → record_at (put_ask d t vs) t ≡ with_ask vs (record_at d t)
unfolding record_at fields_at put_ask width_of
record_asked d t vs size h fit =
    ap (λ v. v ∷ (fields_at ask_widths u p ++ (filler u ∷ []))) (number_apart 2 (record_place t) f (omega arith))
    ∙ ap (λ ws. number_at 2 d (record_place t) ∷ (ws ++ (filler u ∷ []))) (fields_same ask_widths d p vs fit (omega arith))
    ∙ ap (λ z. number_at 2 d (record_place t) ∷ (vs ++ (z ∷ []))) (number_apart 8 (p + 2 + 4 + key_size + key_size) f (omega arith))
  where
    p : ℕ
    p = record_place t + 2

    u : List ℕ
    u = put_ask d t vs

    f : Touches p ask_size d u
    f = touches_ask d t vs

    filler : List ℕ → ℕ
    filler s = number_at 8 s (p + 2 + 4 + key_size + key_size)

-- ---- a request joins, and leaves
module _ (d : List ℕ) (t : ℕ) (a : Ask ℕ ℕ) (size : length d ≡ desk_size) (order : InOrder d) (room : queued d < transactions_most)
    (low : 1 ≤ t) (high : t ≤ transactions_most) where
  joined_beside : (s : ℕ) → 1 ≤ s → record_at (queue_joined d t a) s ≡ record_at (put_ask d t (ask_fields a)) s
  joined_beside s h = record_beside (touches_joined d t a size order room low high) s (omega arith)

  pub record_joined : Fits ask_widths (ask_fields a) → record_at (queue_joined d t a) t ≡ with_ask (ask_fields a) (record_at d t)
  record_joined fit = joined_beside t low ∙ record_asked d t (ask_fields a) size high fit

  pub record_joined_other : (s : ℕ) → 1 ≤ s → s ≢ t → record_at (queue_joined d t a) s ≡ record_at d s
  record_joined_other s h e = joined_beside s h ∙ record_beside (touches_ask d t (ask_fields a)) s (omega arith)

module _ (d : List ℕ) (q : ℕ) (size : length d ≡ desk_size) (order : InOrder d) (there : q < queued d) where
  left_beside : (s : ℕ) → 1 ≤ s → record_at (queue_left d q) s ≡ record_at (put_ask d (in_place d q) (0 ∷ 0 ∷ 0 ∷ 0 ∷ [])) s
  left_beside s h = record_beside (touches_left d q size order there) s (omega arith)

  pub record_left : record_at (queue_left d q) (in_place d q) ≡ with_ask (0 ∷ 0 ∷ 0 ∷ 0 ∷ []) (record_at d (in_place d q))
  record_left =
      left_beside (in_place d q) (order.from q there)
      ∙ record_asked d (in_place d q) (0 ∷ 0 ∷ 0 ∷ 0 ∷ []) size (order.to q there) (lit< tt, (lit< tt, (lit< tt, (lit< tt, tt))))

  pub record_left_other : (s : ℕ) → 1 ≤ s → s ≢ in_place d q → record_at (queue_left d q) s ≡ record_at d s
  record_left_other s h e = left_beside s h ∙ record_beside (touches_ask d (in_place d q) (0 ∷ 0 ∷ 0 ∷ 0 ∷ [])) s (omega arith)
