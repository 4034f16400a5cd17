-- The waits of the queue's places, and the rows, which are filled in the queue's order: who is queued at a place has all those of the places before
-- it ahead. Assumes nothing.
use Prim.Native.Nat.{ℕ, ◌+◌, ◌-◌, ◌<◌}
use mathlib.Core.Path.{◌≡◌, refl, sym, ap, subst, ◌∙◌}
use mathlib.Core.Logic.{inl}
use mathlib.Core.Bool.{true}
use mathlib.Core.List.{List, [], ◌∷◌, ◌++◌, append_assoc, append-nil}
use native.Mathlib.Nat.{zero-add}
use native.Mathlib.Omega.{arith}
use lib.ListN.{length, set, replicate, length-set, length-replicate}
use Rattle.limits.specs.Limits.{transactions_most}
use Rattle.lists.specs.Lists.{In, pairs, tab}
use Rattle.lists.proofs.Tables.{tab_append, tab_next}
use Rattle.lists.proofs.Elements.{in_right}
use Rattle.rules.specs.Kinds.{Entry, Queued}
use Rattle.rules.specs.Locks as K
use Rattle.rules.specs.Queue.{waits_from, waits}
use Rattle.rules.specs.Good.{other_asker}
use Rattle.queue.specs.QueueLayout.{queued, in_place, queued_at, queue_of}
use Rattle.locks.specs.SlotLayout.{slots_of}
use Rattle.index.specs.Pictures.{entries_in}
use Rattle.states.specs.States.{book, state_of}
use Rattle.states.specs.Whole.{Whole}
use Rattle.circles.specs.CircleSets.{SetOf, RowOf}
use Rattle.circles.proofs.Collected.{row_none, row_queued}
use Rattle.waits.specs.declared.Want.{Want}
use Rattle.waits.specs.Blocks.{ahead, WantAt, blockers_at, waits_to, RowTo, Rows}
use Rattle.waits.proofs.QueueKnown.{whole_order}
use Rattle.waits.proofs.Queue.{wait_at, ahead_next}

waits_append : (es : List (Entry ℕ ℕ)) (ls : K.Slots book) (qs xs ys : List (Queued ℕ ℕ))
    → waits_from book es ls qs (xs ++ ys) ≡ waits_from book es ls qs xs ++ waits_from book es ls (qs ++ xs) ys
unfolding waits_from
waits_append es ls qs [] ys = rw append-nil
waits_append es ls qs (x ∷ xs) ys =
    ap (λ ws. record { request = x; behind = K.blockers book es ls qs x } ∷ ws)
    (waits_append es ls (qs ++ (x ∷ [])) xs ys
    ∙ ap (λ zs. waits_from book es ls (qs ++ (x ∷ [])) xs ++ waits_from book es ls zs ys) (append_assoc qs (x ∷ []) xs))

queue_split : (d : List ℕ) (q : ℕ) → q < queued d → queue_of d ≡ ahead d q ++ (queued_at d q ∷ tab (queued d - (q + 1)) (q + 1) (queued_at d))
unfolding queue_of ahead
queue_split d q h =
    let n : queued d ≡ q + (queued d - q) = omega arith in
    ap (λ k. tab k 0 (queued_at d)) n
    ∙ tab_append q (queued d - q) 0 (queued_at d)
    ∙ ap (λ k. tab q 0 (queued_at d) ++ tab (queued d - q) k (queued_at d)) (zero-add q)
    ∙ ap (λ xs. tab q 0 (queued_at d) ++ xs) (tab_next (queued d) q (queued_at d) h)

module _ (p d : List ℕ) where
  pub waits_next : (q : ℕ) → waits_to p d (q + 1) ≡ waits_to p d q ++ (wait_at p d q ∷ [])
  unfolding waits_to waits_from blockers_at
  waits_next q =
      ap (waits_from book (entries_in p) (slots_of d) []) (sym (ahead_next d q)) ∙ waits_append (entries_in p) (slots_of d) [] (ahead d q) (queued_at d q ∷ [])

  pub waits_all : waits_to p d (queued d) ≡ waits book (state_of p d)
  unfolding waits_to waits state_of queue_of ahead
  waits_all = refl

  pub wait_in : (q : ℕ) → q < queued d → In (wait_at p d q) (waits book (state_of p d))
  unfolding waits state_of waits_from blockers_at
  wait_in q h =
      let rest = tab (queued d - (q + 1)) (q + 1) (queued_at d) in
      subst (In (wait_at p d q))
      (sym (ap (waits_from book (entries_in p) (slots_of d) []) (queue_split d q h) ∙ waits_append (entries_in p) (slots_of d) [] (ahead d q) (queued_at d q ∷ rest)))
      (in_right (waits_from book (entries_in p) (slots_of d) [] (ahead d q)) (waits_from book (entries_in p) (slots_of d) (ahead d q) (queued_at d q ∷ rest)) (wait_at p d q) (inl refl))

  -- ---- the rows
  pub rows_start : (row row₀ : List ℕ) → length row₀ ≡ transactions_most + 1 → row ≡ replicate (length row₀) 0 → RowTo p d row 0
  unfolding waits_to waits_from ahead tab
  rows_start row row₀ h e = rw e (record { long = length-replicate (length row₀) 0 ∙ h; links = row_none book (length row₀) })

  rows_turn : (row : List ℕ) (q m : ℕ) → Whole p d → q < queued d → SetOf m (blockers_at p d q) → length row ≡ transactions_most + 1
      → RowOf book row (waits_to p d q) → RowOf book (set row (in_place d q) m) (waits_to p d (q + 1))
  unfolding waits_to blockers_at queued_at state_of
  rows_turn row q m k there s l r =
      let differ : pairs (other_asker book) (ahead d q ++ (queued_at d q ∷ tab (queued d - (q + 1)) (q + 1) (queued_at d))) ≡ true =
      subst (λ qs. pairs (other_asker book) qs ≡ true) (queue_split d q there) k.values.askers in
      let low : in_place d q < length row = omega (arith, (whole_order p d k).to q there) in
      rw (← ahead_next d q)
      (row_queued book (entries_in p) (slots_of d) (ahead d q) (queued_at d q) (tab (queued d - (q + 1)) (q + 1) (queued_at d)) row m differ low s r)

  module _ (row : List ℕ) (q t : ℕ) (v : Want) (k : Whole p d) (h : q < queued d) (x : WantAt p d q v) (a : t ≡ v.asker) (r : RowTo p d row q) where
    pub asker_in_lem : t < transactions_most + 1
    asker_in_lem = omega (arith, (whole_order p d k).to q h, x.asker)

    pub rows_next : (m : ℕ) → SetOf m (blockers_at p d q) → RowTo p d (set row t m) (q + 1)
    rows_next m s =
        record {
          long = length-set row t m ∙ r.long;
          links = subst (λ u. RowOf book (set row u m) (waits_to p d (q + 1))) (sym (a ∙ x.asker)) (rows_turn row q m k h s r.long r.links);
        }

  pub rows_end : (row : List ℕ) (q : ℕ) → q ≡ queued d → RowTo p d row q → Rows p d row
  rows_end row q e r = record { long = r.long; links = subst (RowOf book row) (ap (waits_to p d) e ∙ waits_all) r.links }
