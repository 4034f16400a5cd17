-- What a whole picture says of its queue and its locks: how many wait, who stands at a place, who holds a slot.
-- By the rule book's invariants: whoever waits or holds runs, and is a transaction.
use Prim.Native.Nat.{ℕ, ◌≤◌, ◌<◌, compare}
use mathlib.Core.Path.{◌≡◌, refl, subst}
use mathlib.Core.Logic.{inl, inr}
use mathlib.Core.Bool.{true}
use mathlib.Core.List.{List, ◌∷◌}
use mathlib.Core.Option.{Option, none, some}
use native.Mathlib.Omega.{arith}
use Rattle.limits.specs.Limits.{transactions_most, locks_most}
use Rattle.lists.specs.Lists.{In}
use Rattle.lists.proofs.Tests.{and_left}
use Rattle.lists.proofs.Elements.{all_in, in_tab}
use Rattle.rules.specs.Kinds.{Lock}
use Rattle.rules.specs.Locks.{in_use}
use Rattle.rules.specs.Desk.{runs, is_transaction}
use Rattle.rules.specs.Good.{ascending, is_name, lock_stands}
use Rattle.rules.proofs.Waits.{transaction_low, transaction_high, runs_known}
use Rattle.trees.specs.Trees.{document_sizes}
use Rattle.trees.specs.Shapes.{tree_paging}
use Rattle.queue.specs.QueueLayout.{queued, in_place}
use Rattle.locks.specs.SlotLayout.{slot_at, slots_of}
use Rattle.queue.proofs.QueueOrder.{InOrder, in_order}
use Rattle.index.specs.Pictures.{entries_in}
use Rattle.states.specs.States.{book, state_of}
use Rattle.states.specs.Whole.{Whole}
use Rattle.waits.specs.Blocks.{HoldersKnown}

in_use_lem : {K : Type 0} (l : Lock K) (ls : List (Option (Lock K))) → In (some l) ls → In l (in_use ls)
unfolding in_use
in_use_lem {K = K} l mathlib.Core.List.[] x' = elim x' [ ]
in_use_lem l (none ∷ ls) (inl e) = let z : ◌≡◌ {A = ℕ} 0 1 = cc in absurd (omega arith)
in_use_lem l (none ∷ ls) (inr i) = in_use_lem l ls i
in_use_lem l (some k ∷ ls) (inl e) = inl (cc)
in_use_lem l (some k ∷ ls) (inr i) = inr (in_use_lem l ls i)

module _ (p d : List ℕ) (w : Whole p d) where
  pub whole_keys : ascending book (entries_in p) ≡ true
  unfolding state_of
  whole_keys = w.values.keys

  pub whole_order : InOrder d
  unfolding state_of
  whole_order = in_order (tree_paging compare 0 document_sizes) (state_of p d) w.values d refl

  holder_known : (i : ℕ) (l : Lock ℕ) → i < locks_most → slot_at d i ≡ some l → is_transaction book l.holder ≡ true
  unfolding state_of slots_of lock_stands
  holder_known i l h e =
      let at : In (slot_at d i) (slots_of d) = in_tab locks_most 0 (slot_at d) i (omega arith) (omega arith) in
      let j : In l (in_use (slots_of d)) = in_use_lem l (slots_of d) (subst (λ x. In x (slots_of d)) e at) in
      runs_known book (state_of p d) w.values l.holder
      (and_left (runs book (state_of p d) l.holder) (is_name book (entries_in p) l.name)
      (all_in (lock_stands book (state_of p d)) (in_use (slots_of d)) l w.values.names j))

  pub whole_holders : HoldersKnown d
  whole_holders =
      record {
        each = λ i h.
            record {
              low = λ l e. transaction_low book l.holder (holder_known i l h e);
              high = λ l e. transaction_high book l.holder (holder_known i l h e);
            };
      }

  module _ (q : ℕ) (h : q < queued d) where
    pub place_low : q < transactions_most
    place_low = omega (arith, whole_order.few)

    module _ (t : ℕ) (e : t ≡ in_place d q) where
      pub asker_low : 1 ≤ t
      asker_low = omega (arith, whole_order.from q h)

      pub asker_high : t ≤ transactions_most
      asker_high = omega (arith, whole_order.to q h)

      pub asker_fits : t ≤ 64
      asker_fits = omega (arith, asker_high)
