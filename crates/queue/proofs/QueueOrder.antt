-- The queue in order: no more requests than there are places, and a transaction in each. The rule book's invariants say so.
-- By counting: the askers differ, and each is one of all transactions.
use Prim.Native.Nat.{ℕ, ◌≤◌, ◌<◌}
use mathlib.Core.Path.{◌≡◌, sym, subst}
use mathlib.Core.Bool.{true}
use mathlib.Core.List.{List}
use native.Mathlib.Omega.{arith}
use lib.ListN.{length}
use Rattle.limits.specs.Limits.{transactions_most}
use Rattle.lists.specs.Lists.{In, pairs}
use Rattle.lists.proofs.Elements.{in_tab}
use Rattle.lists.proofs.Finite.{no_more}
use Rattle.lists.proofs.Tables.{length_tab}
use Rattle.rules.specs.Kinds.{Paging, Queued}
use Rattle.rules.specs.Queue.{St, everyone}
use Rattle.rules.specs.Desk.{is_transaction}
use Rattle.rules.specs.Good.{Good, other_asker}
use Rattle.rules.specs.Document.{document}
use Rattle.rules.proofs.Waits.{transaction_low, transaction_high, in_everyone, runs_known, queued_runs}
use Rattle.queue.specs.QueueLayout.{queued, in_place, queued_at, queue_of}

pub record InOrder (d : List ℕ) : Type 0 where
  pub few : queued d ≤ transactions_most
  pub from : (i : ℕ) → i < queued d → 1 ≤ in_place d i
  pub to : (i : ℕ) → i < queued d → in_place d i ≤ transactions_most

module _ (P : Paging ℕ) (s : St (document P)) (good : Good (document P) s) (d : List ℕ) (same : s.queue ≡ queue_of d) where
  known : (q : Queued ℕ ℕ) → In q (queue_of d) → is_transaction (document P) q.asker ≡ true
  known q i = runs_known (document P) s good q.asker (queued_runs (document P) s good q (subst (In q) (sym same) i))

  known_at : (i : ℕ) → i < queued d → is_transaction (document P) (in_place d i) ≡ true
  unfolding queue_of queued_at
  known_at i h = known (queued_at d i) (in_tab (queued d) 0 (queued_at d) i (omega arith) (omega arith))

  count : queued d ≤ transactions_most
  unfolding queue_of
  count =
      let askers : pairs (other_asker (document P)) (queue_of d) ≡ true = subst (λ qs. pairs (other_asker (document P)) qs ≡ true) same good.askers in
      let few : length (queue_of d) ≤ length (everyone (document P)) =
      no_more (λ q. q.asker) (queue_of d) (everyone (document P)) askers (λ q i. in_everyone (document P) q.asker (known q i)) in
      omega (arith, length_tab (queued d) 0 (queued_at d), length_tab transactions_most 1 (λ t. t))

  pub in_order : InOrder d
  in_order =
      record {
        few = count;
        from = λ i h. transaction_low (document P) (in_place d i) (known_at i h);
        to = λ i h. transaction_high (document P) (in_place d i) (known_at i h);
      }
