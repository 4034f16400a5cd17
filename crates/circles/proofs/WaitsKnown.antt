-- What the search takes of the waits, and that the waits of a good state have it: who asks is queued and who blocks runs, and nobody is
-- queued twice. By the rule book's own laws of who waits behind whom. The last law assumes the invariants of rules/specs/Good.
use Prim.Native.Nat.{ℕ}
use mathlib.Core.Path.{◌≡◌}
use mathlib.Core.Bool.{true}
use mathlib.Core.List.{List}
use Rattle.lists.specs.Lists.{In, pairs}
use Rattle.rules.specs.Kinds.{Book}
use Rattle.rules.specs.Queue.{St, Wait, waits, everyone}
use Rattle.rules.specs.Desk.{runs}
use Rattle.rules.specs.Good.{Good, other_asker}
use Rattle.rules.proofs.Waits.{placed, in_everyone, runs_known, queued_runs, waits_once, blocker_runs}

module _ (B : Book) where
  -- who asks and who blocks is a transaction, and nobody asks twice
  pub record Known (ws : List (Wait B)) : Type 0 where
    pub askers : (w : Wait B) → In w ws → In w.request.asker (everyone B)
    pub blockers : (w : Wait B) → In w ws → (u : ℕ) → In u w.behind → In u (everyone B)
    pub once : pairs (λ v w. other_asker B v.request w.request) ws ≡ true

  pub waits_known : (s : St B) → Good B s → Known (waits B s)
  waits_known s good =
      record {
        askers = λ w i. known w.request.asker (queued_runs B s good w.request (placed B s w i).queued);
        blockers = λ w i u j. known u (blocker_runs B s good w i u j).0;
        once = waits_once B s good;
      }
    where
      known : (t : ℕ) → runs B s t ≡ true → In t (everyone B)
      known t h = in_everyone B t (runs_known B s good t h)
