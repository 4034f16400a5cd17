-- Demand 3, proved of every run of calls from a fresh index, over any ordered keys: the one theorem is `demand3`. The locks by the invariant
-- that holders go together, the chains by the desk being at rest; the ranges and the repeated request in files of their own. Assumes nothing.
use Prim.Native.Nat.{ℕ}
use mathlib.Core.Path.{◌≡◌, sym, ap}
use mathlib.Core.Logic.{◌⊎◌, inl, inr}
use mathlib.Core.Bool.{true, false}
use mathlib.Core.List.{List}
use Rattle.lists.proofs.Pairs.{pairs_in}
use Rattle.rules.specs.Kinds.{Book, Ordered, Paging}
use Rattle.rules.specs.Locks.{in_use, conflict}
use Rattle.rules.specs.Desk.{Cl, fresh, after}
use Rattle.rules.specs.Good.{Lk, together}
use Rattle.rules.specs.Chains.{ChainsEnd}
use Rattle.rules.specs.Document.{document}
use Rattle.rules.proofs.KeyTests.{name_equal}
use Rattle.rules.proofs.Orders.{numbers_ordered}
use Rattle.rules.proofs.LockTable.{together_apart, apart_turn}
use Rattle.rules.proofs.GoodKept.{after_good}
use Rattle.rules.proofs.Rest.{after_rests}
use Rattle.rules.proofs.Chains.{chains_end}
use Rattle.promises.specs.Demand3.{NoConflict, Demand3}
use Rattle.promises.proofs.Faithful.{faithful}
use Rattle.promises.proofs.Deeds.{seamless}
use Rattle.promises.proofs.ToldRanges.{nothing_changed}
use Rattle.promises.proofs.Again.{same_again}

module _ (B : Book) (L : Ordered B.Key B.compare) (cs : List (Cl B)) where
  pub no_conflict : NoConflict B cs
  no_conflict = record {
    apart = λ k l i j o n.
        go k l o (name_equal B L k.name l.name n) (pairs_in (together B) (in_use (after B (fresh B) cs).slots) k l (after_good B L cs).modes i j);
  }
    where
      go : (k l : Lk B) → (k.holder ≡ l.holder → ⊥) → k.name ≡ l.name → (k ≡ l) ⊎ ((together B k l ≡ true) ⊎ (together B l k ≡ true))
          → conflict k.mode l.mode ≡ false
      go k l o n (inl z) = absurd (o (ap (λ (x : Lk B). x.holder) z))
      go k l o n (inr (inl r)) = (together_apart B L k l r n).1
      go k l o n (inr (inr r)) = (apart_turn B L l k (together_apart B L l k r (sym n))).1

  pub chains : ChainsEnd B (after B (fresh B) cs)
  chains = chains_end B (after B (fresh B) cs) (after_good B L cs) (after_rests B cs)

  pub demand3 : Demand3 B cs
  demand3 = record {
    answers = faithful B cs;
    seamless = seamless B L cs;
    locks = no_conflict;
    ranges = nothing_changed B L cs;
    again = same_again B L cs;
    chains = chains;
  }

-- and so of the keys of document 01, whatever its pages are
pub demand3_of_document : (pages : Paging ℕ) (cs : List (Cl (document pages))) → Demand3 (document pages) cs
demand3_of_document pages cs = demand3 (document pages) numbers_ordered cs
