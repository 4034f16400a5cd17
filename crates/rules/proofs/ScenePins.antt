-- The words of demand 3 say of the fourth case's scene what they should: who is free there, who waits behind whom, and how many links there
-- may be. By computation. Assumes nothing.
use Prim.Native.Nat.{ℕ}
use mathlib.Core.Path.{◌≡◌, refl, sym, subst}
use mathlib.Core.Bool.{true≢false}
use mathlib.Core.List.{[], ◌∷◌}
use mathlib.Core.Logic.{inl, inr}
use Rattle.lists.specs.Lists.{In}
use Rattle.rules.specs.Queue.{Wait, waits}
use Rattle.rules.specs.Chains.{Behind, Free, followed}
use Rattle.rules.specs.Document.{document, endless}
use Rattle.rules.specs.ScenePins.{standing, Pinned}
use Rattle.rules.proofs.Computing.{the_book, the_cases}

three_is_free : Free (document endless) standing 3
unfolding the_book the_cases
three_is_free = record { it_runs = refl; it_waits_not = refl }

-- all who stand in 2's way are 3
only_three : (w : Wait (document endless)) (u : ℕ) → In w (waits (document endless) standing) → In u w.behind → 3 ≡ u
unfolding the_book the_cases
only_three w u (inr x'') i = elim x'' [ ]
only_three w u (inl e) i = go (subst (λ (x : Wait (document endless)). In u x.behind) (sym e) i)
  where
    go : In u (3 ∷ []) → 3 ≡ u
    go (inr x3) = elim x3 [ ]
    go (inl h) = h

pub pinned : Pinned
unfolding the_book the_cases followed
pinned =
    let behind : Behind (document endless) standing 2 3 = record { wait = _; queued = inl refl; asker = refl; blocker = inl refl } in
    record {
      fifteen = refl;
      behind = behind;
      free = three_is_free;
      waits = λ f. true≢false f.it_waits_not;
      idle = λ f. true≢false (sym f.it_runs);
      one_link = inr ((3, behind), λ u b. subst (Free (document endless) standing) (only_three b.wait u b.queued b.blocker) three_is_free);
      told = refl;
      told_nobody = refl;
      leads = refl;
      stays = refl;
    }
