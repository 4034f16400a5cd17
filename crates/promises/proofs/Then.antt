-- Then and now: what a transaction knows of stays as it was, through any more calls, while it neither ends nor changes it itself. It covers
-- the key from its answer on; what more calls add to the story begins where the first led to, and through it the key stays. Assumes nothing.
use Prim.Native.Nat.{ℕ}
use mathlib.Core.Path.{◌≡◌, refl, sym, subst, ◌∙◌}
use mathlib.Core.List.{List}
use borrow.Author.Tests.{not-true}
use Rattle.lists.specs.Lists.{In}
use Rattle.lists.proofs.Elements.{all_in}
use Rattle.lists.proofs.Joins.{append_apart}
use Rattle.rules.specs.Kinds.{Book, Ordered}
use Rattle.rules.specs.Desk.{Cl, fresh, after}
use Rattle.rules.specs.Good.{Good}
use Rattle.rules.proofs.Cover.{Covers}
use Rattle.promises.specs.Story.{Deed, story, ends}
use Rattle.promises.specs.Demand3.{KnowsOf, leaves_alone, ThenAndNow}
use Rattle.promises.proofs.Deeds.{tells_at, good_after, good_at, story_tells, more_deeds, story_more, more_tells}
use Rattle.promises.proofs.Told.{told_covered}
use Rattle.promises.proofs.ToldRanges.{still_covers, stays}

module _ (B : Book) (L : Ordered B.Key B.compare) where
  -- who knows of x covers it
  knows_covers : (cs : List (Cl B)) (t : ℕ) (x : B.Key) → KnowsOf B t x (story B cs) → Good B (after B (fresh B) cs) × Covers B (after B (fresh B) cs) t x
  knows_covers cs t x k =
      let v = tells_at B (story_tells B L cs) k.earlier k.answer k.since k.parts in
      let g = good_at B L v in
      let c = told_covered B L v.before k.answer v.after v.acts g k.range x k.told k.inside in
      still_covers B L t x v.later (λ d i. not-true (ends B t d) (all_in _ k.since d k.runs_on i))
      (good_after B L v.before k.answer v.after v.acts g, subst (λ (u : ℕ). Covers B v.after u x) k.actor c)

  pub then_and_now : (cs more : List (Cl B)) → ThenAndNow B cs more
  then_and_now cs more = record {
    same = λ ds t x e k h.
        let z : more_deeds B L cs more ≡ ds = (append_apart (story B cs) (story B cs) _ _ refl (sym (story_more B L cs more) ∙ e)).1 in
        (stays B L t x (more_tells B L cs more) (λ d i. all_in (leaves_alone B t x) ds d h (subst (λ (ds : List (Deed B)). In d ds) z i)) (knows_covers cs t x k)).1;
    goes_on = (more_deeds B L cs more, story_more B L cs more);
  }
