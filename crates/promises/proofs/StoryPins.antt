-- The words of demand 3 say of the short story what its table says. By computation; and what the demand promises of it, that 20 is as it was
-- and that the read gets the same again, by the theorems themselves, whose conditions it meets. Assumes nothing.
use mathlib.Core.Path.{◌≡◌, refl}
use mathlib.Core.List.{[], ◌∷◌, ◌++◌}
use mathlib.Core.Option.{some}
use Rattle.lists.specs.Lists as L
use Rattle.lists.proofs.Tests.{never}
use Rattle.rules.specs.Kinds.{read, insert, delete, begin, commit, ask}
use Rattle.rules.specs.Runs.{done, found, nothing, is_present, waits_already}
use Rattle.rules.proofs.Orders.{numbers_ordered}
use Rattle.cases.proofs.CaseComputing.{the_book}
use Rattle.promises.specs.Story as S
use Rattle.promises.specs.Demand3 as D
use Rattle.promises.specs.StoryPins as P
use Rattle.promises.proofs.Then.{then_and_now}
use Rattle.promises.proofs.Again.{same_again}

-- the story, played
whole : S.story P.plain (P.opening ++ P.middle ++ P.close) ≡ P.deeds
unfolding the_book S.turn_deeds S.act_deeds S.call_deeds S.story_from
whole = refl

opened : S.story P.plain P.opening ≡ P.before ++ (P.once ∷ [])
unfolding the_book S.turn_deeds S.act_deeds S.call_deeds S.story_from
opened = refl

went_on : S.story P.plain (P.opening ++ P.middle) ≡ P.before ++ (P.once ∷ P.between ++ (P.twice ∷ []))
unfolding the_book S.turn_deeds S.act_deeds S.call_deeds S.story_from
went_on = refl

-- 1 was told about 20 when it would insert it
knows : D.KnowsOf P.plain 1 20 (S.story P.plain P.opening)
unfolding L.all S.told
knows = record {
  earlier = P.deed 16 begin done [] [] ∷ P.deed 16 (ask (insert 20 2)) done [] P.made ∷ P.deed 16 commit done P.made P.one ∷ P.deed 1 begin done P.one P.one ∷ [];
  answer = P.deed 1 (ask (insert 20 9)) (is_present 20 (some 2)) P.one P.one;
  since = P.deed 1 (ask (delete 15)) nothing P.one P.one ∷ P.deed 1 (ask (read 10 30)) (found 20 (some 2)) P.one P.one ∷ P.once ∷ [];
  parts = opened;
  actor = refl;
  range = P.from 20 20;
  told = refl;
  inside = refl;
  runs_on = refl;
}

goes_on_lem : S.story P.plain (P.opening ++ P.middle) ≡ S.story P.plain P.opening ++ (P.between ++ (P.twice ∷ []))
goes_on_lem = rw opened went_on

pub pins : P.Pins
unfolding L.all L.keep L.first S.told D.now_at P.those
pins = record {
  goes = whole;
  told = refl;
  within = refl;
  now = refl;
  now_gone = refl;
  ends1 = refl;
  ends2 = refl;
  changes = refl;
  own1 = refl;
  own1far = refl;
  own2 = refl;
  fifty = refl;
  twenty = refl;
  knows = knows;
  goes_on = goes_on_lem;
  quiet = refl;
  same = (then_and_now P.plain numbers_ordered P.opening P.middle).same (P.between ++ (P.twice ∷ [])) 1 20 goes_on_lem knows refl;
  runs_on = refl;
  untouched = refl;
  again =
      (same_again P.plain numbers_ordered (P.opening ++ P.middle ++ P.close)).again P.before P.between P.afterwards P.once P.twice (P.from 30 40)
      whole refl refl refl (λ e. let z : nothing ≡ waits_already = e in never (cc)) refl refl;
}
