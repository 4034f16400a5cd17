-- Document 01's "from 15" and demand 3's "a running transaction that isn't waiting", held to a scene: that of the fourth case, where 2
-- still waits, now at 30, behind 3; and who is named there. The claim `Pinned` is proved in proofs/ScenePins.antt. Assumes nothing.
use Rattle.std.specs.Prelude.{◌≡◌, map}
use Rattle.std.proofs.Math.Option.{none, some}
use Rattle.rules.specs.Queue.{St, blocker_of, links_most}
use Rattle.rules.specs.Desk.{fresh, after}
use Rattle.rules.specs.Chains.{Behind, Free, ReachesFree, followed}
use Rattle.rules.specs.Document.{document, endless}
use Rattle.rules.specs.Cases.{Over, circle_at_commit}

abbrev pub standing : St (document endless)
standing = after (document endless) (fresh (document endless)) (map (λ (o : Over). o.bowled) circle_at_commit.overs)

pub record Pinned : Type 0 where
  pub fifteen : links_most (document endless) ≡ 15
  pub behind : Behind (document endless) standing 2 3
  -- 3 runs and isn't waiting; 2 waits; 9 never began
  pub free : Free (document endless) standing 3
  pub waits : Free (document endless) standing 2 → ⊥
  pub idle : Free (document endless) standing 9 → ⊥
  -- so one link is enough for 2
  pub one_link : ReachesFree (document endless) standing 1 2
  -- 2 is told of 3, and 3 of nobody; so following whoever is named leads from 2 to 3, and no further
  pub told : blocker_of (document endless) standing 2 ≡ some 3
  pub told_nobody : blocker_of (document endless) standing 3 ≡ none
  pub leads : followed (document endless) standing 1 2 ≡ 3
  pub stays : followed (document endless) standing 1 3 ≡ 3
