-- Who is in the way of a transaction's queued request is the lowest of its set in the row. An asker has one wait, so the set has just those who
-- block it. Assumes the invariants of rules/specs/Good.
use Prim.Native.Nat.{ℕ, ◌<◌}
use Rattle.circles.specs.declared.Blocker.{Blocker}
use mathlib.Core.Path.{◌≡◌, refl, sym, subst, ◌∙◌}
use mathlib.Core.Bool.{Bool, true, false, true≢false}
use mathlib.Core.List.{List, []}
use mathlib.Core.Option.{Option, none, some}
use native.Mathlib.Omega.{arith}
use borrow.Author.Tests.{eqb-true}
use lib.Dec.{eqb}
use lib.ListN.{get_or}
use Rattle.lists.specs.Lists.{In, any, first, lightest, member}
use Rattle.lists.proofs.Tests.{and_left, and_right, and_both, fails}
use Rattle.lists.proofs.Elements.{any_in, in_any, first_in, none_first}
use Rattle.rules.specs.Kinds.{Book}
use Rattle.rules.specs.Queue.{St, Wait, waits, blocker_in, blocker_of}
use Rattle.rules.specs.Good.{Good}
use Rattle.rules.proofs.Waits.{same_wait, transaction_low, transaction_high, runs_known, blocker_runs}
use Rattle.circles.specs.CircleSets.{is_link, RowOf}
use Rattle.circles.specs.InTheWay.{book_blocker, NextIn}
use Rattle.circles.proofs.Nexts.{lowest_next}

module _ (B : Book) (s : St B) (good : Good B s) (row : List ℕ) (r : RowOf B row (waits B s)) (t to : ℕ) (b : Blocker)
    (big : B.transactions < to) (x : NextIn (get_or row t 0) 1 to b) where
  abbrev asks : Wait B → Bool
  asks w = eqb w.request.asker t

  -- its wait, and those who block it; or none, and nobody
  links_of : (o : Option (Wait B)) → first asks (waits B s) ≡ o → book_blocker b ≡ blocker_in B o
  unfolding any lightest
  links_of none e =
      lowest_next (get_or row t 0) to [] b
      (record { just = λ u. r.just t u ∙ fails (any (is_link B t u) (waits B s)) (λ h. nobody u (any_in (is_link B t u) (waits B s) h)) })
      (λ u i. absurd i) x
    where
      nobody : (u : ℕ) → ((w : Wait B) × In w (waits B s) × (is_link B t u w ≡ true)) → ⊥
      nobody u w =
          true≢false (sym (and_left (asks w.0) (member u w.0.behind) w.2) ∙ none_first asks (waits B s) w.0 e w.1)
  links_of (some w) e =
      lowest_next (get_or row t 0) to w.behind b (record { just = λ u. r.just t u ∙ same u (member u w.behind) refl })
      (λ u i. let k = runs_known B s good u (blocker_runs B s good w f.0 u i).0 in
      (transaction_low B u k, omega (arith, transaction_high B u k))) x
    where
      f : In w (waits B s) × (asks w ≡ true)
      f = first_in asks (waits B s) w e

      same : (u : ℕ) (c : Bool) → member u w.behind ≡ c → any (is_link B t u) (waits B s) ≡ c
      same u true h = in_any (is_link B t u) (waits B s) w f.0 (and_both (asks w) (member u w.behind) f.1 h)
      same u false h = fails (any (is_link B t u) (waits B s)) (λ k. other (any_in (is_link B t u) (waits B s) k))
        where
          other : ((v : Wait B) × In v (waits B s) × (is_link B t u v ≡ true)) → ⊥
          other v =
              let asker = eqb-true v.0.request.asker t (and_left (asks v.0) (member u v.0.behind) v.2) in
              let one = same_wait B s good v.0 w v.1 f.0 (asker ∙ sym (eqb-true w.request.asker t f.1)) in
              true≢false
              (sym (subst (λ (y : Wait B). member u y.behind ≡ true) one (and_right (asks v.0) (member u v.0.behind) v.2)) ∙ h)

  pub row_blocker : book_blocker b ≡ blocker_of B s t
  unfolding blocker_of
  row_blocker = links_of (first asks (waits B s)) refl
