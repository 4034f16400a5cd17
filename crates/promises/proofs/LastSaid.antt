-- What is said last of a request that joined (specs/Demand2, `SaidLast`): the rule book's answer 3 is that, and nothing else is. At rest the one
-- who is named blocks, and nobody lower does; only one number has both. Assumes nothing.
use Prim.Native.Nat.{ℕ}
use mathlib.Core.Path.{◌≡◌, refl, sym, ap, subst, ◌∙◌}
use mathlib.Core.Bool.{Bool, true, false, cond}
use mathlib.Core.List.{List, [], ◌∷◌}
use mathlib.Core.Option.{some}
use native.Mathlib.Omega.{arith}
use borrow.Author.Tests.{eq-eqb}
use lib.Dec.{eqb}
use Rattle.lists.proofs.Elements.{in_any}
use Rattle.rules.specs.Kinds.{Book}
use Rattle.rules.specs.Queue.{St}
use Rattle.rules.specs.Runs.{waiting, AtRest}
use Rattle.rules.specs.Desk.{An, waits_now, says, waiting_at}
use Rattle.rules.specs.Good.{Good}
use Rattle.rules.specs.Chains.{Behind}
use Rattle.rules.proofs.Did.{waits_in}
use Rattle.rules.proofs.Chains.{chains_end}
use Rattle.promises.specs.Demand2.{SaidLast, nothing_more, waits_behind}

module _ (B : Book) (s : St B) (t : ℕ) where
  abbrev pub last : List (An B)
  last = cond (waits_now B s t) (waiting_at B s t ∷ []) []

  behind_waits : (u : ℕ) → Behind B s t u → waits_now B s t ≡ true
  behind_waits u b =
      in_any (λ q. eqb q.asker t) s.queue b.wait.request (waits_in B s b.wait b.queued) (eq-eqb b.wait.request.asker t b.asker)

  module _ (good : Good B s) (rest : AtRest B s) where
    pub said_last : SaidLast B s t last
    said_last = go (waits_now B s t) refl
      where
        go : (b : Bool) → waits_now B s t ≡ b → SaidLast B s t (cond b (waiting_at B s t ∷ []) [])
        go false e = nothing_more e
        go true e =
            let n = (chains_end B s good rest).named t e in
            subst (λ o. SaidLast B s t (says B t (waiting o) ∷ [])) (sym n.1.told) (waits_behind n.0 n.1.somebody n.1.blocks n.1.lowest)

    pub last_once : (as' : List (An B)) → SaidLast B s t as' → as' ≡ last
    last_once as' (nothing_more e) = sym (ap (λ b. cond b (waiting_at B s t ∷ []) []) e)
    last_once as' (waits_behind u l b f) =
        let w = behind_waits u b in
        let n = (chains_end B s good rest).named t w in
        let same : u ≡ n.0 = omega (arith, f n.0 n.1.blocks, n.1.lowest u b) in
        ap (λ v. says B t (waiting (some v)) ∷ []) same
        ∙ sym (ap (λ o. says B t (waiting o) ∷ []) n.1.told)
        ∙ sym (ap (λ b. cond b (waiting_at B s t ∷ []) []) w)
