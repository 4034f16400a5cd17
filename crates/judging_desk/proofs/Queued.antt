-- The queue by how often a transaction stands in it: at most once each where no asker stands twice; the first request of one that stands
-- there is its own. By induction on the places of the queue. Assumes nothing.
use mathlib.Core.Path.{◌≡◌, refl, sym, ap, subst, ◌∙◌}
use mathlib.Core.Logic.{inl, inr}
use mathlib.Core.Bool.{Bool, true, cond, not}
use mathlib.Core.List.{List}
use mathlib.Core.Option.{none, some}
use Prim.Native.Nat.{ℕ, zero, suc, ◌+◌, ◌≤◌, ◌<◌}
use native.Mathlib.Decide.{ℕ_discrete}
use native.Mathlib.Omega.{arith}
use borrow.Author.Tests.{eq-eqb, ne_eqb, eqb-false, not-true}
use lib.Dec.{eqb}
use Rattle.lists.specs.Lists.{tab, all, pairs, first, times, In}
use Rattle.lists.proofs.Tests.{both, and_both}
use Rattle.rules.specs.Kinds.{Queued}
use Rattle.queue.specs.QueueLayout.{in_place, ask_at, queued_at}

module _ (d : List ℕ) where
  abbrev other : Queued ℕ ℕ → Queued ℕ ℕ → Bool
  other p q = not (eqb p.asker q.asker)

  one : (a q : ℕ) → (a ≡ q) → ◌≡◌ {A = ℕ} (cond (eqb a q) 1 0) 1
  one a q e = ap (λ b. cond {A = ℕ} b 1 0) (eq-eqb a q e)

  none_of : (a q : ℕ) → (a ≡ q → ⊥) → ◌≡◌ {A = ℕ} (cond (eqb a q) 1 0) 0
  none_of a q e = ap (λ b. cond {A = ℕ} b 1 0) (ne_eqb a q e)

  pub first_none : (t n i : ℕ) → times t (tab n i (in_place d)) ≡ 0 → first (λ q. eqb q.asker t) (tab n i (queued_at d)) ≡ none
  unfolding tab times first queued_at
  first_none t zero i h = refl
  first_none t (suc n) i h =
      elim (ℕ_discrete (in_place d i) t) [
        | yes e ↦ absurd (omega (arith, one (in_place d i) t e))
        | no e ↦
            let c = ne_eqb (in_place d i) t e in
            let r : times t (tab n (i + 1) (in_place d)) ≡ 0 = omega arith in
            ap (λ b. cond b (some (queued_at d i)) (first (λ q. eqb q.asker t) (tab n (i + 1) (queued_at d)))) c ∙ first_none t n (i + 1) r
      ]

  pub first_own : (t n i : ℕ) → 0 < times t (tab n i (in_place d)) → first (λ q. eqb q.asker t) (tab n i (queued_at d)) ≡ some (record { asker = t; asks = ask_at d t })
  unfolding tab times first queued_at
  first_own t zero i h = absurd (omega arith)
  first_own t (suc n) i h =
      elim (ℕ_discrete (in_place d i) t) [
        | yes e ↦
            ap (λ b. cond b (some (queued_at d i)) (first (λ q. eqb q.asker t) (tab n (i + 1) (queued_at d)))) (eq-eqb (in_place d i) t e)
            ∙ ap (λ x. some (record { asker = x; asks = ask_at d x })) e
        | no e ↦
            let r : 0 < times t (tab n (i + 1) (in_place d)) = omega (arith, none_of (in_place d i) t e) in
            ap (λ b. cond b (some (queued_at d i)) (first (λ q. eqb q.asker t) (tab n (i + 1) (queued_at d)))) (ne_eqb (in_place d i) t e) ∙ first_own t n (i + 1) r
      ]

  -- one that stands there counts
  pub there_counts : (n i k : ℕ) → i ≤ k → k < i + n → 0 < times (in_place d k) (tab n i (in_place d))
  unfolding tab times
  there_counts zero i k a b = absurd (omega arith)
  there_counts (suc n) i k a b =
      elim (ℕ_discrete i k) [
        | yes e ↦ omega (arith, one (in_place d i) (in_place d k) (ap (in_place d) e))
        | no e ↦ let r = there_counts n (i + 1) k (omega arith) (omega arith) in omega arith
      ]

  pub counts_there : (t n i : ℕ) → 0 < times t (tab n i (in_place d)) → In (record { asker = t; asks = ask_at d t }) (tab n i (queued_at d))
  unfolding tab times queued_at
  counts_there t zero i h = absurd (omega arith)
  counts_there t (suc n) i h =
      elim (ℕ_discrete (in_place d i) t) [
        | yes e ↦ inl (ap (λ x. record { asker = x; asks = ask_at d x }) e)
        | no e ↦ inr (counts_there t n (i + 1) (omega (arith, none_of (in_place d i) t e)))
      ]

  -- no asker twice
  apart_none : (a n i : ℕ) → all (λ q. not (eqb a q.asker)) (tab n i (queued_at d)) ≡ true → times a (tab n i (in_place d)) ≡ 0
  unfolding tab times all queued_at
  apart_none a zero i h = refl
  apart_none a (suc n) i h =
      let x = both (not (eqb a (in_place d i))) (all (λ q. not (eqb a q.asker)) (tab n (i + 1) (queued_at d))) h in
      let z : a ≡ in_place d i → ⊥ = eqb-false a (in_place d i) (not-true (eqb a (in_place d i)) x.0) in
      let r = apart_none a n (i + 1) x.1 in
      omega (arith, none_of (in_place d i) a (λ e. z (sym e)))

  none_apart : (a n i : ℕ) → times a (tab n i (in_place d)) ≡ 0 → all (λ q. not (eqb a q.asker)) (tab n i (queued_at d)) ≡ true
  unfolding tab times all queued_at
  none_apart a zero i h = refl
  none_apart a (suc n) i h =
      elim (ℕ_discrete a (in_place d i)) [
        | yes e ↦ absurd (omega (arith, one (in_place d i) a (sym e)))
        | no e ↦ and_both (not (eqb a (in_place d i))) (all (λ q. not (eqb a q.asker)) (tab n (i + 1) (queued_at d))) (ap not (ne_eqb a (in_place d i) e)) (none_apart a n (i + 1) (omega arith))
      ]

  pub apart_once : (n i : ℕ) → pairs other (tab n i (queued_at d)) ≡ true → (q : ℕ) → times q (tab n i (in_place d)) ≤ 1
  unfolding tab times pairs queued_at
  apart_once zero i h q = omega arith
  apart_once (suc n) i h q =
      let x = both (all (λ p. not (eqb (in_place d i) p.asker)) (tab n (i + 1) (queued_at d))) (pairs other (tab n (i + 1) (queued_at d))) h in
      let r = apart_once n (i + 1) x.1 q in
      elim (ℕ_discrete (in_place d i) q) [
        | yes e ↦ let z : times q (tab n (i + 1) (in_place d)) ≡ 0 = subst (λ y. times y (tab n (i + 1) (in_place d)) ≡ 0) e (apart_none (in_place d i) n (i + 1) x.0) in omega (arith, one (in_place d i) q e)
        | no e ↦ omega (arith, none_of (in_place d i) q e)
      ]

  pub once_apart : (n i : ℕ) → ((q : ℕ) → times q (tab n i (in_place d)) ≤ 1) → pairs other (tab n i (queued_at d)) ≡ true
  unfolding tab times pairs queued_at
  once_apart zero i h = refl
  once_apart (suc n) i h =
      and_both (all (λ p. not (eqb (in_place d i) p.asker)) (tab n (i + 1) (queued_at d))) (pairs other (tab n (i + 1) (queued_at d)))
      (none_apart (in_place d i) n (i + 1) (omega (arith, h (in_place d i), one (in_place d i) (in_place d i) refl)))
      (once_apart n (i + 1) (λ q. omega (arith, h q)))
