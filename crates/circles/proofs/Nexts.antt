-- The lowest of a set: one link further, from one of the set to the next; and it is the lowest of the list whose set it is. Assumes nothing.
use Prim.Native.Nat.{ℕ, zero, suc, ◌+◌, ◌-◌, ◌≤◌, ◌<◌}
use mathlib.Core.Path.{◌≡◌, refl, sym, subst, ◌∙◌}
use mathlib.Core.Bool.{Bool, true, true≢false}
use mathlib.Core.List.{List}
use mathlib.Core.Option.{Option, none, some}
use native.Mathlib.Omega.{arith}
use native.Mathlib.Decide.{dec_lt}
use lib.Bits.{bit_or}
use lib.ListN.{length, get_or}
use Rattle.lists.specs.Lists.{In, lowest}
use Rattle.lists.proofs.Elements.{in_member, member_in}
use Rattle.lists.proofs.Lowest.{lowest_is, lowest_of}
use Rattle.circles.specs.CircleSets.{has, SetOf}
use Rattle.circles.specs.Search.{gathered, further_on}
use Rattle.circles.specs.declared.Blocker.{Blocker}
use Rattle.circles.specs.declared.Blocker.TheVariants.{By, Nobody}
use Rattle.circles.specs.InTheWay.{book_blocker, NoneIn, NextIs, NextIn}
use Rattle.circles.proofs.CircleTurns.{gather_in, gather_out, gather_end}

-- ---- the search: the first that is in the set is the lowest
module _ (m from : ℕ) where
  module _ (t : ℕ) (i : NoneIn m from t) (b : Bool) (e : b ≡ has m t) where
    pub next_here : (to : ℕ) → from ≤ t → t < to → b ≡ true → NextIs m from to t
    next_here to a l y = record { low = a; high = l; is_in = sym e ∙ y; lowest = i }

-- ---- one link further: those between two of the set add nothing
module _ (row : List ℕ) (m r : ℕ) where
  gather_past : (n from : ℕ) → from + n ≤ length row → NoneIn m from (from + n) → gathered row m (length row - from) from r ≡ further_on row m
      → gathered row m (length row - (from + n)) (from + n) r ≡ further_on row m
  gather_past zero from l i e = let s : from ≡ from + 0 = omega arith in subst (λ k. gathered row m (length row - k) k r ≡ further_on row m) s e
  gather_past (suc n) from l i e =
      let s : from + 1 + n ≡ from + suc n = omega arith in
      subst (λ k. gathered row m (length row - k) k r ≡ further_on row m) s
      (gather_past n (from + 1) (omega arith) (record { none = λ u a b. i.none u (omega arith) (omega arith) })
      (gather_out row m from r r (has m from) (omega arith) e refl (i.none from (omega arith) (omega arith)) refl))

  gather_to : (from t : ℕ) → from ≤ t → t ≤ length row → NoneIn m from t → gathered row m (length row - from) from r ≡ further_on row m
      → gathered row m (length row - t) t r ≡ further_on row m
  gather_to from t a l i e =
      let s : from + (t - from) ≡ t = omega arith in
      subst (λ k. gathered row m (length row - k) k r ≡ further_on row m) s
      (gather_past (t - from) from (omega arith) (rw s i) e)

  pub gather_next : (from n t r' : ℕ) (b : Blocker) → NextIn m from n b → b ≡ By t → n ≡ length row
      → gathered row m (length row - from) from r ≡ further_on row m → r' ≡ bit_or r (get_or row t 0)
      → gathered row m (length row - (t + 1)) (t + 1) r' ≡ further_on row m
  gather_next from n t r' b i y l e q =
      let x : NextIs m from n t = subst (NextIn m from n) y i in
      let h : t < length row = omega (arith, x.high) in
      gather_in row m t r r' true h (gather_to from t x.low (omega arith) x.lowest e) (sym x.is_in) refl q

  pub gather_none : (from n : ℕ) (b : Blocker) → NextIn m from n b → b ≡ Nobody → n ≡ length row
      → gathered row m (length row - from) from r ≡ further_on row m → r ≡ further_on row m
  gather_none from n b x y l e = go (dec_lt from (length row))
    where
      i : NoneIn m from (length row)
      i = subst (NoneIn m from) l (subst (NextIn m from n) y x)

      go : Dec (from < length row) → r ≡ further_on row m
      go (yes h) = gather_end row m (length row) r (omega arith) (gather_to from (length row) (omega arith) (omega arith) i e)
      go (no h) = gather_end row m from r (omega arith) e

-- ---- the lowest of the list that a set has the members of, where these are transactions
pub lowest_next : (m to : ℕ) (us : List ℕ) (r : Blocker) → SetOf m us → ((u : ℕ) → In u us → (1 ≤ u) × (u < to)) → NextIn m 1 to r
    → book_blocker r ≡ lowest us
lowest_next m to us (By t) s k x =
    sym
    (lowest_is us t
    (record {
      among = member_in t us (sym (s.just t) ∙ x.is_in);
      least = λ v i. go v i (dec_lt v t);
    }))
  where
    go : (v : ℕ) → In v us → Dec (v < t) → t ≤ v
    go v i (no h) = omega arith
    go v i (yes h) = absurd (true≢false (sym (s.just v ∙ in_member v us i) ∙ x.lowest.none v (k v i).0 h))
lowest_next m to us Nobody s k x = go (lowest us) refl
  where
    go : (o : Option ℕ) → lowest us ≡ o → none ≡ lowest us
    go none e = sym e
    go (some u) e =
        let i = (lowest_of us u e).among in
        absurd (true≢false (sym (s.just u ∙ in_member u us i) ∙ x.none u (k u i).0 (k u i).1))
