-- The search on numbers finds what the rule book finds on lists: one link further, so many links, and whether a request lies on a circle.
-- Whoever the one adds, the other adds, by the wait that both go by; everybody in it is a transaction, so that the rule book drops nobody.
use Prim.Native.Nat.{ℕ, zero, suc, ◌+◌, ◌-◌}
use mathlib.Core.Path.{◌≡◌, refl, sym, ap, subst, ◌∙◌}
use mathlib.Core.Logic.{◌⊎◌, inl, inr}
use mathlib.Core.Bool.{Bool, true, false, cond, not, ◌&&◌, ◌||◌, or_assoc, or-false}
use mathlib.Core.List.{List}
use native.Mathlib.Omega.{arith}
use borrow.Author.Tests.{eqb-true, eqb-false, eq-eqb, not-true}
use lib.Bits.{bit_or}
use lib.Dec.{eqb}
use lib.ListN.{length, get_or}
use Rattle.lists.specs.Lists.{In, any, member, tab}
use Rattle.lists.proofs.Tests.{and_left, and_right, and_both, either, alike}
use Rattle.lists.proofs.Elements.{in_any, any_in, member_in, keep_in, member_keep}
use Rattle.lists.proofs.Pairs.{pairs_in}
use Rattle.rules.specs.Kinds.{Book}
use Rattle.rules.specs.Queue.{Wait, everyone, linked, further, reached, on_circle}
use Rattle.rules.specs.Good.{other_asker}
use Rattle.circles.specs.CircleSets.{has, SetOf, is_link, RowOf}
use Rattle.circles.specs.Search.{gathered, further_on, reached_on, circle_on}
use Rattle.circles.proofs.Bits.{has_union}
use Rattle.circles.proofs.WaitsKnown.{Known}

-- ---- on numbers: whoever is in the set, or in the row's set of one that is
has_joined : (b : Bool) (r n u : ℕ) → has (cond b (bit_or r n) r) u ≡ (has r u || (b && has n u))
has_joined true r n u = has_union r n u
has_joined false r n u = sym (or-false (has r u))

has_gathered : (row : List ℕ) (m n t r u : ℕ)
    → has (gathered row m n t r) u ≡ (has r u || any (λ v. has m v && has (get_or row v 0) u) (tab n t (λ v. v)))
unfolding gathered any tab
has_gathered row m zero t r u = sym (or-false (has r u))
has_gathered row m (suc n) t r u =
    let rest = any (λ v. has m v && has (get_or row v 0) u) (tab n (t + 1) (λ v. v)) in
    has_gathered row m n (t + 1) (cond (has m t) (bit_or r (get_or row t 0)) r) u
    ∙ ap (λ b. b || rest) (has_joined (has m t) r (get_or row t 0) u)
    ∙ or_assoc (has r u) (has m t && has (get_or row t 0) u) rest

has_further : (row : List ℕ) (m u : ℕ)
    → has (further_on row m) u ≡ (has m u || any (λ v. has m v && has (get_or row v 0) u) (tab (length row - 1) 1 (λ v. v)))
unfolding further_on
has_further row m u = has_gathered row m (length row - 1) 1 m u

module _ (B : Book) where
  -- a list of transactions
  abbrev pub Inside : List ℕ → Type 0
  Inside us = (v : ℕ) → In v us → In v (everyone B)

  module _ (row : List ℕ) (ws : List (Wait B)) (known : Known B ws) (long : length row ≡ B.transactions + 1) (rows : RowOf B row ws) where
    -- ---- one link: by the wait whose asker is in the set and who has u before it
    link_is : (m : ℕ) (us : List ℕ) (u : ℕ) → SetOf m us → any (λ v. has m v && has (get_or row v 0) u) (everyone B) ≡ linked B ws us u
    link_is m us u s = alike (any on (everyone B)) (any by ws) to from
      where
        on : ℕ → Bool
        on v = has m v && has (get_or row v 0) u

        by : Wait B → Bool
        by w = member w.request.asker us && member u w.behind

        to : any on (everyone B) ≡ true → any by ws ≡ true
        to h =
            let v = any_in on (everyone B) h in
            let held : member v.0 us ≡ true = sym (s.just v.0) ∙ and_left (has m v.0) (has (get_or row v.0 0) u) v.2 in
            let w = any_in (is_link B v.0 u) ws (sym (rows.just v.0 u) ∙ and_right (has m v.0) (has (get_or row v.0 0) u) v.2) in
            let a = w.0.request.asker in
            let same : a ≡ v.0 = eqb-true a v.0 (and_left (eqb a v.0) (member u w.0.behind) w.2) in
            in_any by ws w.0 w.1
            (and_both (member a us) (member u w.0.behind) (ap (λ t. member t us) same ∙ held)
            (and_right (eqb a v.0) (member u w.0.behind) w.2))

        from : any by ws ≡ true → any on (everyone B) ≡ true
        from h =
            let w = any_in by ws h in
            let a = w.0.request.asker in
            let waits : has (get_or row a 0) u ≡ true =
            rows.just a u
            ∙ in_any (is_link B a u) ws w.0 w.1
            (and_both (eqb a a) (member u w.0.behind) (eq-eqb a a refl) (and_right (member a us) (member u w.0.behind) w.2)) in
            in_any on (everyone B) a (known.askers w.0 w.1)
            (and_both (has m a) (has (get_or row a 0) u) (s.just a ∙ and_left (member a us) (member u w.0.behind) w.2) waits)

    pub further_is : (m : ℕ) (us : List ℕ) → Inside us → SetOf m us → SetOf (further_on row m) (further B ws us)
    unfolding further
    further_is m us k s = record { just = λ u. has_further row m u ∙ same u ∙ sym (member_keep p (everyone B) u (inside u)) }
      where
        p : ℕ → Bool
        p u = member u us || linked B ws us u

        same : (u : ℕ) → (has m u || any (λ v. has m v && has (get_or row v 0) u) (tab (length row - 1) 1 (λ v. v))) ≡ p u
        same u =
            let n : length row - 1 ≡ B.transactions = omega arith in
            rw n (ap (λ b. b || any (λ v. has m v && has (get_or row v 0) u) (everyone B)) (s.just u) ∙ ap (λ b. member u us || b) (link_is m us u s))

        inside : (u : ℕ) → p u ≡ true → In u (everyone B)
        inside u h = go (either (member u us) (linked B ws us u) h)
          where
            go : (member u us ≡ true) ⊎ (linked B ws us u ≡ true) → In u (everyone B)
            go (inl i) = k u (member_in u us i)
            go (inr l) =
                let w = any_in (λ v. member v.request.asker us && member u v.behind) ws l in
                known.blockers w.0 w.1 u
                (member_in u w.0.behind (and_right (member w.0.request.asker us) (member u w.0.behind) w.2))

    further_inside : (us : List ℕ) → Inside (further B ws us)
    unfolding further
    further_inside us v i = (keep_in (λ u. member u us || linked B ws us u) (everyone B) v i).0

    -- ---- so many links
    pub reached_is : (links m : ℕ) (us : List ℕ) → Inside us → SetOf m us → SetOf (reached_on row links m) (reached B links ws us)
    unfolding reached_on reached
    reached_is zero m us k s = s
    reached_is (suc links) m us k s = reached_is links (further_on row m) (further B ws us) (further_inside us) (further_is m us k s)

    -- ---- a circle: the row's set of a transaction is whom its one request waits behind
    own_is : (w : Wait B) → In w ws → SetOf (get_or row w.request.asker 0) w.behind
    own_is w i = record { just = λ u. rows.just a u ∙ alike (any (is_link B a u) ws) (member u w.behind) (to u) (from u) }
      where
        a : ℕ
        a = w.request.asker

        one : (v : Wait B) → In v ws → v.request.asker ≡ a → v ≡ w
        one v j e = go (pairs_in (λ x y. other_asker B x.request y.request) ws v w known.once j i)
          where
            b : ℕ
            b = v.request.asker

            go : (v ≡ w) ⊎ ((not (eqb b a) ≡ true) ⊎ (not (eqb a b) ≡ true)) → v ≡ w
            go (inl q) = q
            go (inr (inl q)) = absurd (eqb-false b a (not-true (eqb b a) q) e)
            go (inr (inr q)) = absurd (eqb-false a b (not-true (eqb a b) q) (sym e))

        to : (u : ℕ) → any (is_link B a u) ws ≡ true → member u w.behind ≡ true
        to u h =
            let v = any_in (is_link B a u) ws h in
            let b = v.0.request.asker in
            let e : v.0 ≡ w = one v.0 v.1 (eqb-true b a (and_left (eqb b a) (member u v.0.behind) v.2)) in
            subst (λ (x : Wait B). member u x.behind ≡ true) e (and_right (eqb b a) (member u v.0.behind) v.2)

        from : (u : ℕ) → member u w.behind ≡ true → any (is_link B a u) ws ≡ true
        from u h = in_any (is_link B a u) ws w i (and_both (eqb a a) (member u w.behind) (eq-eqb a a refl) h)

    pub circle_is : (w : Wait B) → In w ws → circle_on row w.request.asker ≡ on_circle B ws w
    unfolding circle_on on_circle
    circle_is w i =
        let a = w.request.asker in
        let n : length row - 2 ≡ B.transactions - 1 = omega arith in
        rw n ((reached_is (B.transactions - 1) (get_or row a 0) w.behind (known.blockers w i) (own_is w i)).just a)
