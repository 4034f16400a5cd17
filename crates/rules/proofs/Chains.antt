-- At rest nobody waits in a circle, and every chain of waits ends at one that runs and isn't waiting (specs/Chains). The search for circles
-- finds every circle: one of any length has a shortcut that repeats nobody, and that one is short enough. Assumes the invariants of specs/Good.
use Prim.Native.Nat.{ℕ, zero, suc, ◌-◌, ◌≤◌}
use mathlib.Core.Path.{◌≡◌, refl, sym, ap, subst, ◌∙◌}
use mathlib.Core.Logic.{◌≢◌, inl, inr}
use mathlib.Core.Bool.{Bool, true, false, not, ◌&&◌, ◌||◌, true≢false}
use mathlib.Core.List.{List, [], ◌∷◌}
use mathlib.Core.Option.{Option, none, some, none-ne-some}
use native.Mathlib.Omega.{arith}
use borrow.Author.Tests.{eq-eqb, eqb-true, eqb-false, ne_eqb, not-false}
use lib.Dec.{eqb}
use lib.ListN.{length}
use Rattle.lists.specs.Lists.{In, all, first, lowest, pairs, member}
use Rattle.lists.proofs.Tests.{and_left, and_right, and_both, or_left, or_right}
use Rattle.lists.proofs.Tables.{length_tab}
use Rattle.lists.proofs.Elements.{some_in, any_in, in_any, first_in, all_fails, keep_in, in_keep, member_in, in_member, in_all}
use Rattle.lists.proofs.Pairs.{pairs_cons, pairs_tail}
use Rattle.lists.proofs.Finite.{no_more}
use Rattle.lists.proofs.Firsts.{first_only}
use Rattle.lists.proofs.Lowest.{lowest_of, some_lowest}
use Rattle.rules.specs.Kinds.{Book}
use Rattle.rules.specs.Entries.{is_there}
use Rattle.rules.specs.Queue.{St, Q, Wait, waits, blocker_in, blocker_of, oldest, yields, everyone, linked, further, reached, on_circle}
use Rattle.rules.specs.Runs.{refused, served, turn, AtRest}
use Rattle.rules.specs.Desk.{runs, waits_now}
use Rattle.rules.specs.Good.{Good}
use Rattle.rules.specs.Chains.{Behind, Chain, end_of, Circle, Free, ReachesFree, Named, or_self, followed, ChainsEnd}
use Rattle.rules.proofs.Waits.{placed, wait_of, same_wait, oldest_none, yields_none, transaction_low, in_everyone, runs_known, queued_runs, blocker_runs}

-- two transactions
abbrev different : ℕ → ℕ → Bool
different u v = not (eqb u v)

module _ (B : Book) (s : St B) where
  -- ---- parts of chains
  -- a chain that meets u has a part that ends there
  chain_to : (t : ℕ) (us : List ℕ) (u : ℕ) → Chain B s t us → In u us
      → (v : ℕ) × (vs : List ℕ) × Chain B s t (v ∷ vs) × (end_of B v vs ≡ u)
  chain_to t [] u c i = absurd i
  chain_to t (v ∷ us) u c (inl e) = (v, [], (c.0, tt), e)
  chain_to t (v ∷ us) u c (inr i) = let r = chain_to v us u c.1 i in (v, r.0 ∷ r.1, (c.0, r.2), r.3)

  -- a chain from t to u that repeats nobody
  record Straight (t u : ℕ) : Type 0 where
    steps : List ℕ
    chain : Chain B s t steps
    arrives : end_of B t steps ≡ u
    once : pairs different (t ∷ steps) ≡ true

  straight_from : (x : ℕ) (us : List ℕ) (t u : ℕ) → Chain B s x us → end_of B x us ≡ u → pairs different us ≡ true → In t us → Straight t u
  straight_from x [] t u c e d i = absurd i
  straight_from x (v ∷ us) t u c e d (inl q) =
      subst (λ y. Straight y u) q (record { steps = us; chain = c.1; arrives = e; once = d })
  straight_from x (v ∷ us) t u c e d (inr i) = straight_from v us t u c.1 e (pairs_tail different v us d) i

  straight : (t : ℕ) (us : List ℕ) → Chain B s t us → Straight t (end_of B t us)
  unfolding all pairs
  straight t [] c = record { steps = []; chain = tt; arrives = refl; once = refl }
  straight t (v ∷ us) c = go (straight v us c.1)
    where
      go : Straight v (end_of B v us) → Straight t (end_of B v us)
      go r = by (all (different t) (v ∷ r.steps)) refl
        where
          by : (b : Bool) → all (different t) (v ∷ r.steps) ≡ b → Straight t (end_of B v us)
          by true h =
              record {
                steps = v ∷ r.steps;
                chain = (c.0, r.chain);
                arrives = r.arrives;
                once = and_both (all (different t) (v ∷ r.steps)) (pairs different (v ∷ r.steps)) h r.once;
              }
          by false h =
              let w = all_fails (different t) (v ∷ r.steps) h in
              let same = eqb-true t w.0 (not-false (eqb t w.0) w.2) in
              straight_from t (v ∷ r.steps) t (end_of B v us) (c.0, r.chain) r.arrives r.once
              (subst (λ x. In x (v ∷ r.steps)) (sym same) w.1)

  -- ---- the search for circles
  further_stays : (xs : List ℕ) (u : ℕ) → In u (everyone B) → In u xs → In u (further B (waits B s) xs)
  unfolding further
  further_stays xs u k i =
      in_keep (λ v. member v xs || linked B (waits B s) xs v) (everyone B) u k (or_left (member u xs) (linked B (waits B s) xs u) (in_member u xs i))

  further_link : (xs : List ℕ) (t u : ℕ) → In u (everyone B) → In t xs → Behind B s t u → In u (further B (waits B s) xs)
  unfolding further
  further_link xs t u k i b =
      let w = b.wait in
      let link : linked B (waits B s) xs u ≡ true =
      in_any (λ v. member v.request.asker xs && member u v.behind) (waits B s) w b.queued
      (and_both (member w.request.asker xs) (member u w.behind)
      (subst (λ a. member a xs ≡ true) (sym b.asker) (in_member t xs i)) (in_member u w.behind b.blocker)) in
      in_keep (λ v. member v xs || linked B (waits B s) xs v) (everyone B) u k (or_right (member u xs) (linked B (waits B s) xs u) link)

  reached_stays : (n : ℕ) (xs : List ℕ) (u : ℕ) → In u (everyone B) → In u xs → In u (reached B n (waits B s) xs)
  unfolding reached
  reached_stays zero xs u k i = i
  reached_stays (suc n) xs u k i = reached_stays n (further B (waits B s) xs) u k (further_stays xs u k i)

  -- a chain of at most n links is followed to its end in n rounds
  reached_end : (n : ℕ) (xs : List ℕ) (t : ℕ) (us : List ℕ) → length us ≤ n → Chain B s t us
      → ((u : ℕ) → In u (t ∷ us) → In u (everyone B)) → In t xs → In (end_of B t us) (reached B n (waits B s) xs)
  unfolding reached
  reached_end n xs t [] l c k i = reached_stays n xs t (k t (inl refl)) i
  reached_end zero xs t (u ∷ us) l c k i = absurd (omega arith)
  reached_end (suc n) xs t (u ∷ us) l c k i =
      reached_end n (further B (waits B s) xs) u us (omega arith) c.1 (λ v j. k v (inr j)) (further_link xs t u (k u (inr (inl refl))) i c.0)

  -- and whoever is reached is at the end of a chain
  record ChainFrom (xs : List ℕ) (u : ℕ) : Type 0 where
    first : ℕ
    begins : In first xs
    steps : List ℕ
    chain : Chain B s first steps
    arrives : end_of B first steps ≡ u

  further_from : (xs : List ℕ) (u : ℕ) → ChainFrom (further B (waits B s) xs) u → ChainFrom xs u
  unfolding further
  further_from xs u r =
      go (member t xs) refl (keep_in (λ v. member v xs || linked B (waits B s) xs v) (everyone B) t r.begins).1
    where
      t : ℕ
      t = r.first

      go : (b : Bool) → member t xs ≡ b → (b || linked B (waits B s) xs t) ≡ true → ChainFrom xs u
      go true h l = record { first = t; begins = member_in t xs h; steps = r.steps; chain = r.chain; arrives = r.arrives }
      go false h l =
          let w = any_in (λ v. member v.request.asker xs && member t v.behind) (waits B s) l in
          let a = w.0.request.asker in
          let blocks = member_in t w.0.behind (and_right (member a xs) (member t w.0.behind) w.2) in
          record {
            first = a;
            begins = member_in a xs (and_left (member a xs) (member t w.0.behind) w.2);
            steps = t ∷ r.steps;
            chain = (record { wait = w.0; queued = w.1; asker = refl; blocker = blocks }, r.chain);
            arrives = r.arrives;
          }

  reached_from : (n : ℕ) (xs : List ℕ) (u : ℕ) → In u (reached B n (waits B s) xs) → ChainFrom xs u
  unfolding reached
  reached_from zero xs u i = record { first = u; begins = i; steps = []; chain = tt; arrives = refl }
  reached_from (suc n) xs u i = further_from xs u (reached_from n (further B (waits B s) xs) u i)

  -- whom the search finds on a circle is on one
  pub found_is_circle : (w : Wait B) → In w (waits B s) → on_circle B (waits B s) w ≡ true → Circle B s w.request.asker
  unfolding on_circle
  found_is_circle w i h =
      let a = w.request.asker in
      let r = reached_from (B.transactions - 1) w.behind a (member_in a (reached B (B.transactions - 1) (waits B s) w.behind) h) in
      record {
        next = r.first;
        others = r.steps;
        chain = (record { wait = w; queued = i; asker = refl; blocker = r.begins }, r.chain);
        back = r.arrives;
      }

  -- ---- whoever waits or blocks is a transaction, so a chain that repeats nobody is short, and the search finds every circle
  module _ (good : Good B s) where
    another : (t u : ℕ) → Behind B s t u → (runs B s u ≡ true) × (u ≢ t)
    another t u b =
        let r = blocker_runs B s good b.wait b.queued u b.blocker in
        (r.0, λ e. eqb-false u b.wait.request.asker r.1 (e ∙ sym b.asker))

    waiter_known : (t u : ℕ) → Behind B s t u → In t (everyone B)
    waiter_known t u b =
        let q = b.wait.request in
        subst (λ v. In v (everyone B)) b.asker
        (in_everyone B q.asker (runs_known B s good q.asker (queued_runs B s good q (placed B s b.wait b.queued).queued)))

    chain_known : (t : ℕ) (us : List ℕ) (u : ℕ) → Chain B s t us → In u us → In u (everyone B)
    chain_known t [] u c i = absurd i
    chain_known t (v ∷ us) u c (inl e) =
        subst (λ x. In x (everyone B)) e (in_everyone B v (runs_known B s good v (another t v c.0).0))
    chain_known t (v ∷ us) u c (inr i) = chain_known v us u c.1 i

    few_links : (t : ℕ) (us : List ℕ) → ((u : ℕ) → In u (t ∷ us) → In u (everyone B)) → pairs different (t ∷ us) ≡ true
        → length us ≤ B.transactions - 1
    few_links t us k d =
        let l : suc (length us) ≤ B.transactions =
        subst (λ n. suc (length us) ≤ n) (length_tab B.transactions 1 (λ u. u)) (no_more (λ u. u) (t ∷ us) (everyone B) d k) in
        omega arith

    pub circle_is_found : (t : ℕ) (o : Circle B s t) → on_circle B (waits B s) o.chain.0.wait ≡ true
    unfolding on_circle
    circle_is_found t o =
        in_member w.request.asker (reached B (B.transactions - 1) (waits B s) w.behind)
        (subst (λ u. In u (reached B (B.transactions - 1) (waits B s) w.behind)) (r.arrives ∙ o.back ∙ sym b.asker)
        (reached_end (B.transactions - 1) w.behind o.next r.steps (few_links o.next r.steps known r.once)
        r.chain known b.blocker))
      where
        b : Behind B s t o.next
        b = o.chain.0

        w : Wait B
        w = b.wait

        r : Straight o.next (end_of B o.next o.others)
        r = straight o.next o.others o.chain.1

        known : (u : ℕ) → In u (o.next ∷ r.steps) → In u (everyone B)
        known u i = chain_known t (o.next ∷ r.steps) u (b, r.chain) i

  -- ---- at rest
  pub rest_choices : AtRest B s → (oldest B s ≡ none) × (yields B s ≡ none)
  unfolding turn
  rest_choices h = by_oldest (oldest B s) refl h
    where
      by_yields : (o : Option (Wait B)) → refused B s o ≡ none → o ≡ none
      by_yields none h = refl
      by_yields (some w) h = absurd (none-ne-some _ (sym h))

      by_oldest : (o : Option (Wait B)) → oldest B s ≡ o → served B s o ≡ none → (oldest B s ≡ none) × (yields B s ≡ none)
      by_oldest none e h = (e, by_yields (yields B s) h)
      by_oldest (some w) e h = absurd (none-ne-some _ (sym h))

  module _ (good : Good B s) (rest : AtRest B s) where
    someone : (t : ℕ) → waits_now B s t ≡ true → (u : ℕ) × Behind B s t u
    someone t h =
        let q = any_in (λ p. eqb p.asker t) s.queue h in
        let w = wait_of B s q.0 q.1 in
        let u = some_in w.0.behind (oldest_none B s w.0 (rest_choices rest).0 w.1) in
        let asks = ap (λ (p : Q B). p.asker) w.2 ∙ eqb-true q.0.asker t q.2 in
        (u.0, record { wait = w.0; queued = w.1; asker = asks; blocker = u.1 })

    no_circle_lem : (t : ℕ) → Circle B s t → ⊥
    no_circle_lem t o =
        let b = o.chain.0 in
        true≢false (sym (circle_is_found good t o) ∙ yields_none B s b.wait (rest_choices rest).1 b.queued)

    nobody_twice_lem : (t : ℕ) (us : List ℕ) → Chain B s t us → pairs different (t ∷ us) ≡ true
    unfolding all pairs
    nobody_twice_lem t [] c = refl
    nobody_twice_lem t (v ∷ us) c =
        pairs_cons different t (v ∷ us) (in_all (different t) (v ∷ us) (λ u i. ap not (ne_eqb t u (round u i)))) (nobody_twice_lem v us c.1)
      where
        round : (u : ℕ) → In u (v ∷ us) → t ≡ u → ⊥
        round u i e =
            let r = chain_to t (v ∷ us) u c i in
            no_circle_lem t (record { next = r.0; others = r.1; chain = r.2; back = r.3 ∙ sym e })

    links : (t : ℕ) (us : List ℕ) → Chain B s t us → length us ≤ B.transactions - 1
    links t [] c = omega arith
    links t (v ∷ us) c = few_links good t (v ∷ us) known (nobody_twice_lem t (v ∷ us) c)
      where
        known : (u : ℕ) → In u (t ∷ v ∷ us) → In u (everyone B)
        known u (inl e) = subst (λ x. In x (everyone B)) e (waiter_known good t v c.0)
        known u (inr i) = chain_known good t (v ∷ us) u c i

    -- where no chain from t has more than n links, n links reach a free one
    free_within : (n t : ℕ) → runs B s t ≡ true → ((us : List ℕ) → Chain B s t us → length us ≤ n) → ReachesFree B s n t
    free_within zero t h few = go (waits_now B s t) refl
      where
        go : (b : Bool) → waits_now B s t ≡ b → Free B s t
        go false e = record { it_runs = h; it_waits_not = e }
        go true e = let u = someone t e in absurd (omega (arith, few (u.0 ∷ []) (u.1, tt)))
    free_within (suc n) t h few =
        go (waits_now B s t) refl (λ u b. free_within n u (another good t u b).0 (λ us c. omega (arith, few (u ∷ us) (b, c))))
      where
        go : (b : Bool) → waits_now B s t ≡ b → ((u : ℕ) → Behind B s t u → ReachesFree B s n u) → ReachesFree B s (suc n) t
        go false e r = inl (record { it_runs = h; it_waits_not = e })
        go true e r = inr (someone t e, r)

    -- ---- the one who is named
    named_of : (t v : ℕ) → Behind B s t v → (u : ℕ) × Named B s t u
    unfolding blocker_of
    named_of t v b = go (lowest w.behind) refl
      where
        w : Wait B
        w = b.wait

        first_is : first (λ x. eqb x.request.asker t) (waits B s) ≡ some w
        first_is =
            first_only (λ x. eqb x.request.asker t) (waits B s) w b.queued (eq-eqb w.request.asker t b.asker)
            (λ x i h. same_wait B s good x w i b.queued (eqb-true x.request.asker t h ∙ sym b.asker))

        go : (o : Option ℕ) → lowest w.behind ≡ o → (u : ℕ) × Named B s t u
        go none e = absurd (some_lowest w.behind v b.blocker e)
        go (some u) e =
            let l = lowest_of w.behind u e in
            let mine : Behind B s t u = record { wait = w; queued = b.queued; asker = b.asker; blocker = l.among } in (
              u,
              record {
                told = ap (blocker_in B) first_is ∙ e;
                blocks = mine;
                somebody = somebody_runs (another good t u mine).0;
                lowest = λ x c.
                    l.least x
                    (subst (λ (y : Wait B). In x y.behind) (same_wait B s good c.wait w c.queued b.queued (c.asker ∙ sym b.asker))
                    c.blocker);
              },
            )
          where
            somebody_runs : runs B s u ≡ true → 1 ≤ u
            somebody_runs r = transaction_low B u (runs_known B s good u r)

    named : (t : ℕ) → waits_now B s t ≡ true → (u : ℕ) × Named B s t u
    named t h = let u = someone t h in named_of t u.0 u.1

    -- who waits for nobody is told of nobody, and so stays where it is
    told_nobody : (t : ℕ) → waits_now B s t ≡ false → blocker_of B s t ≡ none
    unfolding blocker_of
    told_nobody t h = go (first (λ x. eqb x.request.asker t) (waits B s)) refl
      where
        go : (o : Option (Wait B)) → first (λ x. eqb x.request.asker t) (waits B s) ≡ o → blocker_in B o ≡ none
        go none e = refl
        go (some w) e =
            let f = first_in (λ x. eqb x.request.asker t) (waits B s) w e in
            absurd (true≢false (sym (in_any (λ q. eqb q.asker t) s.queue w.request (placed B s w f.0).queued f.1) ∙ h))

    -- so at rest the question whether its request is blocked tells whether one waits
    pub rest_told : (t : ℕ) → is_there (blocker_of B s t) ≡ waits_now B s t
    rest_told t = go (waits_now B s t) refl
      where
        go : (b : Bool) → waits_now B s t ≡ b → is_there (blocker_of B s t) ≡ b
        go true h = ap is_there (named t h).1.told
        go false h = ap is_there (told_nobody t h)

    followed_stays : (n t : ℕ) → Free B s t → Free B s (followed B s n t)
    unfolding followed
    followed_stays zero t f = f
    followed_stays (suc n) t f =
        subst (λ u. Free B s (followed B s n u)) (sym (ap (or_self B t) (told_nobody t f.it_waits_not))) (followed_stays n t f)

    followed_free : (n t : ℕ) → ReachesFree B s n t → Free B s (followed B s n t)
    unfolding followed
    followed_free zero t f = f
    followed_free (suc n) t (inl f) = followed_stays (suc n) t f
    followed_free (suc n) t (inr r) =
        let u = named_of t r.0.0 r.0.1 in
        subst (λ v. Free B s (followed B s n v)) (sym (ap (or_self B t) u.1.told)) (followed_free n u.0 (r.1 u.0 u.1.blocks))

    pub chains_end : ChainsEnd B s
    chains_end =
        record {
          someone = someone;
          another = another good;
          no_circle = no_circle_lem;
          nobody_twice = nobody_twice_lem;
          links = links;
          free = λ t h. free_within (B.transactions - 1) t h (links t);
          named = named;
          named_free = λ t h. followed_free (B.transactions - 1) t (free_within (B.transactions - 1) t h (links t));
        }
