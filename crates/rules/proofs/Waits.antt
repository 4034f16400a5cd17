-- Who waits behind whom: every wait is a queued request and every queued request has one, and whoever blocks it is another one, who holds
-- a lock or is queued, and so runs. By induction on the queue, with those ahead at hand. The last part assumes the invariants of specs/Good.
use Prim.Native.Nat.{ℕ, ◌≤◌, ◌<◌}
use mathlib.Core.Path.{◌≡◌, refl, sym, ap, subst, ◌∙◌}
use mathlib.Core.Logic.{◌⊎◌, inl, inr}
use mathlib.Core.Bool.{Bool, true, false, cond, not, ◌&&◌, true≢false, false≢true}
use mathlib.Core.List.{List, [], ◌∷◌, ◌++◌, map}
use native.Mathlib.Omega.{arith}
use native.Mathlib.Decide.{dec_lt}
use mathlib.Core.Option.{Option, none, some}
use borrow.Author.Tests.{not-true, eq-eqb, leb-true, le-leb}
use lib.Dec.{eqb, leb}
use lib.ListN.{length, get_or-eq_default}
use Rattle.lists.specs.Lists.{keep, In, is_nil, lightest, lowest, pairs}
use Rattle.lists.proofs.Tests.{and_left, and_right, and_both, nil_is}
use Rattle.lists.proofs.Elements.{all_in, first_in, none_first, append_in, keep_in, in_tab, map_in}
use Rattle.lists.proofs.Lowest.{some_lowest}
use Rattle.lists.proofs.Lightest.{Lightest, stands, none_lightest, lightest_none, lightest_of, lightest_is}
use Rattle.lists.proofs.Pairs.{pairs_in, pairs_map}
use Rattle.rules.specs.Kinds.{Book, idle}
use Rattle.rules.specs.Entries.{Entries, is_there}
use Rattle.rules.specs.Locks.{Slots, Want, wanted, in_use, same_name, conflict, clash, holds, holders, earlier, blockers}
use Rattle.rules.specs.Queue.{St, Q, Wait, waits, waits_from, is_free, oldest, everyone, on_circle, weight, yields}
use Rattle.rules.specs.Desk.{runs, is_running, is_transaction, legal_ask}
use Rattle.rules.specs.Good.{Good, Lk, is_name, lock_stands, other_asker, queue_stands}

-- nobody is the lowest of those who block a request where nobody blocks it
pub free_nil : (us : List ℕ) → not (is_there (lowest us)) ≡ is_nil us
unfolding lightest
free_nil [] = refl
free_nil (u ∷ us) = go (lowest (u ∷ us)) refl
  where
    go : (o : Option ℕ) → lowest (u ∷ us) ≡ o → not (is_there o) ≡ false
    go none e = absurd (some_lowest (u ∷ us) u (inl refl) e)
    go (some v) e = refl

module _ (B : Book) where
  -- a wait is a queued request, blocked with an eye to some of the queue
  pub record Placed (es : Entries B) (ls : Slots B) (queue : List (Q B)) (w : Wait B) : Type 0 where
    pub queued : In w.request queue
    pub ahead : List (Q B)
    pub among : (q : Q B) → In q ahead → In q queue
    pub behind : w.behind ≡ blockers B es ls ahead w.request

  placed_from : (es : Entries B) (ls : Slots B) (queue ahead qs : List (Q B)) → ((q : Q B) → In q ahead → In q queue)
      → ((q : Q B) → In q qs → In q queue) → (w : Wait B) → In w (waits_from B es ls ahead qs) → Placed es ls queue w
  unfolding waits_from
  placed_from es ls queue ahead [] a h w i = absurd i
  placed_from es ls queue ahead (q ∷ qs) a h w (inl e) =
      subst (Placed es ls queue) e (record { queued = h q (inl refl); ahead = ahead; among = a; behind = refl })
  placed_from es ls queue ahead (q ∷ qs) a h w (inr i) =
      placed_from es ls queue (ahead ++ (q ∷ [])) qs (λ p j. more p (append_in ahead (q ∷ []) p j)) (λ p j. h p (inr j)) w i
    where
      more : (p : Q B) → In p ahead ⊎ In p (q ∷ []) → In p queue
      more p (inl j) = a p j
      more p (inr (inl e)) = h p (inl e)
      more p (inr (inr x)) = absurd x

  pub placed : (s : St B) (w : Wait B) → In w (waits B s) → Placed s.entries s.slots s.queue w
  unfolding waits
  placed s = placed_from s.entries s.slots s.queue [] s.queue (λ q x. absurd x) (λ q i. i)

  wait_from : (es : Entries B) (ls : Slots B) (ahead qs : List (Q B)) (q : Q B) → In q qs
      → (w : Wait B) × In w (waits_from B es ls ahead qs) × (w.request ≡ q)
  unfolding waits_from
  wait_from es ls ahead [] q i = absurd i
  wait_from es ls ahead (p ∷ qs) q (inl e) = (record { request = p; behind = blockers B es ls ahead p }, inl refl, e)
  wait_from es ls ahead (p ∷ qs) q (inr i) =
      let w = wait_from es ls (ahead ++ (p ∷ [])) qs q i in (w.0, inr w.1, w.2)

  pub wait_of : (s : St B) (q : Q B) → In q s.queue → (w : Wait B) × In w (waits B s) × (w.request ≡ q)
  unfolding waits
  wait_of s = wait_from s.entries s.slots [] s.queue

  -- the waits have the queue's requests, one for one
  pub requests : (es : Entries B) (ls : Slots B) (ahead qs : List (Q B)) → map (λ w. w.request) (waits_from B es ls ahead qs) ≡ qs
  unfolding waits_from
  requests es ls ahead [] = refl
  requests es ls ahead (q ∷ qs) = ap (λ ps. q ∷ ps) (requests es ls (ahead ++ (q ∷ [])) qs)

  -- what is used of the two choices: who is chosen waits, and where nobody is, none waits unblocked, and none lies on a circle
  pub oldest_waits : (s : St B) (w : Wait B) → oldest B s ≡ some w → In w (waits B s)
  unfolding oldest
  oldest_waits s w e = (first_in (is_free B) (waits B s) w e).0

  pub oldest_free : (s : St B) (w : Wait B) → oldest B s ≡ some w → w.behind ≡ []
  unfolding oldest
  oldest_free s w e = nil_is w.behind (sym (free_nil w.behind) ∙ (first_in (is_free B) (waits B s) w e).1)

  pub oldest_none : (s : St B) (w : Wait B) → oldest B s ≡ none → In w (waits B s) → is_nil w.behind ≡ false
  unfolding oldest
  oldest_none s w e i = sym (free_nil w.behind) ∙ none_first (is_free B) (waits B s) w e i

  -- who gives way, by its facts: it is queued and lies on a circle, nobody on a circle holds fewer locks, and none that is newer as few
  abbrev pub Yields : St B → Wait B → Type 0
  Yields s w = Lightest (on_circle B (waits B s)) (weight B s) (waits B s) w

  pub yields_by : (s : St B) (w : Wait B) → yields B s ≡ some w → Yields s w
  unfolding yields
  yields_by s w e = lightest_of (on_circle B (waits B s)) (weight B s) (waits B s) w e

  pub yields_is : (s : St B) (w : Wait B) → Yields s w → yields B s ≡ some w
  unfolding yields
  yields_is s w l = lightest_is (on_circle B (waits B s)) (weight B s) (waits B s) w l

  pub none_yields : (s : St B) → ((w : Wait B) → In w (waits B s) → on_circle B (waits B s) w ≡ false) → yields B s ≡ none
  unfolding yields
  none_yields s h = lightest_none (on_circle B (waits B s)) (weight B s) (waits B s) h

  pub yields_waits : (s : St B) (w : Wait B) → yields B s ≡ some w → In w (waits B s)
  yields_waits s w e = let l = yields_by s w e in subst (In w) (sym l.place) (stands l.ahead w l.after)

  pub yields_none : (s : St B) (w : Wait B) → yields B s ≡ none → In w (waits B s) → on_circle B (waits B s) w ≡ false
  unfolding yields
  yields_none s w e i = none_lightest (on_circle B (waits B s)) (weight B s) (waits B s) w e i

  -- whoever is kept as another one than t is another one, and one of all
  kept_other : {A : Type 0} (P : ℕ → Type 0) (f : A → ℕ) (t u : ℕ) (r : A → Bool) (xs : List A) → ((x : A) → In x xs → P (f x))
      → In u (map f (keep (λ x. not (eqb (f x) t) && r x) xs)) → P u × (eqb u t ≡ false)
  kept_other P f t u r xs h i =
      let w = map_in f (keep (λ x. not (eqb (f x) t) && r x) xs) u i in
      let k = keep_in (λ x. not (eqb (f x) t) && r x) xs w.0 w.1 in
      subst (λ v. P v × (eqb v t ≡ false)) w.2
      (h w.0 k.0, not-true (eqb (f w.0) t) (and_left (not (eqb (f w.0) t)) (r w.0) k.1))

  -- a blocker is another one than the asker, and holds a lock or is queued ahead
  one_of : (P : ℕ → Type 0) (es : Entries B) (ls : Slots B) (ahead : List (Q B)) (q : Q B) (u : ℕ)
      → ((l : Lk B) → In l (in_use ls) → P l.holder) → ((p : Q B) → In p ahead → P p.asker)
      → In u (blockers B es ls ahead q) → P u × (eqb u q.asker ≡ false)
  unfolding blockers holders earlier
  one_of P es ls ahead q u held queued i =
      go (holds B ls q.asker w.name) (append_in (holders B ls q.asker w) _ u i)
    where
      w : Want B
      w = wanted B es q

      go : (b : Bool) → In u (holders B ls q.asker w) ⊎ In u (cond b [] (earlier B es ahead q.asker w))
          → P u × (eqb u q.asker ≡ false)
      go b (inl j) =
          kept_other P (λ l. l.holder) q.asker u (λ l. same_name B l.name w.name && conflict l.mode w.mode) (in_use ls) held j
      go true (inr x) = absurd x
      go false (inr j) = kept_other P (λ p. p.asker) q.asker u (λ p. clash B (wanted B es p) w) ahead queued j

  pub transaction_low : (t : ℕ) → is_transaction B t ≡ true → 1 ≤ t
  transaction_low t h = leb-true 1 t (and_left (leb 1 t) (leb t B.transactions) h)

  pub transaction_high : (t : ℕ) → is_transaction B t ≡ true → t ≤ B.transactions
  transaction_high t h = leb-true t B.transactions (and_right (leb 1 t) (leb t B.transactions) h)

  pub in_everyone : (t : ℕ) → is_transaction B t ≡ true → In t (everyone B)
  in_everyone t h =
      let low = transaction_low t h in
      let high = transaction_high t h in
      in_tab B.transactions 1 (λ u. u) t (omega arith) (omega arith)

  module _ (s : St B) (good : Good B s) where
    pub runs_known : (t : ℕ) → runs B s t ≡ true → is_transaction B t ≡ true
    runs_known t h =
        and_both (leb 1 t) (leb t B.transactions) (le-leb 1 t (low (dec_lt 0 t))) (le-leb t B.transactions (high (dec_lt t (length s.marks))))
      where
        low : Dec (0 < t) → 1 ≤ t
        low (yes l) = l
        low (no n) =
            let e : t ≡ 0 = omega arith in
            absurd (true≢false (sym (subst (λ u. runs B s u ≡ true) e h) ∙ good.nobody))

        high : Dec (t < length s.marks) → t ≤ B.transactions
        high (yes l) = let e = good.marks in omega arith
        high (no n) = absurd (false≢true (ap is_running (sym (get_or-eq_default s.marks idle (omega arith))) ∙ h))

    pub queued_runs : (q : Q B) → In q s.queue → runs B s q.asker ≡ true
    unfolding queue_stands
    queued_runs q i = and_left (runs B s q.asker) (legal_ask B q.asks) (all_in (queue_stands B s) s.queue q good.queued i)

    holder_runs : (l : Lk B) → In l (in_use s.slots) → runs B s l.holder ≡ true
    unfolding lock_stands
    holder_runs l i =
        and_left (runs B s l.holder) (is_name B s.entries l.name) (all_in (lock_stands B s) (in_use s.slots) l good.names i)

    -- nobody is queued twice, so that an asker has one wait
    pub waits_once : pairs (λ v w. other_asker B v.request w.request) (waits B s) ≡ true
    unfolding waits
    waits_once =
        sym (pairs_map (other_asker B) (λ w. w.request) (waits B s))
        ∙ ap (pairs (other_asker B)) (requests s.entries s.slots [] s.queue)
        ∙ good.askers

    pub same_wait : (v w : Wait B) → In v (waits B s) → In w (waits B s) → v.request.asker ≡ w.request.asker → v ≡ w
    same_wait v w i j e = go (pairs_in (λ x y. other_asker B x.request y.request) (waits B s) v w waits_once i j)
      where
        go : (v ≡ w) ⊎ ((other_asker B v.request w.request ≡ true) ⊎ (other_asker B w.request v.request ≡ true)) → v ≡ w
        go (inl q) = q
        go (inr (inl h)) = absurd (true≢false (sym (eq-eqb v.request.asker w.request.asker e) ∙ not-true _ h))
        go (inr (inr h)) = absurd (true≢false (sym (eq-eqb w.request.asker v.request.asker (sym e)) ∙ not-true _ h))

    pub blocker_runs : (w : Wait B) → In w (waits B s) → (u : ℕ) → In u w.behind → (runs B s u ≡ true) × (eqb u w.request.asker ≡ false)
    blocker_runs w i u j =
        let p = placed s w i in
        one_of (λ v. runs B s v ≡ true) s.entries s.slots p.ahead w.request u holder_runs
        (λ q k. queued_runs q (p.among q k)) (subst (In u) p.behind j)
