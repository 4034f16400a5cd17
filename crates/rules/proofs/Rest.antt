-- The queue comes to rest: each turn takes a request off the queue, so as many turns as requests are queued are enough, and more change
-- nothing; and so a desk at rest is at rest again after every call. By induction on the number of turns. Assumes nothing.
use Prim.Native.Nat.{ℕ, zero, suc, ◌≤◌, ◌<◌}
use mathlib.Core.Path.{◌≡◌, refl, sym, ap, subst, ◌∙◌}
use mathlib.Core.Bool.{Bool, true, false, cond, not}
use mathlib.Core.List.{List, [], ◌∷◌}
use mathlib.Core.Option.{Option, none, some, none-ne-some, some-injective}
use native.Mathlib.Omega.{arith}
use borrow.Author.Tests.{eq-eqb}
use lib.Dec.{eqb}
use lib.ListN.{length}
use Rattle.lists.specs.Lists.{In, pairs}
use Rattle.lists.proofs.Tests.{eqb_turn}
use Rattle.lists.proofs.Finite.{keep_shorter, keep_but_one}
use Rattle.rules.specs.Kinds.{Book, Request, begin, commit, rollback, ask}
use Rattle.rules.specs.Entries.{committed, rolled_back}
use Rattle.rules.specs.Queue.{St, Q, Wait, waits, oldest, yields, leave}
use Rattle.rules.specs.Runs.{Sy, Ran, Turn, left, refused, served, turn, Worked, onward, turns, worked, AtRest}
use Rattle.rules.specs.Desk.{begun, ended, joined, refusal, acts, unless, step, Cl, legal_call, call, state_after, fresh, after}
use Rattle.rules.specs.Good.{other_asker}
use Rattle.rules.proofs.Waits.{placed, oldest_waits, yields_waits}

module _ (B : Book) where
  -- what a turn does to the queue: a request that is queued is answered and leaves
  pub record Leaves (s : St B) (t : Turn B) : Type 0 where
    pub request : Q B
    pub queued : In request s.queue
    pub answered : t.answer.asker ≡ request.asker
    pub queue : t.state.queue ≡ leave B request.asker s.queue

  pub turn_leaves : (s : St B) (t : Turn B) → turn B s ≡ some t → Leaves s t
  unfolding turn
  turn_leaves s t h = by_oldest (oldest B s) refl h
    where
      goes : (w : Wait B) (r : Ran B) → In w (waits B s) → some (left B s w.request r) ≡ some t → Leaves s t
      goes w r i e =
          subst (Leaves s) (some-injective (left B s w.request r) t e)
          (record { request = w.request; queued = (placed B s w i).queued; answered = refl; queue = refl })

      by_yields : (o : Option (Wait B)) → yields B s ≡ o → refused B s o ≡ some t → Leaves s t
      by_yields none e h = absurd (none-ne-some t h)
      by_yields (some w) e h = goes w _ (yields_waits B s w e) h

      by_oldest : (o : Option (Wait B)) → oldest B s ≡ o → served B s o ≡ some t → Leaves s t
      by_oldest none e h = by_yields (yields B s) refl h
      by_oldest (some w) e h = goes w _ (oldest_waits B s w e) h

  -- each turn takes a request off the queue, and exactly one where each of the queue has its own asker
  pub turn_shorter : (s : St B) (t : Turn B) → turn B s ≡ some t → length t.state.queue < length s.queue
  unfolding leave
  turn_shorter s t h =
      let l = turn_leaves s t h in
      let a = l.request.asker in
      subst (λ qs. length qs < length s.queue) (sym l.queue)
      (keep_shorter (λ q. not (eqb q.asker a)) s.queue l.request l.queued (ap not (eq-eqb a a refl)))

  pub turn_takes_one : (s : St B) (t : Turn B) → pairs (other_asker B) s.queue ≡ true → turn B s ≡ some t
      → suc (length t.state.queue) ≡ length s.queue
  unfolding leave
  turn_takes_one s t d h =
      let l = turn_leaves s t h in
      let a = l.request.asker in
      subst (λ qs. suc (length qs) ≡ length s.queue) (sym l.queue)
      (keep_but_one (other_asker B) (λ q. not (eqb q.asker a)) s.queue l.request d
      (λ q e. ap not (eqb_turn q.asker a) ∙ e) (λ q e. e) l.queued (ap not (eq-eqb a a refl)))

  -- with nobody queued there is no turn
  pub empty_rests : (s : St B) → length s.queue ≤ 0 → AtRest B s
  empty_rests s h = go (turn B s) refl
    where
      go : (o : Option (Turn B)) → turn B s ≡ o → turn B s ≡ none
      go none e = e
      go (some t) e = absurd (omega (arith, turn_shorter s t e))

  turns_same : (m n : ℕ) (s : St B) → length s.queue ≤ m → length s.queue ≤ n → turns B m s ≡ turns B n s
  unfolding turns
  turns_same zero zero s h k = refl
  turns_same zero (suc n) s h k = ap (onward B s (turns B n)) (sym (empty_rests s h))
  turns_same (suc m) zero s h k = ap (onward B s (turns B m)) (empty_rests s k)
  turns_same (suc m) (suc n) s h k = go (turn B s) refl (turns_same m n)
    where
      go : (o : Option (Turn B)) → turn B s ≡ o
          → ((r : St B) → length r.queue ≤ m → length r.queue ≤ n → turns B m r ≡ turns B n r)
          → onward B s (turns B m) o ≡ onward B s (turns B n) o
      go none e r = refl
      go (some t) e r =
          let l = turn_shorter s t e in
          ap (λ (w : Worked B). record { state = w.state; answers = t.answer ∷ w.answers }) (r t.state (omega arith) (omega arith))

  -- more turns than requests are queued change nothing
  pub turns_enough : (n : ℕ) (s : St B) → length s.queue ≤ n → turns B n s ≡ worked B s
  unfolding worked
  turns_enough n s h = turns_same n (length s.queue) s h (omega arith)

  -- the queue worked is one turn, if there is one, and the rest worked
  pub worked_onward : (s : St B) → worked B s ≡ onward B s (worked B) (turn B s)
  unfolding turns
  worked_onward s = sym (turns_enough (suc n) s (omega arith)) ∙ go (turn B s) refl
    where
      n : ℕ
      n = length s.queue

      go : (o : Option (Turn B)) → turn B s ≡ o → onward B s (turns B n) o ≡ onward B s (worked B) o
      go none e = refl
      go (some t) e =
          let l = turn_shorter s t e in
          ap (λ (w : Worked B). record { state = w.state; answers = t.answer ∷ w.answers }) (turns_enough n t.state (omega arith))

  pub worked_turn : (s : St B) (t : Turn B) → turn B s ≡ some t
      → worked B s ≡ record { state = (worked B t.state).state; answers = t.answer ∷ (worked B t.state).answers }
  worked_turn s t h = worked_onward s ∙ ap (onward B s (worked B)) h

  pub worked_done : (s : St B) → AtRest B s → worked B s ≡ record { state = s; answers = [] }
  worked_done s h = worked_onward s ∙ ap (onward B s (worked B)) h

  -- what holds of a desk at rest, and before a turn if it holds after it, holds of the queue worked
  pub worked_by_turns : (P : St B → Worked B → Type 0) → ((s : St B) → AtRest B s → P s (record { state = s; answers = [] }))
      → ((s : St B) (t : Turn B) (w : Worked B) → turn B s ≡ some t → P t.state w
      → P s (record { state = w.state; answers = t.answer ∷ w.answers }))
      → (s : St B) → P s (worked B s)
  unfolding worked turns
  worked_by_turns P rest back s = go (length s.queue) s (omega arith)
    where
      turned : (n : ℕ) (r : St B) (o : Option (Turn B)) → turn B r ≡ o → ((t : Turn B) → turn B r ≡ some t → P t.state (turns B n t.state))
          → P r (onward B r (turns B n) o)
      turned n r none e h = rest r e
      turned n r (some t) e h = back r t (turns B n t.state) e (h t e)

      go : (n : ℕ) (r : St B) → length r.queue ≤ n → P r (turns B n r)
      go zero r h = rest r (empty_rests r h)
      go (suc n) r h = turned n r (turn B r) refl (λ t e. go n t.state (omega (arith, turn_shorter r t e)))

  pub worked_rests : (s : St B) → AtRest B (worked B s).state
  worked_rests = worked_by_turns (λ s w. AtRest B w.state) (λ s h. h) (λ s t w e h. h)

  -- a desk at rest is at rest after a call, whatever is answered, and so after any calls from fresh
  acts_rest : (s : St B) (t : ℕ) (r : Request B.Key B.Rec) → AtRest B (acts B s t r).state
  unfolding acts
  acts_rest s t begin = worked_rests (begun B s t)
  acts_rest s t commit = worked_rests (ended B committed s t)
  acts_rest s t rollback = worked_rests (ended B rolled_back s t)
  acts_rest s t (ask a) = worked_rests (joined B s t a)

  pub step_rests : (s : St B) (t : ℕ) (r : Request B.Key B.Rec) → AtRest B s → AtRest B (step B s t r).state
  unfolding step
  step_rests s t r h = go (refusal B s t r)
    where
      go : (o : Option (Sy B)) → AtRest B (unless B s t (acts B s t r) o).state
      go none = acts_rest s t r
      go (some m) = h

  call_rests : (s : St B) (c : Cl B) → AtRest B s → AtRest B (state_after B s (call B s c))
  unfolding call
  call_rests s c h = go (legal_call B c)
    where
      go : (b : Bool) → AtRest B (state_after B s (cond b (some (step B s c.asker c.request)) none))
      go true = step_rests s c.asker c.request h
      go false = h

  rests_on : (s : St B) (cs : List (Cl B)) → AtRest B s → AtRest B (after B s cs)
  unfolding after
  rests_on s [] h = h
  rests_on s (c ∷ cs) h = rests_on (state_after B s (call B s c)) cs (call_rests s c h)

  pub after_rests : (cs : List (Cl B)) → AtRest B (after B (fresh B) cs)
  unfolding fresh
  after_rests cs = rests_on (fresh B) cs (empty_rests (fresh B) (omega arith))
