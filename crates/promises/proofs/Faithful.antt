-- The story is the answers: its deeds are exactly those that the calls were given, in their order. By the definitions side by side: a turn,
-- the turns of a queue, a call, the calls. Assumes nothing.
use Prim.Native.Nat.{ℕ, zero, suc}
use mathlib.Core.Path.{◌≡◌, refl, ap, ap₂, ◌∙◌}
use mathlib.Core.Bool.{Bool, true, false, cond}
use mathlib.Core.List.{List, [], ◌∷◌, ◌++◌, map, map-append}
use mathlib.Core.Option.{Option, none, some}
use lib.ListN.{length}
use Rattle.lists.specs.Lists.{join}
use Rattle.rules.specs.Kinds.{Book, Request, begin, commit, rollback, ask}
use Rattle.rules.specs.Entries.{committed, rolled_back}
use Rattle.rules.specs.Queue.{St, blocker_of}
use Rattle.rules.specs.Runs.{waiting, done, Sy, Turn, turn, onward, turns, worked}
use Rattle.rules.specs.Desk.{An, Cl, refusal, begun, ended, joined, waits_now, says, waiting_at, acts, unless, step, legal_call, call, state_after, answers_of, fresh, session}
use Rattle.promises.specs.Story.{Asked, nothing_asked, asked_then, and_on, turn_deeds, queue_deeds, idle_deed, act_deeds, deeds_unless, call_deeds, story_from, answer_of, given, Faithful}

module _ (B : Book) where
  turns_faithful : (f : Asked B) (n : ℕ) (s : St B) → map (answer_of B) (turn_deeds B f n s) ≡ (turns B n s).answers
  unfolding turn_deeds turns
  turns_faithful f zero s = refl
  turns_faithful f (suc n) s = go (turn B s) (turns_faithful f n)
    where
      go : (o : Option (Turn B)) → ((u : St B) → map (answer_of B) (turn_deeds B f n u) ≡ (turns B n u).answers)
          → map (answer_of B) (and_on B f s (turn_deeds B f n) o) ≡ (onward B s (turns B n) o).answers
      go none h = refl
      go (some o) h = ap (λ (as' : List (An B)). o.answer ∷ as') (h o.state)

  queue_faithful : (f : Asked B) (s : St B) → map (answer_of B) (queue_deeds B f s) ≡ (worked B s).answers
  unfolding worked
  queue_faithful f s = turns_faithful f (length s.queue) s

  acts_faithful : (f : Asked B) (s : St B) (t : ℕ) (r : Request B.Key B.Rec) → map (answer_of B) (act_deeds B f s t r) ≡ (acts B s t r).answers
  unfolding act_deeds acts
  acts_faithful f s t begin = ap (λ (as' : List (An B)). says B t done ∷ as') (queue_faithful f (begun B s t))
  acts_faithful f s t commit = ap (λ (as' : List (An B)). says B t done ∷ as') (queue_faithful f (ended B committed s t))
  acts_faithful f s t rollback = ap (λ (as' : List (An B)). says B t done ∷ as') (queue_faithful f (ended B rolled_back s t))
  acts_faithful f s t (ask a) =
      map-append (answer_of B) (queue_deeds B f u) _ ∙ ap₂ (λ (xs ys : List (An B)). xs ++ ys) (queue_faithful f u) (go (waits_now B z t))
    where
      u : St B
      u = joined B s t a

      z : St B
      z = (worked B u).state

      go : (b : Bool) → map (answer_of B) (cond b (idle_deed B z.entries t (ask a) (waiting (blocker_of B z t)) ∷ []) []) ≡ cond b (waiting_at B z t ∷ []) []
      go true = refl
      go false = refl

  call_faithful : (f : Asked B) (s : St B) (c : Cl B) → map (answer_of B) (call_deeds B f s c) ≡ given B (answers_of B (call B s c))
  unfolding call_deeds call step
  call_faithful f s c = go (legal_call B c) (refusal B s c.asker c.request)
    where
      go : (b : Bool) (o : Option (Sy B)) → map (answer_of B) (cond b (deeds_unless B f s c.asker c.request o) [])
          ≡ given B (answers_of B (cond b (some (unless B s c.asker (acts B s c.asker c.request) o)) none))
      go true none = acts_faithful f s c.asker c.request
      go true (some m) = refl
      go false o = refl

  faithful_from : (f : Asked B) (s : St B) (cs : List (Cl B)) → map (answer_of B) (story_from B f s cs) ≡ join (given B) (session B s cs)
  unfolding story_from session join
  faithful_from f s [] = refl
  faithful_from f s (c ∷ cs) =
      let g = asked_then B f c (answers_of B (call B s c)) in
      map-append (answer_of B) (call_deeds B g s c) _
      ∙ ap₂ (λ (xs ys : List (An B)). xs ++ ys) (call_faithful g s c) (faithful_from g (state_after B s (call B s c)) cs)

  pub faithful : (cs : List (Cl B)) → Faithful B cs
  faithful cs = faithful_from (nothing_asked B) (fresh B) cs
