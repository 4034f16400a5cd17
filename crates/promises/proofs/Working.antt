-- The queue is worked as specs/Demand2 says (`works`): each turn the oldest request that isn't blocked runs, or, where all are blocked, the lightest
-- on a circle gives way, until neither is there. By recursion along the turns, each of which keeps the invariants. Assumes nothing.
use mathlib.Core.Path.{◌≡◌, refl, sym, ap, subst, ◌∙◌}
use mathlib.Core.Logic.{◌≢◌, inl, inr}
use mathlib.Core.Bool.{Bool, true, false, cond, true≢false}
use mathlib.Core.List.{List, [], ◌∷◌, ◌++◌}
use mathlib.Core.Option.{Option, none, some, none-ne-some, some-injective}
use Rattle.lists.specs.Lists.{In, first, is_nil}
use Rattle.lists.proofs.Elements.{in_right}
use Rattle.rules.specs.Kinds.{Book, Ordered}
use Rattle.rules.specs.Queue.{St, Wait, waits, is_free, oldest, on_circle, yields}
use Rattle.rules.specs.Runs.{circle, run, unmoved, Turn, left, refused, served, turn, Worked, worked, AtRest}
use Rattle.rules.specs.Good.{Good}
use Rattle.rules.specs.Chains.{Circle}
use Rattle.rules.proofs.Waits.{free_nil, oldest_none, oldest_waits, oldest_free, yields_by, yields_waits, same_wait}
use Rattle.rules.proofs.Keeps.{Anyone, kept_turns, worked_keeps}
use Rattle.rules.proofs.Rest.{worked_by_turns}
use Rattle.rules.proofs.Chains.{found_is_circle, circle_is_found, rest_choices, chains_end}
use Rattle.rules.proofs.GoodKept.{good_kept}
use Rattle.promises.specs.Demand2.{MayRun, MustGiveWay, Rests, Works, rests, ran, gave_way}
use Rattle.promises.proofs.Causes.{runs_rightly}

-- ---- the first that passes a test, in its place
module _ {A : Type 0} where
  first_place : (p : A → Bool) (xs : List A) (x : A) → first p xs ≡ some x
      → (ahead : List A) × (after : List A) × (xs ≡ ahead ++ (x ∷ after)) × ((y : A) → In y ahead → p y ≡ false)
  unfolding first
  first_place p [] x h = absurd (none-ne-some x h)
  first_place p (y ∷ ys) x h = go (p y) refl h (first_place p ys x)
    where
      go : (b : Bool) → p y ≡ b → cond b (some y) (first p ys) ≡ some x
          → (first p ys ≡ some x → (ahead : List A) × (after : List A) × (ys ≡ ahead ++ (x ∷ after)) × ((z : A) → In z ahead → p z ≡ false))
          → (ahead : List A) × (after : List A) × (y ∷ ys ≡ ahead ++ (x ∷ after)) × ((z : A) → In z ahead → p z ≡ false)
      go true e h r = ([], ys, ap (λ z. z ∷ ys) (some-injective y x h), λ z i. absurd i)
      go false e h r = let w = r h in (y ∷ w.0, w.1, ap (λ zs. y ∷ zs) w.2, before w.0 w.3)
        where
          before : (zs : List A) → ((z : A) → In z zs → p z ≡ false) → (z : A) → In z (y ∷ zs) → p z ≡ false
          before zs f z (inl q) = ap p (sym q) ∙ e
          before zs f z (inr i) = f z i

  some_one : (xs : List A) → is_nil xs ≡ false → xs ≢ []
  some_one xs h e = true≢false (ap is_nil (sym e) ∙ h)

module _ (B : Book) where
  -- ---- the two choices
  may_run : (s : St B) (w : Wait B) → oldest B s ≡ some w → MayRun B s w
  unfolding oldest
  may_run s w e =
      let p = first_place (is_free B) (waits B s) w e in
      record {
        ahead = p.0;
        after = p.1;
        place = p.2;
        free = oldest_free B s w e;
        oldest = λ v i. some_one v.behind (sym (free_nil v.behind) ∙ p.3 v i);
      }

  nobody_free : (s : St B) → oldest B s ≡ none → (v : Wait B) → In v (waits B s) → v.behind ≢ []
  nobody_free s e v i = some_one v.behind (oldest_none B s v e i)

  must_give_way : (s : St B) → Good B s → (w : Wait B) → oldest B s ≡ none → yields B s ≡ some w → MustGiveWay B s w
  must_give_way s g w n e =
      let l = yields_by B s w e in
      record {
        ahead = l.ahead;
        after = l.after;
        place = l.place;
        nobody = nobody_free s n;
        on_circle = found_is_circle B s w (yields_waits B s w e) l.passes;
        fewest = λ v i c. l.fewest v i (found v i c);
        newest = λ v i c. l.last v i (found v (rw l.place (in_right l.ahead (w ∷ l.after) v (inr i))) c);
      }
    where
      -- a circle of v's is found at v's own wait
      found : (v : Wait B) → In v (waits B s) → Circle B s v.request.asker → on_circle B (waits B s) v ≡ true
      found v i c =
          let b = c.chain.0 in
          let z = same_wait B s g b.wait v b.queued i b.asker in
          rw z at (circle_is_found B s g v.request.asker c)

  module _ (L : Ordered B.Key B.compare) where
    turn_works : (s : St B) (o : Turn B) (w : Worked B) → turn B s ≡ some o → (Good B o.state → Works B o.state w.answers w.state)
        → Good B s → Works B s (o.answer ∷ w.answers) w.state
    unfolding turn
    turn_works s o z e more g = by_oldest (oldest B s) refl e
      where
        by_yields : (x : Option (Wait B)) → oldest B s ≡ none → yields B s ≡ x → refused B s x ≡ some o
            → Works B s (o.answer ∷ z.answers) z.state
        by_yields none n q e = absurd (none-ne-some o e)
        by_yields (some w) n q e =
            let v = some-injective (left B s w.request (unmoved B s circle)) o e in
            subst (λ (u : Turn B). (Good B u.state → Works B u.state z.answers z.state) → Works B s (u.answer ∷ z.answers) z.state) v
            (λ k. gave_way w (must_give_way s g w n q) (k ((good_kept B L).gives_way s w (yields_waits B s w q) g))) more

        by_oldest : (x : Option (Wait B)) → oldest B s ≡ x → served B s x ≡ some o → Works B s (o.answer ∷ z.answers) z.state
        by_oldest none q e = by_yields (yields B s) q refl e
        by_oldest (some w) q e =
            let v = some-injective (left B s w.request (run B s w.request)) o e in
            let i = oldest_waits B s w q in
            let m = may_run s w q in
            subst (λ (u : Turn B). (Good B u.state → Works B u.state z.answers z.state) → Works B s (u.answer ∷ z.answers) z.state) v
            (λ k. ran w (run B s w.request) m (runs_rightly B L s w i m.free g) (k ((good_kept B L).goes s w i m.free g))) more

    pub worked_good : (s : St B) → Good B s → Good B (worked B s).state
    worked_good = worked_keeps B (Good B) (kept_turns B (Anyone B) (Good B) (good_kept B L))

    at_rest : (s : St B) → AtRest B s → Good B s → Rests B s
    at_rest s h g = record { nobody = nobody_free s (rest_choices B s h).0; no_circle = (chains_end B s g h).no_circle }

    pub works : (s : St B) → Good B s → Works B s (worked B s).answers (worked B s).state
    works = worked_by_turns B (λ s w. Good B s → Works B s w.answers w.state) (λ s h g. rests (at_rest s h g)) turn_works
