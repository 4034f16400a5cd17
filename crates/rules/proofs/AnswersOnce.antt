-- A call answers nobody twice, and only transactions: so it writes at most as many answers as there are transactions. Whoever is answered
-- in a turn waited before and doesn't wait after; carried back over the turns. Assumes the invariants of specs/Good.
use Prim.Native.Nat.{ℕ, ◌≤◌}
use mathlib.Core.Path.{◌≡◌, refl, sym, ap, subst, ◌∙◌}
use mathlib.Core.Logic.{◌⊎◌, inl, inr}
use mathlib.Core.Bool.{Bool, true, false, cond, not, true≢false}
use mathlib.Core.List.{List, [], ◌∷◌, ◌++◌, append-nil}
use mathlib.Core.Option.{Option, none, some, none-ne-some}
use borrow.Author.Tests.{eq-eqb, eqb-true, ne_eqb, eqb-false, not-true}
use lib.Dec.{eqb}
use lib.ListN.{length}
use Rattle.lists.specs.Lists.{In, all, any, pairs}
use Rattle.lists.proofs.Tests.{and_both, fails}
use Rattle.lists.proofs.Tables.{length_tab}
use Rattle.lists.proofs.Elements.{all_in, in_all, any_in, in_any, append_in, keep_in}
use Rattle.lists.proofs.Pairs.{pairs_cons, pairs_last}
use Rattle.lists.proofs.Finite.{no_more}
use Rattle.rules.specs.Kinds.{Book, Ask, Request, begin, commit, rollback, ask}
use Rattle.rules.specs.Entries.{committed, rolled_back}
use Rattle.rules.specs.Queue.{St, Q, leave, everyone}
use Rattle.rules.specs.Runs.{Sy, En, Turn, turn, Worked, worked, done, runs_already}
use Rattle.rules.specs.Desk.{An, runs, waits_now, says, refusal, begun, ended, joined, waiting_at, waiting_last, acts, unless, step, is_transaction}
use Rattle.rules.specs.Good.{Good}
use Rattle.rules.proofs.Waits.{in_everyone, runs_known, queued_runs}
use Rattle.rules.proofs.Rest.{Leaves, turn_leaves, worked_by_turns}

module _ (B : Book) where
  abbrev pub other_answered : An B → An B → Bool
  other_answered a b = not (eqb a.asker b.asker)

  -- whoever has a queued request waits, and who waits when t's request has left is another one, who waited before
  queued_waits : (s : St B) (q : Q B) → In q s.queue → waits_now B s q.asker ≡ true
  queued_waits s q i = in_any (λ p. eqb p.asker q.asker) s.queue q i (eq-eqb q.asker q.asker refl)

  still_waits : (qs : List (Q B)) (t u : ℕ) → any (λ q. eqb q.asker u) (leave B t qs) ≡ true
      → (any (λ q. eqb q.asker u) qs ≡ true) × (eqb t u ≡ false)
  unfolding leave
  still_waits qs t u h =
      let w = any_in (λ q. eqb q.asker u) (leave B t qs) h in
      let k = keep_in (λ q. not (eqb q.asker t)) qs w.0 w.1 in
      let e = eqb-true w.0.asker u w.2 in (
        in_any (λ q. eqb q.asker u) qs w.0 k.0 w.2,
        ne_eqb t u (λ same. eqb-false w.0.asker t (not-true (eqb w.0.asker t) k.1) (e ∙ sym same)),
      )

  -- the answers of a queue worked: to ones that waited and don't any more, and to each once
  record Served (s : St B) (w : Worked B) : Type 0 where
    waited : (a : An B) → In a w.answers → waits_now B s a.asker ≡ true
    freed : (a : An B) → In a w.answers → waits_now B w.state a.asker ≡ false
    once : pairs other_answered w.answers ≡ true
    still : (t : ℕ) → waits_now B w.state t ≡ true → waits_now B s t ≡ true

  served_turn : (s : St B) (t : Turn B) (w : Worked B) → turn B s ≡ some t → Served t.state w
      → Served s (record { state = w.state; answers = t.answer ∷ w.answers })
  served_turn s t w h v =
      record {
        waited = waited;
        freed = freed;
        once =
            pairs_cons other_answered t.answer w.answers
            (in_all (other_answered t.answer) w.answers (λ a i. ap not (fewer a.asker (v.waited a i)).1)) v.once;
        still = λ u k. (fewer u (v.still u k)).0;
      }
    where
      l : Leaves B s t
      l = turn_leaves B s t h

      fewer : (u : ℕ) → waits_now B t.state u ≡ true → (waits_now B s u ≡ true) × (eqb t.answer.asker u ≡ false)
      fewer u k =
          subst (λ a. (waits_now B s u ≡ true) × (eqb a u ≡ false)) (sym l.answered)
          (still_waits s.queue l.request.asker u (subst (λ qs. any (λ q. eqb q.asker u) qs ≡ true) l.queue k))

      waited : (a : An B) → In a (t.answer ∷ w.answers) → waits_now B s a.asker ≡ true
      waited a (inl e) =
          subst (λ u. waits_now B s u ≡ true) (sym l.answered ∙ ap (λ (b : An B). b.asker) e) (queued_waits s l.request l.queued)
      waited a (inr i) = (fewer a.asker (v.waited a i)).0

      gone : (u : ℕ) → t.answer.asker ≡ u → waits_now B w.state u ≡ true → ⊥
      gone u e k = true≢false (sym (eq-eqb t.answer.asker u e) ∙ (fewer u (v.still u k)).1)

      freed : (a : An B) → In a (t.answer ∷ w.answers) → waits_now B w.state a.asker ≡ false
      freed a (inl e) = fails (waits_now B w.state a.asker) (gone a.asker (ap (λ (b : An B). b.asker) e))
      freed a (inr i) = v.freed a i

  worked_served : (s : St B) → Served s (worked B s)
  unfolding pairs
  worked_served =
      worked_by_turns B Served
      (λ s h. record { waited = λ a x. absurd x; freed = λ a x. absurd x; once = refl; still = λ t k. k })
      served_turn

  -- the answers of a call: to transactions, and to each at most once
  pub record OnceEach (answers : List (An B)) : Type 0 where
    pub known : all (λ a. is_transaction B a.asker) answers ≡ true
    pub once : pairs other_answered answers ≡ true

  answer_alone : (t : ℕ) (m : Sy B) → is_transaction B t ≡ true → OnceEach (says B t m ∷ [])
  unfolding all pairs
  answer_alone t m known = record { known = and_both (is_transaction B t) true known refl; once = refl }

  module _ (s : St B) (t : ℕ) (known : is_transaction B t ≡ true)
      (all_known : (u : ℕ) → waits_now B s u ≡ true → is_transaction B u ≡ true) where
    worked_known : (a : An B) → In a (worked B s).answers → is_transaction B a.asker ≡ true
    worked_known a i = all_known a.asker ((worked_served s).waited a i)

    -- t is answered first, and has nothing queued
    answer_first : (m : Sy B) → waits_now B s t ≡ false → OnceEach (says B t m ∷ (worked B s).answers)
    unfolding all
    answer_first m h =
        record {
          known = and_both (is_transaction B t) _ known (in_all (λ a. is_transaction B a.asker) (worked B s).answers worked_known);
          once = pairs_cons other_answered (says B t m) (worked B s).answers
              (in_all (other_answered (says B t m)) (worked B s).answers (λ a i. ap not (ne_eqb t a.asker (other a i)))) (worked_served s).once;
        }
      where
        other : (a : An B) → In a (worked B s).answers → t ≡ a.asker → ⊥
        other a i e = true≢false (sym ((worked_served s).waited a i) ∙ subst (λ u. waits_now B s u ≡ false) e h)

    -- t is answered last, if it still waits
    answer_last : OnceEach (waiting_last B t (worked B s)).answers
    answer_last = go (waits_now B (worked B s).state t) refl
      where
        xs : List (An B)
        xs = (worked B s).answers

        other : (a : An B) → In a xs → waits_now B (worked B s).state t ≡ true → a.asker ≡ t → ⊥
        other a i h e = true≢false (sym h ∙ subst (λ u. waits_now B (worked B s).state u ≡ false) e ((worked_served s).freed a i))

        mine : An B
        mine = waiting_at B (worked B s).state t

        each : (a : An B) → In a xs ⊎ In a (mine ∷ []) → is_transaction B a.asker ≡ true
        each a (inl i) = worked_known a i
        each a (inr (inl e)) = subst (λ (b : An B). is_transaction B b.asker ≡ true) e known
        each a (inr (inr i)) = absurd i

        go : (b : Bool) → waits_now B (worked B s).state t ≡ b → OnceEach (xs ++ cond b (mine ∷ []) [])
        go true h =
            record {
              known = in_all (λ a. is_transaction B a.asker) (xs ++ (mine ∷ []))
                  (λ a i. each a (append_in xs (mine ∷ []) a i));
              once = pairs_last other_answered xs (mine) (worked_served s).once
                  (in_all (λ a. other_answered a (mine)) xs (λ a i. ap not (ne_eqb a.asker t (other a i h))));
            }
        go false h =
            rw append-nil (record { known = in_all (λ a. is_transaction B a.asker) xs worked_known; once = (worked_served s).once })

  module _ (s : St B) (good : Good B s) (t : ℕ) (known : is_transaction B t ≡ true) where
    waits_runs : (u : ℕ) → waits_now B s u ≡ true → runs B s u ≡ true
    waits_runs u h =
        let w = any_in (λ q. eqb q.asker u) s.queue h in
        subst (λ v. runs B s v ≡ true) (eqb-true w.0.asker u w.2) (queued_runs B s good w.0 w.1)

    waits_known : (u : ℕ) → waits_now B s u ≡ true → is_transaction B u ≡ true
    waits_known u h = runs_known B s good u (waits_runs u h)

    begin_answers : refusal B s t begin ≡ none → OnceEach (acts B s t begin).answers
    unfolding refusal acts begun
    begin_answers h =
        answer_first (begun B s t) t known waits_known done
        (fails (waits_now B s t) (λ w. none-ne-some runs_already (sym (rw (waits_runs t w) at h))))

    end_answers : (f : En B → En B) → OnceEach (says B t done ∷ (worked B (ended B f s t)).answers)
    unfolding ended
    end_answers f =
        answer_first (ended B f s t) t known (λ u h. waits_known u (still_waits s.queue t u h).0) done
        (fails (waits_now B (ended B f s t) t) (λ h. true≢false (sym (eq-eqb t t refl) ∙ (still_waits s.queue t t h).1)))

    ask_answers : (a : Ask B.Key B.Rec) → OnceEach (waiting_last B t (worked B (joined B s t a))).answers
    unfolding joined
    ask_answers a = answer_last (joined B s t a) t known each
      where
        mine : List (Q B)
        mine = record { asker = t; asks = a } ∷ []

        among : (u : ℕ) (q : Q B) → eqb q.asker u ≡ true → In q s.queue ⊎ In q mine → is_transaction B u ≡ true
        among u q e (inl i) = waits_known u (in_any (λ p. eqb p.asker u) s.queue q i e)
        among u q e (inr (inl p)) =
            subst (λ v. is_transaction B v ≡ true) (ap (λ (x : Q B). x.asker) p ∙ eqb-true q.asker u e) known
        among u q e (inr (inr i)) = absurd i

        each : (u : ℕ) → waits_now B (joined B s t a) u ≡ true → is_transaction B u ≡ true
        each u h =
            let w = any_in (λ q. eqb q.asker u) (s.queue ++ mine) h in
            among u w.0 w.2 (append_in s.queue mine w.0 w.1)

    acts_answers : (r : Request B.Key B.Rec) → refusal B s t r ≡ none → OnceEach (acts B s t r).answers
    unfolding acts
    acts_answers begin h = begin_answers h
    acts_answers commit h = end_answers committed
    acts_answers rollback h = end_answers rolled_back
    acts_answers (ask a) h = ask_answers a

    pub step_answers : (r : Request B.Key B.Rec) → OnceEach (step B s t r).answers
    unfolding step
    step_answers r = go (refusal B s t r) refl
      where
        go : (o : Option (Sy B)) → refusal B s t r ≡ o → OnceEach (unless B s t (acts B s t r) o).answers
        go none e = acts_answers r e
        go (some m) e = answer_alone t m known

    -- document 01: "A call writes at most 16 answers"
    pub few_answers : (r : Request B.Key B.Rec) → length (step B s t r).answers ≤ B.transactions
    few_answers r =
        subst (λ n. length (step B s t r).answers ≤ n) (length_tab B.transactions 1 (λ u. u))
        (no_more (λ a. a.asker) (step B s t r).answers (everyone B) (step_answers r).once
        (λ a i. in_everyone B a.asker (all_in (λ b. is_transaction B b.asker) (step B s t r).answers a (step_answers r).known i)))
