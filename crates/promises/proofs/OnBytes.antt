-- Demand 3 on bytes, proved of every run of calls from fresh: the theorem is `demand3_on_bytes`. The run goes as the rule book says, and
-- of that the demand is proved; the bytes that the calls wrote are the story's answers, one after the other. And then and now, of two moments
-- of such a run: `then_and_now_on_bytes`. Assumes nothing.
use Prim.Native.Nat.{ℕ}
use mathlib.Core.Path.{◌≡◌, refl, sym, ap, ap₂, subst, ◌∙◌}
use mathlib.Core.Bool.{Bool, true, false, cond}
use mathlib.Core.List.{List, [], ◌∷◌, ◌++◌, map, map-append}
use mathlib.Core.Option.{Option, none, some}
use native.Mathlib.Omega.{arith}
use borrow.Author.Tests.{ltb-false}
use lib.ListN.{length}
use Rattle.limits.specs.Limits.{space_least}
use Rattle.lists.specs.Lists.{join, In}
use Rattle.lists.proofs.Joins.{append_apart, join_append}
use Rattle.rules.specs.Kinds.{Call, Lock}
use Rattle.rules.specs.Locks.{in_use, same_name, conflict}
use Rattle.rules.specs.Queue.{St}
use Rattle.rules.specs.Runs.{AtRest}
use Rattle.rules.specs.Desk.{step, state_after, answers_of, fresh, after, session}
use Rattle.rules.specs.Good.{Good}
use Rattle.rules.specs.Chains.{ChainsEnd}
use Rattle.rules.proofs.Orders.{numbers_ordered}
use Rattle.rules.proofs.Rest.{after_rests}
use Rattle.rules.proofs.GoodKept.{step_good, fresh_good}
use Rattle.requests.specs.RequestRecord.{heard}
use Rattle.requests.proofs.Number12.{heard_legal}
use Rattle.states.specs.States.{book, state_of}
use Rattle.calls.specs.Promise.{short_space}
use Rattle.calls.specs.Calls.{Sent, Back, Runs, FromFresh, call_in, with, calls_in, refuses, back_if, back_of, onward, backs_from, wrote, bytes_of}
use Rattle.calls.proofs.AnswerBytes.{refusal_wrote, answers_wrote}
use Rattle.calls.proofs.CallRuns.{legal_called, run_back, run_from_fresh, few_bytes, never_eleven}
use Rattle.promises.specs.Story.{Deed, given, answer_of, story, Seamless}
use Rattle.promises.specs.Demand3.{now_at}
use Rattle.promises.specs.OnBytes.{Demand3OnBytes, ThenAndNowOnBytes, BetweenOnBytes}
use Rattle.promises.proofs.Faithful.{faithful}
use Rattle.promises.proofs.Deeds.{after_on}
use Rattle.promises.proofs.Demand3.{demand3_of_document}
use Rattle.promises.proofs.Then.{then_and_now}

-- ---- the bytes that the calls wrote are the answers that the rule book gives
abbrev Wrote : St book → List Sent → Type 0
Wrote s as' = join wrote (backs_from s as') ≡ join bytes_of (join (given book) (session book s (calls_in as')))

call_wrote : (s : St book) → Good book s → (a : Sent) (as' : List Sent) → ((u : St book) → Good book u → Wrote u as') → Wrote s (a ∷ as')
unfolding join backs_from back_of calls_in call_in session
call_wrote s g a as' more = go (short_space a.space) (heard a.request) refl refl
  where
    cs : List (Call ℕ ℕ)
    cs = calls_in as'

    go : (short : Bool) (o : Option (Call ℕ ℕ)) → short_space a.space ≡ short → heard a.request ≡ o
        → wrote (cond short (refuses a.space 10) (back_if s a.space o)) ++ join wrote (backs_from (onward s (cond short none o)) as')
        ≡ join bytes_of (join (given book) (session book s (with (cond short none o) cs)))
    go true o e k = ap (λ b. b ++ join wrote (backs_from s as')) (refusal_wrote a.space 10 (omega arith)) ∙ more s g
    go false none e k = ap (λ b. b ++ join wrote (backs_from s as')) (refusal_wrote a.space 12 (omega arith)) ∙ more s g
    go false (some c) e k =
        let l = heard_legal book.paging a.request c k in
        let w = step book s c.asker c.request in
        ap₂ (λ b bs. b ++ bs)
        (answers_wrote a.space w.answers (ltb-false (length a.space) space_least e) (few_bytes s g a.request c k))
        (more w.state (step_good book numbers_ordered s c l g))
        ∙ sym (join_append bytes_of w.answers (join (given book) (session book w.state cs)))
        ∙ ap (λ o. join bytes_of (given book (answers_of book o) ++ join (given book) (session book (state_after book s o) cs))) (sym (legal_called s c l))

calls_wrote : (s : St book) → Good book s → (as' : List Sent) → Wrote s as'
unfolding join backs_from calls_in session
calls_wrote s g [] = refl
calls_wrote s g (a ∷ as') = call_wrote s g a as' (λ u h. calls_wrote u h as')

-- ---- and so demand 3, of the bytes as they stand
abbrev HoldersApart : St book → Type 0
HoldersApart s =
    (k l : Lock ℕ) → In k (in_use s.slots) → In l (in_use s.slots)
    → (k.holder ≡ l.holder → ⊥) → same_name book k.name l.name ≡ true → conflict k.mode l.mode ≡ false

pub demand3_on_bytes : Demand3OnBytes
unfolding fresh state_of
demand3_on_bytes as' bs p d f =
    let run = run_from_fresh f in
    let demand = demand3_of_document book.paging cs in
    record {
      whole = run.1;
      state = run.2;
      rest = subst (AtRest book) (sym run.2) (after_rests book cs);
      backs = run.0;
      never11 = never_eleven f;
      bytes = ap (join wrote) run.0 ∙ calls_wrote (fresh book) (fresh_good book numbers_ordered) as' ∙ ap (join bytes_of) (sym (faithful book cs));
      seamless = subst (λ (s : St book). Seamless book [] (story book cs) s.entries) (sym run.2) demand.seamless;
      demand = demand;
      locks = subst HoldersApart (sym run.2) demand.locks.apart;
      chains = subst (ChainsEnd book) (sym run.2) demand.chains;
    }
  where
    cs : List (Call ℕ ℕ)
    cs = calls_in as'

-- ---- two moments of a run: what was sent is what was sent up to the first, and what was sent after it
calls_more : (as' more : List Sent) → calls_in (as' ++ more) ≡ calls_in as' ++ calls_in more
unfolding calls_in
calls_more [] more = refl
calls_more (a ∷ as') more = go (call_in a) (calls_more as' more)
  where
    go : (o : Option (Call ℕ ℕ)) → calls_in (as' ++ more) ≡ calls_in as' ++ calls_in more → with o (calls_in (as' ++ more)) ≡ with o (calls_in as') ++ calls_in more
    go none e = e
    go (some c) e = ap (λ cs. c ∷ cs) e

pub then_and_now_on_bytes : ThenAndNowOnBytes
unfolding state_of
then_and_now_on_bytes as' more bs bs' p d p' d' f r ds t x e k h =
    let first = run_from_fresh f in
    let second : state_of p' d' ≡ after book (fresh book) (cs ++ calls_in more) =
    (run_back first.1 r).2 ∙ ap (λ s. after book s (calls_in more)) first.2 ∙ sym (after_on book (fresh book) cs (calls_in more)) in
    let n = (then_and_now book numbers_ordered cs (calls_in more)).same ds t x
    (subst (λ (cs' : List (Call ℕ ℕ)). story book cs' ≡ story book cs ++ ds) (calls_more as' more) e) k h in
    ap (λ (s : St book). now_at book s.entries x) second ∙ n ∙ sym (ap (λ (s : St book). now_at book s.entries x) first.2)
  where
    cs : List (Call ℕ ℕ)
    cs = calls_in as'

-- the run to the second moment is one from fresh too, and its bytes are those up to the first and those after it
runs_on : {p d p₁ d₁ p' d' : List ℕ} {as' more : List Sent} {bs bs' : List Back} → Runs p d as' bs p₁ d₁ → Runs p₁ d₁ more bs' p' d'
    → Runs p d (as' ++ more) (bs ++ bs') p' d'
runs_on Runs.rest r = r
runs_on (Runs.next h q) r = Runs.next h (runs_on q r)

pub between_on_bytes : BetweenOnBytes
between_on_bytes as' more bs bs' p d p' d' f r ds e =
    let whole : FromFresh (as' ++ more) (bs ++ bs') p' d' =
    record { pages = f.pages; desk = f.desk; whole = f.whole; state = f.state; runs = runs_on f.runs r } in
    let one = (demand3_on_bytes as' bs p d f).bytes in
    let two = (demand3_on_bytes (as' ++ more) (bs ++ bs') p' d' whole).bytes in
    (append_apart (join wrote bs) (join bytes_of (map (answer_of book) first)) _ _ (ap length one)
    (sym (join_append wrote bs bs') ∙ two ∙ ap (λ (es : List (Deed book)). join bytes_of (map (answer_of book) es)) e
    ∙ ap (join bytes_of) (map-append (answer_of book) first ds) ∙ join_append bytes_of (map (answer_of book) first) (map (answer_of book) ds))).1
  where
    first : List (Deed book)
    first = story book (calls_in as')
