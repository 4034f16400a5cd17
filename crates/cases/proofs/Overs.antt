-- The table of cases on bytes: each call sent as its record to a picture that was fresh gives back what the case states, and leaves the
-- picture that says its scene. The records are heard as their calls, by computation; what a run gives back is the rule book's, by the laws
-- of runs; the rule book gives what is stated, by the table over the tree of pages; and the literal bytes are computed. Assumes nothing.
use Prim.Native.Nat.{ℕ, ◌≤◌, compare}
use mathlib.Core.Path.{◌≡◌, refl, sym, ap, ap₂, ◌∙◌}
use mathlib.Core.Bool.{Bool, true, false, cond, not, false≢true}
use mathlib.Core.List.{List, [], ◌∷◌, map}
use mathlib.Core.Option.{Option, none, some}
use mathlib.Core.Logic.{inl, inr}
use native.Mathlib.Omega.{arith}
use borrow.Author.Tests.{not-true, ltb-false, leb-true}
use lib.Dec.{leb}
use lib.ListN.{length, get_or, drop}
use Rattle.limits.specs.Limits.{transactions_most, space_least}
use Rattle.lists.specs.Lists.{In, all, join, is_nil}
use Rattle.lists.proofs.Tests.{and_left, and_right}
use Rattle.lists.proofs.Elements.{all_in}
use Rattle.rules.specs.Kinds.{Call}
use Rattle.rules.specs.Queue.{St}
use Rattle.rules.specs.Runs.{Answer, Worked}
use Rattle.rules.specs.Desk as D
use Rattle.rules.specs.Cases as C
use Rattle.requests.specs.RequestRecord as W
use Rattle.trees.specs.Trees.{document_sizes}
use Rattle.trees.specs.Shapes.{tree_paging}
use Rattle.states.specs.States.{book}
use Rattle.calls.specs.Promise.{short_space}
use Rattle.calls.specs.Calls.{Sent, Back, call_in, with, calls_in, refuses, back_if, back_of, onward, backs_from, wrote, bytes_of}
use Rattle.cases.specs.Overs as O
use Rattle.cases.proofs.CaseComputing.{the_records, the_answers, the_cases}
use Rattle.cases.proofs.TableOnPages.{cases_hold_in_pages}
use Rattle.calls.proofs.CallRuns.{run_from_fresh}
use Rattle.calls.proofs.AnswerBytes.{refusal_wrote, answers_wrote}

-- ---- the records
abbrev pub heard_as : C.Over → Option (Call ℕ ℕ)
heard_as o = W.heard (O.request_record o.bowled)

abbrev pub legally : C.Over → Option (Call ℕ ℕ)
legally o = cond (D.legal_call book o.bowled) (some o.bowled) none

records_heard : map (λ (c : O.Scored). map heard_as c.case.overs) O.scorecard ≡ map (λ (c : O.Scored). map legally c.case.overs) O.scorecard
unfolding D.legal_ask D.legal_request the_records the_cases
records_heard = refl

-- ---- what holds of every element of a list, as an equation of two lists, holds of each
map_each : {A B : Type 0} (f g : A → B) (xs : List A) (x : A) → In x xs → map f xs ≡ map g xs → f x ≡ g x
map_each {A = A} {B = B} f g [] x x4 h = elim x4 [ ]
map_each f g (y ∷ ys) x (inl e) h = ap f (sym e) ∙ ap (λ l. get_or l 0 (f y)) h ∙ ap g e
map_each f g (y ∷ ys) x (inr i) h = map_each f g ys x i (ap (drop 1) h)

-- ---- one over
module _ (s : St book) (a : Sent) (o : C.Over) (sent : a.request ≡ O.request_record o.bowled) (room : short_space a.space ≡ false)
    (right : heard_as o ≡ legally o) where
  abbrev called : Option (Worked book)
  called = D.call book s o.bowled

  heard_one : W.heard a.request ≡ legally o
  heard_one = ap W.heard sent ∙ right

  called_in : call_in a ≡ legally o
  unfolding call_in
  called_in = ap (λ b. cond b none (W.heard a.request)) room ∙ heard_one

  back_one : back_of s a ≡ O.stated_back a.space (D.answers_of book called)
  unfolding back_of D.call
  back_one = ap (λ b. cond b (refuses a.space 10) (back_if s a.space (W.heard a.request))) room ∙ ap (back_if s a.space) heard_one
      ∙ go (D.legal_call book o.bowled)
    where
      go : (b : Bool) → back_if s a.space (cond b (some o.bowled) none)
          ≡ O.stated_back a.space (D.answers_of book (cond b (some (D.step book s o.bowled.asker o.bowled.request)) none))
      go true = refl
      go false = refl

  onward_one : onward s (call_in a) ≡ D.state_after book s called
  unfolding D.call
  onward_one = ap (onward s) called_in ∙ go (D.legal_call book o.bowled)
    where
      go : (b : Bool) → onward s (cond b (some o.bowled) none)
          ≡ D.state_after book s (cond b (some (D.step book s o.bowled.asker o.bowled.request)) none)
      go true = refl
      go false = refl

-- ---- all of them
abbrev bowled_in : List C.Over → List (Call ℕ ℕ)
bowled_in os = map (λ (o : C.Over). o.bowled) os

abbrev Sends : List C.Over → List Sent → Type 0
Sends os as' = map (λ (a : Sent). a.request) as' ≡ map (λ (o : C.Over). O.request_record o.bowled) os

abbrev Roomy : List Sent → Type 0
Roomy as' = all (λ (a : Sent). not (short_space a.space)) as' ≡ true

-- what comes back is what is stated, and what is sent are the calls, if the rule book answers the calls so
backs_stated : (os : List C.Over) (as' : List Sent) (s : St book) → Sends os as' → Roomy as' → map heard_as os ≡ map legally os
    → D.session book s (bowled_in os) ≡ map (λ (o : C.Over). o.answered) os → backs_from s as' ≡ O.stated_backs os as'
unfolding backs_from O.stated_backs D.session all
backs_stated [] [] s h r g e = refl
backs_stated [] (a ∷ as') s h r g e = absurd (false≢true (ap is_nil h))
backs_stated (o ∷ os) [] s h r g e = absurd (false≢true (sym (ap is_nil h)))
backs_stated (o ∷ os) (a ∷ as') s h r g e =
    let sent : a.request ≡ O.request_record o.bowled = ap (λ l. get_or l 0 a.request) h in
    let room : short_space a.space ≡ false = not-true _ (and_left (not (short_space a.space)) _ r) in
    let right : heard_as o ≡ legally o = ap (λ l. get_or l 0 (heard_as o)) g in
    ap₂ ◌∷◌
    (back_one s a o sent room right ∙ ap (O.stated_back a.space) (ap (λ l. get_or l 0 o.answered) e))
    (ap (λ x. backs_from x as') (onward_one s a o sent room right)
    ∙ backs_stated os as' (D.state_after book s (called s a o sent room right)) (ap (drop 1) h) (and_right (not (short_space a.space)) _ r)
    (ap (drop 1) g) (ap (drop 1) e))

-- a call that isn't legal leaves everything as it was
uncalled : (s : St book) (c : Call ℕ ℕ) → D.legal_call book c ≡ false → D.state_after book s (D.call book s c) ≡ s
unfolding D.call
uncalled s c l = ap (λ b. D.state_after book s (cond b (some (D.step book s c.asker c.request)) none)) l

calls_sent : (os : List C.Over) (as' : List Sent) (s : St book) → Sends os as' → Roomy as' → map heard_as os ≡ map legally os
    → D.after book s (calls_in as') ≡ D.after book s (bowled_in os)
unfolding calls_in D.after all
calls_sent [] [] s h r g = refl
calls_sent [] (a ∷ as') s h r g = absurd (false≢true (ap is_nil h))
calls_sent (o ∷ os) [] s h r g = absurd (false≢true (sym (ap is_nil h)))
calls_sent (o ∷ os) (a ∷ as') s h r g =
    let sent : a.request ≡ O.request_record o.bowled = ap (λ l. get_or l 0 a.request) h in
    let room : short_space a.space ≡ false = not-true _ (and_left (not (short_space a.space)) _ r) in
    let right : heard_as o ≡ legally o = ap (λ l. get_or l 0 (heard_as o)) g in
    ap (λ x. D.after book s (with x (calls_in as'))) (called_in s a o sent room right)
    ∙ go (D.legal_call book o.bowled) refl
    ∙ calls_sent os as' (D.state_after book s (D.call book s o.bowled)) (ap (drop 1) h) (and_right (not (short_space a.space)) _ r) (ap (drop 1) g)
  where
    go : (b : Bool) → D.legal_call book o.bowled ≡ b
        → D.after book s (with (cond b (some o.bowled) none) (calls_in as')) ≡ D.after book (D.state_after book s (D.call book s o.bowled)) (calls_in as')
    go true l = refl
    go false l = ap (λ x. D.after book x (calls_in as')) (sym (uncalled s o.bowled l))

-- ---- in bytes
abbrev pub few_in : C.Over → Bool
few_in o = leb (length (O.answers_in o.answered)) transactions_most

back_bytes : (o : List ℕ) (x : Option (List (Answer ℕ ℕ))) → short_space o ≡ false → leb (length (O.answers_in x)) transactions_most ≡ true
    → wrote (O.stated_back o x) ≡ join bytes_of (O.answers_in x)
unfolding join
back_bytes o none r f = refusal_wrote o 12 (omega arith)
back_bytes o (some xs) r f =
    let room : space_least ≤ length o = ltb-false (length o) space_least r in
    let few : length xs ≤ transactions_most = leb-true (length xs) transactions_most f in answers_wrote o xs room (omega arith)

backs_bytes : (os : List C.Over) (as' : List Sent) → Sends os as' → Roomy as' → all few_in os ≡ true
    → map wrote (O.stated_backs os as') ≡ map O.stated_bytes os
unfolding O.stated_backs all
backs_bytes [] [] h r f = refl
backs_bytes [] (a ∷ as') h r f = refl
backs_bytes (o ∷ os) [] h r f = absurd (false≢true (sym (ap is_nil h)))
backs_bytes (o ∷ os) (a ∷ as') h r f =
    ap₂ ◌∷◌
    (back_bytes a.space o.answered (not-true _ (and_left (not (short_space a.space)) _ r)) (and_left (few_in o) _ f))
    (backs_bytes os as' (ap (drop 1) h) (and_right (not (short_space a.space)) _ r) (and_right (few_in o) _ f))

cases_few : all (λ (c : O.Scored). all few_in c.case.overs) O.scorecard ≡ true
unfolding all the_cases
cases_few = refl

-- ---- the literal bytes: what the scorecard says is what the stated answers are in bytes
abbrev pub scored_bytes : O.Scored → List (List ℕ)
scored_bytes c = map (λ (w : O.Wrote). w.bytes) c.wrote

abbrev pub bytes_there : O.Scored → List (List ℕ)
bytes_there c = map (λ (w : O.Wrote). get_or (map O.stated_bytes c.case.overs) w.call []) c.wrote

cases_scored : map bytes_there O.scorecard ≡ map scored_bytes O.scorecard
unfolding the_answers the_cases
cases_scored = refl

-- ---- a case holds on bytes, if the rule book plays it as stated, its records are heard as its calls, its answers are few, and the literal
-- bytes are theirs
pub record Plays (c : O.Scored) : Type 0 where
  pub holds : C.played (tree_paging compare 0 document_sizes) c.case ≡ C.stated c.case
  pub heard : map heard_as c.case.overs ≡ map legally c.case.overs
  pub few : all few_in c.case.overs ≡ true
  pub literally : bytes_there c ≡ scored_bytes c

pub plays_on_bytes : (c : O.Scored) → Plays c → (as' : List Sent) (bs : List Back) (p d : List ℕ) → O.Bowled c.case as' bs p d → O.Holds c as' bs p d
unfolding C.played_with C.stated
plays_on_bytes c y as' bs p d b =
    let os = c.case.overs in
    let r = run_from_fresh b.run in
    let e = r.0 ∙ backs_stated os as' (D.fresh book) b.records b.room y.heard (ap (λ (x : C.Outcome). x.answers) y.holds) in
    let written : map wrote bs ≡ map O.stated_bytes os = ap (map wrote) e ∙ backs_bytes os as' b.records b.room y.few in
    record {
      backs = e;
      bytes = written;
      literally = ap (λ l. map (λ (w : O.Wrote). get_or l w.call []) c.wrote) written ∙ y.literally;
      scene = ap (C.scene_of (tree_paging compare 0 document_sizes)) (r.2 ∙ calls_sent os as' (D.fresh book) b.records b.room y.heard)
          ∙ ap (λ (x : C.Outcome). x.scene) y.holds;
    }

-- ---- the claim
abbrev played_on : O.Scored → C.Outcome
played_on c = C.played (tree_paging compare 0 document_sizes) c.case

abbrev stated_on : O.Scored → C.Outcome
stated_on c = C.stated c.case

scorecard_holds : map played_on O.scorecard ≡ map stated_on O.scorecard
unfolding C.cases O.scorecard
scorecard_holds = cases_hold_in_pages.hold

pub all_hold_on_bytes : O.AllHoldOnBytes
unfolding C.cases O.scorecard the_answers
all_hold_on_bytes =
    record {
      how_many = refl;
      same = refl;
      each = λ c i. plays_on_bytes c (record {
        holds = map_each played_on stated_on O.scorecard c i scorecard_holds;
        heard = map_each (λ (x : O.Scored). map heard_as x.case.overs) (λ (x : O.Scored). map legally x.case.overs) O.scorecard c i records_heard;
        few = all_in _ O.scorecard c cases_few i;
        literally = map_each bytes_there scored_bytes O.scorecard c i cases_scored;
      });
      locks = refl;
      pages = refl;
    }
