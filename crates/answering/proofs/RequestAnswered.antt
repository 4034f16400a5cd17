-- One request answered on a whole picture: the acts of document 01 from the moves and the queue worked. The queue has room for the answers
-- since whoever is answered first is not in it, and whoever is told last that it waits still is. Assumes nothing.
use Prim.Native.Nat.{ℕ, ◌+◌, ◌*◌, ◌≤◌}
use Rattle.std.specs.Prelude as Code
use Rattle.circles.specs.declared.Blocker.{Blocker}
use Rattle.circles.specs.declared.Blocker.TheVariants as CV
use mathlib.Core.Path.{◌≡◌, refl, sym, ap, subst, ◌∙◌}
use mathlib.Core.Bool.{Bool, true, false, cond, not, true≢false}
use mathlib.Core.List.{List, [], ◌∷◌, ◌++◌}
use mathlib.Core.Option.{none, some, none-ne-some}
use native.Mathlib.Omega.{arith}
use borrow.Author.Tests.{eqb-true, not-true}
use lib.Dec.{eqb, lit<}
use lib.ListN.{length, get_or, length-append}
use Rattle.limits.specs.Limits.{transactions_most, answer_size, space_least}
use Rattle.lists.specs.Lists.{any}
use Rattle.lists.proofs.Tests.{and_left, and_right, fails}
use Rattle.lists.proofs.Elements.{any_in, keep_in}
use Rattle.rules.specs.Entries.{is_there}
use Rattle.rules.specs.Queue.{St, Q, blocker_of, leave}
use Rattle.rules.specs.Runs.{En, done, waiting, runs_already, runs_not, waits_already, Worked, worked}
use Rattle.rules.specs.Desk.{runs, waits_now, says, if_so, unless_runs, refusal, begun, ended, joined, after_done, waiting_at, waiting_last, acts, unless, step, is_transaction, legal_ask, legal_request, legal_call}
use Rattle.rules.proofs.Waits.{transaction_low, transaction_high, queued_runs}
use Rattle.rules.proofs.Chains.{rest_told}
use Rattle.circles.specs.InTheWay.{book_blocker, NextIn}
use Rattle.circles.proofs.RowBlockers.{row_blocker}
use Rattle.requests.specs.declared.Ask.{Ask}
use Rattle.requests.specs.declared.Request.{Request}
use Rattle.requests.specs.declared.Request.TheVariants.{Begin, Commit, Rollback, Asks}
use Rattle.requests.specs.declared.Call.{Call}
use Rattle.answers.specs.declared.Says as D
use Rattle.requests.specs.RequestMeaning.{book_ask, book_request, book_call}
use Rattle.answers.specs.AnswerMeaning.{book_says, book_answer}
use Rattle.answers.specs.AnswerRecord.{put_answer, written}
use Rattle.answers.proofs.AnswerPut.{length_put_answer}
use Rattle.answers.proofs.AnswersWritten.{written_append}
use Rattle.pages.specs.PageChanges.{end_of}
use Rattle.queue.specs.QueueLayout.{queued}
use Rattle.queue.specs.QueueMoves.{mark_put, queue_joined}
use Rattle.queue.proofs.QueueBytes.{length_queue}
use Rattle.states.specs.States.{book, state_of}
use Rattle.states.specs.Fitting.{AskFits}
use Rattle.states.specs.Whole.{Whole, Says}
use Rattle.states.proofs.TablesSay.{whole_few}
use Rattle.states.proofs.MovesSay.{begin_says, join_room, join_says}
use Rattle.turns.specs.Working.{Rested, RoomLeft, Wrote, worked_of}
use Rattle.calls.specs.Promise.{Answered, lent}
use Rattle.answering.specs.Answering.{last_of, book_refusal}

-- ---- done first, and then the queue
module _ (p d o : List ℕ) (t : ℕ) (o₁ : List ℕ) (e : o₁ ≡ put_answer o 0 (says book t done)) where
  pub done_room : Whole p d → space_least ≤ length o → 1 ≤ t → t ≤ transactions_most → waits_now book (state_of p d) t ≡ false
      → answer_size + answer_size * queued d ≤ length o₁
  done_room w h low high new =
      omega (arith, join_room p d w t low high new, ap length e ∙ length_put_answer o 0 (says book t done))

  pub done_wrote : (p' d' o' : List ℕ) (r : ℕ) → Wrote o₁ answer_size (worked_of p d) p' d' o' r → Wrote o 0 (after_done book t (worked_of p d)) p' d' o' r
  unfolding written
  done_wrote p' d' o' r h =
      record {
        says = h.says;
        answers = h.answers ∙ ap (λ x. written x answer_size (worked_of p d).answers) e;
        ends = let m = h.ends in omega arith;
      }

-- from a picture that says s the same is written as from s
pub said_wrote : (o p₁ d₁ : List ℕ) (t : ℕ) (s : St book) → Says p₁ d₁ s → (p' d' o' : List ℕ) (r : ℕ)
    → Wrote o 0 (after_done book t (worked_of p₁ d₁)) p' d' o' r → Wrote o 0 (after_done book t (worked book s)) p' d' o' r
said_wrote o p₁ d₁ t s is p' d' o' r = subst (λ x. Wrote o 0 (after_done book t (worked book x)) p' d' o' r) is.state

-- ---- begin: whoever does not run does not wait
module _ (p d : List ℕ) (w : Whole p d) (t : ℕ) (low : 1 ≤ t) (high : t ≤ transactions_most) (idle : runs book (state_of p d) t ≡ false)
    (d₁ : List ℕ) (e : d₁ ≡ mark_put d t true) where
  begun_says : Says p d₁ (begun book (state_of p d) t)
  begun_says = subst (λ x. Says p x (begun book (state_of p d) t)) (sym e) (begin_says p d w t low high idle)

  pub begun_whole : Whole p d₁
  begun_whole = begun_says.whole

  pub begun_waits : waits_now book (state_of p d₁) t ≡ false
  unfolding begun
  begun_waits =
      ap (λ s. waits_now book s t) begun_says.state
      ∙ fails (waits_now book (state_of p d) t) (λ h.
      let v = any_in (λ q. eqb q.asker t) (state_of p d).queue h in
      true≢false (sym (queued_runs book (state_of p d) w.values v.0 v.1) ∙ ap (runs book (state_of p d)) (eqb-true v.0.asker t v.2) ∙ idle))

  pub begun_wrote : (o p' d' o' : List ℕ) (r : ℕ) → Wrote o 0 (after_done book t (worked_of p d₁)) p' d' o' r
      → Wrote o 0 (after_done book t (worked book (begun book (state_of p d) t))) p' d' o' r
  begun_wrote o = said_wrote o p d₁ t (begun book (state_of p d) t) begun_says

-- ---- the end: its request has left the queue
pub ended_waits : (f : En book → En book) (s : St book) (t : ℕ) (p₁ d₁ : List ℕ) → Says p₁ d₁ (ended book f s t) → waits_now book (state_of p₁ d₁) t ≡ false
unfolding ended leave
ended_waits f s t p₁ d₁ is =
    ap (λ x. waits_now book x t) is.state
    ∙ fails (waits_now book (ended book f s t) t) (λ h.
    let v = any_in (λ q. eqb q.asker t) (leave book t s.queue) h in
    let k = keep_in (λ q. not (eqb q.asker t)) s.queue v.0 v.1 in
    true≢false (sym v.2 ∙ not-true (eqb v.0.asker t) k.1))

-- ---- a request that joins the queue
pub joined_says : (p d : List ℕ) → Whole p d → (t : ℕ) → 1 ≤ t → t ≤ transactions_most → runs book (state_of p d) t ≡ true
    → waits_now book (state_of p d) t ≡ false → (a : Ask) → legal_ask book (book_ask a) ≡ true → AskFits (book_ask a)
    → (d₁ : List ℕ) → d₁ ≡ queue_joined d t (book_ask a) → Says p d₁ (joined book (state_of p d) t (book_ask a))
joined_says p d w t low high goes new a legal fits d₁ e =
    subst (λ x. Says p x (joined book (state_of p d) t (book_ask a))) (sym e) (join_says p d w t (book_ask a) low high goes new legal fits)

-- ---- whether it is said that t waits
pub in_the_way : (p d : List ℕ) → Whole p d → (row : List ℕ) → Rested p d row → (t m : ℕ) (b : Blocker) → m ≡ get_or row t 0
    → NextIn m 1 (transactions_most + 1) b → book_blocker b ≡ blocker_of book (state_of p d) t
in_the_way p d w row r t m b e x =
    row_blocker book (state_of p d) w.values row r.rows.links t (transactions_most + 1) b (lit< tt) (subst (λ y. NextIn y 1 (transactions_most + 1) b) e x)

-- at rest who waits has somebody in the way
module _ (p d : List ℕ) (w : Whole p d) (row : List ℕ) (r : Rested p d row) (t : ℕ) (b : Blocker) (x : book_blocker b ≡ blocker_of book (state_of p d) t)
    (o : List ℕ) (end : ℕ) where
  last_is : last_of p d t ≡ record { state = state_of p d; answers = cond (is_there (book_blocker b)) (says book t (waiting (book_blocker b)) ∷ []) [] }
  unfolding last_of
  last_is =
      ap (λ y. record { state = state_of p d; answers = cond y (waiting_at book (state_of p d) t ∷ []) [] })
      (sym (rest_told book (state_of p d) w.values r.rest t))
      ∙ ap (λ y. record { state = state_of p d; answers = cond (is_there y) (says book t (waiting y) ∷ []) [] }) (sym x)

  pub last_none : b ≡ CV.Nobody → Wrote o end (last_of p d t) p d o end
  unfolding written
  last_none e =
      subst (λ y. Wrote o end y p d o end)
      (sym (last_is ∙ ap (λ y. record { state = state_of p d; answers = cond (is_there (book_blocker y)) (says book t (waiting (book_blocker y)) ∷ []) [] }) e))
      (record { says = record { whole = w; state = refl }; answers = refl; ends = omega arith })

  module _ (u : ℕ) (e : b ≡ CV.By u) where
    last_one : last_of p d t ≡ record { state = state_of p d; answers = says book t (waiting (some u)) ∷ [] }
    last_one = last_is ∙ ap (λ y. record { state = state_of p d; answers = cond (is_there (book_blocker y)) (says book t (waiting (book_blocker y)) ∷ []) [] }) e

    some_queued : (qs : List (Q book)) → any (λ q. eqb q.asker t) qs ≡ true → 1 ≤ length qs
    unfolding any
    some_queued [] h = absurd (true≢false (sym h))
    some_queued (q ∷ qs) h = omega arith

    pub last_room : RoomLeft d o end → end + answer_size ≤ length o
    unfolding state_of
    last_room h =
        let waits : waits_now book (state_of p d) t ≡ true =
        sym (rest_told book (state_of p d) w.values r.rest t) ∙ ap is_there (sym x) ∙ ap (λ y. is_there (book_blocker y)) e in
        let z = h.room in
        omega (arith, some_queued (state_of p d).queue waits, length_queue d)

    pub last_said : (o' : List ℕ) → o' ≡ put_answer o end (says book t (waiting (some u))) → Wrote o end (last_of p d t) p d o' (end + answer_size)
    unfolding written
    last_said o' k =
        subst (λ y. Wrote o end y p d o' (end + answer_size)) (sym last_one)
        (record { says = record { whole = w; state = refl }; answers = k; ends = omega arith })

-- ---- the queue worked, and what is said last of where it came to rest
module _ (p d : List ℕ) (t : ℕ) (o : List ℕ) where
  pub work_room : Whole p d → space_least ≤ length o → 0 + answer_size * queued d ≤ length o
  work_room w h = omega (arith, whole_few p d w)

  module _ (p₂ d₂ o₂ : List ℕ) (end : ℕ) (wrote : Wrote o 0 (worked_of p d) p₂ d₂ o₂ end) where
    abbrev xs : Worked book
    xs = worked_of p d

    last_same : (waiting_last book t xs).answers ≡ xs.answers ++ (last_of p₂ d₂ t).answers
    unfolding last_of
    last_same = ap (λ s. xs.answers ++ cond (waits_now book s t) (waiting_at book s t ∷ []) []) (sym wrote.says.state)

    more : length (waiting_last book t xs).answers ≡ length xs.answers + length (last_of p₂ d₂ t).answers
    more = ap length last_same ∙ length-append xs.answers (last_of p₂ d₂ t).answers

    pub waits_wrote : (o₃ : List ℕ) (r : ℕ) → Wrote o₂ end (last_of p₂ d₂ t) p₂ d₂ o₃ r → Wrote o 0 (waiting_last book t (worked_of p d)) p₂ d₂ o₃ r
    waits_wrote o₃ r l =
        let n = wrote.ends in
        let q = l.ends in
        record {
          says = wrote.says;
          answers =
              l.answers
              ∙ ap (λ x. written x end (last_of p₂ d₂ t).answers) wrote.answers
              ∙ ap (λ x. written (written o 0 xs.answers) x (last_of p₂ d₂ t).answers) n
              ∙ sym (ap (written o 0) last_same ∙ written_append o 0 xs.answers (last_of p₂ d₂ t).answers);
          ends = omega (arith, more);
        }

-- ---- the call taken apart
module _ (call : Call) (h : legal_call book (book_call call) ≡ true) where
  known : is_transaction book call.asker ≡ true
  known = and_left (is_transaction book call.asker) (legal_request book (book_request call.request)) h

  pub asker_low : 1 ≤ call.asker
  asker_low = transaction_low book call.asker known

  pub asker_high : call.asker ≤ transactions_most
  asker_high = transaction_high book call.asker known

  pub ask_legal : (a : Ask) → call.request ≡ Asks a → legal_ask book (book_ask a) ≡ true
  unfolding legal_request
  ask_legal a e =
      ap (λ x. legal_request book (book_request x)) (sym e)
      ∙ and_right (is_transaction book call.asker) (legal_request book (book_request call.request)) h

module _ (p d o : List ℕ) (call : Call) (x : Code.Option D.Says) (r : book_refusal x ≡ refusal book (state_of p d) call.asker (book_request call.request)) where
  abbrev s : St book
  s = state_of p d

  abbrev t : ℕ
  t = call.asker

  module _ (w : Whole p d) where
    pub refused_answered : (m : D.Says) → x ≡ Code.Some m → (o' : List ℕ) → o' ≡ put_answer o 0 (book_answer (record { asker = call.asker; says = m }))
        → Answered (book_call call) (lent p d o) (lent p d o') answer_size
    unfolding step written
    refused_answered m e o' k =
        let is : step book s t (book_request call.request) ≡ record { state = s; answers = says book t (book_says m) ∷ [] } =
        ap (unless book s t (acts book s t (book_request call.request))) (sym r ∙ ap book_refusal e) in
        record {
          whole = w;
          state = ap (λ (y : Worked book). y.state) (sym is);
          answers = k ∙ ap (λ (y : Worked book). written o 0 y.answers) (sym is);
          bytes = ap (λ (y : Worked book). answer_size * length y.answers) (sym is);
        }

  module _ (e : x ≡ Code.None) where
    not_refused_by : (q : Request) → call.request ≡ q → refusal book s t (book_request q) ≡ none
    not_refused_by q k = ap (λ y. refusal book s t (book_request y)) (sym k) ∙ sym r ∙ ap book_refusal e

    pub begin_idle : call.request ≡ Begin → runs book (state_of p d) call.asker ≡ false
    unfolding refusal
    begin_idle k = fails (runs book s t) (λ h. none-ne-some runs_already (sym (rw h at (not_refused_by Begin k))))

    goes_by : (b c : Bool) → unless_runs book b (if_so book c waits_already) ≡ none → (b ≡ true) × (c ≡ false)
    goes_by true false k = (refl, refl)
    goes_by true true k = absurd (none-ne-some waits_already (sym k))
    goes_by false c k = absurd (none-ne-some runs_not (sym k))

    pub ask_runs : (a : Ask) → call.request ≡ Asks a → runs book (state_of p d) call.asker ≡ true
    unfolding refusal
    ask_runs a k = (goes_by (runs book s t) (waits_now book s t) (not_refused_by (Asks a) k)).0

    pub ask_new : (a : Ask) → call.request ≡ Asks a → waits_now book (state_of p d) call.asker ≡ false
    unfolding refusal
    ask_new a k = (goes_by (runs book s t) (waits_now book s t) (not_refused_by (Asks a) k)).1

    module _ (p' d' o' : List ℕ) (n : ℕ) where
      acted : (q : Request) → call.request ≡ q → Wrote o 0 (acts book s t (book_request q)) p' d' o' n
          → Answered (book_call call) (lent p d o) (lent p' d' o') n
      unfolding step
      acted q k h =
          let is : step book s t (book_request call.request) ≡ acts book s t (book_request q) =
          ap (λ y. step book s t (book_request y)) k ∙ ap (unless book s t (acts book s t (book_request q))) (not_refused_by q k) in
          record {
            whole = h.says.whole;
            state = h.says.state ∙ ap (λ (y : Worked book). y.state) (sym is);
            answers = h.answers ∙ ap (λ (y : Worked book). written o 0 y.answers) (sym is);
            bytes = let m = h.ends in omega (arith, ap (λ (y : Worked book). length y.answers) is);
          }

      pub begin_answered : call.request ≡ Begin → Wrote o 0 (after_done book call.asker (worked book (begun book (state_of p d) call.asker))) p' d' o' n
          → Answered (book_call call) (lent p d o) (lent p' d' o') n
      unfolding acts
      begin_answered k h = acted Begin k h

      pub commit_answered : call.request ≡ Commit
          → Wrote o 0 (after_done book call.asker (worked book (ended book (end_of true) (state_of p d) call.asker))) p' d' o' n
          → Answered (book_call call) (lent p d o) (lent p' d' o') n
      unfolding acts
      commit_answered k h = acted Commit k h

      pub rollback_answered : call.request ≡ Rollback
          → Wrote o 0 (after_done book call.asker (worked book (ended book (end_of false) (state_of p d) call.asker))) p' d' o' n
          → Answered (book_call call) (lent p d o) (lent p' d' o') n
      unfolding acts
      rollback_answered k h = acted Rollback k h

      pub ask_answered : (a : Ask) → call.request ≡ Asks a
          → Wrote o 0 (waiting_last book call.asker (worked book (joined book (state_of p d) call.asker (book_ask a)))) p' d' o' n
          → Answered (book_call call) (lent p d o) (lent p' d' o') n
      unfolding acts
      ask_answered a k h = acted (Asks a) k h
