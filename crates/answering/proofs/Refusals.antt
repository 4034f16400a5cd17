-- Numbers 13 to 15 on a whole picture: who runs and who waits is read from the desk's bytes, and the rest is the rule book's refusal, by the
-- kind of request. Assumes nothing.
use Prim.Native.Nat.{ℕ, ◌≤◌}
use Rattle.std.specs.Prelude as Code
use mathlib.Core.Path.{◌≡◌, sym, ap, ◌∙◌}
use mathlib.Core.Bool.{Bool, false}
use mathlib.Core.List.{List}
use Rattle.limits.specs.Limits.{transactions_most}
use Rattle.rules.specs.Runs.{runs_already, waits_already}
use Rattle.rules.specs.Desk.{runs, waits_now, if_so, unless_runs, refusal}
use Rattle.requests.specs.declared.Ask.{Ask}
use Rattle.requests.specs.declared.Request.{Request}
use Rattle.requests.specs.declared.Request.TheVariants.{Begin, Commit, Rollback, Asks}
use Rattle.requests.specs.RequestMeaning.{book_request}
use Rattle.queue.specs.QueueLayout.{is_running, is_waiting, queue_of, marks_of}
use Rattle.locks.specs.SlotLayout.{slots_of}
use Rattle.queue.proofs.MarkBytes.{running_is}
use Rattle.states.specs.States.{book, state_of}
use Rattle.states.proofs.Reading.{desk_waiting}
use Rattle.states.specs.Whole.{Whole}
use Rattle.states.proofs.TablesSay.{whole_fits}
use Rattle.answering.specs.Answering.{book_refusal}
use Rattle.answers.specs.declared.Says as CodeSays

module _ (p d : List ℕ) (w : Whole p d) (t : ℕ) (low : 1 ≤ t) (high : t ≤ transactions_most) where
  pub runs_is : is_running d t ≡ runs book (state_of p d) t
  unfolding state_of
  runs_is = sym (running_is d t low high)

  pub waits_is : is_waiting d t ≡ waits_now book (state_of p d) t
  unfolding state_of
  waits_is = ap (λ x. is_waiting x t) w.desk ∙ desk_waiting (slots_of d) (queue_of d) (marks_of d) (whole_fits p d w) t low high

  module _ (b e : Bool) (r : b ≡ is_running d t) (f : e ≡ is_waiting d t) (q : Request) (x : Code.Option CodeSays.Says) where
    pub begin_refusal : q ≡ Begin → book_refusal x ≡ if_so book b runs_already → book_refusal x ≡ refusal book (state_of p d) t (book_request q)
    unfolding refusal
    begin_refusal h k =
        k ∙ ap (λ z. if_so book z runs_already) (r ∙ runs_is) ∙ ap (λ z. refusal book (state_of p d) t (book_request z)) (sym h)

    free : book_refusal x ≡ unless_runs book b (if_so book e waits_already)
        → book_refusal x ≡ unless_runs book (runs book (state_of p d) t) (if_so book (waits_now book (state_of p d) t) waits_already)
    free k =
        k ∙ ap (λ z. unless_runs book z (if_so book e waits_already)) (r ∙ runs_is)
        ∙ ap (λ z. unless_runs book (runs book (state_of p d) t) (if_so book z waits_already)) (f ∙ waits_is)

    pub commit_refusal : q ≡ Commit → book_refusal x ≡ unless_runs book b (if_so book e waits_already)
        → book_refusal x ≡ refusal book (state_of p d) t (book_request q)
    unfolding refusal
    commit_refusal h k = free k ∙ ap (λ z. refusal book (state_of p d) t (book_request z)) (sym h)

    pub ask_refusal : (a : Ask) → q ≡ Asks a → book_refusal x ≡ unless_runs book b (if_so book e waits_already)
        → book_refusal x ≡ refusal book (state_of p d) t (book_request q)
    unfolding refusal
    ask_refusal a h k = free k ∙ ap (λ z. refusal book (state_of p d) t (book_request z)) (sym h)

    pub rollback_refusal : q ≡ Rollback → book_refusal x ≡ unless_runs book b (if_so book false waits_already)
        → book_refusal x ≡ refusal book (state_of p d) t (book_request q)
    unfolding refusal
    rollback_refusal h k =
        k ∙ ap (λ z. unless_runs book z (if_so book false waits_already)) (r ∙ runs_is) ∙ ap (λ z. refusal book (state_of p d) t (book_request z)) (sym h)
