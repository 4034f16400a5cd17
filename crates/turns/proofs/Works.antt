-- The queue worked turn by turn: what is written of the whole is what is written so far and what the rest will write. Each turn takes one
-- request off the queue, so there is room for the rest, and it ends. Assumes nothing.
use Prim.Native.Nat.{ℕ, suc, ◌+◌, ◌*◌, ◌≤◌, ◌<◌}
use Rattle.std.specs.Prelude as Code
use mathlib.Core.Path.{◌≡◌, sym, ap, subst, ◌∙◌}
use mathlib.Core.List.{List, ◌∷◌}
use mathlib.Core.Option.{some}
use native.Mathlib.Omega.{arith}
use lib.ListN.{length}
use Rattle.limits.specs.Limits.{answer_size}
use Rattle.rules.specs.Queue.{St}
use Rattle.rules.specs.Runs.{Worked, turn}
use Rattle.rules.proofs.Rest.{turn_takes_one, worked_turn, worked_done}
use Rattle.answers.specs.declared.Answer.{Answer}
use Rattle.answers.specs.AnswerMeaning.{book_answer}
use Rattle.answers.specs.AnswerRecord.{put_answer, written}
use Rattle.answers.proofs.AnswerPut.{length_put_answer}
use Rattle.queue.specs.QueueLayout.{queued}
use Rattle.queue.proofs.QueueBytes.{length_queue}
use Rattle.states.specs.States.{book, state_of}
use Rattle.states.specs.Whole.{Whole}
use Rattle.turns.specs.Working.{Wrote, worked_of, RoomLeft, book_turn, StillAt, Turns}

-- ---- a turn takes one request off the queue
module _ (p d p' d' row : List ℕ) (w : Whole p d) (x : Code.Option Answer) (h : Turns p d p' d' row x) (a : Answer) (e : x ≡ Code.Some a) where
  turn_is : turn book (state_of p d) ≡ some (record { state = state_of p' d'; answer = book_answer a })
  turn_is = subst (λ y. turn book (state_of p d) ≡ book_turn (state_of p' d') y) e h.turned

  takes_one : suc (queued d') ≡ queued d
  unfolding state_of
  takes_one = omega (arith, turn_takes_one book (state_of p d) _ w.values.askers turn_is, length_queue d, length_queue d')

  goes_on_lem : worked_of p d ≡ record { state = (worked_of p' d').state; answers = book_answer a ∷ (worked_of p' d').answers }
  goes_on_lem = worked_turn book (state_of p d) _ turn_is

-- ---- between two turns: from o₀ at `from`, the answers end at `end` of o
pub record Left (p₀ d₀ o₀ : List ℕ) (from : ℕ) (p d o : List ℕ) (end : ℕ) : Type 0 where
  pub whole : Whole p d
  pub room : end + answer_size * queued d ≤ length o
  pub state : (worked_of p₀ d₀).state ≡ (worked_of p d).state
  pub answers : written o₀ from (worked_of p₀ d₀).answers ≡ written o end (worked_of p d).answers
  pub ends : from + answer_size * length (worked_of p₀ d₀).answers ≡ end + answer_size * length (worked_of p d).answers

module _ (p₀ d₀ o₀ : List ℕ) (from : ℕ) (p d o : List ℕ) (end : ℕ) (l : Left p₀ d₀ o₀ from p d o end) (p' d' row : List ℕ) (x : Code.Option Answer)
    (h : Turns p d p' d' row x) where
  module _ (a : Answer) (e : x ≡ Code.Some a) where
    one : suc (queued d') ≡ queued d
    one = takes_one p d p' d' row l.whole x h a e

    pub left_room : end + answer_size ≤ length o
    left_room = let r = l.room in omega (arith, one)

    pub left_less : queued d' < queued d
    left_less = omega (arith, one)

    pub left_turn : (o' : List ℕ) → o' ≡ put_answer o end (book_answer a) → Left p₀ d₀ o₀ from p' d' o' (end + answer_size)
    unfolding written
    left_turn o' k =
        let on = goes_on_lem p d p' d' row l.whole x h a e in
        let n : length (worked_of p d).answers ≡ suc (length (worked_of p' d').answers) = ap (λ (y : Worked book). length y.answers) on in
        let z : length o' ≡ length o = ap length k ∙ length_put_answer o end (book_answer a) in
        record {
          whole = h.whole;
          room = let r = l.room in omega (arith, one, z);
          state = l.state ∙ ap (λ (y : Worked book). y.state) on;
          answers =
              l.answers ∙ ap (λ (y : Worked book). written o end y.answers) on
              ∙ ap (λ y. written y (end + answer_size) (worked_of p' d').answers) (sym k);
          ends = let m = l.ends in omega (arith, n);
        }

  module _ (e : x ≡ Code.None) where
    still : state_of p' d' ≡ state_of p d
    still = subst (λ y. StillAt y (state_of p d) (state_of p' d')) e h.still

    pub left_done : Wrote o₀ from (worked_of p₀ d₀) p' d' o end
    unfolding written
    left_done =
        let rests = worked_done book (state_of p d) (subst (λ y. turn book (state_of p d) ≡ book_turn (state_of p' d') y) e h.turned) in
        let n : length (worked_of p d).answers ≡ 0 = ap (λ (y : Worked book). length y.answers) rests in
        record {
          says = record {
            whole = h.whole;
            state = still ∙ sym (l.state ∙ ap (λ (y : Worked book). y.state) rests);
          };
          answers = sym (l.answers ∙ ap (λ (y : Worked book). written o end y.answers) rests);
          ends = let m = l.ends in omega (arith, n);
        }

    pub left_space : RoomLeft d' o end
    unfolding state_of
    left_space =
        let r = l.room in
        record { room = omega (arith, sym (length_queue d') ∙ ap (λ (s : St book). length s.queue) still ∙ length_queue d) }
