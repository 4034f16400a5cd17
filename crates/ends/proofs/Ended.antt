-- The end of a transaction on a whole picture: the rule book's. The index is then settled in every leaf, which is all entries settled and the
-- tree without the keys taken out; the desk by the laws of `states`; the invariants by those of sound tables. Assumes nothing.
use Prim.Native.Nat.{ℕ, ◌≤◌, ◌<◌}
use mathlib.Core.Path.{◌≡◌, sym, ap, ap₂, ◌∙◌}
use mathlib.Core.Bool.{Bool, true, false, cond}
use mathlib.Core.List.{List}
use native.Mathlib.Omega.{arith}
use borrow.Author.Tests.{eqb-false, not-true, lt-ltb, le-ltb}
use lib.Dec.{ltb}
use lib.ListN.{get_or, set, length-set}
use lib.Seq.{get_or-set_other}
use Rattle.limits.specs.Limits.{transactions_most}
use Rattle.lists.proofs.Elements.{keep_in}
use Rattle.lists.proofs.Pairs.{pairs_keep}
use Rattle.rules.specs.Kinds.{idle}
use Rattle.rules.specs.Locks.{released}
use Rattle.rules.specs.Queue.{St, leave}
use Rattle.rules.specs.Runs.{En}
use Rattle.rules.specs.Desk.{is_running, runs, ended}
use Rattle.rules.specs.Good.{Good, other_asker}
use Rattle.rules.proofs.Orders.{numbers_ordered}
use Rattle.rules.proofs.Sound.{Settles, committed_settles, rolled_back_settles, sound_ended}
use Rattle.rules.proofs.Unblocked.{good_sound, good_queues}
use Rattle.rules.proofs.GoodKept.{sound_good}
use Rattle.pages.specs.PageChanges.{end_of}
use Rattle.queue.specs.QueueLayout.{queued, in_place, queue_of, marks_of}
use Rattle.locks.specs.SlotLayout.{slots_of}
use Rattle.locks.specs.SlotMoves.{locks_released}
use Rattle.queue.specs.QueueMoves.{waits_in, queue_left, mark_put}
use Rattle.queue.proofs.QueueBytes.{waits_there}
use Rattle.index.specs.Pictures.{index_of}
use Rattle.index.specs.Changes.{settled_in, Becomes}
use Rattle.index.proofs.EntriesIn.{entries_settled, shape_ended}
use Rattle.states.specs.States.{book, state_of}
use Rattle.states.specs.Whole.{Whole, Says}
use Rattle.states.specs.Fitting.{Fitting}
use Rattle.states.proofs.FitKept.{fit_marked, fit_released, fit_left}
use Rattle.states.proofs.EndDesk.{dropped, desk_ended}
use Rattle.states.proofs.TablesSay.{tables_say, whole_fits}

-- ---- the invariants, whether t waits or not
module _ (s : St book) (t : ℕ) (g : Good book s) (low : 1 ≤ t) where
  marked : (u : ℕ) → (u ≡ t → ⊥) → is_running (get_or (set s.marks t idle) u idle) ≡ runs book s u
  marked u o = ap is_running (get_or-set_other s.marks t u idle idle o)

  ended_good : (f : En book → En book) → Settles book f → Good book (ended book f s t)
  unfolding ended leave
  ended_good f c =
      sound_good book numbers_ordered (ended book f s t) (length-set s.marks t idle ∙ g.marks) (marked 0 (λ z. omega arith) ∙ g.nobody)
      (sound_ended book numbers_ordered (runs book s) (runs book (ended book f s t)) s.entries s.slots t f (λ z. omega arith) c others
      (good_sound book numbers_ordered s g))
      (record {
        askers = pairs_keep (other_asker book) _ s.queue g.askers;
        queued = λ q i.
            let k = keep_in _ s.queue q i in
            let w = (good_queues book s g).queued q k.0 in
            (others q.asker (eqb-false q.asker t (not-true _ k.1)) w.0, w.1);
      })
    where
      others : (u : ℕ) → (u ≡ t → ⊥) → runs book s u ≡ true → runs book (ended book f s t) u ≡ true
      others u o r = marked u o ∙ r

end_settles : (commits : Bool) → Settles book (end_of commits)
end_settles true = committed_settles book
end_settles false = rolled_back_settles book

-- ---- t's request dropped, if it has one
module _ (d : List ℕ) (t q n : ℕ) (a : q ≡ waits_in d t) (b : n ≡ queued d) where
  pub drop_asker : q < n → t ≤ transactions_most → in_place d q ≤ transactions_most
  drop_asker h l =
      let i : waits_in d t < queued d = omega arith in
      omega (arith, ap (in_place d) a, waits_there d t i)

  pub drop_there : (d₁ : List ℕ) → q < n → d₁ ≡ queue_left d q → d₁ ≡ dropped t d
  drop_there d₁ h e =
      let z : ltb (waits_in d t) (queued d) ≡ true = lt-ltb (waits_in d t) (queued d) (omega arith) in
      e ∙ ap (queue_left d) a ∙ ap (λ x. cond x (queue_left d (waits_in d t)) d) (sym z)

  pub drop_none : n ≤ q → d ≡ dropped t d
  drop_none h =
      let z : ltb (waits_in d t) (queued d) ≡ false = le-ltb (waits_in d t) (queued d) (omega arith) in
      ap (λ x. cond x (queue_left d (waits_in d t)) d) (sym z)

-- ---- the desk, move by move
pub stopped : (d d₁ d₂ : List ℕ) (t : ℕ) → d₁ ≡ locks_released t d → d₂ ≡ mark_put d₁ t false → d₂ ≡ mark_put (locks_released t d) t false
stopped d d₁ d₂ t e₁ e₂ = e₂ ∙ ap (λ x. mark_put x t false) e₁

-- ---- the whole
module _ (p d : List ℕ) (w : Whole p d) (t : ℕ) where
  fit : Fitting (slots_of d) (leave book t (queue_of d)) (marks_of d)
  fit = fit_left (whole_fits p d w) book.paging t

  pub end_says : (p' d₁ d' : List ℕ) (commits : Bool) → 1 ≤ t → t ≤ transactions_most → Becomes p' (settled_in commits t (index_of p))
      → d₁ ≡ dropped t d → d' ≡ mark_put (locks_released t d₁) t false → Says p' d' (ended book (end_of commits) (state_of p d) t)
  unfolding ended state_of
  end_says p' d₁ d' commits low high b e₁ e =
      let s = state_of p d in
      let ls = released book t (slots_of d) in
      let qs = leave book t (queue_of d) in
      let ms = set (marks_of d) t idle in
      tables_say p' b.whole ls qs ms (fit_marked (fit_released fit book.paging t) t idle low) d'
      (e ∙ ap (λ x. mark_put (locks_released t x) t false) e₁ ∙ ap (λ x. mark_put (locks_released t (dropped t x)) t false) w.desk
      ∙ desk_ended book.paging (slots_of d) (queue_of d) (marks_of d) (whole_fits p d w) t low high)
      (ended book (end_of commits) s t) (ended_good s t w.values low (end_of commits) (end_settles commits))
      (ap₂ (λ es ps. record { entries = es; pages = ps; slots = ls; queue = qs; marks = ms })
      (sym (entries_settled p p' commits t b)) (sym (shape_ended p p' commits t w.pages b)))
