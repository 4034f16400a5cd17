-- The run of a read: the lock on what it finds, and the answer by whether that lies within its bounds.
-- The search is the rule book's target; a name read from bytes is that of an entry or the end. Assumes nothing.
use Prim.Native.Nat.{ℕ}
use Rattle.std.specs.Prelude as Code
use mathlib.Core.Path.{◌≡◌, sym, ap, ap₂, subst, ◌∙◌}
use mathlib.Core.Bool.{Bool, cond}
use mathlib.Core.List.{List}
use Rattle.rules.specs.Kinds.{S, Ask, read}
use Rattle.rules.specs.Locks.{target, named}
use Rattle.rules.specs.Runs.{locks_short, locked, taking, read_says, run_on, run}
use Rattle.keys.specs.declared.Key.{Key}
use Rattle.entries.specs.declared.Entry as E
use Rattle.answers.specs.declared.Says as D
use Rattle.answers.specs.AnswerMeaning.{book_says}
use Rattle.queue.specs.QueueLayout.{in_place, queued_at}
use Rattle.locks.specs.SlotLayout.{name_in, name_number}
use Rattle.locks.specs.SlotMoves.{lock_taken, lock_given}
use Rattle.queue.specs.QueueMoves.{queue_left}
use Rattle.index.specs.Pictures.{entries_in}
use Rattle.index.specs.Searches.{book_found}
use Rattle.states.specs.States.{book, state_of}
use Rattle.states.specs.Whole.{Whole}
use Rattle.states.specs.Fitting.{NameFits}
use Rattle.states.proofs.ValuesFit.{name_read}
use Rattle.waits.proofs.Wants.{named_fits}
use Rattle.runs.specs.RunsAt.{Clear, Ran}
use Rattle.runs.proofs.RunsSay.{looked}

-- ---- a target's name is within its width
module _ (p d : List ℕ) (w : Whole p d) (t : ℕ) (ask : Ask ℕ ℕ) (found : Code.Option E.Entry) (f : book_found found ≡ target book (entries_in p) t ask) where
  pub target_fits : NameFits (named book (book_found found))
  unfolding state_of
  target_fits = subst (λ o. NameFits (named book o)) (sym f) (named_fits (entries_in p) w.values.keys t ask)

  pub target_name : (name : Key) → name.0 ≡ name_number (named book (book_found found)) → name_in name.0 ≡ named book (book_found found)
  target_name name e = ap name_in e ∙ name_read (named book (book_found found)) target_fits

-- ---- the read
pub read_ran : (p d : List ℕ) (w : Whole p d) (q : ℕ) (c : Clear p d q) (lo hi : Key) → (queued_at d q).asks ≡ read lo.0 hi.0
    → (t : ℕ) (a : t ≡ in_place d q) (found : Code.Option E.Entry) → book_found found ≡ target book (entries_in p) t (read lo.0 hi.0)
    → (name : Key) → name.0 ≡ name_number (named book (book_found found)) → (d' : List ℕ) (b : Bool) → d' ≡ queue_left (lock_taken d t (name_in name.0) S) q
    → b ≡ lock_given d t (name_in name.0) → (x y : D.Says) → book_says y ≡ read_says book hi.0 (book_found found) → book_says x ≡ cond b (book_says y) locks_short
    → Ran p d p d' q (record { asker = t; says = x })
unfolding run run_on state_of queued_at
read_ran p d w q c lo hi k t a found f name e d' b e₁ g x y tells says =
    let n = named book (book_found found) in
    let ask : Ask ℕ ℕ = read lo.0 hi.0 in
    let is : name_in name.0 ≡ n = target_name p d w t ask found f name e in
    let goes : run book (state_of p d) (queued_at d q) ≡ taking book (state_of p d) t n S (locked book (state_of p d) (read_says book hi.0 (book_found found))) =
    ap₂ (λ u y. run_on book (state_of p d) u y (target book (entries_in p) u y)) (sym a) k ∙ ap (run_on book (state_of p d) t ask) (sym f) in
    looked p d w q c t a n S (target_fits p d w t ask found f) (read_says book hi.0 (book_found found)) goes d'
    (e₁ ∙ ap (λ y. queue_left (lock_taken d t y S) q) is) b x (g ∙ ap (lock_given d t) is) (says ∙ ap (λ z. cond b z locks_short) tells)
