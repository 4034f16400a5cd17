-- The run of an insert where its key stands: S on the entry; a present one is told, and the asker's own ghost is present again.
-- By whether the lock is given and by whether the entry is a ghost. Assumes nothing.
use Prim.Native.Nat.{ℕ, compare}
use Rattle.std.specs.Prelude as Code
use mathlib.Core.Path.{◌≡◌, refl, sym, ap, ap₂, subst, ◌∙◌}
use mathlib.Core.Bool.{Bool, true, cond, not, ◌&&◌}
use mathlib.Core.List.{List}
use mathlib.Core.Option.{Option, none, some}
use Rattle.rules.specs.Kinds.{S, on, Ask, insert}
use Rattle.rules.specs.Entries.{is_there, ghost, revived}
use Rattle.rules.specs.Locks.{target, itself}
use Rattle.rules.specs.Runs.{Sy, done, is_present, locks_short, locked, insert_there, insert_as, run_on, run}
use Rattle.trees.specs.Growth.{missing}
use Rattle.keys.specs.declared.Key.{Key}
use Rattle.entries.specs.declared.Entry as E
use Rattle.answers.specs.declared.Says as D
use Rattle.entries.specs.EntryMeaning.{book_entry, book_value}
use Rattle.answers.specs.AnswerMeaning.{book_says}
use Rattle.queue.specs.QueueLayout.{in_place, queued_at}
use Rattle.locks.specs.SlotLayout.{name_in}
use Rattle.locks.specs.SlotMoves.{lock_taken, lock_given}
use Rattle.queue.specs.QueueMoves.{queue_left}
use Rattle.index.specs.Pictures.{key_of, entries_in}
use Rattle.index.specs.Searches.{book_found}
use Rattle.states.specs.States.{book, state_of}
use Rattle.states.specs.Whole.{Whole}
use Rattle.runs.specs.RunsAt.{Clear, Ran}
use Rattle.runs.specs.Exchanges.{Exchanged}
use Rattle.runs.proofs.Missing.{is_missing}
use Rattle.runs.proofs.RunsSay.{Done, only_locked, acted}
use Rattle.runs.proofs.EntryChanges.{one_changed, stands_in, stands_fits, stands_name}

module _ (p d : List ℕ) (w : Whole p d) (q : ℕ) (c : Clear p d q) (key : Key) (rec : ℕ) (k : (queued_at d q).asks ≡ insert key.0 rec) (t : ℕ)
    (a : t ≡ in_place d q) (found : Code.Option E.Entry) (f : book_found found ≡ target book (entries_in p) t (insert key.0 rec)) (there : Code.Option E.Entry)
    (i : book_found there ≡ itself book key.0 (book_found found)) where
  goes : run book (state_of p d) (queued_at d q) ≡ insert_as book (state_of p d) t key.0 rec (book_found there)
  unfolding run run_on state_of queued_at
  goes =
      ap₂ (λ u y. run_on book (state_of p d) u y (target book (entries_in p) u y)) (sym a) k
      ∙ ap (run_on book (state_of p d) t (insert key.0 rec)) (sym f) ∙ ap (insert_as book (state_of p d) t key.0 rec) (sym i)

  -- the key is missing where its entry is not found
  pub insert_missing : there ≡ Code.None → missing compare key_of key.0 (entries_in p) ≡ true
  insert_missing h = is_missing p d w key.0 t rec there (i ∙ ap (itself book key.0) f) h

  pub insert_there_lem : (e : E.Entry) → there ≡ Code.Some e → (d' : List ℕ) (b : Bool) → d' ≡ queue_left (lock_taken d t (name_in key.0) S) q
      → b ≡ lock_given d t (name_in key.0) → (p' : List ℕ) → Exchanged p p' (b && ghost (book_entry e)) (revived t rec (book_entry e))
      → (x : D.Says) → book_says x ≡ cond b (cond (ghost (book_entry e)) done (is_present e.key.0 (book_value e.now))) locks_short
      → Ran p d p' d' q (record { asker = t; says = x })
  unfolding insert_as insert_there
  insert_there_lem e h d' b e₁ g p' ex x says =
      let ask : Ask ℕ ℕ = insert key.0 rec in
      let n = stands_name p d w t ask found f key there i e h in
      acted p d w q c t a (on e.key.0) S (stands_fits p d w t ask found f key there i e h)
      (insert_there book (state_of p d) t rec (book_entry e) (book_value e.now))
      (goes ∙ ap (λ o. insert_as book (state_of p d) t key.0 rec (book_found o)) h) d'
      (e₁ ∙ ap (λ u. queue_left (lock_taken d t u S) q) n) p' b x (g ∙ ap (lock_given d t) n) (does (book_value e.now) refl)
      (λ o. (ex.kept (ap (λ u. u && ghost (book_entry e)) o), says ∙ ap (λ u. told u (book_value e.now)) o))
    where
      told : Bool → Option ℕ → Sy book
      told u o = cond u (cond (not (is_there o)) done (is_present e.key.0 o)) locks_short

      does : (o : Option ℕ) → book_value e.now ≡ o → b ≡ true → Done p' (insert_there book (state_of p d) t rec (book_entry e) o) x
      does (some was) v l =
          let m = is_present e.key.0 (some was) in
          subst (λ s. Done s (locked book (state_of p d) m) x) (sym (ex.kept (ap₂ (λ u o. u && not (is_there o)) l v)))
          (only_locked p d w m x (says ∙ ap₂ told l v))
      does none v l =
          one_changed p d w done x (says ∙ ap₂ told l v) p' (book_entry e)
          (stands_in p d w t (insert key.0 rec) found f key there i e h) (revived t rec) refl (ex.changed (ap₂ (λ u o. u && not (is_there o)) l v))
