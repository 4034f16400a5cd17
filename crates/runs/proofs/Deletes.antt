-- The run of a delete: X on the entry of its key, which is deleted if it is present; S on another target, and the key is absent.
-- By what the target is, by whether the lock is given and by whether the entry is a ghost. Assumes nothing.
use Prim.Native.Nat.{ℕ}
use Rattle.std.specs.Prelude as Code
use mathlib.Core.Path.{◌≡◌, refl, sym, ap, ap₂, subst, ◌∙◌}
use mathlib.Core.Bool.{Bool, true, cond, ◌&&◌}
use mathlib.Core.List.{List}
use mathlib.Core.Option.{Option, none, some}
use Rattle.rules.specs.Kinds.{S, X, on, Ask, delete}
use Rattle.rules.specs.Entries.{is_there, present, deleted}
use Rattle.rules.specs.Locks.{target, named, itself}
use Rattle.rules.specs.Runs.{done, nothing, locks_short, locked, delete_there, delete_as, run_on, run}
use Rattle.keys.specs.declared.Key.{Key}
use Rattle.entries.specs.declared.Entry as E
use Rattle.answers.specs.declared.Says as D
use Rattle.entries.specs.EntryMeaning.{book_entry, book_value}
use Rattle.answers.specs.AnswerMeaning.{book_says}
use Rattle.queue.specs.QueueLayout.{in_place, queued_at}
use Rattle.locks.specs.SlotLayout.{name_in, name_number}
use Rattle.locks.specs.SlotMoves.{lock_taken, lock_given}
use Rattle.queue.specs.QueueMoves.{queue_left}
use Rattle.index.specs.Pictures.{entries_in}
use Rattle.index.specs.Searches.{book_found}
use Rattle.states.specs.States.{book, state_of}
use Rattle.states.specs.Whole.{Whole}
use Rattle.runs.specs.RunsAt.{Clear, Ran}
use Rattle.runs.specs.Exchanges.{Exchanged}
use Rattle.runs.proofs.RunsSay.{Done, only_locked, acted, looked}
use Rattle.runs.proofs.Looks.{target_fits, target_name}
use Rattle.runs.proofs.EntryChanges.{one_changed, stands_in, stands_fits, stands_name}

module _ (p d : List ℕ) (w : Whole p d) (q : ℕ) (c : Clear p d q) (key : Key) (k : (queued_at d q).asks ≡ delete key.0) (t : ℕ) (a : t ≡ in_place d q)
    (found : Code.Option E.Entry) (f : book_found found ≡ target book (entries_in p) t (delete key.0)) (there : Code.Option E.Entry)
    (i : book_found there ≡ itself book key.0 (book_found found)) where
  goes : run book (state_of p d) (queued_at d q) ≡ delete_as book (state_of p d) t (named book (book_found found)) (book_found there)
  unfolding run run_on state_of queued_at
  goes =
      ap₂ (λ u y. run_on book (state_of p d) u y (target book (entries_in p) u y)) (sym a) k ∙ ap (run_on book (state_of p d) t (delete key.0)) (sym f)
      ∙ ap (delete_as book (state_of p d) t (named book (book_found found))) (sym i)

  -- the target is of another key, or the end
  pub delete_missing : there ≡ Code.None → (name : Key) → name.0 ≡ name_number (named book (book_found found)) → (d' : List ℕ) (b : Bool)
      → d' ≡ queue_left (lock_taken d t (name_in name.0) S) q → b ≡ lock_given d t (name_in name.0)
      → (x : D.Says) → book_says x ≡ cond b nothing locks_short → Ran p d p d' q (record { asker = t; says = x })
  unfolding delete_as
  delete_missing h name e d' b e₁ g x says =
      let n = named book (book_found found) in
      let is : name_in name.0 ≡ n = target_name p d w t (delete key.0) found f name e in
      looked p d w q c t a n S (target_fits p d w t (delete key.0) found f) nothing
      (goes ∙ ap (λ o. delete_as book (state_of p d) t n (book_found o)) h) d'
      (e₁ ∙ ap (λ y. queue_left (lock_taken d t y S) q) is) b x (g ∙ ap (lock_given d t) is) says

  -- the target is the entry of the key
  pub delete_there_lem : (e : E.Entry) → there ≡ Code.Some e → (d' : List ℕ) (b : Bool) → d' ≡ queue_left (lock_taken d t (name_in key.0) X) q
      → b ≡ lock_given d t (name_in key.0) → (p' : List ℕ) → Exchanged p p' (b && present (book_entry e)) (deleted t (book_entry e))
      → (x : D.Says) → book_says x ≡ cond b (cond (present (book_entry e)) done nothing) locks_short
      → Ran p d p' d' q (record { asker = t; says = x })
  unfolding delete_as delete_there
  delete_there_lem e h d' b e₁ g p' ex x says =
      let ask : Ask ℕ ℕ = delete key.0 in
      let n = stands_name p d w t ask found f key there i e h in
      acted p d w q c t a (on e.key.0) X (stands_fits p d w t ask found f key there i e h)
      (delete_there book (state_of p d) t (book_entry e) (book_value e.now))
      (goes ∙ ap (λ o. delete_as book (state_of p d) t (named book (book_found found)) (book_found o)) h) d'
      (e₁ ∙ ap (λ u. queue_left (lock_taken d t u X) q) n) p' b x (g ∙ ap (lock_given d t) n) (does (book_value e.now) refl)
      (λ o. (ex.kept (ap (λ u. u && present (book_entry e)) o), says ∙ ap (λ u. cond u (cond (present (book_entry e)) done nothing) locks_short) o))
    where
      does : (o : Option ℕ) → book_value e.now ≡ o → b ≡ true → Done p' (delete_there book (state_of p d) t (book_entry e) o) x
      does (some was) v l =
          one_changed p d w done x (says ∙ ap₂ (λ u o. cond u (cond (is_there o) done nothing) locks_short) l v) p' (book_entry e)
          (stands_in p d w t (delete key.0) found f key there i e h) (deleted t) refl (ex.changed (ap₂ (λ u o. u && is_there o) l v))
      does none v l =
          subst (λ s. Done s (locked book (state_of p d) nothing) x) (sym (ex.kept (ap₂ (λ u o. u && is_there o) l v)))
          (only_locked p d w nothing x (says ∙ ap₂ (λ u o. cond u (cond (is_there o) done nothing) locks_short) l v))
