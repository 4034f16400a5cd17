-- A run on a whole picture, from what the code does: a lock taken, the pages perhaps changed, the request taken from the queue.
-- What the rule book's run comes to is told by whether the lock is given; the desk by the laws of `states`. Assumes nothing.
use Prim.Native.Nat.{ℕ, ◌≤◌, ◌<◌}
use mathlib.Core.Path.{◌≡◌, refl, sym, ap, ap₂, subst, ◌∙◌}
use mathlib.Core.Bool.{Bool, true, false, cond}
use mathlib.Core.List.{List}
use mathlib.Core.Option.{Option, none, some}
use native.Mathlib.Omega.{arith}
use Rattle.limits.specs.Limits.{transactions_most}
use Rattle.lists.proofs.Elements.{in_tab}
use Rattle.rules.specs.Kinds.{Mode, Name}
use Rattle.rules.specs.Entries.{is_there}
use Rattle.rules.specs.Locks.{Slots, taken}
use Rattle.rules.specs.Queue.{leave}
use Rattle.rules.specs.Runs.{Sy, locks_short, Ran, unmoved, locked, given, taking, left, run}
use Rattle.trees.specs.Shapes.{shape}
use Rattle.answers.specs.declared.Says as S
use Rattle.answers.specs.AnswerMeaning.{book_says}
use Rattle.queue.specs.QueueLayout.{queued, in_place, queued_at, queue_of, marks_of}
use Rattle.locks.specs.SlotLayout.{slots_of}
use Rattle.locks.specs.SlotMoves.{lock_taken, lock_given}
use Rattle.queue.specs.QueueMoves.{queue_left}
use Rattle.queue.proofs.QueueBytes.{length_queue}
use Rattle.index.specs.Pictures.{key_of, index_of, entries_in, WholePages}
use Rattle.states.specs.States.{book, state_of, desk_with}
use Rattle.states.specs.Whole.{Whole, Says}
use Rattle.states.specs.Fitting.{NameFits, QueuedFits, Fitting}
use Rattle.states.proofs.FitKept.{fit_taken, fit_left}
use Rattle.states.proofs.DeskMoves.{queue_left_lem, lock_given_lem, lock_taken_lem, lock_refused}
use Rattle.runs.specs.RunsAt as A
use Rattle.states.proofs.TablesSay.{tables_say, whole_fits, whole_few}
use Rattle.states.proofs.PlacesWait.{place_waits}
use Rattle.states.proofs.MovesSay.{kept, place_asker}

-- ---- what is done with the lock
pub record Done (p' : List ℕ) (f : Slots book → Ran book) (x : S.Says) : Type 0 where
  pub whole : WholePages p'
  pub slots : (ks : Slots book) → (f ks).slots ≡ ks
  pub entries : (ks : Slots book) → entries_in p' ≡ (f ks).entries
  pub pages : (ks : Slots book) → shape key_of (index_of p') ≡ (f ks).pages
  pub says : (ks : Slots book) → book_says x ≡ (f ks).says

pub only_locked : (p d : List ℕ) → Whole p d → (m : Sy book) (x : S.Says) → book_says x ≡ m → Done p (locked book (state_of p d) m) x
unfolding state_of
only_locked p d w m x h = record { whole = w.pages; slots = λ ks. refl; entries = λ ks. refl; pages = λ ks. refl; says = λ ks. h }

-- ---- a run that takes a lock goes by whether it is given
pub goes_if : (p d : List ℕ) (q t : ℕ) (n : Name ℕ) (m : Mode) (f : Slots book → Ran book)
    → run book (state_of p d) (queued_at d q) ≡ taking book (state_of p d) t n m f → (o : Option (Slots book)) → taken book (slots_of d) t n m ≡ o
    → run book (state_of p d) (queued_at d q) ≡ given book (state_of p d) f o
unfolding state_of
goes_if p d q t n m f goes o h = goes ∙ ap (given book (state_of p d) f) h

-- ---- on a whole picture, where nobody blocks
module _ (p d : List ℕ) (w : Whole p d) (q : ℕ) (c : A.Clear p d q) where
  fit : Fitting (slots_of d) (queue_of d) (marks_of d)
  fit = whole_fits p d w

  pub asker_fits : QueuedFits (queued_at d q)
  unfolding queue_of
  asker_fits = fit.queued (queued_at d q) (in_tab (queued d) 0 (queued_at d) q (omega arith) (let h = c.inside in omega arith))

  pub clear_place : q < transactions_most
  clear_place = let h = c.inside in omega (arith, whole_few p d w)

  module _ (t : ℕ) (a : t ≡ in_place d q) where
    clear_low : 1 ≤ t
    unfolding queued_at
    clear_low = let h = asker_fits.some in omega arith

    pub clear_high : t ≤ transactions_most
    unfolding queued_at
    clear_high = let h = asker_fits.most in omega arith

  -- ---- the state that a run leaves
  pub ran_says : (p' : List ℕ) → WholePages p' → (r : Ran book) → run book (state_of p d) (queued_at d q) ≡ r
      → entries_in p' ≡ r.entries → shape key_of (index_of p') ≡ r.pages → Fitting r.slots (queue_of d) (marks_of d)
      → (d₁ d₂ : List ℕ) → d₁ ≡ desk_with r.slots (queue_of d) (marks_of d) → d₂ ≡ queue_left d₁ q → Says p' d₂ (A.ran_at p d q).state
  unfolding A.ran_at state_of
  ran_says p' pages r e es ps f d₁ d₂ e₁ e₂ =
      let s = state_of p d in
      let t = (queued_at d q).asker in
      let h = c.inside in
      tables_say p' pages r.slots (leave book t (queue_of d)) (marks_of d) (fit_left f book.paging t) d₂
      (e₂ ∙ ap (λ x. queue_left x q) e₁ ∙ queue_left_lem r.slots (queue_of d) (marks_of d) f book.paging q (omega (arith, length_queue d))
      ∙ ap (λ u. desk_with r.slots (leave book u (queue_of d)) (marks_of d)) (place_asker p d w q h))
      (left book s (queued_at d q) (run book s (queued_at d q))).state
      (kept.goes s _ (place_waits p d q h) c.nobody w.values)
      (ap (λ x. (left book s (queued_at d q) x).state) e
      ∙ ap₂ (λ x y. record { entries = x; pages = y; slots = r.slots; queue = leave book t (queue_of d); marks = marks_of d }) (sym es) (sym ps))

  -- ---- a run that takes a lock
  module _ (t : ℕ) (a : t ≡ in_place d q) (n : Name ℕ) (m : Mode) (name : NameFits n) where
    pub given_if : (o : Option (Slots book)) → taken book (slots_of d) t n m ≡ o → lock_given d t n ≡ is_there o
    unfolding state_of
    given_if o h =
        ap (λ x. lock_given x t n) w.desk
        ∙ lock_given_lem (slots_of d) (queue_of d) (marks_of d) fit book.paging t n m (clear_low t a) (clear_high t a) name w.values.modes ∙ ap is_there h

    module _ (f : Slots book → Ran book) (goes : run book (state_of p d) (queued_at d q) ≡ taking book (state_of p d) t n m f) (d' : List ℕ)
        (e : d' ≡ queue_left (lock_taken d t n m) q) where
      -- no lock: 17, and nothing changed
      pub refused : (x : S.Says) → taken book (slots_of d) t n m ≡ none → book_says x ≡ locks_short → A.Ran p d p d' q (record { asker = t; says = x })
      unfolding A.ran_at state_of queued_at
      refused x h says =
          let r = goes_if p d q t n m f goes none h in
          record {
            says = ran_says p w.pages (unmoved book (state_of p d) locks_short) r refl refl fit (lock_taken d t n m) d'
                (ap (λ y. lock_taken y t n m) w.desk
                ∙ lock_refused (slots_of d) (queue_of d) (marks_of d) fit book.paging t n m (clear_low t a) (clear_high t a) name w.values.modes h)
                e;
            answer = ap₂ (λ u y. record { asker = u; says = y }) a (says ∙ ap (λ (y : Ran book). y.says) (sym r));
          }

      -- the lock given, and the pages those that the run makes
      pub granted : (ks : Slots book) (p' : List ℕ) (x : S.Says) → taken book (slots_of d) t n m ≡ some ks → WholePages p' → (f ks).slots ≡ ks
          → entries_in p' ≡ (f ks).entries → shape key_of (index_of p') ≡ (f ks).pages → book_says x ≡ (f ks).says
          → A.Ran p d p' d' q (record { asker = t; says = x })
      unfolding A.ran_at state_of queued_at
      granted ks p' x h pages same es ps says =
          let r = goes_if p d q t n m f goes (some ks) h in
          record {
            says = ran_says p' pages (f ks) r es ps
                (subst (λ ls. Fitting ls (queue_of d) (marks_of d)) (sym same) (fit_taken fit book.paging t n m ks (clear_low t a) (clear_high t a) name h))
                (lock_taken d t n m) d'
                (ap (λ y. lock_taken y t n m) w.desk
                ∙ lock_taken_lem (slots_of d) (queue_of d) (marks_of d) fit book.paging t n m (clear_low t a) (clear_high t a) name w.values.modes ks h
                ∙ ap (λ ls. desk_with ls (queue_of d) (marks_of d)) (sym same))
                e;
            answer = ap₂ (λ u y. record { asker = u; says = y }) a (says ∙ ap (λ (y : Ran book). y.says) (sym r));
          }

      pub acted : (p' : List ℕ) (b : Bool) (x : S.Says) → b ≡ lock_given d t n → (b ≡ true → Done p' f x)
          → (b ≡ false → (p' ≡ p) × (book_says x ≡ locks_short)) → A.Ran p d p' d' q (record { asker = t; says = x })
      acted p' b x g does short = go (taken book (slots_of d) t n m) refl
        where
          go : (o : Option (Slots book)) → taken book (slots_of d) t n m ≡ o → A.Ran p d p' d' q (record { asker = t; says = x })
          go none h =
              let z = short (g ∙ given_if none h) in
              subst (λ s. A.Ran p d s d' q (record { asker = t; says = x })) (sym z.0) (refused x h z.1)
          go (some ks) h =
              let z = does (g ∙ given_if (some ks) h) in
              granted ks p' x h z.whole (z.slots ks) (z.entries ks) (z.pages ks) (z.says ks)

    -- a lock and no more
    pub looked : (m' : Sy book) → run book (state_of p d) (queued_at d q) ≡ taking book (state_of p d) t n m (locked book (state_of p d) m')
        → (d' : List ℕ) → d' ≡ queue_left (lock_taken d t n m) q → (b : Bool) (x : S.Says) → b ≡ lock_given d t n → book_says x ≡ cond b m' locks_short
        → A.Ran p d p d' q (record { asker = t; says = x })
    looked m' goes d' e b x g says =
        acted (locked book (state_of p d) m') goes d' e p b x g (λ h. only_locked p d w m' x (says ∙ ap (λ z. cond z m' locks_short) h))
        (λ h. (refl, says ∙ ap (λ z. cond z m' locks_short) h))
