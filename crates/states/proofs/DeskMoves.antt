-- The moves on the bytes that document 01 gives a desk, as equations of whole desks: each makes the desk of what the rule book's own
-- operation makes of the tables. A desk that says its tables is those bytes, and the moves keep that. Assumes of the tables that they fit.
use Prim.Native.Nat.{ℕ, ◌≤◌, ◌<◌}
use mathlib.Core.Path.{◌≡◌, refl, sym, ap, subst, ◌∙◌}
use mathlib.Core.Bool.{Bool, true, false, cond}
use mathlib.Core.List.{List, [], ◌∷◌, ◌++◌}
use mathlib.Core.Option.{Option, none, some}
use native.Mathlib.Omega.{arith}
use lib.Dec.{eqb}
use lib.ListN.{length, set}
use Rattle.limits.specs.Limits.{transactions_most}
use Rattle.lists.specs.Lists.{any, pairs}
use Rattle.lists.proofs.Tests.{never}
use Rattle.rules.specs.Kinds.{Ask, Queued, Mark, idle, running, Lock, Mode, Name, Paging}
use Rattle.rules.specs.Entries.{is_there}
use Rattle.rules.specs.Locks.{in_use, taken, released}
use Rattle.rules.specs.Queue.{leave}
use Rattle.rules.specs.Good.{together}
use Rattle.rules.specs.Document.{document}
use Rattle.locks.specs.SlotLayout.{name_number, slots_of}
use Rattle.locks.specs.SlotMoves.{lock_taken, lock_given, locks_released}
use Rattle.queue.specs.QueueMoves.{queue_joined, queue_left, mark_put}
use Rattle.locks.proofs.Takes.{taken_is, refused_same}
use Rattle.states.specs.States.{desk_with}
use Rattle.states.specs.Fitting.{NameFits, AskFits, Fitting}
use Rattle.states.proofs.DeskSays.{asker_in, Says}
use Rattle.states.proofs.ValuesFit.{name_small, name_read}
use Rattle.states.proofs.DeskBytes.{desk_says, desk_is}
use Rattle.states.proofs.Reading.{says_slots}
use Rattle.states.proofs.FitKept.{fit_taken, fit_released, fit_joined, fit_left}
use Rattle.states.proofs.MarkDesk.{says_marked}
use Rattle.states.proofs.LockDesk.{says_taken, says_released}
use Rattle.states.proofs.QueueDesk.{says_joined, says_left}

module _ (ls : List (Option (Lock ℕ))) (qs : List (Queued ℕ ℕ)) (ms : List Mark) (fit : Fitting ls qs ms) where
  abbrev desk : List ℕ
  desk = desk_with ls qs ms

  abbrev says : Says desk ls qs ms
  says = desk_says ls qs ms fit

  pub mark_put_lem : (t : ℕ) (b : Bool) → 1 ≤ t → t ≤ transactions_most → mark_put desk t b ≡ desk_with ls qs (set ms t (cond b running idle))
  mark_put_lem t b low high =
      desk_is ls qs (set ms t (cond b running idle)) fit.slots fit.few (mark_put desk t b) (says_marked fit says t b low high)

  -- a new request of a transaction that has none
  pub queue_joined_lem : (t : ℕ) (a : Ask ℕ ℕ) → any (λ q. eqb q.asker t) qs ≡ false → 1 ≤ t → t ≤ transactions_most → AskFits a
      → queue_joined desk t a ≡ desk_with ls (qs ++ (record { asker = t; asks = a } ∷ [])) ms
  queue_joined_lem t a new low high asks =
      desk_is ls (qs ++ (record { asker = t; asks = a } ∷ [])) ms fit.slots (fit_joined fit t a new low high asks).few (queue_joined desk t a)
      (says_joined fit says t a new low high asks)

  module _ (P : Paging ℕ) where
    pub queue_left_lem : (i : ℕ) → i < length qs → queue_left desk i ≡ desk_with ls (leave (document P) (asker_in qs i) qs) ms
    queue_left_lem i h =
        desk_is ls (leave (document P) (asker_in qs i) qs) ms fit.slots (fit_left fit P (asker_in qs i)).few (queue_left desk i) (says_left fit says P i h)

    pub locks_released_lem : (t : ℕ) → locks_released t desk ≡ desk_with (released (document P) t ls) qs ms
    locks_released_lem t = desk_is (released (document P) t ls) qs ms (fit_released fit P t).slots fit.few (locks_released t desk) (says_released fit says P t)

    -- ---- a lock: what the rule book gives, and what then stands in the bytes
    module _ (t : ℕ) (n : Name ℕ) (m : Mode) (low : 1 ≤ t) (high : t ≤ transactions_most) (name : NameFits n)
        (one : pairs (together (document P)) (in_use ls) ≡ true) where
      given : taken (document P) ls t n m ≡ cond (lock_given desk t n) (some (slots_of (lock_taken desk t n m))) none
      given =
          let slots = says_slots fit says in
          let is = taken_is P desk t (name_number n) m says.len (name_small n name) (omega arith) (omega arith)
          (subst (λ ks. pairs (together (document P)) (in_use ks) ≡ true) (sym slots) one) in
          subst (λ ks. taken (document P) ks t n m ≡ cond (lock_given desk t n) (some (slots_of (lock_taken desk t n m))) none) slots
          (subst (λ x. taken (document P) (slots_of desk) t x m ≡ cond (lock_given desk t x) (some (slots_of (lock_taken desk t x m))) none) (name_read n name) is)

      pub lock_given_lem : lock_given desk t n ≡ is_there (taken (document P) ls t n m)
      lock_given_lem = go (lock_given desk t n) ∙ ap is_there (sym given)
        where
          go : (b : Bool) → b ≡ is_there (cond b (some (slots_of (lock_taken desk t n m))) none)
          go true = refl
          go false = refl

      pub lock_taken_lem : (ks : List (Option (Lock ℕ))) → taken (document P) ls t n m ≡ some ks → lock_taken desk t n m ≡ desk_with ks qs ms
      lock_taken_lem ks e =
          desk_is ks qs ms (fit_taken fit P t n m ks low high name e).slots fit.few (lock_taken desk t n m)
          (subst (λ x. Says (lock_taken desk t n m) x qs ms) (go (lock_given desk t n) (sym given ∙ e))
          (says_taken fit says t n m (record { name = name; some = low; most = high })))
        where
          go : (b : Bool) → cond b (some (slots_of (lock_taken desk t n m))) none ≡ some ks → slots_of (lock_taken desk t n m) ≡ ks
          go true e = cc
          go false e = never (cc)

      pub lock_refused : taken (document P) ls t n m ≡ none → lock_taken desk t n m ≡ desk
      lock_refused e = refused_same desk t n m (lock_given_lem ∙ ap is_there e)
