-- Values that fit a desk: the numbers of a slot, of a request and of a record are within their widths, and a slot and a request are read
-- back from their numbers. By the cases of the value. Assumes nothing.
use Prim.Native.Nat.{ℕ, zero, suc, ◌^◌, ◌<◌}
use mathlib.Core.Path.{◌≡◌, refl, ap, ◌∙◌}
use mathlib.Core.Logic.{inl, inr}
use mathlib.Core.Bool.{Bool, true, not}
use mathlib.Core.List.{List, [], ◌∷◌, ◌++◌}
use mathlib.Core.Option.{Option, none, some}
use native.Mathlib.Omega.{arith}
use borrow.Author.Tests.{eq-eqb, not-true}
use lib.Dec.{eqb, lit<}
use lib.ListN.{get_or}
use Rattle.limits.specs.Limits.{key_size}
use Rattle.lists.specs.Lists.{In, first, pairs}
use Rattle.lists.proofs.Tests.{first_hit, first_miss}
use Rattle.lists.proofs.Elements.{first_in, all_in}
use Rattle.lists.proofs.Pairs.{pairs_head, pairs_tail}
use Rattle.numbers.specs.Numbers.{Fits}
use Rattle.rules.specs.Kinds.{Ask, read, insert, delete, Queued, Mark, idle, running, Name, on, end, Lock}
use Rattle.rules.specs.Locks.{in_use}
use Rattle.queue.specs.QueueLayout.{record_widths, ask_widths, ask_fields, ask_in}
use Rattle.locks.specs.SlotLayout.{lock_widths, name_in, name_number, slot_in, slot_fields}
use Rattle.locks.proofs.SlotBack.{name_there, slot_there}
use Rattle.locks.proofs.SlotBytes.{mode_fits}
use Rattle.states.specs.States.{waiting_fields, mark_number}
use Rattle.states.specs.Fitting.{NameFits, AskFits, LockFits, QueuedFits}
use Rattle.states.proofs.DeskSays.{record_fields}

-- ---- slots
abbrev pub SlotFits : Option (Lock ℕ) → Type 0
SlotFits none = Unit {0}
SlotFits (some l) = LockFits l

pub slot_of : (ls : List (Option (Lock ℕ))) → ((l : Lock ℕ) → In l (in_use ls) → LockFits l) → (i : ℕ) → SlotFits (get_or ls i none)
unfolding in_use
slot_of [] f i = tt
slot_of (none ∷ ls) f zero = tt
slot_of (none ∷ ls) f (suc i) = slot_of ls f i
slot_of (some l ∷ ls) f zero = f l (inl refl)
slot_of (some l ∷ ls) f (suc i) = slot_of ls (λ k j. f k (inr j)) i

pub name_small : (n : Name ℕ) → NameFits n → name_number n < 256 ^ key_size
name_small (on k) h = omega arith
name_small end h = lit< tt

pub slot_fits : (x : Option (Lock ℕ)) → SlotFits x → Fits lock_widths (slot_fields x)
unfolding slot_fields
slot_fits none f = (lit< tt, (lit< tt, (lit< tt, (lit< tt, tt))))
slot_fits (some l) f = (name_small l.name f.name, (omega (arith, f.most), (mode_fits l.mode, (lit< tt, tt))))

pub name_read : (n : Name ℕ) → NameFits n → name_in (name_number n) ≡ n
name_read (on k) h = name_there k (omega arith)
name_read end h = refl

pub slot_read : (x : Option (Lock ℕ)) → SlotFits x → slot_in (slot_fields x) ≡ x
unfolding slot_in slot_fields
slot_read none f = refl
slot_read (some l) f = slot_there l (omega (arith, f.some)) (name_read l.name f.name)

-- ---- requests and records
pub ask_fits : (a : Ask ℕ ℕ) → AskFits a → Fits ask_widths (ask_fields a)
unfolding ask_fields
ask_fits (read lo hi) f = (lit< tt, (lit< tt, (omega arith, (omega arith, tt))))
ask_fits (insert k r) f = (lit< tt, (omega arith, (omega arith, (lit< tt, tt))))
ask_fits (delete k) f = (lit< tt, (lit< tt, (omega arith, (lit< tt, tt))))

waiting_fits : (o : Option (Queued ℕ ℕ)) → ((q : Queued ℕ ℕ) → o ≡ some q → QueuedFits q) → Fits ask_widths (waiting_fields o)
waiting_fits none h = (lit< tt, (lit< tt, (lit< tt, (lit< tt, tt))))
waiting_fits (some q) h = ask_fits q.asks (h q refl).asks

fits_append : (ws us vs xs : List ℕ) → Fits ws vs → Fits us xs → Fits (ws ++ us) (vs ++ xs)
fits_append [] us [] xs f g = g
fits_append [] us (v ∷ vs) xs f g = absurd f
fits_append (w ∷ ws) us [] xs f g = absurd f
fits_append (w ∷ ws) us (v ∷ vs) xs f g = (f.0, fits_append ws us vs xs f.1 g)

pub mark_small : (m : Mark) → mark_number m < 256 ^ 2
mark_small running = lit< tt
mark_small idle = lit< tt

pub record_fits : (qs : List (Queued ℕ ℕ)) → ((q : Queued ℕ ℕ) → In q qs → QueuedFits q) → (ms : List Mark) (t : ℕ)
    → Fits record_widths (record_fields qs ms t)
record_fits qs f ms t =
    let o = first (λ q. eqb q.asker t) qs in (
      mark_small (get_or ms t idle),
      fits_append ask_widths (8 ∷ []) (waiting_fields o) (0 ∷ []) (waiting_fits o (λ q e. f q (first_in (λ q. eqb q.asker t) qs q e).0)) (lit< tt, tt),
    )

-- the request in a record
pub ask_read : (v : ℕ) (a : Ask ℕ ℕ) → ask_in (v ∷ (ask_fields a ++ (0 ∷ []))) ≡ a
unfolding ask_in ask_fields
ask_read v (read lo hi) = refl
ask_read v (insert k r) = refl
ask_read v (delete k) = refl

-- ---- who asks: where askers differ, the first request of an asker is the only one
pub asker_first : (qs : List (Queued ℕ ℕ)) (q : Queued ℕ ℕ) → pairs (λ p q. not (eqb p.asker q.asker)) qs ≡ true → In q qs
    → first (λ p. eqb p.asker q.asker) qs ≡ some q
asker_first [] q e x'' = elim x'' [ ]
asker_first (p ∷ qs) q e (inl h) =
    first_hit (λ p. eqb p.asker q.asker) p qs (eq-eqb p.asker q.asker (ap (λ x. x.asker) h)) ∙ ap some h
asker_first (p ∷ qs) q e (inr i) =
    let differ : Queued ℕ ℕ → Queued ℕ ℕ → Bool = λ p q. not (eqb p.asker q.asker) in
    first_miss (λ p. eqb p.asker q.asker) p qs (not-true (eqb p.asker q.asker) (all_in (differ p) qs q (pairs_head differ p qs e) i))
    ∙ asker_first qs q (pairs_tail differ p qs e) i
