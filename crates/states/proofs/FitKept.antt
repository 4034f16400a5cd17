-- Tables that fit stay so: when a mark is set, a lock taken, locks released, and when a request joins the queue or leaves it.
-- By what the rule book's operations leave of the locks and requests that were there. Assumes that what is new fits.
use Prim.Native.Nat.{ℕ, ◌≤◌, ◌<◌}
use mathlib.Core.Path.{◌≡◌, sym, ap, subst, ◌∙◌}
use mathlib.Core.Logic.{inl, inr, ⊎_elim}
use mathlib.Core.Bool.{Bool, true, false, not}
use mathlib.Core.List.{List, [], ◌∷◌, ◌++◌, map}
use mathlib.Core.Option.{Option, some}
use native.Mathlib.Omega.{arith}
use lib.Dec.{eqb}
use lib.ListN.{length, set, length-append, length-map, length-set}
use lib.Seq.{get_or-set_other}
use Rattle.limits.specs.Limits.{transactions_most}
use Rattle.lists.specs.Lists.{In, any, keep, pairs, tab}
use Rattle.lists.proofs.Tests.{eqb_turn, not_any}
use Rattle.lists.proofs.Elements.{none_any, append_in, keep_in, in_tab, in_map, in_all}
use Rattle.lists.proofs.Pairs.{pairs_cons, pairs_keep, pairs_last}
use Rattle.lists.proofs.Finite.{no_more}
use Rattle.lists.proofs.Tables.{length_tab}
use Rattle.rules.specs.Kinds.{Ask, delete, Lock, Mark, idle, Mode, Name, Paging, Queued}
use Rattle.rules.specs.Locks.{in_use, taken, released}
use Rattle.rules.specs.Queue.{leave}
use Rattle.rules.specs.Document.{document}
use Rattle.rules.proofs.Orders.{numbers_ordered}
use Rattle.rules.proofs.LockTable.{taken_took, took_length, took_in, released_length, released_in}
use Rattle.states.specs.Fitting.{NameFits, AskFits, LockFits, QueuedFits, Fitting}

module _ {ls : List (Option (Lock ℕ))} {qs : List (Queued ℕ ℕ)} {ms : List Mark} (fit : Fitting ls qs ms) where
  pub fit_marked : (t : ℕ) (m : Mark) → 1 ≤ t → Fitting ls qs (set ms t m)
  fit_marked t m h =
      record {
        slots = fit.slots;
        locks = fit.locks;
        few = fit.few;
        queued = fit.queued;
        askers = fit.askers;
        marks = length-set ms t m ∙ fit.marks;
        nobody = get_or-set_other ms t 0 m idle (omega arith) ∙ fit.nobody;
      }

  fit_locks : (ks : List (Option (Lock ℕ))) → length ks ≡ length ls → ((l : Lock ℕ) → In l (in_use ks) → LockFits l) → Fitting ks qs ms
  fit_locks ks e h =
      record {
        slots = e ∙ fit.slots;
        locks = h;
        few = fit.few;
        queued = fit.queued;
        askers = fit.askers;
        marks = fit.marks;
        nobody = fit.nobody;
      }

  fit_queue : (ps : List (Queued ℕ ℕ)) → length ps ≤ transactions_most → ((q : Queued ℕ ℕ) → In q ps → QueuedFits q)
      → pairs (λ p q. not (eqb p.asker q.asker)) ps ≡ true → Fitting ls ps ms
  fit_queue ps l h e =
      record {
        slots = fit.slots;
        locks = fit.locks;
        few = l;
        queued = h;
        askers = e;
        marks = fit.marks;
        nobody = fit.nobody;
      }

  module _ (P : Paging ℕ) where
    pub fit_taken : (t : ℕ) (n : Name ℕ) (m : Mode) (ks : List (Option (Lock ℕ))) → 1 ≤ t → t ≤ transactions_most → NameFits n
        → taken (document P) ls t n m ≡ some ks → Fitting ks qs ms
    fit_taken t n m ks low high name e =
        let took = taken_took (document P) ls ks t n m e in
        fit_locks ks (took_length (document P) ls ks t n m took)
        (λ l i. ⊎_elim (fit.locks l) (new l) (took_in (document P) numbers_ordered ls ks t n m took l i))
      where
        new : (l : Lock ℕ) → (l.holder ≡ t) × (l.name ≡ n) → LockFits l
        new l w =
            record { name = subst NameFits (sym w.1) name; some = omega (arith, w.0); most = omega (arith, w.0) }

    pub fit_released : (t : ℕ) → Fitting (released (document P) t ls) qs ms
    fit_released t =
        fit_locks (released (document P) t ls) (released_length (document P) t ls) (λ l i. fit.locks l (released_in (document P) t ls l i).0)

    pub fit_left : (t : ℕ) → Fitting ls (leave (document P) t qs) ms
    unfolding leave
    fit_left t =
        let others : Queued ℕ ℕ → Bool = λ q. not (eqb q.asker t) in
        let stay : (q : Queued ℕ ℕ) → In q (keep others qs) → In q qs = λ q i. (keep_in others qs q i).0 in
        let differ = pairs_keep (λ p q. not (eqb p.asker q.asker)) others qs fit.askers in
        let fewer = no_more (λ q. q.asker) (keep others qs) (map (λ q. q.asker) qs) differ (λ q i. in_map (λ q. q.asker) qs q (stay q i)) in
        fit_queue (keep others qs) (let l = fit.few in omega (arith, fewer, length-map qs (λ q. q.asker))) (λ q i. fit.queued q (stay q i)) differ

  -- a transaction that does not wait finds room: the askers differ, and each is one of all transactions
  pub room_for : (t : ℕ) → any (λ q. eqb q.asker t) qs ≡ false → 1 ≤ t → t ≤ transactions_most → length qs < transactions_most
  room_for t new low high =
      let differ = pairs_cons (λ p q. not (eqb p.asker q.asker)) asker qs
      (in_all (λ q. not (eqb t q.asker)) qs (λ q i. ap not (eqb_turn t q.asker ∙ none_any (λ q. eqb q.asker t) qs q new i))) fit.askers in
      let fewer = no_more (λ q. q.asker) (asker ∷ qs) (tab transactions_most 1 (λ u. u)) differ among in
      omega (arith, length_tab transactions_most 1 (λ u. u))
    where
      asker : Queued ℕ ℕ
      asker = record { asker = t; asks = delete 0 }

      among : (q : Queued ℕ ℕ) → In q (asker ∷ qs) → In q.asker (tab transactions_most 1 (λ u. u))
      among q (inl e) = subst (λ p. In p.asker (tab transactions_most 1 (λ u. u))) e (in_tab transactions_most 1 (λ u. u) t low (omega arith))
      among q (inr i) =
          let fits = fit.queued q i in
          in_tab transactions_most 1 (λ u. u) q.asker fits.some (let m = fits.most in omega arith)

  pub fit_joined : (t : ℕ) (a : Ask ℕ ℕ) → any (λ q. eqb q.asker t) qs ≡ false → 1 ≤ t → t ≤ transactions_most
      → AskFits a → Fitting ls (qs ++ (record { asker = t; asks = a } ∷ [])) ms
  fit_joined t a new low high asks =
      let q : Queued ℕ ℕ = record { asker = t; asks = a } in
      fit_queue (qs ++ (q ∷ [])) (omega (arith, room_for t new low high, length-append qs (q ∷ [])))
      (λ p i. ⊎_elim (fit.queued p) (last p) (append_in qs (q ∷ []) p i))
      (pairs_last (λ p q. not (eqb p.asker q.asker)) qs q fit.askers (sym (not_any (λ q. eqb q.asker t) qs) ∙ ap not new))
    where
      last : (p : Queued ℕ ℕ) → In p (record { asker = t; asks = a } ∷ []) → QueuedFits p
      last p (inr x') = elim x' [ ]
      last p (inl e) = subst QueuedFits e (record { some = low; most = high; asks = asks })
