-- The invariants W1 to W4 and Q hold fresh and are kept by every call, whatever was asked. Each move keeps them (`good_kept`), by the laws
-- of sound tables; the rest is the principle of Keeps. Assumes nothing.
use Prim.Native.Nat.{ℕ, zero, suc, ◌≤◌, ◌<◌}
use mathlib.Core.Path.{◌≡◌, refl, sym, ap, subst, ◌∙◌}
use mathlib.Core.Logic.{◌⊎◌, inl, inr, ⊎_elim}
use mathlib.Core.Bool.{Bool, true, false, not}
use mathlib.Core.List.{List, [], ◌∷◌}
use mathlib.Core.Option.{none}
use native.Mathlib.Omega.{arith}
use lib.Dec.{eqb}
use lib.ListN.{length, get_or, set, replicate, length-set, length-replicate}
use lib.Seq.{get_or-set_same, get_or-set_other}
use borrow.Author.Tests.{eqb-true, eqb-false, eq-eqb, not-true}
use Rattle.lists.specs.Lists.{all, pairs, In}
use Rattle.lists.proofs.Tests.{and_left, and_right, and_both, or_left, or_right, not_any}
use Rattle.lists.proofs.Elements.{in_all, append_in, keep_in}
use Rattle.lists.proofs.Pairs.{pairs_keep, pairs_last}
use Rattle.rules.specs.Kinds.{Book, Ordered, on, Ask, Mark, idle, running}
use Rattle.rules.specs.Entries.{committed, rolled_back}
use Rattle.rules.specs.Locks.{in_use}
use Rattle.rules.specs.Queue.{St, Q, leave}
use Rattle.rules.specs.Runs.{circle, En, Ran, unmoved, left, run}
use Rattle.rules.specs.Desk.{is_running, runs, waits_now, begun, ended, joined, step, is_transaction, legal_ask, Cl, legal_call, fresh, after}
use Rattle.rules.specs.Good.{ascending, lock_stands, owner_holds, queue_stands, other_asker, Good}
use Rattle.rules.proofs.Waits.{transaction_low, transaction_high}
use Rattle.rules.proofs.LockTable.{held_holds_x}
use Rattle.rules.proofs.Sound.{Settles, committed_settles, rolled_back_settles, Sound, sound_more, sound_ended}
use Rattle.rules.proofs.Did.{run_did}
use Rattle.rules.proofs.Keeps.{Kept, Anyone, anyone_may, step_keeps, after_keeps}
use Rattle.rules.proofs.Unblocked.{good_sound, Queues, good_queues, did_sound}

module _ (B : Book) (L : Ordered B.Key B.compare) where
  pub sound_good : (s : St B) → length s.marks ≡ suc B.transactions → runs B s 0 ≡ false → Sound B (runs B s) s.entries s.slots → Queues B s → Good B s
  unfolding lock_stands owner_holds queue_stands
  sound_good s m z h q = record {
    slots = h.slots;
    marks = m;
    nobody = z;
    keys = h.keys;
    modes = h.modes;
    settled = h.settled;
    askers = q.askers;
    names = in_all (lock_stands B s) (in_use s.slots) (λ l i. let w = h.names l i in and_both _ _ w.0 w.1);
    owners = in_all (owner_holds B s) s.entries (λ e i. ⊎_elim (λ z. or_left _ _ (eq-eqb e.owner 0 z))
        (λ w. or_right (eqb e.owner 0) _ (and_both _ _ w.0 (held_holds_x B L s.slots e.owner (on e.key) w.1))) (h.owners e i));
    queued = in_all (queue_stands B s) s.queue (λ p i. let w = q.queued p i in and_both _ _ w.0 w.1);
  }

  -- a request that leaves the queue
  left_good : (s : St B) (q : Q B) (r : Ran B) → Good B s → Sound B (runs B s) r.entries r.slots → Good B (left B s q r).state
  unfolding leave
  left_good s q r g h = sound_good (left B s q r).state g.marks g.nobody h (record {
    queued = λ p i. (good_queues B s g).queued p (keep_in _ s.queue p i).0;
    askers = pairs_keep (other_asker B) _ s.queue g.askers;
  })

  -- who runs after a begin and after an end
  module _ (s : St B) (t : ℕ) (g : Good B s) (h : is_transaction B t ≡ true) where
    known : (t < length s.marks) × (t ≡ 0 → ⊥)
    known =
        let p : 1 ≤ t = transaction_low B t h in
        let q : t ≤ B.transactions = transaction_high B t h in
        let m : length s.marks ≡ suc B.transactions = g.marks in
        (omega arith, λ z. omega arith)

    marked : (m : Mark) (u : ℕ) → (u ≡ t → ⊥) → is_running (get_or (set s.marks t m) u idle) ≡ runs B s u
    marked m u o = ap is_running (get_or-set_other s.marks t u m idle o)

    begun_good : Good B (begun B s t)
    unfolding begun
    begun_good = sound_good (begun B s t) (length-set s.marks t running ∙ g.marks) (marked running 0 (λ z. known.1 (sym z)) ∙ g.nobody)
        (sound_more B (runs B s) (runs B (begun B s t)) s.entries s.slots more (good_sound B L s g))
        (record { askers = g.askers; queued = λ q i. let w = (good_queues B s g).queued q i in (more q.asker w.0, w.1) })
      where
        more : (u : ℕ) → runs B s u ≡ true → runs B (begun B s t) u ≡ true
        more u r = go (eqb u t) refl
          where
            go : (b : Bool) → eqb u t ≡ b → runs B (begun B s t) u ≡ true
            go true q = rw (eqb-true u t q) (ap is_running (get_or-set_same s.marks t running idle known.0))
            go false q = marked running u (eqb-false u t q) ∙ r

    ended_good : (f : En B → En B) → Settles B f → Good B (ended B f s t)
    unfolding ended leave
    ended_good f c = sound_good (ended B f s t) (length-set s.marks t idle ∙ g.marks) (marked idle 0 (λ z. known.1 (sym z)) ∙ g.nobody)
        (sound_ended B L (runs B s) (runs B (ended B f s t)) s.entries s.slots t f known.1 c others (good_sound B L s g))
        (record {
          askers = pairs_keep (other_asker B) _ s.queue g.askers;
          queued = λ q i. let k = keep_in _ s.queue q i in let w = (good_queues B s g).queued q k.0 in
              (others q.asker (eqb-false q.asker t (not-true _ k.1)) w.0, w.1);
        })
      where
        others : (u : ℕ) → (u ≡ t → ⊥) → runs B s u ≡ true → runs B (ended B f s t) u ≡ true
        others u o r = marked idle u o ∙ r

  joined_good : (s : St B) (t : ℕ) (a : Ask B.Key B.Rec) → runs B s t ≡ true → waits_now B s t ≡ false → legal_ask B a ≡ true → Good B s → Good B (joined B s t a)
  unfolding joined
  joined_good s t a r w l g = sound_good (joined B s t a) g.marks g.nobody (good_sound B L s g) (record {
    askers = pairs_last (other_asker B) s.queue new g.askers (sym (not_any (λ q. eqb q.asker t) s.queue) ∙ ap not w);
    queued = λ q i. each q (append_in s.queue (new ∷ []) q i);
  })
    where
      new : Q B
      new = record { asker = t; asks = a }

      each : (q : Q B) → In q s.queue ⊎ In q (new ∷ []) → (runs B s q.asker ≡ true) × (legal_ask B q.asks ≡ true)
      each q (inr (inr x'')) = elim x'' [ ]
      each q (inl i) = (good_queues B s g).queued q i
      each q (inr (inl z)) = subst (λ (p : Q B). (runs B s p.asker ≡ true) × (legal_ask B p.asks ≡ true)) z (r, l)

  pub good_kept : Kept B (Anyone B) (Good B)
  good_kept = record {
    begins = λ s t h r g. begun_good s t g h;
    joins = λ s t a r w l g. joined_good s t a r w l g;
    commits = λ s t o h r w g. ended_good s t g h committed (committed_settles B);
    rolls_back = λ s t o h r g. ended_good s t g h rolled_back (rolled_back_settles B);
    goes = λ s w i n g. left_good s w.request (run B s w.request) g (did_sound B L s w i n g (run B s w.request) (run_did B s w.request));
    gives_way = λ s w i g. left_good s w.request (unmoved B s circle) g (good_sound B L s g);
  }

  pub step_good : (s : St B) (c : Cl B) → legal_call B c ≡ true → Good B s → Good B (step B s c.asker c.request).state
  step_good s c l g =
      step_keeps B (Anyone B) (Good B) good_kept s c.asker c.request (and_left _ _ l) (and_right (is_transaction B c.asker) _ l)
      (anyone_may B c.asker c.request) g

  -- no lock, no entry, nobody runs
  free_none : (n : ℕ) → in_use {K = B.Key} (replicate n none) ≡ []
  unfolding in_use
  free_none zero = refl
  free_none (suc n) = free_none n

  pub fresh_good : Good B (fresh B)
  unfolding fresh ascending all pairs
  fresh_good = sound_good (fresh B) (length-replicate (suc B.transactions) idle) refl
      (record {
        slots = length-replicate B.locks none;
        keys = refl;
        modes = rw (free_none B.locks);
        owners = λ e i. absurd i;
        settled = λ e i. absurd i;
        names = λ l i. absurd (rw (free_none B.locks) at i);
      })
      (record { queued = λ q i. absurd i; askers = refl })

  -- whatever was asked since the start
  pub after_good : (cs : List (Cl B)) → Good B (after B (fresh B) cs)
  after_good cs = after_keeps B (Anyone B) (Good B) good_kept (fresh B) cs (λ c i. anyone_may B c.asker c.request) fresh_good
