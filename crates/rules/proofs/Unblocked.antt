-- Good tables read lock by lock and entry by entry, and what an unblocked run on them can count on: it is of a running transaction, nobody
-- else holds its target against it, a ghost that it brings back is its own; so the tables that it leaves are sound. Assumes nothing.
use Prim.Native.Nat.{ℕ}
use mathlib.Core.Path.{◌≡◌, refl, sym, ap, subst, ◌∙◌}
use mathlib.Core.Logic.{inl, inr, ⊎_elim}
use mathlib.Core.Bool.{true, true≢false}
use mathlib.Core.List.{[]}
use mathlib.Core.Option.{none, some}
use borrow.Author.Tests.{eqb-true}
use Rattle.lists.specs.Lists.{pairs, In}
use Rattle.lists.proofs.Tests.{and_left, and_right, either}
use Rattle.lists.proofs.Elements.{all_in}
use Rattle.rules.specs.Kinds.{Book, Ordered, Mode, S, X, on, Ask}
use Rattle.rules.specs.Entries.{is_there, deleted, revived}
use Rattle.rules.specs.Locks.{Slots, in_use, target, Want, wanted}
use Rattle.rules.specs.Queue.{St, Q, Wait, waits}
use Rattle.rules.specs.Runs.{En, Ran}
use Rattle.rules.specs.Desk.{runs, legal_ask}
use Rattle.rules.specs.Good.{lock_stands, owner_holds, queue_stands, other_asker, Good}
use Rattle.rules.proofs.LockTable.{Took, Held, Clear, x_conflicts, holds_x_held, held_kept, held_took}
use Rattle.rules.proofs.Index.{missing, in_name}
use Rattle.rules.proofs.KeyTests.{same_itself}
use Rattle.rules.proofs.Sound.{Sound, owner_holds_lem, sound_taken, sound_changed, sound_put}
use Rattle.rules.proofs.Did.{Did, refused, looked, put_in, brought_back, took_away, target_in, wanted_name, waits_in, unblocked}

module _ (B : Book) where
  -- the queue stands: without repeats, of running transactions, each legal
  pub record Queues (s : St B) : Type 0 where
    pub queued : (q : Q B) → In q s.queue → (runs B s q.asker ≡ true) × (legal_ask B q.asks ≡ true)
    pub askers : pairs (other_asker B) s.queue ≡ true

  pub good_queues : (s : St B) → Good B s → Queues s
  unfolding queue_stands
  good_queues s g = record {
    askers = g.askers;
    queued = λ q i. let h = all_in (queue_stands B s) s.queue q g.queued i in (and_left _ _ h, and_right (runs B s q.asker) _ h);
  }

module _ (B : Book) (L : Ordered B.Key B.compare) where
  pub good_sound : (s : St B) → Good B s → Sound B (runs B s) s.entries s.slots
  unfolding lock_stands owner_holds
  good_sound s g = record {
    slots = g.slots;
    keys = g.keys;
    modes = g.modes;
    settled = g.settled;
    names = λ l i. let h = all_in (lock_stands B s) (in_use s.slots) l g.names i in (and_left _ _ h, and_right (runs B s l.holder) _ h);
    owners = λ e i. ⊎_elim (λ z. inl (eqb-true e.owner 0 z))
        (λ w. inr (and_left _ _ w, holds_x_held B L s.slots e.owner (on e.key) (and_right (runs B s e.owner) _ w)))
        (either _ _ (all_in (owner_holds B s) s.entries e g.owners i));
  }

  -- a run that nothing blocks
  module _ (s : St B) (w : Wait B) (i : In w (waits B s)) (n : w.behind ≡ []) (g : Good B s) where
    abbrev t : ℕ
    t = w.request.asker

    asks : (runs B s t ≡ true) × (legal_ask B w.request.asks ≡ true)
    asks = (good_queues B s g).queued w.request (waits_in B s w i)

    somebody : t ≡ 0 → ⊥
    somebody z = true≢false (sym asks.0 ∙ (rw (← z) at g.nobody))

    pub clear_as : (v : Want B) → wanted B s.entries w.request ≡ v → Clear B s.slots t v.name v.mode
    clear_as v e = subst (λ (v : Want B). Clear B s.slots t v.name v.mode) e (unblocked B L s w i n)

    -- a ghost has an owner, who holds X on it; where nobody else does, it is the asker's own
    pub own_ghost : (e : En B) → In e s.entries → e.now ≡ none → Clear B s.slots t (on e.key) S → Held B s.slots t (on e.key) X
    own_ghost e j a c =
        let h = good_sound s g in
        let x = owner_holds_lem B (runs B s) s.slots e (h.owners e j) (λ z. true≢false (sym (h.settled e j z).is_there ∙ ap is_there a)) in
        let o : e.owner ≡ t = sym x.holder ∙ c x.lock x.stands x.name (x_conflicts x.lock.mode S x.strong) in
        subst (λ (u : ℕ). Held B s.slots u (on e.key) X) o x

    -- the lock on an entry that is the target
    target_locked : (x : En B) (m : Mode) (ls : Slots B) → target B s.entries t w.request.asks ≡ some x
        → wanted B s.entries w.request ≡ record { name = on x.key; mode = m } → Took B s.slots ls t (on x.key) m → Sound B (runs B s) s.entries ls
    target_locked x m ls a y e =
        sound_taken B L (runs B s) s.entries s.slots ls t (on x.key) m asks.0
        (in_name B s.entries x x.key (target_in B s.entries t w.request.asks x a) (same_itself B L x.key)) (clear_as _ y) e (good_sound s g)

    pub did_sound : (r : Ran B) → Did B s w.request r → Sound B (runs B s) r.entries r.slots
    unfolding legal_ask
    did_sound r (refused m h) = good_sound s g
    did_sound r (looked m ls e) =
        sound_taken B L (runs B s) s.entries s.slots ls t _ _ asks.0 (wanted_name B L s.entries w.request) (unblocked B L s w i n) e (good_sound s g)
    did_sound r (put_in k v ls a m x e) =
        sound_put B L (runs B s) s.entries s.slots ls t k v asks.0 somebody
        (subst (λ (q : Ask B.Key B.Rec). legal_ask B q ≡ true) a asks.1) (missing B L s.entries k g.keys m) e (good_sound s g)
    did_sound r (brought_back k x v ls p b a o y e) =
        sound_changed B L (runs B s) s.entries ls t x.key (revived t v) asks.0 somebody (record { key = λ e. refl; owner = λ e. refl })
        (held_kept B s.slots ls t (on x.key) S e t (on x.key) X (own_ghost x (target_in B s.entries t w.request.asks x a) o (clear_as _ y)))
        (target_locked x S ls a y e)
    did_sound r (took_away k x ls p b a y e) =
        sound_changed B L (runs B s) s.entries ls t x.key (deleted t) asks.0 somebody (record { key = λ e. refl; owner = λ e. refl })
        (held_took B L s.slots ls t (on x.key) X e) (target_locked x X ls a y e)
