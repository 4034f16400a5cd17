-- The cover of a key is the entry at or above it, or the end: the name whose lock guards the key. Who holds it keeps it through every move
-- but its own end, and as long as it does nobody else changes what the key finds. By what a run can have done, and by who holds X.
-- Assumes nothing.
use Prim.Native.Nat.{ℕ}
use mathlib.Core.Path.{◌≡◌, refl, sym, ap, subst, ◌∙◌}
use mathlib.Core.Logic.{⊎_elim}
use mathlib.Core.Bool.{true, false, true≢false}
use mathlib.Core.List.{[]}
use mathlib.Core.Option.{some}
use lib.Dec.{eqb}
use borrow.Author.Tests.{eqb-true}
use Rattle.lists.specs.Lists.{In}
use Rattle.lists.proofs.Tests.{fails}
use Rattle.lists.proofs.Elements.{first_in}
use Rattle.rules.specs.Kinds.{Book, Ordered, S, X, Name, on}
use Rattle.rules.specs.Entries.{Entries, same, inserted, deleted, revived, committed, rolled_back, settled}
use Rattle.rules.specs.Locks.{in_use, holds, released, wanted, named}
use Rattle.rules.specs.Queue.{St, Wait, waits}
use Rattle.rules.specs.Runs.{En, Ran, run}
use Rattle.rules.specs.Desk.{runs, begun, ended, joined}
use Rattle.rules.specs.Good.{Lk, Good}
use Rattle.rules.proofs.KeyTests.{same_equal}
use Rattle.rules.proofs.Index.{at_or_above, first_put, first_changed, named_changed, first_settled}
use Rattle.rules.proofs.LockTable.{Held, conflicts_x, holds_held, held_holds, held_weaker, held_kept, held_took, held_released, alone}
use Rattle.rules.proofs.Sound.{Settles, committed_settles, rolled_back_settles, owner_holds_lem}
use Rattle.rules.proofs.Did.{Did, refused, looked, put_in, brought_back, took_away, run_did, target_in}
use Rattle.rules.proofs.Unblocked.{good_sound, clear_as, own_ghost}
use Rattle.rules.proofs.GoodKept.{good_kept}
use Rattle.rules.proofs.Keeps.{Kept}

module _ (B : Book) where
  abbrev pub cover : Entries B → B.Key → Name B.Key
  cover es x = named B (at_or_above B x es)

  abbrev pub Covers : St B → ℕ → B.Key → Type 0
  Covers s t x = holds B s.slots t (cover s.entries x) ≡ true

  module _ (L : Ordered B.Key B.compare) (s : St B) (g : Good B s) (T : ℕ) (x : B.Key) (h : Held B s.slots T (cover s.entries x) S) where
    -- an entry that is the cover, where only u can hold it: T is u
    held_by : (e : En B) (u : ℕ) → at_or_above B x s.entries ≡ some e → ((l : Lk B) → In l (in_use s.slots) → l.name ≡ on e.key → l.holder ≡ u) → T ≡ u
    held_by e u q f = sym h.holder ∙ f h.lock h.stands (h.name ∙ ap (named B) q)

    -- a run that nothing blocks
    module _ (w : Wait B) (i : In w (waits B s)) (n : w.behind ≡ []) where
      abbrev u : ℕ
      u = w.request.asker

      -- a key put in that becomes the cover of x: only its own asker can have held that of x
      put_by : (k : B.Key) → wanted B s.entries w.request ≡ record { name = cover s.entries k; mode = X } → at_or_above B x s.entries ≡ at_or_above B k s.entries → T ≡ u
      put_by k y z = sym h.holder ∙ clear_as B L s w i n g _ y h.lock h.stands (h.name ∙ ap (named B) z) (conflicts_x h.lock.mode)

      did_covers : (r : Ran B) → Did B s w.request r → Held B r.slots T (cover r.entries x) S
      did_covers r (refused m z) = h
      did_covers r (looked m ls e) = held_kept B s.slots ls u _ _ e T (cover s.entries x) S h
      did_covers r (put_in k v ls a m y e) = ⊎_elim
          (λ z. rw z (held_kept B s.slots ls u (on k) X e T (cover s.entries x) S h))
          (λ z. rw z.0 (subst (λ (t : ℕ). Held B ls t (on k) S) (sym (put_by k y z.1)) (held_weaker B ls u (on k) X (held_took B L s.slots ls u (on k) X e))))
          (first_put B L (inserted u k v) x s.entries)
      did_covers r (brought_back k e v ls p b a o y q) =
          rw (named_changed B e.key (revived u v) x s.entries (λ e. refl)) (held_kept B s.slots ls u (on e.key) S q T (cover s.entries x) S h)
      did_covers r (took_away k e ls p b a y q) =
          rw (named_changed B e.key (deleted u) x s.entries (λ e. refl)) (held_kept B s.slots ls u (on e.key) X q T (cover s.entries x) S h)

      -- an entry changed that only u can hold isn't the cover of another's key
      spared : (e : En B) → (T ≡ u → ⊥) → ((l : Lk B) → In l (in_use s.slots) → l.name ≡ on e.key → l.holder ≡ u)
          → (y : En B) → at_or_above B x s.entries ≡ some y → same B y.key e.key ≡ false
      spared e o f y q = fails (same B y.key e.key) (λ z. o (held_by y u q (rw (same_equal B L y.key e.key z) f)))

      did_leaves : (T ≡ u → ⊥) → (r : Ran B) → Did B s w.request r → at_or_above B x r.entries ≡ at_or_above B x s.entries
      did_leaves o r (refused m z) = refl
      did_leaves o r (looked m ls e) = refl
      did_leaves o r (put_in k v ls a m y e) = ⊎_elim (λ z. z) (λ z. absurd (o (put_by k y z.1))) (first_put B L (inserted u k v) x s.entries)
      did_leaves o r (brought_back k e v ls p b a c y q) =
          first_changed B e.key (revived u v) x s.entries (λ e. refl)
          (spared e o (alone B L s.slots u (on e.key) g.modes
          (own_ghost B L s w i n g e (target_in B s.entries u w.request.asks e a) c (clear_as B L s w i n g _ y))))
      did_leaves o r (took_away k e ls p b a y q) =
          first_changed B e.key (deleted u) x s.entries (λ e. refl)
          (spared e o (λ l j z. clear_as B L s w i n g _ y l j z (conflicts_x l.mode)))

    -- the end of another
    module _ (f : En B → En B) (c : Settles B f) (u : ℕ) (r : runs B s u ≡ true) (o : T ≡ u → ⊥) where
      settled_leaves : at_or_above B x (settled f u s.entries) ≡ at_or_above B x s.entries
      settled_leaves = first_settled B f u x s.entries c.key others
        where
          others : (e : En B) → at_or_above B x s.entries ≡ some e → eqb e.owner u ≡ false
          others e q = fails (eqb e.owner u) (λ z.
              let d : e.owner ≡ u = eqb-true e.owner u z in
              let h = (good_sound B L s g).owners e (first_in _ s.entries e q).0 in
              let k = owner_holds_lem B (runs B s) s.slots e h (λ y. true≢false (sym r ∙ (rw (sym d ∙ y) g.nobody))) in
              o (held_by e u q (λ l a b. alone B L s.slots e.owner (on e.key) g.modes k l a b ∙ d)))

      end_covers : Held B (released B u s.slots) T (cover (settled f u s.entries) x) S
      end_covers = rw settled_leaves (held_released B u s.slots T (cover s.entries x) S o h)

  module _ (L : Ordered B.Key B.compare) where
    -- T keeps the cover of x through every move but its own end
    pub cover_kept : (T : ℕ) (x : B.Key) → Kept B (λ u. u ≡ T → ⊥) (λ s. Good B s × Covers s T x)
    unfolding begun joined ended
    cover_kept T x = record {
      begins = λ s t h r p. ((good_kept B L).begins s t h r p.0, p.1);
      joins = λ s t a r w l p. ((good_kept B L).joins s t a r w l p.0, p.1);
      commits = λ s t o h r w p. ((good_kept B L).commits s t tt h r w p.0, over committed s t (committed_settles B) r o p);
      rolls_back = λ s t o h r p. ((good_kept B L).rolls_back s t tt h r p.0, over rolled_back s t (rolled_back_settles B) r o p);
      goes = λ s w i n p. (
        (good_kept B L).goes s w i n p.0,
        held_holds B L _ T _ S (did_covers L s p.0 T x (holds_held B L s.slots T _ p.1) w i n (run B s w.request) (run_did B s w.request)),
      );
      gives_way = λ s w i p. ((good_kept B L).gives_way s w i p.0, p.1);
    }
      where
        over : (f : En B → En B) (s : St B) (t : ℕ) → Settles B f → runs B s t ≡ true → (t ≡ T → ⊥) → Good B s × Covers s T x
            → holds B (released B t s.slots) T (cover (settled f t s.entries) x) ≡ true
        over f s t c r o p = held_holds B L _ T _ S (end_covers L s p.0 T x (holds_held B L s.slots T _ p.1) f c t r (λ z. o (sym z)))

    -- as long as T holds the cover of x, no other's run or end changes the entry that x finds
    pub run_leaves : (s : St B) (w : Wait B) → Good B s → In w (waits B s) → w.behind ≡ [] → (x : B.Key) (T : ℕ) → Covers s T x → (T ≡ w.request.asker → ⊥)
        → at_or_above B x (run B s w.request).entries ≡ at_or_above B x s.entries
    run_leaves s w g i n x T c o = did_leaves L s g T x (holds_held B L s.slots T _ c) w i n o (run B s w.request) (run_did B s w.request)

    pub end_leaves : (s : St B) (t : ℕ) (f : En B → En B) → Settles B f → Good B s → runs B s t ≡ true → (x : B.Key) (T : ℕ) → Covers s T x → (T ≡ t → ⊥)
        → at_or_above B x (settled f t s.entries) ≡ at_or_above B x s.entries
    end_leaves s t f k g r x T c o = settled_leaves L s g T x (holds_held B L s.slots T _ c) f k t r o
