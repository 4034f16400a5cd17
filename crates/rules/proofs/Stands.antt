-- The answer to a read stands until the reader ends or itself changes a key from lo to hi: the reader holds the target of the same read, and
-- that read finds the same. Others leave it so because it holds the covers; and so nothing blocks the read again. Assumes nothing.
use Prim.Native.Nat.{ℕ}
use mathlib.Core.Path.{◌≡◌, refl, sym, ap, subst, ◌∙◌}
use mathlib.Core.Logic.{⊎_elim}
use mathlib.Core.Bool.{Bool, true, false, cond, not, ◌&&◌, ◌||◌, true≢false, false≢true}
use mathlib.Core.List.{List, [], append-nil, map}
use mathlib.Core.Option
use mathlib.Core.Option.{Option, none, some}
use lib.Dec.{eqb}
use borrow.Author.Tests.{eqb-false, not-true}
use Rattle.lists.specs.Lists.{any, In}
use Rattle.lists.proofs.Tests.{and_left, and_right, fails, keep_none, first_map}
use Rattle.lists.proofs.Elements.{any_in, first_in}
use Rattle.rules.specs.Kinds.{Book, Ordered, Mode, S, X, Name, on, Ask, read, insert, delete}
use Rattle.rules.specs.Entries.{at_most, same, inserted, deleted, revived, put, changed}
use Rattle.rules.specs.Locks.{Slots, in_use, conflict, stronger, same_name, holds, taken, counts, target, named, mode, wanted, holders, blockers}
use Rattle.rules.specs.Queue.{St, Q, Wait, waits}
use Rattle.rules.specs.Runs.{done, nothing, locks_short, Sy, En, Ran, given, locked, read_says, run_on, run, left}
use Rattle.rules.specs.Desk.{runs, ended}
use Rattle.rules.specs.Good.{Lk, ascending, Good}
use Rattle.rules.proofs.KeyTests.{same_equal, at_most_itself, at_most_along, name_equal}
use Rattle.rules.proofs.Index.{kept_key, named_map}
use Rattle.rules.proofs.LockTable.{Took, taken_took, Held, holds_held, held_holds, held_kept, held_took, held_released, alone}
use Rattle.rules.proofs.Sound.{Settles}
use Rattle.rules.proofs.Waits.{placed}
use Rattle.rules.proofs.Did.{Did, refused, looked, put_in, brought_back, took_away, run_did}
use Rattle.rules.proofs.GoodKept.{good_kept}
use Rattle.rules.proofs.Cover.{Covers, run_leaves, end_leaves}
use Rattle.rules.proofs.Targets.{UpTo, read_covers, target_stays, first_with}

conflict_s : (m : Mode) → conflict m S ≡ true → stronger m X ≡ m
conflict_s S h = absurd (false≢true h)
conflict_s X h = refl

module _ (B : Book) where
  -- the answer m to t's read from lo to hi stands
  pub record Stands (t : ℕ) (lo hi : B.Key) (m : Sy B) (s : St B) : Type 0 where
    pub good : Good B s
    pub held : holds B s.slots t (named B (target B s.entries t (read lo hi))) ≡ true
    pub says : read_says B hi (target B s.entries t (read lo hi)) ≡ m

  -- a change of a key that is not from lo to hi
  abbrev pub Outside : B.Key → B.Key → Ask B.Key B.Rec → Type 0
  Outside lo hi (read a b) = Unit {0}
  Outside lo hi (insert k v) = at_most B lo k && at_most B k hi ≡ false
  Outside lo hi (delete k) = at_most B lo k && at_most B k hi ≡ false

  module _ (L : Ordered B.Key B.compare) where
    -- "Locks last until the transaction ends": a run takes none away
    did_holds : (s : St B) (q : Q B) (t : ℕ) (n : Name B.Key) (r : Ran B) → Did B s q r → holds B s.slots t n ≡ true → holds B r.slots t n ≡ true
    did_holds s q t n r d h = held_holds B L r.slots t n S (go r d)
      where
        kept : (ls : Slots B) (p : Name B.Key) (m : Mode) → Took B s.slots ls q.asker p m → Held B ls t n S
        kept ls p m e = held_kept B s.slots ls q.asker p m e t n S (holds_held B L s.slots t n h)

        go : (r : Ran B) → Did B s q r → Held B r.slots t n S
        go r (refused m z) = holds_held B L s.slots t n h
        go r (looked m ls e) = kept ls _ _ e
        go r (put_in k v ls a m y e) = kept ls (on k) X e
        go r (brought_back k x v ls p b a o y e) = kept ls (on x.key) S e
        go r (took_away k x ls p b a y e) = kept ls (on x.key) X e

    -- a target above hi is nothing to the read
    beyond : (hi k : B.Key) (o : Option (En B)) → at_most B k hi ≡ false → UpTo B o k → read_says B hi o ≡ nothing
    unfolding read_says
    beyond hi k none q u = refl
    beyond hi k (some e) q u = rw (fails (at_most B e.key hi) (λ h. true≢false (sym (at_most_along B L k e.key hi (u e refl) h) ∙ q)))

    module _ (t : ℕ) (lo hi : B.Key) (m : Sy B) (s : St B) (v : Stands t lo hi m s) where
      -- where the target stays and no lock is lost
      stays_stands : (z : St B) → Good B z → target B z.entries t (read lo hi) ≡ target B s.entries t (read lo hi)
          → ((n : Name B.Key) → holds B s.slots t n ≡ true → holds B z.slots t n ≡ true) → Stands t lo hi m z
      stays_stands z g e f = record { good = g; held = rw e (f _ v.held); says = rw e v.says }

      covered : (x : B.Key) → at_most B lo x ≡ true → UpTo B (target B s.entries t (read lo hi)) x → Covers B s t x
      covered = read_covers B L s v.good t lo hi v.held

      -- the run of another, and its end
      pub other_run : (w : Wait B) → In w (waits B s) → w.behind ≡ [] → (t ≡ w.request.asker → ⊥) → Stands t lo hi m (left B s w.request (run B s w.request)).state
      other_run w i n o =
          let g = (good_kept B L).goes s w i n v.good in
          stays_stands (left B s w.request (run B s w.request)).state g
          (target_stays B L s.entries (run B s w.request).entries t lo hi v.good.keys g.keys (λ x a u. run_leaves B L s w v.good i n x t (covered x a u) o))
          (λ n h. did_holds s w.request t n (run B s w.request) (run_did B s w.request) h)

      pub other_end : (f : En B → En B) → Settles B f → (u : ℕ) → runs B s u ≡ true → (t ≡ u → ⊥) → Good B (ended B f s u) → Stands t lo hi m (ended B f s u)
      unfolding ended
      other_end f c u r o g =
          stays_stands (ended B f s u) g
          (target_stays B L s.entries (ended B f s u).entries t lo hi v.good.keys g.keys (λ x a y. end_leaves B L s u f c v.good r x t (covered x a y) o))
          (λ n h. held_holds B L (ended B f s u).slots t n S (held_released B u s.slots t n S o (holds_held B L s.slots t n h)))

      -- an own change where an entry stands, of a key that is not from lo to hi: it counts as before, and above hi its record is not read
      module _ (k : B.Key) (o : at_most B lo k && at_most B k hi ≡ false) (f : En B → En B) (c : (e : En B) → (f e).key ≡ e.key) where
        abbrev g : En B → En B
        g e = cond (same B e.key k) (f e) e

        counts_as : (j i : B.Key) (a b : Bool) → j ≡ i → i ≡ k → at_most B lo j && (not (at_most B j hi) || a) ≡ at_most B lo i && (not (at_most B i hi) || b)
        counts_as j i a b p q = rw (p, q) (go (at_most B lo k) (at_most B k hi) o)
          where
            go : (l h : Bool) → l && h ≡ false → l && (not h || a) ≡ l && (not h || b)
            go true true z = absurd (true≢false z)
            go true false z = refl
            go false h z = refl

        counts_same : (e : En B) → counts B t lo hi (g e) ≡ counts B t lo hi e
        counts_same e = go (same B e.key k) refl
          where
            go : (b : Bool) → same B e.key k ≡ b → counts B t lo hi (cond b (f e) e) ≡ counts B t lo hi e
            go true q = counts_as (f e).key e.key _ _ (c e) (same_equal B L e.key k q)
            go false q = refl

        says_same : (x : Option (En B)) → ((e : En B) → x ≡ some e → counts B t lo hi e ≡ true) → read_says B hi (Option.map g x) ≡ read_says B hi x
        unfolding read_says
        says_same none u = refl
        says_same (some e) u = go (same B e.key k) refl
          where
            above : e.key ≡ k → at_most B e.key hi ≡ false
            above q = fails (at_most B e.key hi) (λ h. true≢false (
                sym (rw (sym q) (rw (and_left (at_most B lo e.key) _ (u e refl)) h)) ∙ o))

            go : (b : Bool) → same B e.key k ≡ b → read_says B hi (some (cond b (f e) e)) ≡ read_says B hi (some e)
            go true q = let n = above (same_equal B L e.key k q) in rw (c e, n)
            go false q = refl

        changed_stands : (z : St B) → Good B z → z.entries ≡ changed B k f s.entries
            → ((n : Name B.Key) → holds B s.slots t n ≡ true → holds B z.slots t n ≡ true) → Stands t lo hi m z
        unfolding changed target
        changed_stands z w e y =
            let r : target B z.entries t (read lo hi) ≡ Option.map g (target B s.entries t (read lo hi)) = rw e (simp (first_map, counts_same)) in
            record {
              good = w;
              held = rw (r, named_map B g (λ e. kept_key B f c (same B e.key k) e) (target B s.entries t (read lo hi))) (y _ v.held);
              says = rw r (says_same (target B s.entries t (read lo hi)) (λ e q. (first_in _ s.entries e q).1) ∙ v.says);
            }

      -- an own run
      module _ (q : Q B) (a : q.asker ≡ t) where
        put_stands : (k : B.Key) (r : B.Rec) (ls : Slots B) (z : St B) → Good B z → z.entries ≡ put B (inserted q.asker k r) s.entries → z.slots ≡ ls
            → Took B s.slots ls q.asker (on k) X → at_most B lo k && at_most B k hi ≡ false
            → ((n : Name B.Key) → holds B s.slots t n ≡ true → holds B z.slots t n ≡ true) → Stands t lo hi m z
        unfolding target ascending
        put_stands k r ls z g e l w o f =
            ⊎_elim (λ y. stays_stands z g (rw e y) f)
            (λ y. let h : at_most B k hi ≡ false = rw (and_left (at_most B lo k) _ y.1) at o in record {
              good = g;
              held = rw (e, y.0, l, ← a) (held_holds B L ls q.asker (on k) X (held_took B L s.slots ls q.asker (on k) X w));
              says = rw (e, y.0) (beyond hi k (some new) h (λ x c. let i : new ≡ x = cc in subst (λ (x : En B). at_most B k x.key ≡ true) i (at_most_itself B L k)))
                  ∙ sym (beyond hi k (target B s.entries t (read lo hi)) h y.2) ∙ v.says;
            })
            (first_with B L (counts B t lo hi) new s.entries (and_left _ _ v.good.keys))
          where
            new : En B
            new = inserted q.asker k r

        pub own_run : (r : Ran B) → Did B s q r → Good B (left B s q r).state → (r.says ≡ done → Outside lo hi q.asks) → Stands t lo hi m (left B s q r).state
        own_run r d g f = go r d g f (λ n. did_holds s q t n r d)
          where
            go : (r : Ran B) → Did B s q r → Good B (left B s q r).state → (r.says ≡ done → Outside lo hi q.asks)
                → ((n : Name B.Key) → holds B s.slots t n ≡ true → holds B r.slots t n ≡ true) → Stands t lo hi m (left B s q r).state
            go r (refused n z) g f h = stays_stands (left B s q r).state g refl h
            go r (looked n ls e) g f h = stays_stands (left B s q r).state g refl h
            go r (put_in k v ls p n y e) g f h = put_stands k v ls (left B s q r).state g refl refl e (subst (Outside lo hi) p (f refl)) h
            go r (brought_back k x v ls p b c n y e) g f h =
                changed_stands x.key (rw (same_equal B L x.key k b) (subst (Outside lo hi) p (f refl))) (revived q.asker v) (λ e. refl) (left B s q r).state g refl h
            go r (took_away k x ls p b c y e) g f h =
                changed_stands x.key (rw (same_equal B L x.key k b) (subst (Outside lo hi) p (f refl))) (deleted q.asker) (λ e. refl) (left B s q r).state g refl h

      -- the same read again: nobody holds its target against it, and its own lock there lifts the rule of the queue
      nobody_against : holders B s.slots t (record { name = named B (target B s.entries t (read lo hi)); mode = S }) ≡ []
      unfolding holders
      nobody_against = ap (map (λ (l : Lk B). l.holder)) (keep_none against (in_use s.slots) (fails (any against (in_use s.slots)) (λ h.
          let w = any_in against (in_use s.slots) h in
          let b = and_right (not (eqb w.0.holder t)) _ w.2 in
          let n : w.0.name ≡ name = name_equal B L w.0.name name (and_left _ _ b) in
          let k = holds_held B L s.slots t name v.held in
          let e = alone B L s.slots w.0.holder name v.good.modes
          (record { lock = w.0; stands = w.1; holder = refl; name = n; strong = conflict_s w.0.mode (and_right (same_name B w.0.name name) _ b) }) k.lock k.stands k.name in
          eqb-false w.0.holder t (not-true _ (and_left _ _ w.2)) (sym e ∙ k.holder))))
        where
          name : Name B.Key
          name = named B (target B s.entries t (read lo hi))

          against : Lk B → Bool
          against l = not (eqb l.holder t) && (same_name B l.name name && conflict l.mode S)

      pub not_blocked : (w : Wait B) → In w (waits B s) → w.request ≡ record { asker = t; asks = read lo hi } → w.behind ≡ []
      unfolding blockers wanted mode
      not_blocked w i e =
          let p = placed B s w i in
          p.behind ∙ ap (blockers B s.entries s.slots p.ahead) e ∙ go p.ahead
        where
          go : (ahead : List (Q B)) → blockers B s.entries s.slots ahead (record { asker = t; asks = read lo hi }) ≡ []
          go ahead = rw (v.held, append-nil) nobody_against

      pub says_again : (run B s (record { asker = t; asks = read lo hi })).says ≡ m
      unfolding run run_on taken
      says_again = rw v.held v.says

    -- a read that ran and got its lock
    read_holds : (s : St B) (t : ℕ) (lo hi : B.Key) (q : Q B) → q ≡ record { asker = t; asks = read lo hi } → Good B (left B s q (run B s q)).state
        → ((run B s q).says ≡ locks_short → ⊥) → Stands t lo hi (run B s q).says (left B s q (run B s q)).state
    unfolding run run_on
    read_holds s t lo hi q e =
        subst (λ (q : Q B). Good B (left B s q (run B s q)).state → ((run B s q).says ≡ locks_short → ⊥) → Stands t lo hi (run B s q).says (left B s q (run B s q)).state)
        (sym e) (go (taken B s.slots t (named B x) S) refl)
      where
        x : Option (En B)
        x = target B s.entries t (read lo hi)

        ran : Option (Slots B) → Ran B
        ran o = given B s (locked B s (read_says B hi x)) o

        go : (o : Option (Slots B)) → taken B s.slots t (named B x) S ≡ o → Good B (left B s (record { asker = t; asks = read lo hi }) (ran o)).state
            → ((ran o).says ≡ locks_short → ⊥) → Stands t lo hi (ran o).says (left B s (record { asker = t; asks = read lo hi }) (ran o)).state
        go none h g f = absurd (f refl)
        go (some ls) h g f =
            record { good = g; held = held_holds B L ls t (named B x) S (held_took B L s.slots ls t (named B x) S (taken_took B s.slots ls t (named B x) S h)); says = refl }

    pub read_stands : (s : St B) (w : Wait B) (t : ℕ) (lo hi : B.Key) → Good B s → In w (waits B s) → w.behind ≡ [] → w.request ≡ record { asker = t; asks = read lo hi }
        → ((run B s w.request).says ≡ locks_short → ⊥) → Stands t lo hi (run B s w.request).says (left B s w.request (run B s w.request)).state
    read_stands s w t lo hi g i n e f = read_holds s t lo hi w.request e ((good_kept B L).goes s w i n g) f
