-- What a run can have done: refused, only locked, put a missing key in, brought its own ghost back, or deleted; and what it means that
-- nothing blocked it. By the cases of the run's definition. Assumes nothing.
use Prim.Native.Nat.{ℕ}
use mathlib.Core.Path.{◌≡◌, refl, ap, subst, ◌∙◌}
use mathlib.Core.Logic.{◌⊎◌, inl, inr}
use mathlib.Core.Bool.{Bool, true, false, cond, not, ◌&&◌}
use mathlib.Core.List.{List, [], ◌∷◌, ◌++◌}
use mathlib.Core.Option.{Option, none, some}
use lib.Dec.{eqb}
use borrow.Author.Tests.{eqb-true}
use Rattle.lists.specs.Lists.{keep, In}
use Rattle.lists.proofs.Tests.{never, nil_left}
use Rattle.lists.proofs.Elements.{first_in, in_keep, in_map}
use Rattle.rules.specs.Kinds.{Book, Ordered, Mode, S, X, Name, on, Ask, read, insert, delete}
use Rattle.rules.specs.Entries.{Entries, same, inserted, deleted, revived, put, changed}
use Rattle.rules.specs.Locks.{Slots, in_use, conflict, same_name, taken, target, named, itself, mode, Want, wanted, holders, blockers}
use Rattle.rules.specs.Queue.{St, Q, Wait, waits_from, waits}
use Rattle.rules.specs.Runs.{done, is_present, nothing, locks_short, pages_short, Sy, En, Ran, unmoved, locked, given, taking, insert_missing, insert_there, insert_as, delete_there, delete_as, run_on, run}
use Rattle.rules.specs.Good.{Lk, is_name}
use Rattle.rules.proofs.KeyTests.{same_itself, name_itself}
use Rattle.rules.proofs.Index.{at_or_above, in_name}
use Rattle.rules.proofs.LockTable.{Clear, Took, taken_took}

module _ (B : Book) where
  -- a target is an entry or the end
  pub target_in : (es : Entries B) (t : ℕ) (a : Ask B.Key B.Rec) (e : En B) → target B es t a ≡ some e → In e es
  unfolding target
  target_in es t (read lo hi) e h = (first_in _ es e h).0
  target_in es t (insert k r) e h = (first_in _ es e h).0
  target_in es t (delete k) e h = (first_in _ es e h).0

  pub wanted_name : (L : Ordered B.Key B.compare) (es : Entries B) (q : Q B) → is_name B es (wanted B es q).name ≡ true
  unfolding wanted
  wanted_name L es q = go (target B es q.asker q.asks) refl
    where
      go : (x : Option (En B)) → target B es q.asker q.asks ≡ x → is_name B es (named B x) ≡ true
      go none h = refl
      go (some e) h = in_name B es e e.key (target_in es q.asker q.asks e h) (same_itself B L e.key)

  -- what became of a request that ran
  pub data Did (s : St B) (q : Q B) : Ran B → Type 0 where
    -- 17 or 18: nothing is done
    refused : (m : Sy B) → (m ≡ locks_short) ⊎ (m ≡ pages_short) → Did s q (unmoved B s m)
    -- 1, 2 or 16: the target's lock is taken
    looked : (m : Sy B) (ls : Slots B) → Took B s.slots ls q.asker (wanted B s.entries q).name (wanted B s.entries q).mode
        → Did s q (locked B s m ls)
    -- 0 to an insert of a missing key: X on the key, the target's lock only for the instant
    put_in : (k : B.Key) (r : B.Rec) (ls : Slots B) → q.asks ≡ insert k r → itself B k (at_or_above B k s.entries) ≡ none
        → wanted B s.entries q ≡ record { name = named B (at_or_above B k s.entries); mode = X }
        → Took B s.slots ls q.asker (on k) X
        → Did s q (record { says = done; entries = put B (inserted q.asker k r) s.entries; pages = B.paging.grown s.pages k; slots = ls })
    -- 0 to an insert over a ghost
    brought_back : (k : B.Key) (e : En B) (r : B.Rec) (ls : Slots B) → q.asks ≡ insert k r → same B e.key k ≡ true
        → target B s.entries q.asker q.asks ≡ some e → e.now ≡ none
        → wanted B s.entries q ≡ record { name = on e.key; mode = S } → Took B s.slots ls q.asker (on e.key) S
        → Did s q (record { says = done; entries = changed B e.key (revived q.asker r) s.entries; pages = s.pages; slots = ls })
    -- 0 to a delete
    took_away : (k : B.Key) (e : En B) (ls : Slots B) → q.asks ≡ delete k → same B e.key k ≡ true
        → target B s.entries q.asker q.asks ≡ some e
        → wanted B s.entries q ≡ record { name = on e.key; mode = X } → Took B s.slots ls q.asker (on e.key) X
        → Did s q (record { says = done; entries = changed B e.key (deleted q.asker) s.entries; pages = s.pages; slots = ls })

  pub itself_is : (k : B.Key) (x : Option (En B)) (e : En B) → itself B k x ≡ some e → (x ≡ some e) × (same B e.key k ≡ true)
  itself_is k none e h = never (cc)
  itself_is k (some y) e h = go (same B y.key k) refl h
    where
      go : (b : Bool) → same B y.key k ≡ b → cond b (some y) none ≡ some e → (some y ≡ some e) × (same B e.key k ≡ true)
      go true q h = let z : y ≡ e = cc in (h, subst (λ (x : En B). same B x.key k ≡ true) z q)
      go false q h = never (cc)

  module _ (s : St B) (t : ℕ) where
    did_taking : (q : Q B) (n : Name B.Key) (m : Mode) (f : Slots B → Ran B)
        → ((ls : Slots B) → Took B s.slots ls t n m → Did s q (f ls)) → Did s q (taking B s t n m f)
    did_taking q n m f g = go (taken B s.slots t n m) refl
      where
        go : (o : Option (Slots B)) → taken B s.slots t n m ≡ o → Did s q (given B s f o)
        go none e = refused locks_short (inl refl)
        go (some ls) e = g ls (taken_took B s.slots ls t n m e)

    did_insert : (k : B.Key) (r : B.Rec) (o : Option (En B)) → itself B k (at_or_above B k s.entries) ≡ o
        → Did s (record { asker = t; asks = insert k r }) (insert_as B s t k r o)
    unfolding insert_as insert_missing insert_there wanted target mode
    did_insert k r none n = did_taking _ (on k) X _ (λ ls h. go ls h (B.paging.fits s.pages k))
      where
        go : (ls : Slots B) → Took B s.slots ls t (on k) X → (b : Bool)
            → Did s (record { asker = t; asks = insert k r })
            (cond b (record { says = done; entries = put B (inserted t k r) s.entries; pages = B.paging.grown s.pages k; slots = ls }) (unmoved B s pages_short))
        go ls h true = put_in k r ls refl n (cc) h
        go ls h false = refused pages_short (inr refl)
    did_insert k r (some e) n = did_taking _ (on e.key) S _ (λ ls h. go ls h e.now refl)
      where
        x : (at_or_above B k s.entries ≡ some e) × (same B e.key k ≡ true)
        x = itself_is k (at_or_above B k s.entries) e n

        go : (ls : Slots B) → Took B s.slots ls t (on e.key) S → (o : Option B.Rec) → e.now ≡ o
            → Did s (record { asker = t; asks = insert k r }) (insert_there B s t r e o ls)
        go ls h (some was) w = looked (is_present e.key (some was)) ls (rw (n, x.0) h)
        go ls h none w = brought_back k e r ls refl x.1 x.0 w (cc x.0) h

    did_delete : (k : B.Key) (o : Option (En B)) → itself B k (at_or_above B k s.entries) ≡ o
        → Did s (record { asker = t; asks = delete k }) (delete_as B s t (named B (at_or_above B k s.entries)) o)
    unfolding delete_as delete_there wanted target mode
    did_delete k none n = did_taking _ _ S _ (λ ls h. looked nothing ls (rw n h))
    did_delete k (some e) n = did_taking _ (on e.key) X _ (λ ls h. go ls h e.now)
      where
        x : (at_or_above B k s.entries ≡ some e) × (same B e.key k ≡ true)
        x = itself_is k (at_or_above B k s.entries) e n

        go : (ls : Slots B) → Took B s.slots ls t (on e.key) X → (o : Option B.Rec)
            → Did s (record { asker = t; asks = delete k }) (delete_there B s t e o ls)
        go ls h (some was) = took_away k e ls refl x.1 x.0 (cc x.0) h
        go ls h none = looked nothing ls (rw (n, x.0) h)

    did_run : (a : Ask B.Key B.Rec) → Did s (record { asker = t; asks = a }) (run B s (record { asker = t; asks = a }))
    unfolding run run_on target mode wanted
    did_run (read lo hi) = did_taking _ _ S _ (λ ls h. looked _ ls h)
    did_run (insert k r) = did_insert k r (itself B k (at_or_above B k s.entries)) refl
    did_run (delete k) = did_delete k (itself B k (at_or_above B k s.entries)) refl

  pub run_did : (s : St B) (q : Q B) → Did s q (run B s q)
  run_did s q = did_run s q.asker q.asks

  -- a wait is of a queued request, behind those who block it
  waits_from_lem : (es : Entries B) (ls : Slots B) (ahead qs : List (Q B)) (w : Wait B) → In w (waits_from B es ls ahead qs)
      → In w.request qs × ((before : List (Q B)) × (blockers B es ls before w.request ≡ w.behind))
  unfolding waits_from
  waits_from_lem es ls ahead [] w x' = elim x' [ ]
  waits_from_lem es ls ahead (q ∷ qs) w (inl e) = (inl (ap (λ (v : Wait B). v.request) e), (ahead, go))
    where
      go : blockers B es ls ahead w.request ≡ w.behind
      go = rw (← e)
  waits_from_lem es ls ahead (q ∷ qs) w (inr i) = let k = waits_from_lem es ls (ahead ++ (q ∷ [])) qs w i in (inr k.0, k.1)

  pub waits_in : (s : St B) (w : Wait B) → In w (waits B s) → In w.request s.queue
  unfolding waits
  waits_in s w i = (waits_from_lem s.entries s.slots [] s.queue w i).0

  -- "if U holds the target in a conflicting mode": where nobody blocks, nobody else does
  no_holder : (L : Ordered B.Key B.compare) (ls : Slots B) (t : ℕ) (w : Want B) → holders B ls t w ≡ [] → Clear B ls t w.name w.mode
  unfolding holders
  no_holder L ls t w n l i e c = go (eqb l.holder t) refl
    where
      stands : Lk B → Bool
      stands l = not (eqb l.holder t) && (same_name B l.name w.name && conflict l.mode w.mode)

      go : (b : Bool) → eqb l.holder t ≡ b → l.holder ≡ t
      go true q = eqb-true l.holder t q
      go false q =
          let k : In l (keep stands (in_use ls)) = in_keep stands (in_use ls) l i (rw (q, e, name_itself B L w.name) c) in
          absurd (subst (λ (ks : List ℕ). In l.holder ks) n (in_map (λ l. l.holder) (keep stands (in_use ls)) l k))

  pub unblocked : (L : Ordered B.Key B.compare) (s : St B) (w : Wait B) → In w (waits B s) → w.behind ≡ []
      → Clear B s.slots w.request.asker (wanted B s.entries w.request).name (wanted B s.entries w.request).mode
  unfolding waits blockers
  unblocked L s w i n =
      no_holder L s.slots w.request.asker (wanted B s.entries w.request)
      (nil_left _ _ ((waits_from_lem s.entries s.slots [] s.queue w i).1.1 ∙ n))
