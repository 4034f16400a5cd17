-- A run of a request that nobody blocks says each number by its cause and at no other time (RunsRightly of specs/Demand2). By the cases of the
-- run: which lock it takes for good, whether it gets it, and what it does then. Assumes nothing.
use Prim.Native.Nat.{ℕ}
use mathlib.Core.Path.{◌≡◌, refl, sym, ap, subst, ◌∙◌}
use mathlib.Core.Logic.{◌≢◌, ◌⊎◌, ⊎_elim}
use mathlib.Core.Bool.{Bool, true, false, cond, not, true≢false, false≢true}
use mathlib.Core.List.{[], ◌∷◌, map}
use mathlib.Core.Option.{Option, none, some}
use borrow.Author.Tests.{eq-eqb}
use Rattle.lists.specs.Lists.{all, In}
use Rattle.lists.proofs.Tests.{and_right, never}
use Rattle.lists.proofs.Elements.{all_in, in_all, first_in}
use Rattle.rules.specs.Kinds.{Book, Ordered, Mode, S, X, Name, on, end, Ask, read, insert, delete}
use Rattle.rules.specs.Entries.{Entries, is_there, at_most, same}
use Rattle.rules.specs.Locks.{Slots, holds, raised, behind, added, taken, target, counts, named, itself, mode, wanted}
use Rattle.rules.specs.Queue.{St, Q, Wait, waits}
use Rattle.rules.specs.Runs.{done, found, nothing, waiting, runs_already, runs_not, waits_already, is_present, locks_short, pages_short, circle, Sy, En, Ran, unmoved, locked, given, taking, read_says, insert_missing, insert_there, insert_as, delete_there, delete_as, run_on, run}
use Rattle.rules.specs.Good.{Lk, ascending, Good}
use Rattle.rules.proofs.KeyTests.{same_equal, same_itself}
use Rattle.rules.proofs.Index.{at_or_above, missing}
use Rattle.rules.proofs.LockTable.{lock_of, x_conflicts}
use Rattle.rules.proofs.Sound.{owner_holds_lem}
use Rattle.rules.proofs.Did.{itself_is, target_in}
use Rattle.rules.proofs.Unblocked.{good_sound, clear_as}
use Rattle.rules.proofs.Targets.{own_cover, entry_at}
use Rattle.rules.specs.Desk.{runs}
use Rattle.promises.specs.Demand3.{now_in, now_at}
use Rattle.promises.specs.Demand2.{lock_for, LocksShort, Present, PagesShort, Finds, FindsNothing, above, absent, Does, puts_in, brings_back, takes_away, RunsRightly}

module _ (B : Book) where
  -- ---- "a new lock is needed and all are in use": a lock is not to be had where t holds none on the name and no slot is free, and only there
  added_full : (l : Lk B) (ls : Slots B) → all is_there ls ≡ true → added B l ls ≡ none
  unfolding added all
  added_full l [] h = refl
  added_full l (none ∷ ls) h = absurd (false≢true h)
  added_full l (some x ∷ ls) h = ap (behind B (some x)) (added_full l ls h)

  full_added : (l : Lk B) (ls : Slots B) → added B l ls ≡ none → all is_there ls ≡ true
  unfolding added all
  full_added l [] h = refl
  full_added l (none ∷ ls) h = never (cc)
  full_added l (some x ∷ ls) h = go (added B l ls) refl h (full_added l ls)
    where
      go : (o : Option (Slots B)) → added B l ls ≡ o → behind B (some x) o ≡ none → (added B l ls ≡ none → all is_there ls ≡ true)
          → all is_there ls ≡ true
      go none e h f = f e
      go (some ms) e h f = never (cc)

  taken_short : (ls : Slots B) (t : ℕ) (n : Name B.Key) (m : Mode) → holds B ls t n ≡ false → all is_there ls ≡ true → taken B ls t n m ≡ none
  unfolding taken
  taken_short ls t n m h f = rw h (added_full (lock_of B t n m) ls f)

  short_taken : (ls : Slots B) (t : ℕ) (n : Name B.Key) (m : Mode) → taken B ls t n m ≡ none → (holds B ls t n ≡ false) × (all is_there ls ≡ true)
  unfolding taken
  short_taken ls t n m h = go (holds B ls t n) refl h
    where
      go : (b : Bool) → holds B ls t n ≡ b → cond b (some (map (raised B t n m) ls)) (added B (lock_of B t n m) ls) ≡ none
          → (holds B ls t n ≡ false) × (all is_there ls ≡ true)
      go true q e = never (cc)
      go false q e = (q, full_added (lock_of B t n m) ls e)

  module _ (L : Ordered B.Key B.compare) where
    -- ---- presence and record of a key now, by its entry
    now_at_lem : (es : Entries B) (k : B.Key) → ascending B es ≡ true → now_at B es k ≡ now_in B (itself B k (at_or_above B k es))
    unfolding now_at
    now_at_lem es k h = ap (now_in B) (entry_at B L es k h)

    now_of : (es : Entries B) (e : En B) → ascending B es ≡ true → In e es → now_at B es e.key ≡ e.now
    now_of es e h i = now_at_lem es e.key h ∙ (rw (own_cover B L es e h i, same_itself B L e.key))

    missing_itself : (es : Entries B) (k : B.Key) → all (λ e. not (same B e.key k)) es ≡ true → itself B k (at_or_above B k es) ≡ none
    missing_itself es k h = go (itself B k (at_or_above B k es)) refl
      where
        go : (o : Option (En B)) → itself B k (at_or_above B k es) ≡ o → o ≡ none
        go none q = refl
        go (some e) q =
            let x = itself_is B k (at_or_above B k es) e q in
            let i = (first_in (λ y. at_most B k y.key) es e x.0).0 in
            absurd (false≢true (ap not (sym x.1) ∙ all_in (λ e. not (same B e.key k)) es e h i))

    itself_missing : (es : Entries B) (k : B.Key) → ascending B es ≡ true → itself B k (at_or_above B k es) ≡ none
        → all (λ e. not (same B e.key k)) es ≡ true
    itself_missing es k h n = in_all (λ e. not (same B e.key k)) es (λ e i. ap not (missing B L es k h n e i))

    -- ---- what a run does that has its lock, with ls the lock table then
    data Outcome (s : St B) (q : Q B) (ls : Slots B) : Ran B → Type 0 where
      -- 1: the target is an entry at most hi, and present
      seen : (k : B.Key) (o : Option B.Rec) → (was : B.Rec) × (o ≡ some was) × Finds B s q k was → Outcome s q ls (locked B s (found k o) ls)
      -- 2
      empty : FindsNothing B s q → Outcome s q ls (locked B s nothing ls)
      -- 16
      there : (k : B.Key) (o : Option B.Rec) → (was : B.Rec) × (o ≡ some was) × Present B s q k was
          → Outcome s q ls (locked B s (is_present k o) ls)
      -- 18
      full : PagesShort B s q → Outcome s q ls (unmoved B s pages_short)
      -- 0
      made : (es : Entries B) (ps : B.paging.Pages) → Does B s q es ps
          → Outcome s q ls (record { says = done; entries = es; pages = ps; slots = ls })

    -- a run: it takes its lasting lock, or says 17, and then does as above
    record Locking (s : St B) (q : Q B) : Type 0 where
      act : Slots B → Ran B
      is_run : run B s q ≡ taking B s q.asker (lock_for B s q) (wanted B s.entries q).mode act
      acts : (ls : Slots B) → Outcome s q ls (act ls)

    -- a run that nobody blocks
    module _ (s : St B) (w : Wait B) (i : In w (waits B s)) (n : w.behind ≡ []) (g : Good B s) where
      abbrev t : ℕ
      t = w.request.asker

      -- a ghost is its owner's in X: where nobody blocks the request that would lock it, the owner is the asker
      own_ghost : (e : En B) → In e s.entries → e.now ≡ none → wanted B s.entries w.request ≡ record { name = on e.key; mode = S }
          → e.owner ≡ t
      own_ghost e k z v =
          let o = good_sound B L s g in
          let x = owner_holds_lem B (runs B s) s.slots e (o.owners e k) (λ y. true≢false (sym (o.settled e k y).is_there ∙ ap is_there z)) in
          sym x.holder
          ∙ clear_as B L s w i n g (record { name = on e.key; mode = S }) v x.lock x.stands x.name (x_conflicts x.lock.mode S x.strong)

      -- "first entry at or above lo that is above hi or isn't the asker's own ghost": at most hi it is present
      read_present : (lo hi : B.Key) (e : En B) → w.request.asks ≡ read lo hi → target B s.entries t (read lo hi) ≡ some e
          → at_most B e.key hi ≡ true
          → e.now ≡ none → ⊥
      unfolding target wanted mode
      read_present lo hi e a h u z =
          let k = first_in (counts B t lo hi) s.entries e h in
          let own = own_ghost e k.0 z (rw (a, h)) in
          false≢true (rw (u, eq-eqb e.owner t own, z) at (and_right (at_most B lo e.key) _ k.1))

      read_acts : (lo hi : B.Key) → w.request.asks ≡ read lo hi → (o : Option (En B)) → target B s.entries t (read lo hi) ≡ o → (ls : Slots B)
          → Outcome s (record { asker = t; asks = read lo hi }) ls (locked B s (read_says B hi o) ls)
      unfolding read_says
      read_acts lo hi a none h ls = empty (above lo hi refl (λ k e. let z : end ≡ on k = ap (named B) (sym h) ∙ e in never (cc)))
      read_acts lo hi a (some e) h ls = go (at_most B e.key hi) refl
        where
          q : Q B
          q = record { asker = t; asks = read lo hi }

          is_there_lem : (u : at_most B e.key hi ≡ true) (o : Option B.Rec) → e.now ≡ o → (was : B.Rec) × (o ≡ some was) × Finds B s q e.key was
          is_there_lem u none z = absurd (read_present lo hi e a h u z)
          is_there_lem u (some was) z = (
            was,
            refl,
            record {
              lo = lo;
              hi = hi;
              asks = refl;
              is_target = rw h;
              inside = u;
              is_now = now_of s.entries e g.keys (target_in B s.entries t (read lo hi) e h) ∙ z;
            },
          )

          go : (b : Bool) → at_most B e.key hi ≡ b → Outcome s q ls (locked B s (cond b (found e.key e.now) nothing) ls)
          go true u = seen e.key e.now (is_there_lem u e.now refl)
          go false u =
              empty (above lo hi refl (λ k z. let y : on e.key ≡ on k = ap (named B) (sym h) ∙ z in let x : e.key ≡ k = cc in rw (← x) u))

      insert_locking : (k : B.Key) (r : B.Rec) → w.request.asks ≡ insert k r → (o : Option (En B)) → itself B k (at_or_above B k s.entries) ≡ o
          → Locking s (record { asker = t; asks = insert k r })
      unfolding run run_on target wanted mode insert_as insert_missing insert_there
      insert_locking k r a none h = record { act = insert_missing B s t k r; is_run = rw h; acts = λ ls. go ls (B.paging.fits s.pages k) refl }
        where
          go : (ls : Slots B) (b : Bool) → B.paging.fits s.pages k ≡ b
              → Outcome s (record { asker = t; asks = insert k r }) ls (insert_missing B s t k r ls)
          go ls true f = rw f (made _ _ (puts_in k r refl (itself_missing s.entries k g.keys h) f))
          go ls false f = rw f (full (record { key = k; rec = r; asks = refl; missing = itself_missing s.entries k g.keys h; short = f }))
      insert_locking k r a (some e) h = record { act = insert_there B s t r e e.now; is_run = rw (h, own); acts = λ ls. go ls e.now refl }
        where
          x : (at_or_above B k s.entries ≡ some e) × (same B e.key k ≡ true)
          x = itself_is B k (at_or_above B k s.entries) e h

          own : e.key ≡ k
          own = same_equal B L e.key k x.1

          stands : In e s.entries
          stands = (first_in (λ y. at_most B k y.key) s.entries e x.0).0

          go : (ls : Slots B) (o : Option B.Rec) → e.now ≡ o → Outcome s (record { asker = t; asks = insert k r }) ls (insert_there B s t r e o ls)
          go ls none z = made _ _ (brings_back e r (ap (λ (y : B.Key). insert y r) (sym own)) stands (own_ghost e stands z (rw (a, x.0, x.1))) z)
          go ls (some was) z = there e.key (some was) (
            was,
            refl,
            record {
              rec = r;
              asks = ap (λ (y : B.Key). insert y r) (sym own);
              is_now = now_of s.entries e g.keys stands ∙ z;
            },
          )

      delete_locking : (k : B.Key) (o : Option (En B)) → itself B k (at_or_above B k s.entries) ≡ o
          → Locking s (record { asker = t; asks = delete k })
      unfolding run run_on target wanted mode delete_as delete_there
      delete_locking k none h = record {
        act = locked B s nothing;
        is_run = rw h;
        acts = λ ls. empty (absent k refl (now_at_lem s.entries k g.keys ∙ ap (now_in B) h));
      }
      delete_locking k (some e) h = record {
        act = delete_there B s t e e.now;
        is_run = rw (h, (itself_is B k (at_or_above B k s.entries) e h).0);
        acts = λ ls. go ls e.now refl;
      }
        where
          own : e.key ≡ k
          own = same_equal B L e.key k (itself_is B k (at_or_above B k s.entries) e h).1

          now : now_at B s.entries k ≡ e.now
          now = now_at_lem s.entries k g.keys ∙ ap (now_in B) h

          go : (ls : Slots B) (o : Option B.Rec) → e.now ≡ o → Outcome s (record { asker = t; asks = delete k }) ls (delete_there B s t e o ls)
          go ls none z = empty (absent k refl (now ∙ z))
          go ls (some was) z = made _ _ (takes_away e.key was (ap delete (sym own)) (ap (now_at B s.entries) own ∙ now ∙ z))

      locking : (a : Ask B.Key B.Rec) → w.request.asks ≡ a → Locking s (record { asker = t; asks = a })
      unfolding run run_on wanted mode
      locking (read lo hi) a = record { act = _; is_run = refl; acts = read_acts lo hi a (target B s.entries t (read lo hi)) refl }
      locking (insert k r) a = insert_locking k r a (itself B k (at_or_above B k s.entries)) refl
      locking (delete k) a = delete_locking k (itself B k (at_or_above B k s.entries)) refl

      -- with a lock to be had, each cause gives its number
      had : (LocksShort B s w.request → ⊥) → (m : Mode) (f : Slots B → Ran B)
          → (ls : Slots B) × (taking B s t (lock_for B s w.request) m f ≡ f ls)
      had free m f = go (taken B s.slots t (lock_for B s w.request) m) refl
        where
          go : (o : Option (Slots B)) → taken B s.slots t (lock_for B s w.request) m ≡ o → (ls : Slots B) × (given B s f o ≡ f ls)
          go none e = let c = short_taken s.slots t (lock_for B s w.request) m e in absurd (free (record { new = c.0; full = c.1 }))
          go (some ls) e = (ls, refl)

      says_present : (LocksShort B s w.request → ⊥) → (k : B.Key) (was : B.Rec) → Present B s w.request k was
          → (run B s w.request).says ≡ is_present k (some was)
      unfolding run run_on target insert_as insert_there
      says_present free k was p = go (itself B k (at_or_above B k s.entries)) refl
        where
          now : (o : Option (En B)) → itself B k (at_or_above B k s.entries) ≡ o → now_in B o ≡ some was
          now o h = ap (now_in B) (sym h) ∙ sym (now_at_lem s.entries k g.keys) ∙ p.is_now

          go : (o : Option (En B)) → itself B k (at_or_above B k s.entries) ≡ o → (run B s w.request).says ≡ is_present k (some was)
          go none h = let z : none ≡ some was = now none h in never (cc)
          go (some e) h =
              let own : e.key ≡ k = same_equal B L e.key k (itself_is B k (at_or_above B k s.entries) e h).1 in
              let v = had free S (insert_there B s t p.rec e e.now) in
              let r : run B s w.request ≡ taking B s t (lock_for B s w.request) S (insert_there B s t p.rec e e.now) =
              rw (p.asks, h, own) in
              ap (λ (m : Ran B). m.says) (r ∙ v.1) ∙ (rw (now (some e) h, own))

      says_pages : (LocksShort B s w.request → ⊥) → PagesShort B s w.request → (run B s w.request).says ≡ pages_short
      unfolding run run_on target insert_as insert_missing
      says_pages free p =
          let h = missing_itself s.entries p.key p.missing in
          let v = had free X (insert_missing B s t p.key p.rec) in
          let r : run B s w.request ≡ taking B s t (lock_for B s w.request) X (insert_missing B s t p.key p.rec) = rw (p.asks, h) in
          ap (λ (m : Ran B). m.says) (r ∙ v.1) ∙ (rw p.short)

      says_found : (LocksShort B s w.request → ⊥) → (k : B.Key) (was : B.Rec) → Finds B s w.request k was
          → (run B s w.request).says ≡ found k (some was)
      unfolding run run_on read_says
      says_found free k was p = go (target B s.entries t w.request.asks) refl p.is_target
        where
          go : (o : Option (En B)) → target B s.entries t w.request.asks ≡ o → named B o ≡ on k
              → (run B s w.request).says ≡ found k (some was)
          go none h e = never (cc)
          go (some e) h q =
              let own : e.key ≡ k = cc in
              let now : e.now ≡ some was =
              sym (now_of s.entries e g.keys (target_in B s.entries t w.request.asks e h)) ∙ ap (now_at B s.entries) own ∙ p.is_now in
              let v = had free S (locked B s (read_says B p.hi (some e))) in
              let r : run B s w.request ≡ taking B s t (lock_for B s w.request) S (locked B s (read_says B p.hi (some e))) = rw (h, p.asks) in
              ap (λ (m : Ran B). m.says) (r ∙ v.1) ∙ (rw (own, p.inside, now))

      says_nothing : (LocksShort B s w.request → ⊥) → FindsNothing B s w.request → (run B s w.request).says ≡ nothing
      unfolding run run_on target read_says delete_as delete_there
      says_nothing free (above lo hi a f) = go (target B s.entries t w.request.asks) refl
        where
          go : (o : Option (En B)) → target B s.entries t w.request.asks ≡ o → (run B s w.request).says ≡ nothing
          go o h =
              let v = had free S (locked B s (read_says B hi o)) in
              let r : run B s w.request ≡ taking B s t (lock_for B s w.request) S (locked B s (read_says B hi o)) = rw (h, a) in
              ap (λ (m : Ran B). m.says) (r ∙ v.1) ∙ past o h
            where
              past : (o : Option (En B)) → target B s.entries t w.request.asks ≡ o → read_says B hi o ≡ nothing
              past none h = refl
              past (some e) h = rw (f e.key (ap (named B) h))
      says_nothing free (absent k a z) = go (itself B k (at_or_above B k s.entries)) refl (sym (now_at_lem s.entries k g.keys) ∙ z)
        where
          go : (o : Option (En B)) → itself B k (at_or_above B k s.entries) ≡ o → now_in B (itself B k (at_or_above B k s.entries)) ≡ none
              → (run B s w.request).says ≡ nothing
          go none h y =
              let v = had free S (locked B s nothing) in
              let r : run B s w.request ≡ taking B s t (lock_for B s w.request) S (locked B s nothing) = rw (a, h) in
              ap (λ (m : Ran B). m.says) (r ∙ v.1)
          go (some e) h y =
              let now : e.now ≡ none = rw h at y in
              let v = had free X (delete_there B s t e e.now) in
              let r : run B s w.request ≡ taking B s t (lock_for B s w.request) X (delete_there B s t e e.now) =
              rw (a, h, (itself_is B k (at_or_above B k s.entries) e h).0) in
              ap (λ (m : Ran B). m.says) (r ∙ v.1) ∙ (rw now)

      says_done : (LocksShort B s w.request → ⊥) → (es : Entries B) (ps : B.paging.Pages) → Does B s w.request es ps
          → (run B s w.request).says ≡ done
      unfolding run run_on target insert_as insert_missing insert_there delete_as delete_there
      says_done free es ps (puts_in k r a m f) =
          let h = missing_itself s.entries k m in
          let v = had free X (insert_missing B s t k r) in
          let y : run B s w.request ≡ taking B s t (lock_for B s w.request) X (insert_missing B s t k r) = rw (a, h) in
          ap (λ (m : Ran B). m.says) (y ∙ v.1) ∙ (rw f)
      says_done free es ps (brings_back e r a i o z) =
          let v = had free S (insert_there B s t r e e.now) in
          let y : run B s w.request ≡ taking B s t (lock_for B s w.request) S (insert_there B s t r e e.now) =
          rw (a, own_cover B L s.entries e g.keys i, same_itself B L e.key) in
          ap (λ (m : Ran B). m.says) (y ∙ v.1) ∙ (rw z)
      says_done free es ps (takes_away k was a z) = go (itself B k (at_or_above B k s.entries)) refl (sym (now_at_lem s.entries k g.keys) ∙ z)
        where
          go : (o : Option (En B)) → itself B k (at_or_above B k s.entries) ≡ o → now_in B (itself B k (at_or_above B k s.entries)) ≡ some was
              → (run B s w.request).says ≡ done
          go none h y = let x : none ≡ some was = rw h at y in never (cc)
          go (some e) h y =
              let now : e.now ≡ some was = rw h at y in
              let v = had free X (delete_there B s t e e.now) in
              let r : run B s w.request ≡ taking B s t (lock_for B s w.request) X (delete_there B s t e e.now) =
              rw (a, h, (itself_is B k (at_or_above B k s.entries) e h).0) in
              ap (λ (m : Ran B). m.says) (r ∙ v.1) ∙ (rw now)

      -- what a run says has its cause, and what a number may change
      abbrev Cause : Ran B → Sy B → Type 0
      Cause m done = Does B s w.request m.entries m.pages
      Cause m (found k o) = (was : B.Rec) × (o ≡ some was) × Finds B s w.request k was
      Cause m nothing = FindsNothing B s w.request
      Cause m (waiting u) = ⊥
      Cause m runs_already = ⊥
      Cause m runs_not = ⊥
      Cause m waits_already = ⊥
      Cause m (is_present k o) = (was : B.Rec) × (o ≡ some was) × Present B s w.request k was
      Cause m locks_short = LocksShort B s w.request
      Cause m pages_short = PagesShort B s w.request
      Cause m circle = ⊥

      record Right (m : Ran B) : Type 0 where
        cause : Cause m m.says
        queue_alone : (m.says ≡ locks_short) ⊎ (m.says ≡ pages_short) → m ≡ unmoved B s m.says
        takes_lock : m.says ≢ locks_short → m.says ≢ pages_short
            → taken B s.slots t (lock_for B s w.request) (wanted B s.entries w.request).mode ≡ some m.slots
        lock_alone : m.says ≢ done → (m.entries ≡ s.entries) × (m.pages ≡ s.pages)

      -- with the lock, and a number that is no refusal
      with_lock : (m : Ran B) → taken B s.slots t (lock_for B s w.request) (wanted B s.entries w.request).mode ≡ some m.slots
          → m.says ≢ locks_short → m.says ≢ pages_short → Cause m m.says
          → (m.says ≢ done → (m.entries ≡ s.entries) × (m.pages ≡ s.pages)) → Right m
      with_lock m e a b c l = record { cause = c; queue_alone = ⊎_elim (λ z. absurd (a z)) (λ z. absurd (b z)); takes_lock = λ x y. e; lock_alone = l }

      by_outcome : (ls : Slots B) → taken B s.slots t (lock_for B s w.request) (wanted B s.entries w.request).mode ≡ some ls
          → (m : Ran B) → Outcome s w.request ls m → Right m
      by_outcome ls e m (seen k o c) = with_lock m e (λ z. never (cc)) (λ z. never (cc)) c (λ a. (refl, refl))
      by_outcome ls e m (empty c) = with_lock m e (λ z. never (cc)) (λ z. never (cc)) c (λ a. (refl, refl))
      by_outcome ls e m (there k o c) = with_lock m e (λ z. never (cc)) (λ z. never (cc)) c (λ a. (refl, refl))
      by_outcome ls e m (made es ps c) = with_lock m e (λ z. never (cc)) (λ z. never (cc)) c (λ a. absurd (a refl))
      by_outcome ls e m (full c) = record { cause = c; queue_alone = λ z. refl; takes_lock = λ a b. absurd (b refl); lock_alone = λ a. (refl, refl) }

      ran : Locking s w.request
      ran = locking w.request.asks refl

      -- the lock is had or not
      by_lock : (o : Option (Slots B)) → taken B s.slots t (lock_for B s w.request) (wanted B s.entries w.request).mode ≡ o
          → Right (given B s ran.act o)
      by_lock none e = let c = short_taken s.slots t (lock_for B s w.request) (wanted B s.entries w.request).mode e in record {
        cause = record { new = c.0; full = c.1 };
        queue_alone = λ z. refl;
        takes_lock = λ a b. absurd (a refl);
        lock_alone = λ a. (refl, refl);
      }
      by_lock (some ls) e = by_outcome ls e (ran.act ls) (ran.acts ls)

      right : Right (run B s w.request)
      right =
          subst Right (sym ran.is_run) (by_lock (taken B s.slots t (lock_for B s w.request) (wanted B s.entries w.request).mode) refl)

      cause_of : (x : Sy B) → (run B s w.request).says ≡ x → Cause (run B s w.request) x
      cause_of x e = subst (Cause (run B s w.request)) e right.cause

      says_short : LocksShort B s w.request → (run B s w.request).says ≡ locks_short
      says_short c =
          ap (λ (x : Ran B). x.says) (ran.is_run
          ∙ ap (given B s ran.act)
          (taken_short s.slots t (lock_for B s w.request) (wanted B s.entries w.request).mode c.new c.full))

      pub runs_rightly : RunsRightly B s w.request (run B s w.request)
      runs_rightly = record {
        seventeen = says_short;
        seventeen_cause = cause_of locks_short;
        sixteen = says_present;
        sixteen_cause = λ k o e. cause_of (is_present k o) e;
        eighteen = says_pages;
        eighteen_cause = cause_of pages_short;
        one = says_found;
        one_cause = λ k o e. cause_of (found k o) e;
        two = says_nothing;
        two_cause = cause_of nothing;
        zero = says_done;
        zero_cause = cause_of done;
        never = (λ u. cause_of (waiting u), cause_of runs_already, cause_of runs_not, cause_of waits_already, cause_of circle);
        queue_alone = right.queue_alone;
        takes_lock = right.takes_lock;
        lock_alone = right.lock_alone;
      }
