-- Who repeats an insert that was told 16, or a delete that was told 2, gets the same while it covers the key and the key is as it was: it holds
-- what it wants, so nothing blocks it and it needs no slot, and what it says goes by presence and record alone. Assumes nothing.
use Prim.Native.Nat.{ℕ}
use mathlib.Core.Path.{◌≡◌, refl, sym, ap, subst, ◌∙◌}
use mathlib.Core.Bool.{Bool, true, false, cond, not, ◌&&◌, true≢false, false≢true}
use mathlib.Core.List.{List, [], append-nil, map}
use mathlib.Core.Option.{Option, none, some}
use lib.Dec.{eqb}
use borrow.Author.Tests.{eqb-false, not-true}
use Rattle.lists.specs.Lists.{any, pairs, In}
use Rattle.lists.proofs.Tests.{and_left, and_right, fails, never, keep_none}
use Rattle.lists.proofs.Elements.{any_in, first_in}
use Rattle.rules.specs.Kinds.{Book, Ordered, Mode, S, X, Name, on, insert, delete}
use Rattle.rules.specs.Entries.{Entries, is_there, inserted, put}
use Rattle.rules.specs.Locks.{Slots, in_use, conflict, stronger, same_name, holds, taken, target, named, itself, mode, Want, wanted, holders, blockers}
use Rattle.rules.specs.Queue.{St, Q, Wait, waits}
use Rattle.rules.specs.Runs.{done, nothing, is_present, pages_short, Sy, En, unmoved, locked, given, insert_missing, insert_there, insert_as, delete_there, delete_as, run_on, run}
use Rattle.rules.specs.Desk.{runs}
use Rattle.rules.specs.Good.{Lk, together, ascending, Good}
use Rattle.rules.proofs.KeyTests.{same_equal, name_equal}
use Rattle.rules.proofs.Index.{at_or_above}
use Rattle.rules.proofs.LockTable.{Held, holds_held, held_holds, alone}
use Rattle.rules.proofs.Sound.{owner_holds_lem}
use Rattle.rules.proofs.Did.{itself_is}
use Rattle.rules.proofs.Unblocked.{good_sound}
use Rattle.rules.proofs.Waits.{placed}
use Rattle.rules.proofs.Cover.{Covers}
use Rattle.rules.proofs.Targets.{entry_at}
use Rattle.promises.specs.Story.{Range, told_key}
use Rattle.promises.specs.Demand3.{now_in, now_at}
use Rattle.promises.proofs.Gets.{Gets, holder_runs}

module _ (B : Book) (L : Ordered B.Key B.compare) where
  -- who holds what it wants is not blocked: nobody else holds against it, and its own lock there lifts the rule of the queue
  holds_alone : (ls : Slots B) → pairs (together B) (in_use ls) ≡ true → (t : ℕ) (n : Name B.Key) (m : Mode) → Held B ls t n m
      → (l : Lk B) → In l (in_use ls) → l.name ≡ n → conflict l.mode m ≡ true → l.holder ≡ t
  holds_alone ls h t n X k l i e c = alone B L ls t n h k l i e
  holds_alone ls h t n S k l i e c =
      sym (alone B L ls l.holder n h (record { lock = l; stands = i; holder = refl; name = e; strong = go l.mode c }) k.lock k.stands k.name) ∙ k.holder
    where
      go : (m : Mode) → conflict m S ≡ true → stronger m X ≡ m
      go S c = absurd (false≢true c)
      go X c = refl

  nobody_else : (ls : Slots B) → pairs (together B) (in_use ls) ≡ true → (t : ℕ) (w : Want B) → Held B ls t w.name w.mode → holders B ls t w ≡ []
  unfolding holders
  nobody_else ls h t w k = ap (map (λ (l : Lk B). l.holder)) (keep_none against (in_use ls) (fails (any against (in_use ls)) (λ y.
      let l = any_in against (in_use ls) y in
      let b = and_right (not (eqb l.0.holder t)) _ l.2 in
      eqb-false l.0.holder t (not-true _ (and_left _ _ l.2))
      (holds_alone ls h t w.name w.mode k l.0 l.1 (name_equal B L l.0.name w.name (and_left _ _ b)) (and_right (same_name B l.0.name w.name) _ b)))))
    where
      against : Lk B → Bool
      against l = not (eqb l.holder t) && (same_name B l.name w.name && conflict l.mode w.mode)

  holder_free : (s : St B) → Good B s → (q : Q B) → Held B s.slots q.asker (wanted B s.entries q).name (wanted B s.entries q).mode
      → (w : Wait B) → In w (waits B s) → w.request ≡ q → w.behind ≡ []
  unfolding blockers
  holder_free s g q k w i e =
      let p = placed B s w i in
      p.behind ∙ ap (blockers B s.entries s.slots p.ahead) e ∙ go p.ahead
    where
      go : (ahead : List (Q B)) → blockers B s.entries s.slots ahead q ≡ []
      go ahead = rw (held_holds B L s.slots q.asker (wanted B s.entries q).name (wanted B s.entries q).mode k, append-nil)
          (nobody_else s.slots g.modes q.asker (wanted B s.entries q) k)

  -- presence and record of k are those of the entry that is its cover
  now_there : (es : Entries B) (k : B.Key) → ascending B es ≡ true → now_at B es k ≡ now_in B (itself B k (at_or_above B k es))
  unfolding now_at
  now_there es k h = ap (now_in B) (entry_at B L es k h)

  -- an insert that was told about k found it present, a delete found it absent
  insert_said : (s : St B) (t : ℕ) (k : B.Key) (r : B.Rec) (g : Range B) (o : Option (En B)) → ((e : En B) → o ≡ some e → e.key ≡ k)
      → told_key B k (insert_as B s t k r o).says ≡ some g
      → (was : B.Rec) × (now_in B o ≡ some was) × ((insert_as B s t k r o).says ≡ is_present k (some was)) × ((insert_as B s t k r o).entries ≡ s.entries)
  unfolding insert_as insert_missing insert_there
  insert_said s t k r g none z h = absurd (go (taken B s.slots t (on k) X) h)
    where
      fits : (ls : Slots B) (b : Bool)
          → told_key B k (cond b (record { says = done; entries = put B (inserted t k r) s.entries; pages = B.paging.grown s.pages k; slots = ls })
          (unmoved B s pages_short)).says ≡ some g
          → ⊥
      fits ls true h = never (cc)
      fits ls false h = never (cc)

      go : (o : Option (Slots B)) → told_key B k (given B s (insert_missing B s t k r) o).says ≡ some g → ⊥
      go none h = never (cc)
      go (some ls) h = fits ls (B.paging.fits s.pages k) h
  insert_said s t k r g (some e) z h = go (taken B s.slots t (on e.key) S) e.now h
    where
      go : (o : Option (Slots B)) (v : Option B.Rec) → told_key B k (given B s (insert_there B s t r e v) o).says ≡ some g
          → (was : B.Rec) × (v ≡ some was) × ((given B s (insert_there B s t r e v) o).says ≡ is_present k (some was)) × ((given B s (insert_there B s t r e v) o).entries ≡ s.entries)
      go none v h = never (cc)
      go (some ls) (some was) h = (was, refl, ap (λ (j : B.Key). is_present j (some was)) (z e refl), refl)
      go (some ls) none h = never (cc)

  delete_said : (s : St B) (t : ℕ) (n : Name B.Key) (k : B.Key) (g : Range B) (o : Option (En B))
      → told_key B k (delete_as B s t n o).says ≡ some g
      → (now_in B o ≡ none) × ((delete_as B s t n o).says ≡ nothing) × ((delete_as B s t n o).entries ≡ s.entries)
  unfolding delete_as delete_there
  delete_said s t n k g none h = go (taken B s.slots t n S) h
    where
      go : (o : Option (Slots B)) → told_key B k (given B s (locked B s nothing) o).says ≡ some g
          → (◌≡◌ {A = Option B.Rec} none none) × ((given B s (locked B s nothing) o).says ≡ nothing) × ((given B s (locked B s nothing) o).entries ≡ s.entries)
      go none h = never (cc)
      go (some ls) h = (refl, refl, refl)
  delete_said s t n k g (some e) h = go (taken B s.slots t (on e.key) X) e.now h
    where
      go : (o : Option (Slots B)) (v : Option B.Rec) → told_key B k (given B s (delete_there B s t e v) o).says ≡ some g
          → (v ≡ none) × ((given B s (delete_there B s t e v) o).says ≡ nothing) × ((given B s (delete_there B s t e v) o).entries ≡ s.entries)
      go none v h = never (cc)
      go (some ls) (some was) h = never (cc)
      go (some ls) none h = (refl, refl, refl)

  -- and where k is covered and is so still, they say it again
  module _ (s : St B) (g : Good B s) (t : ℕ) (k : B.Key) (c : Covers B s t k) where
    insert_gets : (r was : B.Rec) → now_at B s.entries k ≡ some was → Gets B t (insert k r) (is_present k (some was)) s
    unfolding wanted target mode run run_on insert_as insert_there taken
    insert_gets r was n = go (itself B k (at_or_above B k s.entries)) refl (sym (now_there s.entries k g.keys) ∙ n)
      where
        q : Q B
        q = record { asker = t; asks = insert k r }

        go : (o : Option (En B)) → itself B k (at_or_above B k s.entries) ≡ o → now_in B o ≡ some was → Gets B t (insert k r) (is_present k (some was)) s
        go none e h = never (cc)
        go (some y) e h =
            let i = itself_is B k (at_or_above B k s.entries) y e in
            let j : holds B s.slots t (on y.key) ≡ true = rw i.0 at c in
            record {
              runs = holder_runs B L s g t _ c;
              free = holder_free s g q (rw e (holds_held B L s.slots t _ c));
              says = rw e (rw j (rw (h, same_equal B L y.key k i.1)));
            }

    -- its own ghost, if it is there
    ghost_mine : (y : En B) → In y s.entries → y.now ≡ none → holds B s.slots t (on y.key) ≡ true → Held B s.slots t (on y.key) X
    ghost_mine y i n h =
        let o = good_sound B L s g in
        let x = owner_holds_lem B (runs B s) s.slots y (o.owners y i) (λ z. true≢false (sym (o.settled y i z).is_there ∙ ap is_there n)) in
        let l = holds_held B L s.slots t (on y.key) h in
        subst (λ (u : ℕ). Held B s.slots u (on y.key) X) (sym (alone B L s.slots y.owner (on y.key) g.modes x l.lock l.stands l.name) ∙ l.holder) x

    delete_gets : now_at B s.entries k ≡ none → Gets B t (delete k) nothing s
    unfolding wanted target mode run run_on delete_as delete_there taken
    delete_gets n = go (itself B k (at_or_above B k s.entries)) refl (sym (now_there s.entries k g.keys) ∙ n)
      where
        q : Q B
        q = record { asker = t; asks = delete k }

        go : (o : Option (En B)) → itself B k (at_or_above B k s.entries) ≡ o → now_in B o ≡ none → Gets B t (delete k) nothing s
        go none e h = record {
          runs = holder_runs B L s g t _ c;
          free = holder_free s g q (rw e (holds_held B L s.slots t _ c));
          says = rw e (rw c);
        }
        go (some y) e h =
            let i = itself_is B k (at_or_above B k s.entries) y e in
            let j : holds B s.slots t (on y.key) ≡ true = rw i.0 at c in
            let x = ghost_mine y (first_in _ s.entries y i.0).0 h j in
            record {
              runs = holder_runs B L s g t _ c;
              free = holder_free s g q (rw (e, i.0) x);
              says = rw e (rw j (rw h));
            }

  -- what an insert and a delete were told is what they get
  pub insert_told : (t : ℕ) (k : B.Key) (r : B.Rec) (s : St B) → Good B s → (g : Range B)
      → told_key B k (run B s (record { asker = t; asks = insert k r })).says ≡ some g
      → (u : St B) → Good B u → Covers B u t k → now_at B u.entries k ≡ now_at B (run B s (record { asker = t; asks = insert k r })).entries k
      → Gets B t (insert k r) (run B s (record { asker = t; asks = insert k r })).says u
  unfolding run run_on target
  insert_told t k r s w g h u y c n =
      let v = insert_said s t k r g (itself B k (at_or_above B k s.entries)) (λ e q. same_equal B L e.key k (itself_is B k (at_or_above B k s.entries) e q).1) h in
      subst (λ (m : Sy B). Gets B t (insert k r) m u) (sym v.2)
      (insert_gets u y t k c r v.0 (n ∙ ap (λ (es : Entries B). now_at B es k) v.3 ∙ now_there s.entries k w.keys ∙ v.1))

  pub delete_told : (t : ℕ) (k : B.Key) (s : St B) → Good B s → (g : Range B) → told_key B k (run B s (record { asker = t; asks = delete k })).says ≡ some g
      → (u : St B) → Good B u → Covers B u t k → now_at B u.entries k ≡ now_at B (run B s (record { asker = t; asks = delete k })).entries k
      → Gets B t (delete k) (run B s (record { asker = t; asks = delete k })).says u
  unfolding run run_on target
  delete_told t k s w g h u y c n =
      let v = delete_said s t (named B (at_or_above B k s.entries)) k g (itself B k (at_or_above B k s.entries)) h in
      subst (λ (m : Sy B). Gets B t (delete k) m u) (sym v.1)
      (delete_gets u y t k c (n ∙ ap (λ (es : Entries B). now_at B es k) v.2 ∙ now_there s.entries k w.keys ∙ v.0))
