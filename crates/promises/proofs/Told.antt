-- What a transaction is told about, it covers: after the answer it holds the lock that guards each key of the range. A read by the keys that
-- it goes over, an insert and a delete by the key's own cover, which is their target. Assumes nothing.
use Prim.Native.Nat.{ℕ}
use mathlib.Core.Path.{◌≡◌, refl, sym, ap, subst}
use mathlib.Core.Logic.{inl, inr}
use mathlib.Core.Bool.{Bool, true, false, cond, ◌&&◌}
use mathlib.Core.List.{[]}
use mathlib.Core.Option.{Option, none, some, some-injective}
use Rattle.lists.specs.Lists.{In}
use Rattle.lists.proofs.Tests.{and_left, and_right, never}
use Rattle.rules.specs.Kinds.{Book, Ordered, Ask, read, insert, delete, Request, begin, commit, rollback, ask}
use Rattle.rules.specs.Entries.{at_most}
use Rattle.rules.specs.Locks.{target, wanted}
use Rattle.rules.specs.Queue.{St, Q, Wait, waits, blocker_of}
use Rattle.rules.specs.Runs.{done, found, nothing, waiting, runs_already, runs_not, waits_already, is_present, locks_short, pages_short, circle, Sy, En, Ran, read_says, run, left}
use Rattle.rules.specs.Desk.{runs, waits_now, if_so, unless_runs, refusal}
use Rattle.rules.specs.Good.{Good}
use Rattle.rules.proofs.KeyTests.{at_most_equal, at_most_along, at_most_other}
use Rattle.rules.proofs.LockTable.{held_holds, held_took}
use Rattle.rules.proofs.Did.{Did, refused, looked, put_in, brought_back, took_away, run_did}
use Rattle.rules.proofs.Cover.{cover, Covers}
use Rattle.rules.proofs.Targets.{UpTo, read_covers}
use Rattle.rules.proofs.Stands.{Stands, read_stands}
use Rattle.promises.specs.Story.{Deed, Range, range, told_read, told_key, told, within}
use Rattle.promises.proofs.Deeds.{Acts, begins, commits, rolls_back, goes, gives_way, refuses, queues}

module _ (B : Book) (L : Ordered B.Key B.compare) where
  within_is : (lo hi : B.Key) (g : Range B) (x : B.Key) → range B lo hi ≡ some g → within B g x ≡ true → (at_most B lo x ≡ true) × (at_most B x hi ≡ true)
  within_is lo hi g x h w =
      let z : record { low = lo; high = hi } ≡ g = cc in
      let v : at_most B lo x && at_most B x hi ≡ true = rw (← z) at w in
      (and_left _ _ v, and_right (at_most B lo x) _ v)

  -- the range of a read goes from lo no further than its target
  told_up_to : (lo hi : B.Key) (o : Option (En B)) (g : Range B) (x : B.Key) → told_read B lo hi (read_says B hi o) ≡ some g → within B g x ≡ true
      → (at_most B lo x ≡ true) × UpTo B o x
  unfolding read_says
  told_up_to lo hi none g x h w = ((within_is lo hi g x h w).0, λ e q. never (cc))
  told_up_to lo hi (some e) g x h w = go (at_most B e.key hi) refl h
    where
      go : (b : Bool) → at_most B e.key hi ≡ b → told_read B lo hi (cond b (found e.key e.now) nothing) ≡ some g
          → (at_most B lo x ≡ true) × UpTo B (some e) x
      go true q h =
          let b = within_is lo e.key g x h w in
          (b.0, λ y p. let v : e ≡ y = cc in subst (λ (y : En B). at_most B x y.key ≡ true) v b.1)
      go false q h =
          let b = within_is lo hi g x h w in
          (b.0, λ y p. let v : e ≡ y = cc in subst (λ (y : En B). at_most B x y.key ≡ true) v (at_most_along B L x hi e.key b.1 (at_most_other B L hi e.key q)))

  read_told : (t : ℕ) (lo hi : B.Key) (m : Sy B) (s : St B) → Stands B t lo hi m s → (g : Range B) (x : B.Key) → told_read B lo hi m ≡ some g → within B g x ≡ true
      → Covers B s t x
  read_told t lo hi m s v g x h w =
      let u = told_up_to lo hi (target B s.entries t (read lo hi)) g x (rw v.says h) w in
      read_covers B L s v.good t lo hi v.held x u.0 u.1

  -- the range of an insert or a delete is its key
  pub key_range : (k : B.Key) (m : Sy B) (g : Range B) → told_key B k m ≡ some g → range B k k ≡ some g
  key_range k done g h = never (cc)
  key_range k (found j r) g h = never (cc)
  key_range k nothing g h = cc
  key_range k (waiting u) g h = never (cc)
  key_range k runs_already g h = never (cc)
  key_range k runs_not g h = never (cc)
  key_range k waits_already g h = never (cc)
  key_range k (is_present j r) g h = cc
  key_range k locks_short g h = never (cc)
  key_range k pages_short g h = never (cc)
  key_range k circle g h = never (cc)

  key_is : (k : B.Key) (m : Sy B) (g : Range B) (x : B.Key) → told_key B k m ≡ some g → within B g x ≡ true → k ≡ x
  key_is k m g x h w = let b = within_is k k g x (key_range k m g h) w in at_most_equal B L k x b.0 b.1

  key_told : (s : St B) (q : Q B) (k : B.Key) → (wanted B s.entries q).name ≡ cover B s.entries k → (g : Range B) (x : B.Key) → within B g x ≡ true
      → (r : Ran B) → Did B s q r → told_key B k r.says ≡ some g → Covers B (left B s q r).state q.asker x
  key_told s q k n g x w r (refused m (inl z)) h = let y : told_key B k locks_short ≡ some g = rw z at h in never (cc)
  key_told s q k n g x w r (refused m (inr z)) h = let y : told_key B k pages_short ≡ some g = rw z at h in never (cc)
  key_told s q k n g x w r (looked m ls e) h =
      rw (← key_is k m g x h w, ← n) (held_holds B L ls q.asker _ _ (held_took B L s.slots ls q.asker _ _ e))
  key_told s q k n g x w r (put_in j v ls a m y e) h = never (cc)
  key_told s q k n g x w r (brought_back j v z ls a b c d y e) h = never (cc)
  key_told s q k n g x w r (took_away j z ls a b c y e) h = never (cc)

  -- a run that nothing blocked
  run_told : (s : St B) (w : Wait B) → Good B s → In w (waits B s) → w.behind ≡ [] → (g : Range B) (x : B.Key)
      → told B (ask w.request.asks) (run B s w.request).says ≡ some g → within B g x ≡ true
      → Covers B (left B s w.request (run B s w.request)).state w.request.asker x
  unfolding told wanted target
  run_told s w good i n g x h y = go w.request.asks refl h
    where
      q : Q B
      q = w.request

      go : (a : Ask B.Key B.Rec) → q.asks ≡ a → told B (ask a) (run B s q).says ≡ some g → Covers B (left B s q (run B s q)).state q.asker x
      go (read lo hi) e h =
          read_told q.asker lo hi (run B s q).says _
          (read_stands B L s w q.asker lo hi good i n (ap (λ (a : Ask B.Key B.Rec). record { asker = q.asker; asks = a }) e)
          (λ z. let v : told_read B lo hi locks_short ≡ some g = rw z at h in never (cc))) g x h y
      go (insert k r) e h = key_told s q k (rw e) g x y (run B s q) (run_did B s q) h
      go (delete k) e h = key_told s q k (rw e) g x y (run B s q) (run_did B s q) h

  -- an answer without a range
  pub tells_none : (m : Sy B) → ((lo hi : B.Key) → told_read B lo hi m ≡ none) → ((k : B.Key) → told_key B k m ≡ none)
      → {P : Type 0} (a : Ask B.Key B.Rec) (g : Range B) → told B (ask a) m ≡ some g → P
  unfolding told
  tells_none m f h (read lo hi) g e = let z = f lo hi in never (cc)
  tells_none m f h (insert k r) g e = let z = h k in never (cc)
  tells_none m f h (delete k) g e = let z = h k in never (cc)

  pub refusal_told : (s : St B) (t : ℕ) (r : Request B.Key B.Rec) (m : Sy B) → refusal B s t r ≡ some m → {P : Type 0} (g : Range B) → told B r m ≡ some g → P
  unfolding told refusal
  refusal_told s t begin m e g h = never (cc)
  refusal_told s t commit m e g h = never (cc)
  refusal_told s t rollback m e g h = never (cc)
  refusal_told s t (ask a) m e {P} g h = go (runs B s t) (waits_now B s t) e
    where
      go : (b c : Bool) → unless_runs B b (if_so B c waits_already) ≡ some m → P
      go true true e = tells_none waits_already (λ lo hi. refl) (λ k. refl) a g (rw (some-injective m waits_already (sym e)) at h)
      go true false e = never (cc)
      go false c e = tells_none runs_not (λ lo hi. refl) (λ k. refl) a g (rw (some-injective m runs_not (sym e)) at h)

  pub told_covered : (s : St B) (d : Deed B) (z : St B) → Acts B s d z → Good B s → (g : Range B) (x : B.Key) → told B d.request d.says ≡ some g → within B g x ≡ true
      → Covers B z d.actor x
  unfolding told
  told_covered s d z (begins t i r) good g x h w = never (cc)
  told_covered s d z (commits t i r n) good g x h w = never (cc)
  told_covered s d z (rolls_back t i r) good g x h w = never (cc)
  told_covered s d z (goes v i n) good g x h w = run_told s v good i n g x h w
  told_covered s d z (gives_way v i n) good g x h w = tells_none circle (λ lo hi. refl) (λ k. refl) v.request.asks g h
  told_covered s d z (refuses t r m e) good g x h w = refusal_told s t r m e g h
  told_covered s d z (queues q i e) good g x h w = tells_none (waiting (blocker_of B s q.asker)) (λ lo hi. refl) (λ k. refl) q.asks g h
