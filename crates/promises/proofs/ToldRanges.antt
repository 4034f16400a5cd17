-- No key inside a range that a running transaction was told about is changed by another. It covers the key from its answer on, through
-- every deed but its own end, and while it does no other's run or end changes what the key finds; nor does an own deed that is no own change
-- of it, so presence and record stay (`stays`). Assumes nothing.
use Prim.Native.Nat.{ℕ}
use mathlib.Core.Path.{◌≡◌, refl, sym, ap, subst, ◌∙◌}
use mathlib.Core.Logic.{⊎_elim}
use mathlib.Core.Bool.{Bool, true, false, cond, not, ◌&&◌, true≢false}
use mathlib.Core.List.{List, map}
use mathlib.Core.Option
use mathlib.Core.Option.{Option, none, some}
use lib.Dec.{eqb}
use borrow.Author.Tests.{eqb-true, eqb-false, eq-eqb, not-true}
use Rattle.lists.specs.Lists.{first, In}
use Rattle.lists.proofs.Tests.{and_left, and_right, and_both, fails, first_map}
use Rattle.lists.proofs.Elements.{all_in, first_in}
use Rattle.rules.specs.Kinds.{Book, Ordered, Ask, ask}
use Rattle.rules.specs.Entries.{Entries, at_most, same, inserted, deleted, revived, committed, rolled_back, put, changed}
use Rattle.rules.specs.Locks.{itself}
use Rattle.rules.specs.Queue.{St, Q}
use Rattle.rules.specs.Runs.{En, Ran, run}
use Rattle.rules.specs.Desk.{Cl, runs, waits_now, begun, ended, joined, legal_ask}
use Rattle.rules.specs.Good.{ascending, Good}
use Rattle.rules.proofs.KeyTests.{same_equal, at_most_itself}
use Rattle.rules.proofs.Index.{at_or_above, kept_key}
use Rattle.rules.proofs.Did.{Did, refused, looked, put_in, brought_back, took_away, run_did}
use Rattle.rules.proofs.Sound.{committed_settles, rolled_back_settles}
use Rattle.rules.proofs.Cover.{Covers, cover_kept, run_leaves, end_leaves}
use Rattle.rules.proofs.Targets.{entry_at, first_with}
use Rattle.promises.specs.Story.{Deed, within, is_done, ends}
use Rattle.promises.specs.Demand3.{now_in, now_at, NothingChanged, changes, own_change, leaves_alone}
use Rattle.promises.proofs.Deeds.{Acts, begins, commits, rolls_back, goes, gives_way, refuses, queues, acts_keep, acts_entries, Tells, tells_keep, good_after, story_later}
use Rattle.promises.proofs.Told.{told_covered}

module _ (B : Book) (L : Ordered B.Key B.compare) where
  -- the same cover, the same presence and record
  now_same : (es es' : Entries B) (x : B.Key) → ascending B es ≡ true → ascending B es' ≡ true → at_or_above B x es' ≡ at_or_above B x es
      → now_at B es' x ≡ now_at B es x
  unfolding now_at
  now_same es es' x h h' e = ap (now_in B) (entry_at B L es' x h' ∙ ap (itself B x) e ∙ sym (entry_at B L es x h))

  deed_leaves : (s : St B) (d : Deed B) (z : St B) → Acts B s d z → Good B s → Good B z → (T : ℕ) (x : B.Key) → Covers B s T x → (T ≡ d.actor → ⊥)
      → now_at B d.after x ≡ now_at B d.before x
  unfolding begun ended
  deed_leaves s d z (begins t i r) g k T x c o = refl
  deed_leaves s d z (commits t i r n) g k T x c o =
      now_same s.entries z.entries x g.keys k.keys (end_leaves B L s t committed (committed_settles B) g r x T c o)
  deed_leaves s d z (rolls_back t i r) g k T x c o =
      now_same s.entries z.entries x g.keys k.keys (end_leaves B L s t rolled_back (rolled_back_settles B) g r x T c o)
  deed_leaves s d z (goes w i n) g k T x c o = now_same s.entries z.entries x g.keys k.keys (run_leaves B L s w g i n x T c o)
  deed_leaves s d z (gives_way w i n) g k T x c o = refl
  deed_leaves s d z (refuses t r m e) g k T x c o = refl
  deed_leaves s d z (queues q i e) g k T x c o = refl

  -- who covers x covers it until its end
  deed_covers : (T : ℕ) (x : B.Key) (s : St B) (d : Deed B) (z : St B) → Acts B s d z → ends B T d ≡ false → Good B s × Covers B s T x
      → Good B z × Covers B z T x
  deed_covers T x s d z a o = acts_keep B (λ u. u ≡ T → ⊥) (λ s. Good B s × Covers B s T x) (cover_kept B L T x) s d z a (λ u e q. true≢false (sym e ∙ (rw q o)))

  pub still_covers : (T : ℕ) (x : B.Key) {s z : St B} {ds : List (Deed B)} → Tells B s ds z → ((d : Deed B) → In d ds → ends B T d ≡ false)
      → Good B s × Covers B s T x → Good B z × Covers B z T x
  still_covers T x y f = tells_keep B (λ s. Good B s × Covers B s T x) (λ d. ends B T d ≡ false) (cover_kept B L T x).joins (deed_covers T x) y f

  -- an own run that is no own change of x leaves x
  other_key : (x k : B.Key) → within B (record { low = x; high = x }) k ≡ false → same B k x ≡ false
  other_key x k h = fails (same B k x) (λ q.
      true≢false (sym (rw (same_equal B L k x q) (and_both (at_most B x x) (at_most B x x) (at_most_itself B L x) (at_most_itself B L x))) ∙ h))

  put_spares : (e : En B) (es : Entries B) (x : B.Key) → ascending B es ≡ true → same B e.key x ≡ false → now_at B (put B e es) x ≡ now_at B es x
  unfolding now_at ascending
  put_spares e es x h o = ⊎_elim (λ z. ap (now_in B) z) (λ z. absurd (true≢false (sym z.1 ∙ o))) (first_with B L (λ y. same B y.key x) e es (and_left _ _ h))

  changed_spares : (k : B.Key) (f : En B → En B) (es : Entries B) (x : B.Key) → ((e : En B) → (f e).key ≡ e.key) → same B k x ≡ false
      → now_at B (changed B k f es) x ≡ now_at B es x
  unfolding now_at changed
  changed_spares k f es x c o = ap (now_in B) (e ∙ go (first (λ y. same B y.key x) es) refl)
    where
      g : En B → En B
      g y = cond (same B y.key k) (f y) y

      kept : (y : En B) → (g y).key ≡ y.key
      kept y = kept_key B f c (same B y.key k) y

      e : first (λ y. same B y.key x) (map g es) ≡ Option.map g (first (λ y. same B y.key x) es)
      e = simp (first_map, kept)

      go : (o : Option (En B)) → first (λ y. same B y.key x) es ≡ o → Option.map g o ≡ o
      go none q = refl
      go (some y) q =
          let n : same B y.key k ≡ false = fails (same B y.key k) (λ z.
          true≢false (sym (first_in (λ y. same B y.key x) es y q).1 ∙ (rw (same_equal B L y.key k z) o))) in
          rw n

  did_spares : (s : St B) (q : Q B) (x : B.Key) → Good B s → (r : Ran B) → Did B s q r
      → is_done B r.says && changes B (record { low = x; high = x }) (ask q.asks) ≡ false → now_at B r.entries x ≡ now_at B s.entries x
  did_spares s q x g r (refused m z) h = refl
  did_spares s q x g r (looked m ls e) h = refl
  did_spares s q x g r (put_in k v ls a m y e) h = put_spares (inserted q.asker k v) s.entries x g.keys (other_key x k (rw a at h))
  did_spares s q x g r (brought_back k e v ls a b t n y z) h =
      changed_spares e.key (revived q.asker v) s.entries x (λ e. refl) (rw (same_equal B L e.key k b) (other_key x k (rw a at h)))
  did_spares s q x g r (took_away k e ls a b t y z) h =
      changed_spares e.key (deleted q.asker) s.entries x (λ e. refl) (rw (same_equal B L e.key k b) (other_key x k (rw a at h)))

  -- one deed, then deeds in a row: who covers x and neither ends nor changes it finds it as it was
  abbrev pub Keeps : ℕ → B.Key → Option B.Rec → St B → Type 0
  Keeps T x o s = (Good B s × Covers B s T x) × (now_at B s.entries x ≡ o)

  own_leaves : (T : ℕ) (x : B.Key) (s : St B) (d : Deed B) (z : St B) → Acts B s d z → Good B s → d.actor ≡ T → ends B T d ≡ false
      → own_change B T (record { low = x; high = x }) d ≡ false → now_at B z.entries x ≡ now_at B s.entries x
  unfolding begun
  own_leaves T x s d z (begins t i r) g a e c = refl
  own_leaves T x s d z (commits t i r n) g a e c = absurd (true≢false (rw (eq-eqb t T a) at e))
  own_leaves T x s d z (rolls_back t i r) g a e c = absurd (true≢false (rw (eq-eqb t T a) at e))
  own_leaves T x s d z (goes w i n) g a e c =
      did_spares s w.request x g (run B s w.request) (run_did B s w.request) (rw (eq-eqb w.request.asker T a) at c)
  own_leaves T x s d z (gives_way w i n) g a e c = refl
  own_leaves T x s d z (refuses t r m q) g a e c = refl
  own_leaves T x s d z (queues q i r) g a e c = refl

  join_keeps : (T : ℕ) (x : B.Key) (o : Option B.Rec) (s : St B) (t : ℕ) (a : Ask B.Key B.Rec)
      → runs B s t ≡ true → waits_now B s t ≡ false → legal_ask B a ≡ true → Keeps T x o s → Keeps T x o (joined B s t a)
  unfolding joined
  join_keeps T x o s t a r w l k = ((cover_kept B L T x).joins s t a r w l k.0, k.1)

  deed_keeps : (T : ℕ) (x : B.Key) (o : Option B.Rec) (s : St B) (d : Deed B) (z : St B) → Acts B s d z → leaves_alone B T x d ≡ true
      → Keeps T x o s → Keeps T x o z
  deed_keeps T x o s d z a h k =
      let p = deed_covers T x s d z a (not-true _ (and_left _ _ h)) k.0 in
      (p, go (eqb d.actor T) refl p ∙ k.1)
    where
      go : (b : Bool) → eqb d.actor T ≡ b → Good B z × Covers B z T x → now_at B z.entries x ≡ now_at B s.entries x
      go true e p = own_leaves T x s d z a k.0.0 (eqb-true d.actor T e) (not-true _ (and_left _ _ h)) (not-true _ (and_right (not (ends B T d)) _ h))
      go false e p =
          let v = acts_entries B s d z a in
          subst (λ (es : Entries B). now_at B es x ≡ now_at B s.entries x) v.1
          (deed_leaves s d z a k.0.0 p.0 T x k.0.1 (λ q. eqb-false d.actor T e (sym q)) ∙ ap (λ (es : Entries B). now_at B es x) v.0)

  pub stays : (T : ℕ) (x : B.Key) {s z : St B} {ds : List (Deed B)} → Tells B s ds z → ((d : Deed B) → In d ds → leaves_alone B T x d ≡ true)
      → Good B s × Covers B s T x → Keeps T x (now_at B s.entries x) z
  stays T x {s} y f p =
      let o = now_at B s.entries x in
      tells_keep B (Keeps T x o) (λ d. leaves_alone B T x d ≡ true) (join_keeps T x o) (deed_keeps T x o) y f (p, refl)

  pub nothing_changed : (cs : List (Cl B)) → NothingChanged B cs
  nothing_changed cs = record {
    unchanged = λ xs ys zs a m g x e h w n o.
        let v = story_later B L cs xs ys zs a m e in
        let c = told_covered B L v.before a v.after v.acts v.good g x h w in
        let k = good_after B L v.before a v.after v.acts v.good in
        let p = still_covers a.actor x v.between (λ d i. not-true (ends B a.actor d) (all_in _ ys d n i)) (k, c) in
        deed_leaves v.until m v.then v.follows p.0 (good_after B L v.until m v.then v.follows p.0) a.actor x p.1 (λ z. o (sym z));
  }
