-- Who repeats a read that it was answered gets the same, if it has itself changed nothing that it was told about. The answer stands (Stands)
-- through every deed but the reader's end and its own change there; where it found a key, it is the read up to that key that stands.
-- Assumes nothing.
use Prim.Native.Nat.{ℕ}
use mathlib.Core.Path.{◌≡◌, refl, sym, ap, subst, ◌∙◌}
use mathlib.Core.Logic.{◌⊎◌, inl, inr}
use mathlib.Core.Bool.{Bool, true, false, cond, ◌&&◌, true≢false}
use mathlib.Core.List.{List}
use mathlib.Core.Option.{Option, none, some}
use lib.Dec.{eqb}
use borrow.Author.Tests.{eqb-true, eqb-false, eq-eqb, not-true}
use Rattle.lists.specs.Lists.{first, In}
use Rattle.lists.proofs.Tests.{and_left, never}
use Rattle.lists.proofs.Elements.{first_in}
use Rattle.lists.proofs.Pairs.{first_least}
use Rattle.lists.proofs.Firsts.{first_agree}
use Rattle.rules.specs.Kinds.{Book, Ordered, Ask, read, insert, delete, Request, ask}
use Rattle.rules.specs.Entries.{Entries, at_most, committed, rolled_back}
use Rattle.rules.specs.Locks.{holds, counts, target, named}
use Rattle.rules.specs.Queue.{St, blocker_of}
use Rattle.rules.specs.Runs.{done, found, nothing, waiting, runs_already, runs_not, waits_already, is_present, locks_short, pages_short, circle, Sy, En, read_says, run}
use Rattle.rules.specs.Desk.{begun, joined}
use Rattle.rules.specs.Good.{below, ascending, Good}
use Rattle.rules.proofs.KeyTests.{at_most_itself, at_most_other, at_most_along}
use Rattle.rules.proofs.Sound.{committed_settles, rolled_back_settles}
use Rattle.rules.proofs.Did.{run_did}
use Rattle.rules.proofs.GoodKept.{good_kept}
use Rattle.rules.proofs.Stands.{Stands, Outside, other_run, other_end, own_run, not_blocked, says_again, read_stands}
use Rattle.promises.specs.Story.{Deed, Range, told_read, told, ends}
use Rattle.promises.specs.Demand3.{changes, own_change}
use Rattle.promises.proofs.Deeds.{Acts, begins, commits, rolls_back, goes, gives_way, refuses, queues, Tells, tells_keep}
use Rattle.promises.proofs.Told.{tells_none, refusal_told}
use Rattle.promises.proofs.Gets.{Gets, is_asked, holder_runs}

module _ (B : Book) (L : Ordered B.Key B.compare) where
  module _ (t : ℕ) (lo hi : B.Key) where
    -- it stands when it is given
    pub given_stands : (s : St B) (d : Deed B) (z : St B) → Acts B s d z → Good B s → (g : Range B) → d.actor ≡ t
        → d.request ≡ ask (read lo hi) → told B d.request d.says ≡ some g
        → Stands B t lo hi d.says z
    unfolding told
    given_stands s d z (begins u i r) k g a e h = never (cc)
    given_stands s d z (commits u i r n) k g a e h = never (cc)
    given_stands s d z (rolls_back u i r) k g a e h = never (cc)
    given_stands s d z (goes w i n) k g a e h =
        let y = subst (λ (r : Request B.Key B.Rec). told B r (run B s w.request).says ≡ some g) e h in
        read_stands B L s w t lo hi k i n (is_asked B t (read lo hi) w.request a e) (λ q. let v : told_read B lo hi locks_short ≡ some g = rw q at y in never (cc))
    given_stands s d z (gives_way w i n) k g a e h = tells_none B L circle (λ lo hi. refl) (λ k. refl) w.request.asks g h
    given_stands s d z (refuses u r m c) k g a e h = refusal_told B L s u r m c g h
    given_stands s d z (queues q i c) k g a e h = tells_none B L (waiting (blocker_of B s q.asker)) (λ lo hi. refl) (λ k. refl) q.asks g h

    -- it stands through deeds that are neither t's end nor t's own change there
    module _ (m : Sy B) where
      not_end : (u : ℕ) → (eqb u t && true) && true ≡ false → t ≡ u → ⊥
      not_end u e z = true≢false (sym (rw (eq-eqb u t (sym z))) ∙ e)

      outside : (a : Ask B.Key B.Rec) → changes B (record { low = lo; high = hi }) (ask a) ≡ false → Outside B lo hi a
      outside (read k l) h = tt
      outside (insert k r) h = h
      outside (delete k) h = h

      abbrev Spares : Deed B → Type 0
      Spares d = (ends B t d ≡ false) × (own_change B t (record { low = lo; high = hi }) d ≡ false)

      deed_stands : (s : St B) (d : Deed B) (z : St B) → Acts B s d z → Spares d → Stands B t lo hi m s → Stands B t lo hi m z
      unfolding begun
      deed_stands s d z (begins u i r) o v = record { good = (good_kept B L).begins s u i r v.good; held = v.held; says = v.says }
      deed_stands s d z (commits u i r n) o v =
          other_end B L t lo hi m s v committed (committed_settles B) u r (not_end u o.0) ((good_kept B L).commits s u tt i r n v.good)
      deed_stands s d z (rolls_back u i r) o v =
          other_end B L t lo hi m s v rolled_back (rolled_back_settles B) u r (not_end u o.0) ((good_kept B L).rolls_back s u tt i r v.good)
      deed_stands s d z (goes w i n) o v = go (eqb w.request.asker t) refl
        where
          go : (b : Bool) → eqb w.request.asker t ≡ b → Stands B t lo hi m z
          go true e =
              own_run B L t lo hi m s v w.request (eqb-true w.request.asker t e) (run B s w.request) (run_did B s w.request)
              ((good_kept B L).goes s w i n v.good) (λ q. outside w.request.asks (rw (e, q) at o.1))
          go false e = other_run B L t lo hi m s v w i n (λ q. eqb-false w.request.asker t e (sym q))
      deed_stands s d z (gives_way w i n) o v = record { good = (good_kept B L).gives_way s w i v.good; held = v.held; says = v.says }
      deed_stands s d z (refuses u r n e) o v = v
      deed_stands s d z (queues q i e) o v = v

      joined_stands : (s : St B) (u : ℕ) (a : Ask B.Key B.Rec) → Good B (joined B s u a) → Stands B t lo hi m s → Stands B t lo hi m (joined B s u a)
      unfolding joined
      joined_stands s u a g v = record { good = g; held = v.held; says = v.says }

      still_stands : {s z : St B} {ds : List (Deed B)} → Tells B s ds z → ((d : Deed B) → In d ds → Spares d) → Stands B t lo hi m s → Stands B t lo hi m z
      still_stands y f =
          tells_keep B (Stands B t lo hi m) Spares (λ s u a r w l v. joined_stands s u a ((good_kept B L).joins s u a r w l v.good) v) deed_stands y f

      pub read_gets : (s : St B) → Stands B t lo hi m s → Gets B t (read lo hi) m s
      read_gets s v = record {
        runs = holder_runs B L s v.good t (named B (target B s.entries t (read lo hi))) v.held;
        free = not_blocked B L t lo hi m s v;
        says = says_again B L t lo hi m s v;
      }

  -- a read that found k: that is the answer to every read from lo that goes as far as k
  module _ (t : ℕ) (lo : B.Key) where
    found_at : (hi : B.Key) (o : Option (En B)) (k : B.Key) (r : Option B.Rec) → read_says B hi o ≡ found k r
        → (e : En B) × (o ≡ some e) × (at_most B e.key hi ≡ true) × (e.key ≡ k) × (e.now ≡ r)
    unfolding read_says
    found_at hi none k r h = never (cc)
    found_at hi (some e) k r h = go (at_most B e.key hi) refl h
      where
        go : (b : Bool) → at_most B e.key hi ≡ b → cond b (found e.key e.now) nothing ≡ found k r
            → (y : En B) × (some e ≡ some y) × (at_most B y.key hi ≡ true) × (y.key ≡ k) × (y.now ≡ r)
        go true q h = (e, refl, q, cc, cc)
        go false q h = never (cc)

    counts_alike : (hi h : B.Key) (e : En B) → at_most B e.key hi ≡ true → at_most B e.key h ≡ true → counts B t lo hi e ≡ counts B t lo h e
    counts_alike hi h e p q = rw (p, q)

    first_alike : (es : Entries B) (hi h : B.Key) (e : En B) → ascending B es ≡ true → first (counts B t lo hi) es ≡ some e
        → at_most B e.key hi ≡ true → at_most B e.key h ≡ true → first (counts B t lo h) es ≡ some e
    unfolding ascending
    first_alike es hi h e a q p r =
        let c : counts B t lo h e ≡ true = sym (counts_alike hi h e p r) ∙ (first_in (counts B t lo hi) es e q).1 in
        let w = first_least (counts B t lo h) (below B) es e (and_left _ _ a) (first_in (counts B t lo hi) es e q).0 c in
        go w.0 w.1 c w.2
      where
        go : (y : En B) → first (counts B t lo h) es ≡ some y → counts B t lo h e ≡ true → (y ≡ e) ⊎ (below B y e ≡ true)
            → first (counts B t lo h) es ≡ some e
        go y z c (inl i) = rw i at z
        go y z c (inr b) =
            let n : at_most B y.key e.key ≡ true = at_most_other B L y.key e.key (not-true _ b) in
            let d : counts B t lo hi y ≡ true = counts_alike hi h y (at_most_along B L y.key e.key hi n p) (at_most_along B L y.key e.key h n r)
            ∙ (first_in (counts B t lo h) es y z).1 in
            let i : e ≡ y = first_agree (counts B t lo hi) (counts B t lo h) es e y q z d c in rw (sym i) at z

    as_far : (hi h k : B.Key) (r : Option B.Rec) (s : St B) → at_most B k h ≡ true → Stands B t lo hi (found k r) s → Stands B t lo h (found k r) s
    unfolding target read_says
    as_far hi h k r s n v =
        let f = found_at hi (target B s.entries t (read lo hi)) k r v.says in
        let e = f.0 in
        let b : at_most B e.key h ≡ true = rw f.3 n in
        let i : target B s.entries t (read lo h) ≡ some e = first_alike s.entries hi h e v.good.keys f.1 f.2 b in
        let j : holds B s.slots t (named B (some e)) ≡ true = rw f.1 at v.held in
        record { good = v.good; held = rw i j; says = ap (read_says B h) i ∙ (rw (b, f.3, f.4)) }

    as_far_as : (hi k : B.Key) (r : Option B.Rec) (s : St B) → Stands B t lo hi (found k r) s → at_most B k hi ≡ true
    as_far_as hi k r s v = let f = found_at hi (target B s.entries t (read lo hi)) k r v.says in rw f.3 at f.2

    -- what was told about is where own changes count
    pub told_stands : (hi : B.Key) (m : Sy B) (g : Range B) → told_read B lo hi m ≡ some g → {s z : St B} {ds : List (Deed B)} → Tells B s ds z
        → ((d : Deed B) → In d ds → (ends B t d ≡ false) × (own_change B t g d ≡ false)) → Stands B t lo hi m s → Stands B t lo hi m z
    told_stands hi done g h y f v = never (cc)
    told_stands hi (found k r) g h {s} {z} y f v =
        let e : record { low = lo; high = k } ≡ g = cc in
        as_far k hi k r z (as_far_as hi k r s v)
        (still_stands t lo k (found k r) y (λ d i. let o = f d i in (o.0, rw e o.1)) (as_far hi k k r s (at_most_itself B L k) v))
    told_stands hi nothing g h y f v =
        let e : record { low = lo; high = hi } ≡ g = cc in
        still_stands t lo hi nothing y (λ d i. let o = f d i in (o.0, rw e o.1)) v
    told_stands hi (waiting u) g h y f v = never (cc)
    told_stands hi runs_already g h y f v = never (cc)
    told_stands hi runs_not g h y f v = never (cc)
    told_stands hi waits_already g h y f v = never (cc)
    told_stands hi (is_present k r) g h y f v = never (cc)
    told_stands hi locks_short g h y f v = never (cc)
    told_stands hi pages_short g h y f v = never (cc)
    told_stands hi circle g h y f v = never (cc)
