-- Who repeats what it asked and was told about, and has itself changed nothing of that, gets the same answer. Between the two a read's answer
-- stands, and the key of an insert or a delete is covered and stays as it was. Assumes nothing.
use Prim.Native.Nat.{ℕ}
use mathlib.Core.Path.{◌≡◌, refl, sym, ap, subst, ◌∙◌}
use mathlib.Core.Bool.{true, not}
use mathlib.Core.List.{List}
use mathlib.Core.Option.{some}
use borrow.Author.Tests.{not-true}
use Rattle.lists.specs.Lists.{all}
use Rattle.lists.proofs.Tests.{and_both, never}
use Rattle.lists.proofs.Elements.{all_in}
use Rattle.rules.specs.Kinds.{Book, Ordered, Ask, read, insert, delete, Request, begin, commit, rollback, ask}
use Rattle.rules.specs.Entries.{Entries, at_most}
use Rattle.rules.specs.Queue.{St, Q, blocker_of}
use Rattle.rules.specs.Runs.{waiting, waits_already, circle, run}
use Rattle.rules.specs.Desk.{Cl}
use Rattle.rules.specs.Good.{Good}
use Rattle.rules.proofs.KeyTests.{at_most_itself}
use Rattle.rules.proofs.Cover.{Covers}
use Rattle.promises.specs.Story.{Deed, Range, range, told_key, told, within, ends}
use Rattle.promises.specs.Demand3.{now_at, own_change, SameAgain}
use Rattle.promises.proofs.Deeds.{Acts, begins, commits, rolls_back, goes, gives_way, refuses, queues, good_after, Later, story_later}
use Rattle.promises.proofs.Told.{key_range, tells_none, refusal_told, told_covered}
use Rattle.promises.proofs.ToldRanges.{stays}
use Rattle.promises.proofs.Gets.{Gets, is_asked, gets_it}
use Rattle.promises.proofs.ReadAgain.{given_stands, read_gets, told_stands}
use Rattle.promises.proofs.KeyAgain.{insert_told, delete_told}

module _ (B : Book) (L : Ordered B.Key B.compare) where
  -- the run in which an answer was given
  told_ran : (t : ℕ) (a : Ask B.Key B.Rec) (s : St B) (d : Deed B) (z : St B) → Acts B s d z → (g : Range B) → d.actor ≡ t
      → d.request ≡ ask a → told B d.request d.says ≡ some g
      → (d.says ≡ (run B s (record { asker = t; asks = a })).says) × (z.entries ≡ (run B s (record { asker = t; asks = a })).entries)
  unfolding told
  told_ran t a s d z (begins u i r) g n e h = never (cc)
  told_ran t a s d z (commits u i r w) g n e h = never (cc)
  told_ran t a s d z (rolls_back u i r) g n e h = never (cc)
  told_ran t a s d z (goes w i b) g n e h = let q = is_asked B t a w.request n e in (ap (λ (q : Q B). (run B s q).says) q, ap (λ (q : Q B). (run B s q).entries) q)
  told_ran t a s d z (gives_way w i b) g n e h = tells_none B L circle (λ lo hi. refl) (λ k. refl) w.request.asks g h
  told_ran t a s d z (refuses u r m c) g n e h = refusal_told B L s u r m c g h
  told_ran t a s d z (queues q i c) g n e h = tells_none B L (waiting (blocker_of B s q.asker)) (λ lo hi. refl) (λ k. refl) q.asks g h

  -- an answer of the story, and who asks again when the deeds between have left what it was told about
  module _ (a m : Deed B) (ys : List (Deed B)) (v : Later B L a ys m) (g : Range B) (h : told B a.request a.says ≡ some g)
      (n : all (λ d. not (ends B a.actor d)) ys ≡ true) (o : all (λ d. not (own_change B a.actor g d)) ys ≡ true) where
    key_still : (k : B.Key) → range B k k ≡ some g
        → (Good B v.until × Covers B v.until a.actor k) × (now_at B v.until.entries k ≡ now_at B v.after.entries k)
    key_still k e =
        let z : record { low = k; high = k } ≡ g = cc in
        let i : within B g k ≡ true = rw (sym z) (and_both (at_most B k k) (at_most B k k) (at_most_itself B L k) (at_most_itself B L k)) in
        stays B L a.actor k v.between
        (λ d j. and_both (not (ends B a.actor d)) _ (all_in _ ys d n j) (rw z (all_in _ ys d o j)))
        (good_after B L v.before a v.after v.acts v.good, told_covered B L v.before a v.after v.acts v.good g k h i)

    gets_again : (b : Ask B.Key B.Rec) → a.request ≡ ask b → Gets B a.actor b a.says v.until
    unfolding told
    gets_again (read lo hi) e =
        read_gets B L a.actor lo hi a.says v.until
        (told_stands B L a.actor lo hi a.says g (subst (λ (r : Request B.Key B.Rec). told B r a.says ≡ some g) e h) v.between
        (λ d i. (not-true _ (all_in _ ys d n i), not-true _ (all_in _ ys d o i)))
        (given_stands B L a.actor lo hi v.before a v.after v.acts v.good g refl e h))
    gets_again (insert k r) e =
        let y : told_key B k a.says ≡ some g = subst (λ (r : Request B.Key B.Rec). told B r a.says ≡ some g) e h in
        let u = told_ran a.actor (insert k r) v.before a v.after v.acts g refl e h in
        let p = key_still k (key_range B L k a.says g y) in
        rw u.0 (insert_told B L a.actor k r v.before v.good g (rw u.0 at y) v.until p.0.0 p.0.1 (p.1 ∙ ap (λ (es : Entries B). now_at B es k) u.1))
    gets_again (delete k) e =
        let y : told_key B k a.says ≡ some g = subst (λ (r : Request B.Key B.Rec). told B r a.says ≡ some g) e h in
        let u = told_ran a.actor (delete k) v.before a v.after v.acts g refl e h in
        let p = key_still k (key_range B L k a.says g y) in
        rw u.0 (delete_told B L a.actor k v.before v.good g (rw u.0 at y) v.until p.0.0 p.0.1 (p.1 ∙ ap (λ (es : Entries B). now_at B es k) u.1))

    said_again : m.actor ≡ a.actor → m.request ≡ a.request → (m.says ≡ waits_already → ⊥) → (r : Request B.Key B.Rec) → a.request ≡ r
        → m.says ≡ a.says
    unfolding told
    said_again b q f begin e = never (cc)
    said_again b q f commit e = never (cc)
    said_again b q f rollback e = never (cc)
    said_again b q f (ask c) e = gets_it B a.actor c a.says v.until (gets_again c e) m v.then v.follows b (q ∙ e) f

  pub same_again : (cs : List (Cl B)) → SameAgain B cs
  same_again cs = record {
    again = λ xs ys zs a m g e h b q f n o. said_again a m ys (story_later B L cs xs ys zs a m e) g h n o b q f a.request refl;
  }
