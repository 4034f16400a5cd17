-- The target of a read against the covers of the keys that it goes over: each of them is an own ghost or the target itself, so who holds the
-- target covers them all; and where those covers stay, the target stays. By which entry is first to pass two tests. Assumes nothing.
use Prim.Native.Nat.{ℕ}
use mathlib.Core.Path.{◌≡◌, refl, sym, subst, ◌∙◌}
use mathlib.Core.Logic.{◌⊎◌, inl, inr, ⊎_elim}
use mathlib.Core.Bool.{Bool, true, false, cond, not, ◌&&◌, ◌||◌, true≢false, false≢true}
use mathlib.Core.List.{[], ◌∷◌}
use mathlib.Core.Option.{Option, none, some}
use lib.Dec.{eqb}
use borrow.Author.Tests.{eqb-true, not-true}
use Rattle.lists.specs.Lists.{first, pairs, In, insert_before}
use Rattle.lists.proofs.Tests.{and_left, never}
use Rattle.lists.proofs.Elements.{first_in, none_first, all_in}
use Rattle.lists.proofs.Pairs.{first_least, pairs_head, pairs_tail}
use Rattle.lists.proofs.Firsts.{first_only, first_agree}
use Rattle.rules.specs.Kinds.{Book, Ordered, X, on, end, read}
use Rattle.rules.specs.Entries.{Entries, at_most, same, ghost, put}
use Rattle.rules.specs.Locks.{holds, counts, target, named, itself}
use Rattle.rules.specs.Queue.{St}
use Rattle.rules.specs.Runs.{En}
use Rattle.rules.specs.Desk.{runs}
use Rattle.rules.specs.Good.{below, ascending, Good}
use Rattle.rules.proofs.KeyTests.{same_equal, at_most_itself, at_most_other, at_most_along}
use Rattle.rules.proofs.Index.{at_or_above, missing}
use Rattle.rules.proofs.LockTable.{held_holds}
use Rattle.rules.proofs.Sound.{owner_holds_lem}
use Rattle.rules.proofs.Did.{itself_is}
use Rattle.rules.proofs.Unblocked.{good_sound}
use Rattle.rules.proofs.Cover.{Covers}

module _ (B : Book) where
  -- x is not above the target
  abbrev pub UpTo : Option (En B) → B.Key → Type 0
  UpTo o x = (e : En B) → o ≡ some e → at_most B x e.key ≡ true

  -- an entry that a read goes over is the asker's own ghost
  gone_over : (t : ℕ) (lo hi : B.Key) (e : En B) → at_most B lo e.key ≡ true → counts B t lo hi e ≡ false → (e.owner ≡ t) × (ghost e ≡ true)
  gone_over t lo hi e a h = go (at_most B e.key hi) (eqb e.owner t) (ghost e) refl refl (rw a at h)
    where
      go : (b c d : Bool) → eqb e.owner t ≡ c → ghost e ≡ d → not b || not (c && d) ≡ false → (e.owner ≡ t) × (ghost e ≡ true)
      go true true true q r h = (eqb-true e.owner t q, r)
      go true true false q r h = absurd (true≢false h)
      go true false d q r h = absurd (true≢false h)
      go false c d q r h = absurd (true≢false h)

  module _ (L : Ordered B.Key B.compare) where
    -- an entry is its own cover
    pub own_cover : (es : Entries B) (e : En B) → ascending B es ≡ true → In e es → at_or_above B e.key es ≡ some e
    unfolding ascending
    own_cover es e h i =
        let w = first_least (λ x. at_most B e.key x.key) (below B) es e (and_left _ _ h) i (at_most_itself B L e.key) in
        go w.0 w.1 w.2
      where
        go : (y : En B) → at_or_above B e.key es ≡ some y → (y ≡ e) ⊎ (below B y e ≡ true) → at_or_above B e.key es ≡ some e
        go y q (inl z) = rw z at q
        go y q (inr r) = absurd (false≢true (rw (first_in (λ x. at_most B e.key x.key) es y q).1 at r))

    -- the entry of a key is its cover, or there is none
    pub entry_at : (es : Entries B) (x : B.Key) → ascending B es ≡ true → first (λ e. same B e.key x) es ≡ itself B x (at_or_above B x es)
    entry_at es x h = go (itself B x (at_or_above B x es)) refl
      where
        absent : (o : Option (En B)) → first (λ e. same B e.key x) es ≡ o → itself B x (at_or_above B x es) ≡ none → o ≡ none
        absent none q n = refl
        absent (some e) q n = let w = first_in _ es e q in absurd (true≢false (sym w.1 ∙ missing B L es x h n e w.0))

        go : (o : Option (En B)) → itself B x (at_or_above B x es) ≡ o → first (λ e. same B e.key x) es ≡ o
        go none q = absent (first (λ e. same B e.key x) es) refl q
        go (some e) q =
            let w = itself_is B x (at_or_above B x es) e q in
            first_only (λ y. same B y.key x) es e (first_in (λ y. at_most B x y.key) es e w.0).0 w.1 (λ y i k.
            let c : at_or_above B x es ≡ some y = subst (λ (v : B.Key). at_or_above B v es ≡ some y) (same_equal B L y.key x k) (own_cover es y h i) in
            let z = w.0 in cc)

    -- who holds the target of its read covers every key from lo up to it
    module _ (s : St B) (g : Good B s) (t : ℕ) (lo hi : B.Key) (h : holds B s.slots t (named B (target B s.entries t (read lo hi))) ≡ true) where
      own_ghost_held : (e : En B) → In e s.entries → (e.owner ≡ t) × (ghost e ≡ true) → holds B s.slots t (on e.key) ≡ true
      own_ghost_held e i w =
          let o = good_sound B L s g in
          let x = owner_holds_lem B (runs B s) s.slots e (o.owners e i) (λ z. true≢false (sym w.1 ∙ (rw (o.settled e i z).is_there))) in
          rw (← w.0) (held_holds B L s.slots e.owner (on e.key) X x)

      pub read_covers : (x : B.Key) → at_most B lo x ≡ true → UpTo (target B s.entries t (read lo hi)) x → Covers B s t x
      unfolding target
      read_covers x a u = go (at_or_above B x s.entries) refl
        where
          es : Entries B
          es = s.entries

          past : (o : Option (En B)) → first (counts B t lo hi) es ≡ o → at_or_above B x es ≡ none → holds B s.slots t (named B o) ≡ true
              → holds B s.slots t end ≡ true
          past none r q k = k
          past (some e) r q k = absurd (true≢false (sym (u e r) ∙ none_first (λ y. at_most B x y.key) es e q (first_in (counts B t lo hi) es e r).0))

          at : (y : En B) → at_or_above B x es ≡ some y → In y es → counts B t lo hi y ≡ true → (o : Option (En B)) → first (counts B t lo hi) es ≡ o
              → holds B s.slots t (named B o) ≡ true → holds B s.slots t (on y.key) ≡ true
          at y q i c none r k = absurd (true≢false (sym c ∙ none_first (counts B t lo hi) es y r i))
          at y q i c (some e) r k =
              rw (first_agree (counts B t lo hi) (λ y. at_most B x y.key) es e y r q c (u e r)) at k

          by : (y : En B) → at_or_above B x es ≡ some y → In y es × (at_most B x y.key ≡ true) → (c : Bool) → counts B t lo hi y ≡ c → holds B s.slots t (on y.key) ≡ true
          by y q w true c = at y q w.0 c (first (counts B t lo hi) es) refl h
          by y q w false c = own_ghost_held y w.0 (gone_over t lo hi y (at_most_along B L lo x y.key a w.1) c)

          go : (o : Option (En B)) → at_or_above B x es ≡ o → holds B s.slots t (named B o) ≡ true
          go none q = past (first (counts B t lo hi) es) refl q h
          go (some y) q = by y q (first_in (λ y. at_most B x y.key) es y q) (counts B t lo hi y) refl

    -- where the covers of the keys from lo up to the target stay, the target stays
    module _ (es es' : Entries B) (t : ℕ) (lo hi : B.Key) (h : ascending B es ≡ true) (h' : ascending B es' ≡ true)
        (f : (x : B.Key) → at_most B lo x ≡ true → UpTo (target B es t (read lo hi)) x → at_or_above B x es' ≡ at_or_above B x es) where
      pub target_stays : target B es' t (read lo hi) ≡ target B es t (read lo hi)
      unfolding target ascending
      target_stays = go (first p es) (first p es') refl refl
        where
          p : En B → Bool
          p = counts B t lo hi

          low : (e : En B) → p e ≡ true → at_most B lo e.key ≡ true
          low e c = and_left (at_most B lo e.key) _ c

          -- an entry that counts and is not above the target stands in the one list where it stands in the other
          over : (e : En B) → In e es → p e ≡ true → UpTo (first p es) e.key → In e es'
          over e i c u = (first_in (λ y. at_most B e.key y.key) es' e (f e.key (low e c) u ∙ own_cover es e h i)).0

          back : (e : En B) → In e es' → p e ≡ true → UpTo (first p es) e.key → at_or_above B e.key es ≡ some e
          back e i c u = sym (f e.key (low e c) u) ∙ own_cover es' e h' i

          itself_up : (y : En B) → first p es ≡ some y → UpTo (first p es) y.key
          itself_up y q e r = let z : y ≡ e = cc in rw z (at_most_itself B L e.key)

          nearer : (y z : En B) → first p es ≡ some y → first p es' ≡ some z → p z ≡ true → In z es' → (z ≡ y) ⊎ (below B z y ≡ true) → first p es' ≡ first p es
          nearer y z q r c i (inl e) = cc
          nearer y z q r c i (inr b) =
              let l : at_most B z.key y.key ≡ true = at_most_other B L z.key y.key (not-true _ b) in
              let v : y ≡ z = first_agree p (λ x. at_most B z.key x.key) es y z q (back z i c (λ e m. let n : y ≡ e = cc in rw n at l)) c l in cc

          go : (o o' : Option (En B)) → first p es ≡ o → first p es' ≡ o' → first p es' ≡ first p es
          go none none q r = r ∙ sym q
          go none (some z) q r =
              let w = first_in p es' z r in
              let i : In z es = (first_in (λ x. at_most B z.key x.key) es z (back z w.0 w.1 (λ e m. never (cc)))).0 in
              absurd (true≢false (sym w.1 ∙ none_first p es z q i))
          go (some y) o q r =
              let w = first_in p es y q in
              let v = first_least p (below B) es' y (and_left _ _ h') (over y w.0 w.1 (itself_up y q)) w.1 in
              let k = first_in p es' v.0 v.1 in
              nearer y v.0 q v.1 k.1 k.0 v.2

    -- with e put in, the first to pass a test is the one it was, or e, and then it was not below e
    pub first_with : (p : En B → Bool) (e : En B) (es : Entries B) → pairs (below B) es ≡ true
        → (first p (put B e es) ≡ first p es) ⊎ ((first p (put B e es) ≡ some e) × (p e ≡ true) × UpTo (first p es) e.key)
    unfolding put insert_before first
    first_with p e [] h = go (p e) refl
      where
        go : (b : Bool) → p e ≡ b → (◌≡◌ {A = Option (En B)} (cond b (some e) none) none) ⊎ ((◌≡◌ {A = Option (En B)} (cond b (some e) none) (some e)) × (p e ≡ true) × UpTo none e.key)
        go true q = inr (refl, q, λ y m. never (cc))
        go false q = inl refl
    first_with p e (y ∷ ys) h =
        go (at_most B e.key y.key) (p e) (p y) refl refl refl (λ z. all_in (below B y) ys z (pairs_head (below B) y ys h))
        (first_with p e ys (pairs_tail (below B) y ys h))
      where
        go : (b c d : Bool) → at_most B e.key y.key ≡ b → p e ≡ c → p y ≡ d → ((z : En B) → In z ys → below B y z ≡ true)
            → (first p (put B e ys) ≡ first p ys) ⊎ ((first p (put B e ys) ≡ some e) × (p e ≡ true) × UpTo (first p ys) e.key)
            → (first p (cond b (e ∷ y ∷ ys) (y ∷ put B e ys)) ≡ cond d (some y) (first p ys))
            ⊎ ((first p (cond b (e ∷ y ∷ ys) (y ∷ put B e ys)) ≡ some e) × (p e ≡ true) × UpTo (cond d (some y) (first p ys)) e.key)
        go true true true m n r f k = inr (rw n, n, λ z q. let v : y ≡ z = cc in rw v at m)
        go true true false m n r f k = inr (
          rw n,
          n,
          λ z q.
              at_most_along B L e.key y.key z.key m (at_most_other B L y.key z.key (not-true _ (f z (first_in p ys z q).0))),
        )
        go true false d m n r f k = inl (rw (n, r))
        go false c true m n r f k = inl (rw r)
        go false c false m n r f k = ⊎_elim (λ v. inl (rw r v)) (λ v. inr (rw r v.0, v.1, v.2)) k
