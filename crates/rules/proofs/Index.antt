-- The sorted entries: which there are, and that they stay in order, after one is put in, some are changed where they stand, and a
-- transaction's are settled. `put` is an insertion, `changed` a map, `settled` a map of what stays; the laws of those do the rest.
-- Assumes nothing.
use Prim.Native.Nat.{ℕ}
use mathlib.Core.Path.{◌≡◌, refl, sym, ap, subst, ◌∙◌}
use mathlib.Core.Logic.{◌⊎◌, inl, inr, ⊎_elim}
use mathlib.Core.Bool.{Bool, true, false, cond, not, ◌&&◌, true≢false, false≢true}
use mathlib.Core.List.{List, [], ◌∷◌, ◌++◌, map}
use mathlib.Core.Option
use mathlib.Core.Option.{Option, none, some}
use lib.Dec.{eqb}
use Rattle.lists.specs.Lists.{keep, first, pairs, In, join, insert_before, all}
use Rattle.lists.proofs.Tests.{and_left, and_right, and_both, fails, never, first_keep, all_map, first_map}
use Rattle.lists.proofs.Elements.{all_in, in_all, any_in, in_any, first_in, keep_in, in_keep, insert_before_in, in_insert_before, map_in, in_map}
use Rattle.lists.proofs.Pairs.{pairs_cons, first_least, pairs_keep, pairs_map, pairs_head, pairs_tail}
use Rattle.rules.specs.Kinds.{Book, Ordered, Entry, Name, on, end}
use Rattle.rules.specs.Entries.{Entries, at_most, same, present, left, settled, put, changed}
use Rattle.rules.specs.Locks.{named, itself}
use Rattle.rules.specs.Runs.{En}
use Rattle.rules.specs.Good.{below, ascending, is_name}
use Rattle.rules.proofs.KeyTests.{same_equal, same_itself, at_most_itself, at_most_equal, at_most_along}

-- the end of t, entry by entry: whether it stays, and what it is then
module _ {K R : Type 0} (f : Entry K R → Entry K R) (t : ℕ) where
  abbrev pub stays : Entry K R → Bool
  stays e = not (eqb e.owner t && not (present (f e)))

  abbrev pub settled_one : Entry K R → Entry K R
  settled_one e = cond (eqb e.owner t) (f e) e

  pub settled_is : (es : List (Entry K R)) → settled f t es ≡ map settled_one (keep stays es)
  unfolding settled left join keep
  settled_is [] = refl
  settled_is (e ∷ es) = go (eqb e.owner t) (present (f e)) refl (settled_is es)
    where
      go : (o p : Bool) → eqb e.owner t ≡ o → settled f t es ≡ map settled_one (keep stays es)
          → cond o (cond p (f e ∷ []) []) (e ∷ []) ++ settled f t es
          ≡ map settled_one (cond (not (o && not p)) (e ∷ keep stays es) (keep stays es))
      go true true q h = cc
      go true false q h = h
      go false p q h = cc

  -- an entry of the settled list: another's as it was, or t's own, there after its end
  pub settled_in : (es : List (Entry K R)) (y : Entry K R) → In y (settled f t es)
      → (In y es × (eqb y.owner t ≡ false)) ⊎ ((e : Entry K R) × In e es × (eqb e.owner t ≡ true) × (present (f e) ≡ true) × (f e ≡ y))
  settled_in es y i =
      let w : (e : Entry K R) × In e (keep stays es) × (settled_one e ≡ y) = map_in settled_one (keep stays es) y (rw (settled_is es) at i) in
      let k : In w.0 es × (stays w.0 ≡ true) = keep_in stays es w.0 w.1 in
      go w.0 k.0 k.1 w.2 (eqb w.0.owner t) (present (f w.0)) refl refl
    where
      go : (e : Entry K R) → In e es → stays e ≡ true → settled_one e ≡ y → (o p : Bool) → eqb e.owner t ≡ o → present (f e) ≡ p
          → (In y es × (eqb y.owner t ≡ false)) ⊎ ((e : Entry K R) × In e es × (eqb e.owner t ≡ true) × (present (f e) ≡ true) × (f e ≡ y))
      go e j h m true true q r = inr (e, j, q, r, cc)
      go e j h m true false q r = absurd (false≢true (rw (q, r) at h))
      go e j h m false p q r = let z : e ≡ y = cc in inl (subst (λ (v : Entry K R). In v es) z j, subst (λ (v : Entry K R). eqb v.owner t ≡ false) z q)

  pub settled_other : (es : List (Entry K R)) (e : Entry K R) → In e es → eqb e.owner t ≡ false → In e (settled f t es)
  settled_other es e i q =
      let z : settled_one e ≡ e = rw q in
      rw (settled_is es) (subst (λ (v : Entry K R). In v (map settled_one (keep stays es))) z (in_map settled_one (keep stays es) e (in_keep stays es e i (rw q))))

module _ (B : Book) where
  -- the first entry at or above k
  abbrev pub at_or_above : B.Key → Entries B → Option (En B)
  at_or_above k es = first (λ e. at_most B k e.key) es

  -- put, as an insertion
  pub put_in : (e : En B) (es : Entries B) (y : En B) → In y (put B e es) → (e ≡ y) ⊎ In y es
  unfolding put
  put_in e es y i = insert_before_in _ e es y i

  pub in_put : (e : En B) (es : Entries B) (y : En B) → (e ≡ y) ⊎ In y es → In y (put B e es)
  unfolding put
  in_put e es y i = in_insert_before _ e es y i

  -- changed, as a map
  pub changed_in : (k : B.Key) (f : En B → En B) (es : Entries B) (y : En B) → In y (changed B k f es)
      → In y es ⊎ ((e : En B) × In e es × (same B e.key k ≡ true) × (f e ≡ y))
  unfolding changed
  changed_in k f es y i = let w = map_in _ es y i in go w.0 w.1 (same B w.0.key k) refl w.2
    where
      go : (e : En B) → In e es → (b : Bool) → same B e.key k ≡ b → cond b (f e) e ≡ y
          → In y es ⊎ ((e : En B) × In e es × (same B e.key k ≡ true) × (f e ≡ y))
      go e j true q h = inr (e, j, q, h)
      go e j false q h = inl (subst (λ (v : En B). In v es) h j)

  -- the names of locks: an entry's key, or the end
  pub in_name : (es : Entries B) (e : En B) (k : B.Key) → In e es → same B e.key k ≡ true → is_name B es (on k) ≡ true
  in_name es e k i h = in_any (λ x. same B x.key k) es e i h

  -- order is kept
  ascending_keep : (p : En B → Bool) (es : Entries B) → ascending B es ≡ true → ascending B (keep p es) ≡ true
  unfolding ascending
  ascending_keep p es h =
      and_both _ _ (pairs_keep (below B) p es (and_left _ _ h))
      (in_all _ (keep p es) (λ e i. all_in _ es e (and_right (pairs (below B) es) _ h) (keep_in p es e i).0))

  ascending_map : (f : En B → En B) (es : Entries B) → ((e : En B) → (f e).key ≡ e.key) → ascending B es ≡ true → ascending B (map f es) ≡ true
  unfolding ascending
  ascending_map f es g h = simp (pairs_map, all_map, g) h

  -- an entry changed or not, by something that keeps keys
  pub kept_key : (f : En B → En B) → ((e : En B) → (f e).key ≡ e.key) → (b : Bool) (e : En B) → (cond b (f e) e).key ≡ e.key
  kept_key f g true e = g e
  kept_key f g false e = refl

  pub ascending_changed : (k : B.Key) (f : En B → En B) (es : Entries B) → ((e : En B) → (f e).key ≡ e.key) → ascending B es ≡ true
      → ascending B (changed B k f es) ≡ true
  unfolding changed
  ascending_changed k f es g h = ascending_map _ es (λ e. kept_key f g (same B e.key k) e) h

  pub ascending_settled : (f : En B → En B) (t : ℕ) (es : Entries B) → ((e : En B) → (f e).key ≡ e.key) → ascending B es ≡ true
      → ascending B (settled f t es) ≡ true
  ascending_settled f t es g h =
      rw (settled_is f t es) (ascending_map (settled_one f t) (keep (stays f t) es) (λ e. kept_key f g (eqb e.owner t) e) (ascending_keep (stays f t) es h))

  first_mapped : (g : En B → En B) (x : B.Key) (es : Entries B) → ((e : En B) → (g e).key ≡ e.key) → at_or_above x (map g es) ≡ Option.map g (at_or_above x es)
  first_mapped g x es h = simp (first_map, h)

  unmapped : (g : En B → En B) (o : Option (En B)) → ((e : En B) → o ≡ some e → g e ≡ e) → Option.map g o ≡ o
  unmapped g none h = refl
  unmapped g (some e) h = ap some (h e refl)

  -- the first at or above x stays the one it was, if it isn't changed or settled; in any case its name stays
  pub first_changed : (k : B.Key) (f : En B → En B) (x : B.Key) (es : Entries B) → ((e : En B) → (f e).key ≡ e.key)
      → ((e : En B) → at_or_above x es ≡ some e → same B e.key k ≡ false) → at_or_above x (changed B k f es) ≡ at_or_above x es
  unfolding changed
  first_changed k f x es g h =
      first_mapped _ x es (λ e. kept_key f g (same B e.key k) e)
      ∙ unmapped (λ e. cond (same B e.key k) (f e) e) (at_or_above x es) (λ e q. rw (h e q))

  pub named_map : (g : En B → En B) → ((e : En B) → (g e).key ≡ e.key) → (o : Option (En B)) → named B (Option.map g o) ≡ named B o
  named_map g h none = refl
  named_map g h (some e) = ap on (h e)

  pub named_changed : (k : B.Key) (f : En B → En B) (x : B.Key) (es : Entries B) → ((e : En B) → (f e).key ≡ e.key)
      → named B (at_or_above x (changed B k f es)) ≡ named B (at_or_above x es)
  unfolding changed
  named_changed k f x es g =
      ap (named B) (first_mapped _ x es (λ e. kept_key f g (same B e.key k) e))
      ∙ named_map (λ e. cond (same B e.key k) (f e) e) (λ e. kept_key f g (same B e.key k) e) (at_or_above x es)

  pub first_settled : (f : En B → En B) (t : ℕ) (x : B.Key) (es : Entries B) → ((e : En B) → (f e).key ≡ e.key)
      → ((e : En B) → at_or_above x es ≡ some e → eqb e.owner t ≡ false) → at_or_above x (settled f t es) ≡ at_or_above x es
  first_settled f t x es g h = rw (settled_is f t es)
      (first_mapped (settled_one f t) x (keep (stays f t) es) (λ e. kept_key f g (eqb e.owner t) e)
      ∙ ap (Option.map (settled_one f t)) (first_keep _ (stays f t) es (λ e q. rw (h e q)))
      ∙ unmapped (settled_one f t) (at_or_above x es) (λ e q. rw (h e q)))

  module _ (L : Ordered B.Key B.compare) where
    pub name_in : (es : Entries B) (k : B.Key) → is_name B es (on k) ≡ true → (e : En B) × In e es × (e.key ≡ k)
    name_in es k h = let w = any_in (λ x. same B x.key k) es h in (w.0, w.1, same_equal B L w.0.key k w.2)

    pub name_put : (e : En B) (es : Entries B) (n : Name B.Key) → is_name B es n ≡ true → is_name B (put B e es) n ≡ true
    name_put e es end h = refl
    name_put e es (on k) h = let w = name_in es k h in in_name (put B e es) w.0 k (in_put e es w.0 (inr w.1)) (rw w.2 (same_itself B L k))

    pub name_changed : (k : B.Key) (f : En B → En B) (es : Entries B) (n : Name B.Key) → ((e : En B) → (f e).key ≡ e.key) → is_name B es n ≡ true
        → is_name B (changed B k f es) n ≡ true
    unfolding changed
    name_changed k f es end g h = refl
    name_changed k f es (on j) g h =
        let w = name_in es j h in
        in_name (changed B k f es) _ j (in_map (λ e. cond (same B e.key k) (f e) e) es w.0 w.1) (rw (kept_key f g (same B w.0.key k) w.0 ∙ w.2) (same_itself B L j))

    -- e at or below x: below what x is below, and below x itself where the keys differ
    below_along : (e x y : En B) → at_most B e.key x.key ≡ true → below B x y ≡ true → below B e y ≡ true
    below_along e x y p q =
        ap not (fails (at_most B y.key e.key) (λ h. false≢true (rw (at_most_along B L y.key e.key x.key h p) at q)))

    below_other : (e x : En B) → at_most B e.key x.key ≡ true → same B x.key e.key ≡ false → below B e x ≡ true
    below_other e x p q =
        ap not (fails (at_most B x.key e.key) (λ h. true≢false (sym (same_itself B L e.key) ∙ (rw (at_most_equal B L x.key e.key h p) at q))))

    pairs_put : (e : En B) (es : Entries B) → ((x : En B) → In x es → same B x.key e.key ≡ false) → pairs (below B) es ≡ true
        → pairs (below B) (put B e es) ≡ true
    unfolding put insert_before all
    pairs_put e [] m h = pairs_cons (below B) e [] refl h
    pairs_put e (x ∷ xs) m h =
        go (at_most B e.key x.key) refl (λ y. all_in (below B x) xs y (pairs_head (below B) x xs h))
        (pairs_put e xs (λ y i. m y (inr i)) (pairs_tail (below B) x xs h))
      where
        go : (b : Bool) → at_most B e.key x.key ≡ b → ((y : En B) → In y xs → below B x y ≡ true) → pairs (below B) (put B e xs) ≡ true
            → pairs (below B) (cond b (e ∷ x ∷ xs) (x ∷ put B e xs)) ≡ true
        go true q f k =
            pairs_cons (below B) e (x ∷ xs)
            (in_all (below B e) (x ∷ xs)
            (λ y i. ⊎_elim (λ z. subst (λ (v : En B). below B e v ≡ true) z (below_other e x q (m x (inl refl)))) (λ j. below_along e x y q (f y j)) i))
            h
        go false q f k =
            pairs_cons (below B) x (put B e xs)
            (in_all (below B x) (put B e xs)
            (λ y i. ⊎_elim (λ z. subst (λ (v : En B). below B x v ≡ true) z (rw q)) (λ j. f y j) (put_in e xs y i))) k

    pub ascending_put : (e : En B) (es : Entries B) → ((x : En B) → In x es → same B x.key e.key ≡ false) → B.legal e.key ≡ true
        → ascending B es ≡ true → ascending B (put B e es) ≡ true
    unfolding ascending
    ascending_put e es m l h =
        and_both _ _ (pairs_put e es m (and_left _ _ h))
        (in_all _ (put B e es) (λ y i. ⊎_elim (λ z. subst (λ (v : En B). B.legal v.key ≡ true) z l)
        (λ j. all_in _ es y (and_right (pairs (below B) es) _ h) j) (put_in e es y i)))

    -- the first entry at or above k isn't k: k is missing
    pub missing : (es : Entries B) (k : B.Key) → ascending B es ≡ true → itself B k (at_or_above k es) ≡ none
        → (e : En B) → In e es → same B e.key k ≡ false
    unfolding ascending
    missing es k h n e i = fails (same B e.key k) (λ q.
        let z : e.key ≡ k = same_equal B L e.key k q in
        let w = first_least (λ x. at_most B k x.key) (below B) es e (and_left _ _ h) i (rw z (at_most_itself B L k)) in
        found w.0 w.1 z w.2)
      where
        found : (x : En B) → at_or_above k es ≡ some x → e.key ≡ k → (x ≡ e) ⊎ (below B x e ≡ true) → ⊥
        found x d z (inl y) =
            let r : same B x.key k ≡ true = rw (y, z) (same_itself B L k) in
            let c : itself B k (some x) ≡ none = rw d at n in never (cc)
        found x d z (inr r) = false≢true (rw (z, (first_in (λ x. at_most B k x.key) es x d).1) at r)

    -- with e put in, the first at or above x is the one it was, or e, and then it was the first at or above e too
    pub first_put : (e : En B) (x : B.Key) (es : Entries B)
        → (at_or_above x (put B e es) ≡ at_or_above x es) ⊎ ((at_or_above x (put B e es) ≡ some e) × (at_or_above x es ≡ at_or_above e.key es))
    unfolding put insert_before first
    first_put e x [] = go (at_most B x e.key)
      where
        go : (b : Bool) → (◌≡◌ {A = Option (En B)} (cond b (some e) none) none) ⊎ ((◌≡◌ {A = Option (En B)} (cond b (some e) none) (some e)) × (◌≡◌ {A = Option (En B)} none none))
        go true = inr (refl, refl)
        go false = inl refl
    first_put e x (y ∷ ys) = go (at_most B e.key y.key) (at_most B x e.key) (at_most B x y.key) refl refl refl (first_put e x ys)
      where
        go : (b c d : Bool) → at_most B e.key y.key ≡ b → at_most B x e.key ≡ c → at_most B x y.key ≡ d
            → (at_or_above x (put B e ys) ≡ at_or_above x ys) ⊎ ((at_or_above x (put B e ys) ≡ some e) × (at_or_above x ys ≡ at_or_above e.key ys))
            → (at_or_above x (cond b (e ∷ y ∷ ys) (y ∷ put B e ys)) ≡ cond d (some y) (at_or_above x ys))
            ⊎ ((at_or_above x (cond b (e ∷ y ∷ ys) (y ∷ put B e ys)) ≡ some e) × (cond d (some y) (at_or_above x ys) ≡ cond b (some y) (at_or_above e.key ys)))
        go true true true p q r h = inr (rw q, refl)
        go true true false p q r h = absurd (true≢false (sym (at_most_along B L x e.key y.key q p) ∙ r))
        go true false d p q r h = inl (rw (q, r))
        go false c true p q r h = inl (rw r)
        go false c false p q r h = ⊎_elim (λ k. inl (rw r k)) (λ k. inr (rw r k.0, k.1)) h
