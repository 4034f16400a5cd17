-- The walk over ascending entries along locks in order comes to an end exactly where every lock is on an entry or the end and every owner
-- holds X. Both ways by induction on the entries: those passed have the locks passed, and as long as every lock is on an entry to come or
-- the end, the locks on the next entry are the next ones. Assumes nothing.
use mathlib.Core.Path.{◌≡◌, refl, sym, ap, subst, ◌∙◌}
use Rattle.std.specs.Prelude as Code
use mathlib.Core.Logic.{◌⊎◌, inl, inr, ⊎_elim}
use mathlib.Core.Bool.{Bool, true, false, cond, not, ◌||◌, false≢true}
use mathlib.Core.List.{List, [], ◌∷◌, ◌++◌}
use mathlib.Core.Option.{Option, none, some}
use Prim.Native.Nat.{ℕ, zero, suc, ◌+◌, ◌-◌, ◌≤◌, ◌<◌, compare}
use native.Mathlib.Decide.{dec_lt}
use native.Mathlib.Omega.{arith}
use borrow.Author.Tests.{eqb-true, eq-eqb}
use lib.Dec.{eqb}
use Rattle.lists.specs.Lists.{tab, any, pairs, place, In}
use Rattle.lists.proofs.Tests.{both, either, or_left, or_right, never}
use Rattle.lists.proofs.Elements.{all_in, any_in, in_any, tab_in, in_tab}
use Rattle.lists.proofs.Pairs.{pairs_head, pairs_tail}
use Rattle.rules.specs.Kinds.{Lock}
use Rattle.rules.specs.Locks.{same_name}
use Rattle.rules.specs.Document.{document, endless, end_mark}
use Rattle.rules.proofs.Orders.{numbers_ordered}
use Rattle.rules.proofs.KeyTests.{name_equal}
use Rattle.trees.specs.Trees.{under}
use Rattle.locks.specs.SlotLayout.{name_in, name_number}
use Rattle.locks.specs.SlotMoves.{is_slot_of}
use Rattle.locks.proofs.LockValues.{name_back}
use Rattle.index.specs.Pictures.{Item}
use Rattle.judging_pages.proofs.LeavesJudged.{is_under}
use Rattle.judging_locks.specs.LockChecks.{slot_has_x, slot_holds}
use Rattle.judging_order.specs.LockOrders.{slot_on, after, stretch, past_entry, past}
use Rattle.judging_order.proofs.Ascending.{name_of}

stuck_to : (j : ℕ) → Code.None ≡ Code.Some j → ⊥
stuck_to j e = never (cc)

-- ---- a stretch of places
pub record Stretch (f : ℕ → Option (Lock ℕ)) (m x k j : ℕ) : Type 0 where
  pub up : k ≤ j
  pub most : j ≤ m
  pub names : (a : ℕ) → k ≤ a → a < j → slot_on x (f a) ≡ true
  pub stops : j < m → slot_on x (f j) ≡ false

module _ (f : ℕ → Option (Lock ℕ)) (m x : ℕ) where
  stretch_of : (n k : ℕ) → k + n ≡ m → Stretch f m x k (k + place (λ y. not (slot_on x y)) (tab n k f))
  unfolding place tab
  stretch_of zero k e = record { up = omega arith; most = omega arith; names = λ a l u. absurd (omega arith); stops = λ l. absurd (omega arith) }
  stretch_of (suc n) k e = go (slot_on x (f k)) refl (stretch_of n (k + 1) (omega arith))
    where
      rest : ℕ
      rest = place (λ y. not (slot_on x y)) (tab n (k + 1) f)

      go : (b : Bool) → slot_on x (f k) ≡ b → Stretch f m x (k + 1) (k + 1 + rest) → Stretch f m x k (k + cond (not b) 0 (suc rest))
      go false b s =
          let z : k ≡ k + 0 = omega arith in
          record { up = omega arith; most = omega arith; names = λ a l u. absurd (omega arith); stops = λ l. subst (λ y. slot_on x (f y) ≡ false) z b }
      go true b s =
          let z : k + 1 + rest ≡ k + suc rest = omega arith in
          let most = s.most in
          record {
            up = omega arith;
            most = omega arith;
            names = λ a l u.
                elim (dec_lt k a) [
                  | yes c ↦ s.names a (omega arith) (omega arith)
                  | no c ↦ let y : k ≡ a = omega arith in subst (λ v. slot_on x (f v) ≡ true) y b
                ];
            stops = λ l. subst (λ y. slot_on x (f y) ≡ false) z (s.stops (omega arith));
          }

  pub stretch_is : (k : ℕ) → k ≤ m → Stretch f m x k (stretch f m x k)
  unfolding stretch
  stretch_is k h = stretch_of (m - k) k (omega arith)

-- ---- an X on a key is a lock on it
holds_on : (t k : ℕ) (y : Option (Lock ℕ)) → slot_holds t k y ≡ true → name_of y ≡ k
holds_on t k none h = absurd (false≢true h)
holds_on t k (some l) h =
    let a = both (is_slot_of t (name_in k) (some l)) (slot_has_x (some l)) h in
    let b = both (eqb l.holder t) (same_name (document endless) l.name (name_in k)) a.0 in
    ap name_number (name_equal (document endless) numbers_ordered l.name (name_in k) b.1) ∙ name_back k

module _ (f : ℕ → Option (Lock ℕ)) (m : ℕ) where
  -- an entry whose owner, if it has one, holds X somewhere
  abbrev pub held_in : Item → Bool
  held_in e = eqb e.owner 0 || any (slot_holds e.owner e.key) (tab m 0 f)

  -- .. or among the locks from place k to place j
  abbrev held_from : Item → ℕ → ℕ → Bool
  held_from e k j = eqb e.owner 0 || any (slot_holds e.owner e.key) (tab (j - k) k f)

  entry_passes : (e : Item) (k : ℕ) → held_from e k (stretch f m e.key k) ≡ true → past_entry f m e k ≡ Code.Some (stretch f m e.key k)
  unfolding past_entry
  entry_passes e k t = ap (λ b. cond b (Code.Some (stretch f m e.key k)) Code.None) t

  pub past_append : (es fs : List Item) (k : ℕ) → past f m (es ++ fs) k ≡ after (past f m es k) (past f m fs)
  unfolding past
  past_append [] fs k = refl
  past_append (e ∷ es) fs k = go (past_entry f m e k) (past_append es fs)
    where
      go : (r : Code.Option ℕ) → ((j : ℕ) → past f m (es ++ fs) j ≡ after (past f m es j) (past f m fs))
          → after r (past f m (es ++ fs)) ≡ after (after r (past f m es)) (past f m fs)
      go (Code.Some j) h = h j
      go Code.None h = refl

  entry_to : (e : Item) (k j : ℕ) → past_entry f m e k ≡ Code.Some j
      → (j ≡ stretch f m e.key k) × (held_from e k (stretch f m e.key k) ≡ true)
  unfolding past_entry
  entry_to e k j h = go (held_from e k (stretch f m e.key k)) refl h
    where
      go : (b : Bool) → held_from e k (stretch f m e.key k) ≡ b → cond b (Code.Some (stretch f m e.key k)) Code.None ≡ Code.Some j
          → (j ≡ stretch f m e.key k) × (held_from e k (stretch f m e.key k) ≡ true)
      go true t u = (let z : stretch f m e.key k ≡ j = cc in sym z, t)
      go false t u = absurd (stuck_to j u)

  pub entry_most : (e : Item) (k j : ℕ) → k ≤ m → past_entry f m e k ≡ Code.Some j → j ≤ m
  entry_most e k j h t = let s = (stretch_is f m e.key k h).most in let z = (entry_to e k j t).0 in omega arith

  -- ---- what is passed
  pub record Passed (es : List Item) (k j : ℕ) : Type 0 where
    pub up : k ≤ j
    pub most : j ≤ m
    pub names : (a : ℕ) → k ≤ a → a < j → any (λ e. slot_on e.key (f a)) es ≡ true
    pub owners : (e : Item) → In e es → held_in e ≡ true

  among : (p : Option (Lock ℕ) → Bool) (k j : ℕ) → j ≤ m → any p (tab (j - k) k f) ≡ true → any p (tab m 0 f) ≡ true
  among p k j h e =
      let y = any_in p (tab (j - k) k f) e in
      let z = tab_in (j - k) k f y.0 y.1 in
      let u : z.0 < k + (j - k) = z.2 in
      in_any p (tab m 0 f) y.0 (subst (λ v. In v (tab m 0 f)) z.3 (in_tab m 0 f z.0 (omega arith) (omega arith))) y.2

  pub past_passed : (es : List Item) (k j : ℕ) → k ≤ m → past f m es k ≡ Code.Some j → Passed es k j
  unfolding past any
  past_passed [] k j h e =
      let z : k ≡ j = cc in
      record { up = omega arith; most = omega arith; names = λ a l u. absurd (omega arith); owners = λ e i. absurd i }
  past_passed (e ∷ es) k j h t = go (past_entry f m e k) refl t (λ w l u. past_passed es w j l u)
    where
      go : (r : Code.Option ℕ) → past_entry f m e k ≡ r → after r (past f m es) ≡ Code.Some j → ((w : ℕ) → w ≤ m → past f m es w ≡ Code.Some j → Passed es w j)
          → Passed (e ∷ es) k j
      go Code.None q u h = absurd (stuck_to j u)
      go (Code.Some w) q u i =
          let x = entry_to e k w q in
          let s : Stretch f m e.key k w = subst (Stretch f m e.key k) (sym x.0) (stretch_is f m e.key k h) in
          let a = s.up in
          let r = i w s.most u in
          let b = r.up in
          let y : held_from e k w ≡ true =
          subst (λ v. held_from e k v ≡ true) (sym x.0) x.1 in
          record {
            up = omega arith;
            most = r.most;
            names = λ c l v.
                elim (dec_lt c w) [
                  | yes z ↦ or_left (slot_on e.key (f c)) (any (λ e. slot_on e.key (f c)) es) (s.names c l z)
                  | no z ↦ or_right (slot_on e.key (f c)) (any (λ e. slot_on e.key (f c)) es) (r.names c (omega arith) v)
                ];
            owners = λ c l. ⊎_elim (λ z. subst (λ v. held_in v ≡ true) z (own y s.most)) (λ z. r.owners c z) l;
          }
        where
          own : held_from e k w ≡ true → w ≤ m → held_in e ≡ true
          own y l =
              ⊎_elim (λ z. or_left (eqb e.owner 0) (any (slot_holds e.owner e.key) (tab m 0 f)) z)
              (λ z. or_right (eqb e.owner 0) (any (slot_holds e.owner e.key) (tab m 0 f)) (among (slot_holds e.owner e.key) k w l z))
              (either (eqb e.owner 0) (any (slot_holds e.owner e.key) (tab (w - k) k f)) y)

  -- ---- where all is well, the walk comes to the end
  module _ (on : (a : ℕ) → a < m → (x : ℕ) → slot_on x (f a) ≡ eqb (name_of (f a)) x)
      (up : (a b : ℕ) → a ≤ b → b < m → name_of (f a) ≤ name_of (f b)) where
    -- the locks before place k are on lower names than the entries to come, those from k on are on them or on the end
    pub record Ready (es : List Item) (k : ℕ) : Type 0 where
      pub below : (a : ℕ) → a < k → (e : Item) → In e es → name_of (f a) < e.key
      pub there : (a : ℕ) → k ≤ a → a < m → ((e : Item) × In e es × (e.key ≡ name_of (f a))) ⊎ (name_of (f a) ≡ end_mark)
      pub held : (e : Item) → In e es → held_in e ≡ true
      pub order : pairs (λ (a b : Item). under compare a.key b.key) es ≡ true
      pub small : (e : Item) → In e es → e.key ≤ end_mark

    pub record Arrives (es : List Item) (k : ℕ) : Type 0 where
      pub at : ℕ
      pub most : at ≤ m
      pub is : past f m es k ≡ Code.Some at
      pub ends : (a : ℕ) → at ≤ a → a < m → name_of (f a) ≡ end_mark

    module _ (e : Item) (es : List Item) (k j : ℕ) (g : Ready (e ∷ es) k) (s : Stretch f m e.key k j) where
      higher : (c : Item) → In c es → e.key < c.key
      higher c i =
          let r : Item → Item → Bool = λ a b. under compare a.key b.key in
          is_under e.key c.key (all_in (r e) es c (pairs_head r e es g.order) i)

      -- the locks behind the stretch are on higher names
      beyond : (a : ℕ) → j ≤ a → a < m → e.key < name_of (f a)
      beyond a l u =
          let p = s.up in
          let n : name_of (f j) ≡ e.key → ⊥ =
          (λ z. false≢true (sym (s.stops (omega arith)) ∙ on j (omega arith) e.key ∙ eq-eqb (name_of (f j)) e.key z)) in
          let y = up j a l u in
          let h : e.key < name_of (f j) = next n (g.there j p (omega arith)) in
          omega arith
        where
          next : (name_of (f j) ≡ e.key → ⊥) → ((c : Item) × In c (e ∷ es) × (c.key ≡ name_of (f j))) ⊎ (name_of (f j) ≡ end_mark)
              → e.key < name_of (f j)
          next n (inl (c, inl z, q)) = absurd (n (sym q ∙ ap (λ v. v.key) (sym z)))
          next n (inl (c, inr i, q)) = subst (λ v. e.key < v) q (higher c i)
          next n (inr q) = let b = g.small e (inl refl) in omega arith

      on_key : (a : ℕ) → k ≤ a → a < j → name_of (f a) ≡ e.key
      on_key a l u = let b = s.most in eqb-true (name_of (f a)) e.key (sym (on a (omega arith) e.key) ∙ s.names a l u)

      within : (a : ℕ) → a < m → name_of (f a) ≡ e.key → (k ≤ a) × (a < j)
      within a u z = (
        elim (dec_lt a k) [ yes c ↦ absurd (let b = g.below a c e (inl refl) in omega arith) | no c ↦ omega arith ],
        elim (dec_lt a j) [ yes c ↦ c | no c ↦ absurd (let b = beyond a (omega arith) u in omega arith) ],
      )

      owner_passes : held_from e k j ≡ true
      owner_passes =
          ⊎_elim (λ z. or_left (eqb e.owner 0) (any (slot_holds e.owner e.key) (tab (j - k) k f)) z)
          (λ z.
          let y = any_in (slot_holds e.owner e.key) (tab m 0 f) z in
          let v = tab_in m 0 f y.0 y.1 in
          let u : v.0 < 0 + m = v.2 in
          let w = within v.0 (omega arith) (holds_on e.owner e.key (f v.0) (ap (slot_holds e.owner e.key) v.3 ∙ y.2)) in
          let b : k ≤ v.0 = w.0 in
          let c : v.0 < j = w.1 in
          let i : In y.0 (tab (j - k) k f) = subst (λ x. In x (tab (j - k) k f)) v.3 (in_tab (j - k) k f v.0 b (omega arith)) in
          or_right (eqb e.owner 0) (any (slot_holds e.owner e.key) (tab (j - k) k f))
          (in_any (slot_holds e.owner e.key) (tab (j - k) k f) y.0 i y.2))
          (either (eqb e.owner 0) (any (slot_holds e.owner e.key) (tab m 0 f)) (g.held e (inl refl)))

      ready_next : Ready es j
      ready_next =
          record {
            below = λ a l c i.
                elim (dec_lt a k) [
                  | yes b ↦ g.below a b c (inr i)
                  | no b ↦ (let z = on_key a (omega arith) l in let h = higher c i in omega arith)
                ];
            there = λ a l u. go a l u (g.there a (let p = s.up in omega arith) u);
            held = λ c i. g.held c (inr i);
            order = pairs_tail (λ (a b : Item). under compare a.key b.key) e es g.order;
            small = λ c i. g.small c (inr i);
          }
        where
          go : (a : ℕ) → j ≤ a → a < m → ((c : Item) × In c (e ∷ es) × (c.key ≡ name_of (f a))) ⊎ (name_of (f a) ≡ end_mark)
              → ((c : Item) × In c es × (c.key ≡ name_of (f a))) ⊎ (name_of (f a) ≡ end_mark)
          go a l u (inl (c, inl z, q)) = absurd (let b = beyond a l u in let y : e.key ≡ name_of (f a) = ap (λ v. v.key) z ∙ q in omega arith)
          go a l u (inl (c, inr i, q)) = inl (c, i, q)
          go a l u (inr q) = inr q

    pub walk_arrives : (es : List Item) (k : ℕ) → k ≤ m → Ready es k → Arrives es k
    unfolding past
    walk_arrives [] k h g = record { at = k; most = h; is = refl; ends = λ a l u. ⊎_elim (λ z. absurd z.1) (λ z. z) (g.there a l u) }
    walk_arrives (e ∷ es) k h g =
        let s = stretch_is f m e.key k h in
        let j = stretch f m e.key k in
        let r = walk_arrives es j s.most (ready_next e es k j g s) in
        record {
          at = r.at;
          most = r.most;
          is = ap (λ v. after v (past f m es)) (entry_passes e k (owner_passes e es k j g s)) ∙ r.is;
          ends = r.ends;
        }
