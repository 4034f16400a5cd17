-- The lock table: which locks stand, who holds what, and that holders go together, after one is taken and after all of a transaction are
-- released. A lock raised is a map of the locks in use, one added an insertion, a release keeps the others'. Assumes nothing.
use Prim.Native.Nat.{ℕ, suc}
use mathlib.Core.Path.{◌≡◌, refl, sym, ap, ap₂, subst, ◌∙◌}
use mathlib.Core.Logic.{◌⊎◌, inl, inr}
use mathlib.Core.Bool.{Bool, true, false, cond, not, ◌&&◌, ◌||◌, true≢false, false≢true}
use mathlib.Core.List.{List, [], ◌∷◌, map}
use mathlib.Core.Option.{Option, none, some}
use lib.Dec.{eqb}
use lib.ListN.{length, length-map}
use borrow.Author.Tests.{eqb-true, eqb-false, eq-eqb, ne_eqb, not-true}
use Rattle.lists.specs.Lists.{keep, pairs, In, insert_at}
use Rattle.lists.proofs.Tests.{and_left, and_right, and_both, fails, eqb_turn, never}
use Rattle.lists.proofs.Elements.{any_in, in_any, none_any, keep_in, in_keep, insert_at_in, in_insert_at, map_in, in_map}
use Rattle.lists.proofs.Pairs.{pairs_in, pairs_weaker, pairs_keep, pairs_insert_at, pairs_map}
use Rattle.rules.specs.Kinds.{Book, Ordered, Mode, S, X, Name}
use Rattle.rules.specs.Locks.{Slots, conflict, stronger, in_use, same_name, is_of, holds, raised, behind, added, taken, freed, released}
use Rattle.rules.specs.Good.{Lk, is_x, together, holds_x}
use Rattle.rules.proofs.KeyTests.{name_equal, name_itself}

-- modes
pub conflict_turn : (a b : Mode) → conflict a b ≡ conflict b a
conflict_turn S S = refl
conflict_turn S X = refl
conflict_turn X S = refl
conflict_turn X X = refl

stronger_clear : (a b m : Mode) → conflict a b ≡ false → conflict b m ≡ false → conflict (stronger a m) b ≡ false
stronger_clear S b m h k = conflict_turn m b ∙ k
stronger_clear X S m h k = h
stronger_clear X X m h k = h

stronger_keeps : (a m n : Mode) → stronger a n ≡ a → stronger (stronger a m) n ≡ stronger a m
stronger_keeps S S n h = h
stronger_keeps S X n h = refl
stronger_keeps X m n h = refl

stronger_has : (a m : Mode) → stronger (stronger a m) m ≡ stronger a m
stronger_has S S = refl
stronger_has S X = refl
stronger_has X m = refl

stronger_s : (m : Mode) → stronger m S ≡ m
stronger_s S = refl
stronger_s X = refl

strong_x : (m : Mode) → stronger m X ≡ m → is_x m ≡ true
strong_x S h = ap is_x (sym h)
strong_x X h = refl

x_strong : (m : Mode) → is_x m ≡ true → stronger m X ≡ m
x_strong S h = absurd (false≢true h)
x_strong X h = refl

pub conflicts_x : (a : Mode) → conflict a X ≡ true
conflicts_x S = refl
conflicts_x X = refl

pub x_conflicts : (a b : Mode) → stronger a X ≡ a → conflict a b ≡ true
x_conflicts S b h = never (cc)
x_conflicts X S h = refl
x_conflicts X X h = refl

module _ (B : Book) where
  abbrev pub lock_of : ℕ → Name B.Key → Mode → Lk B
  lock_of t n m = record { name = n; holder = t; mode = m }

  -- t's lock on n strengthened, any other as it is
  abbrev pub raise : ℕ → Name B.Key → Mode → Lk B → Lk B
  raise t n m l = record { name = l.name; holder = l.holder; mode = cond (is_of B t n l) (stronger l.mode m) l.mode }

  abbrev pub is_others : ℕ → Lk B → Bool
  is_others t l = not (eqb l.holder t)

  -- the locks in use, after each thing that is done to the slots
  raised_is : (t : ℕ) (n : Name B.Key) (m : Mode) (ls : Slots B) → in_use (map (raised B t n m) ls) ≡ map (raise t n m) (in_use ls)
  unfolding in_use
  raised_is t n m [] = refl
  raised_is t n m (none ∷ ls) = raised_is t n m ls
  raised_is t n m (some l ∷ ls) = ap₂ (λ (k : Lk B) (ks : List (Lk B)). k ∷ ks) (go (is_of B t n l)) (raised_is t n m ls)
    where
      go : (b : Bool) → cond b (lock_of l.holder l.name (stronger l.mode m)) l
          ≡ lock_of l.holder l.name (cond b (stronger l.mode m) l.mode)
      go true = refl
      go false = refl

  added_is : (l : Lk B) (ls ls' : Slots B) → added B l ls ≡ some ls' → (length ls' ≡ length ls) × ((i : ℕ) × (in_use ls' ≡ insert_at i l (in_use ls)))
  unfolding in_use added insert_at
  added_is l [] ls' h = never (cc)
  added_is l (none ∷ ls) ls' h = let z : some l ∷ ls ≡ ls' = cc in (rw (← z), (0, rw (← z)))
  added_is l (some x ∷ ls) ls' h = go (added B l ls) h (added_is l ls)
    where
      go : (o : Option (Slots B)) → behind B (some x) o ≡ some ls'
          → ((ms : Slots B) → o ≡ some ms → (length ms ≡ length ls) × ((i : ℕ) × (in_use ms ≡ insert_at i l (in_use ls))))
          → (length ls' ≡ suc (length ls)) × ((i : ℕ) × (in_use ls' ≡ insert_at i l (x ∷ in_use ls)))
      go none e f = never (cc)
      go (some ms) e f =
          let z : some x ∷ ms ≡ ls' = cc in
          let w = f ms refl in
          (rw (← z) (ap suc w.0), (suc w.1.0, rw (← z) (ap (λ (ks : List (Lk B)). x ∷ ks) w.1.1)))

  released_is : (t : ℕ) (ls : Slots B) → in_use (released B t ls) ≡ keep (is_others t) (in_use ls)
  unfolding in_use released keep
  released_is t [] = refl
  released_is t (none ∷ ls) = released_is t ls
  released_is t (some l ∷ ls) = go (eqb l.holder t) (released_is t ls)
    where
      go : (b : Bool) → in_use (released B t ls) ≡ keep (is_others t) (in_use ls)
          → in_use (cond b none (some l) ∷ released B t ls) ≡ cond (not b) (l ∷ keep (is_others t) (in_use ls)) (keep (is_others t) (in_use ls))
      go true h = h
      go false h = ap (λ (ks : List (Lk B)). l ∷ ks) h

  -- a lock taken: t's lock on n raised where it stands, or a new one put in
  pub data Took (ls ls' : Slots B) (t : ℕ) (n : Name B.Key) (m : Mode) : Type 0 where
    raised_in : length ls' ≡ length ls → holds B ls t n ≡ true → in_use ls' ≡ map (raise t n m) (in_use ls) → Took ls ls' t n m
    put_at : (i : ℕ) → length ls' ≡ length ls → holds B ls t n ≡ false → in_use ls' ≡ insert_at i (lock_of t n m) (in_use ls) → Took ls ls' t n m

  pub taken_took : (ls ls' : Slots B) (t : ℕ) (n : Name B.Key) (m : Mode) → taken B ls t n m ≡ some ls' → Took ls ls' t n m
  unfolding taken
  taken_took ls ls' t n m h = go (holds B ls t n) refl h
    where
      go : (b : Bool) → holds B ls t n ≡ b → cond b (some (map (raised B t n m) ls)) (added B (lock_of t n m) ls) ≡ some ls' → Took ls ls' t n m
      go true q e = let z : map (raised B t n m) ls ≡ ls' = cc in raised_in (rw (← z) (length-map ls (raised B t n m))) q (rw (← z) (raised_is t n m ls))
      go false q e = let w = added_is (lock_of t n m) ls ls' e in put_at w.1.0 w.0 q w.1.1

  pub took_length : (ls ls' : Slots B) (t : ℕ) (n : Name B.Key) (m : Mode) → Took ls ls' t n m → length ls' ≡ length ls
  took_length ls ls' t n m (raised_in e q z) = e
  took_length ls ls' t n m (put_at i e q z) = e

  -- t holds n, at least in mode m
  pub record Held (ls : Slots B) (t : ℕ) (n : Name B.Key) (m : Mode) : Type 0 where
    pub lock : Lk B
    pub stands : In lock (in_use ls)
    pub holder : lock.holder ≡ t
    pub name : lock.name ≡ n
    pub strong : stronger lock.mode m ≡ lock.mode

  -- whoever holds n in a mode that goes not with m is t
  abbrev pub Clear : Slots B → ℕ → Name B.Key → Mode → Type 0
  Clear ls t n m = (l : Lk B) → In l (in_use ls) → l.name ≡ n → conflict l.mode m ≡ true → l.holder ≡ t

  pub held_weaker : (ls : Slots B) (t : ℕ) (n : Name B.Key) (m : Mode) → Held ls t n m → Held ls t n S
  held_weaker ls t n m h = record { lock = h.lock; stands = h.stands; holder = h.holder; name = h.name; strong = stronger_s h.lock.mode }

  -- taking a lock weakens none
  pub held_kept : (ls ls' : Slots B) (t : ℕ) (n : Name B.Key) (m : Mode) → Took ls ls' t n m → (u : ℕ) (p : Name B.Key) (x : Mode) → Held ls u p x → Held ls' u p x
  held_kept ls ls' t n m (raised_in e q z) u p x h = record {
    lock = raise t n m h.lock;
    stands = rw z (in_map (raise t n m) (in_use ls) h.lock h.stands);
    holder = h.holder;
    name = h.name;
    strong = go (is_of B t n h.lock);
  }
    where
      go : (b : Bool) → stronger (cond b (stronger h.lock.mode m) h.lock.mode) x ≡ cond b (stronger h.lock.mode m) h.lock.mode
      go true = stronger_keeps h.lock.mode m x h.strong
      go false = h.strong
  held_kept ls ls' t n m (put_at i e q z) u p x h = record {
    lock = h.lock;
    stands = rw z (in_insert_at i (lock_of t n m) (in_use ls) h.lock (inr h.stands));
    holder = h.holder;
    name = h.name;
    strong = h.strong;
  }

  -- the locks of t released
  pub released_length : (t : ℕ) (ls : Slots B) → length (released B t ls) ≡ length ls
  unfolding released
  released_length t ls = length-map ls (freed B t)

  pub released_in : (t : ℕ) (ls : Slots B) (l : Lk B) → In l (in_use (released B t ls)) → In l (in_use ls) × (l.holder ≡ t → ⊥)
  released_in t ls l i =
      let w = keep_in (is_others t) (in_use ls) l (rw (released_is t ls) at i) in
      (w.0, eqb-false l.holder t (not-true (eqb l.holder t) w.1))

  pub held_released : (t : ℕ) (ls : Slots B) (u : ℕ) (n : Name B.Key) (m : Mode) → (u ≡ t → ⊥) → Held ls u n m → Held (released B t ls) u n m
  held_released t ls u n m o h = record {
    lock = h.lock;
    stands = rw (released_is t ls) (in_keep (is_others t) (in_use ls) h.lock h.stands (rw (ne_eqb h.lock.holder t (λ z. o (sym h.holder ∙ z)))));
    holder = h.holder;
    name = h.name;
    strong = h.strong;
  }

  pub released_together : (t : ℕ) (ls : Slots B) → pairs (together B) (in_use ls) ≡ true → pairs (together B) (in_use (released B t ls)) ≡ true
  released_together t ls h = rw (released_is t ls) (pairs_keep (together B) (is_others t) (in_use ls) h)

  module _ (L : Ordered B.Key B.compare) where
    is_of_lem : (t : ℕ) (n : Name B.Key) (l : Lk B) → l.holder ≡ t → l.name ≡ n → is_of B t n l ≡ true
    is_of_lem t n l p q = and_both _ _ (eq-eqb l.holder t p) (rw q (name_itself B L n))

    of_is : (t : ℕ) (n : Name B.Key) (l : Lk B) → is_of B t n l ≡ true → (l.holder ≡ t) × (l.name ≡ n)
    of_is t n l h = (eqb-true l.holder t (and_left _ _ h), name_equal B L l.name n (and_right (eqb l.holder t) _ h))

    pub holds_held : (ls : Slots B) (t : ℕ) (n : Name B.Key) → holds B ls t n ≡ true → Held ls t n S
    holds_held ls t n h =
        let w = any_in (is_of B t n) (in_use ls) h in
        let o = of_is t n w.0 w.2 in
        record { lock = w.0; stands = w.1; holder = o.0; name = o.1; strong = stronger_s w.0.mode }

    pub held_holds : (ls : Slots B) (t : ℕ) (n : Name B.Key) (m : Mode) → Held ls t n m → holds B ls t n ≡ true
    held_holds ls t n m h = in_any (is_of B t n) (in_use ls) h.lock h.stands (is_of_lem t n h.lock h.holder h.name)

    pub holds_x_held : (ls : Slots B) (t : ℕ) (n : Name B.Key) → holds_x B ls t n ≡ true → Held ls t n X
    holds_x_held ls t n h =
        let w = any_in (λ l. is_of B t n l && is_x l.mode) (in_use ls) h in
        let o = of_is t n w.0 (and_left _ _ w.2) in
        record { lock = w.0; stands = w.1; holder = o.0; name = o.1; strong = x_strong w.0.mode (and_right (is_of B t n w.0) _ w.2) }

    pub held_holds_x : (ls : Slots B) (t : ℕ) (n : Name B.Key) → Held ls t n X → holds_x B ls t n ≡ true
    held_holds_x ls t n h =
        in_any (λ l. is_of B t n l && is_x l.mode) (in_use ls) h.lock h.stands
        (and_both _ _ (is_of_lem t n h.lock h.holder h.name) (strong_x h.lock.mode h.strong))

    -- two locks on one name: other holders, and modes that go together
    abbrev pub Apart : Lk B → Lk B → Type 0
    Apart k l = (eqb k.holder l.holder ≡ false) × (conflict k.mode l.mode ≡ false)

    pub together_apart : (k l : Lk B) → together B k l ≡ true → k.name ≡ l.name → Apart k l
    unfolding together
    together_apart k l h e =
        let c : not (eqb k.holder l.holder) && not (conflict k.mode l.mode) ≡ true = rw (e, name_itself B L l.name) at h in
        (not-true _ (and_left _ _ c), not-true _ (and_right (not (eqb k.holder l.holder)) _ c))

    apart_together : (k l : Lk B) → (k.name ≡ l.name → Apart k l) → together B k l ≡ true
    unfolding together
    apart_together k l f = go (same_name B k.name l.name) refl
      where
        go : (b : Bool) → same_name B k.name l.name ≡ b → not b || (not (eqb k.holder l.holder) && not (conflict k.mode l.mode)) ≡ true
        go true q = let w = f (name_equal B L k.name l.name q) in rw (w.0, w.1) refl
        go false q = refl

    pub apart_turn : (k l : Lk B) → Apart k l → Apart l k
    apart_turn k l a = (eqb_turn l.holder k.holder ∙ a.0, conflict_turn l.mode k.mode ∙ a.1)

    -- W2 in use: whoever is on a name that t holds in X is t
    pub alone : (ls : Slots B) (t : ℕ) (n : Name B.Key) → pairs (together B) (in_use ls) ≡ true → Held ls t n X
        → (l : Lk B) → In l (in_use ls) → l.name ≡ n → l.holder ≡ t
    alone ls t n h k l i e = go (pairs_in (together B) (in_use ls) k.lock l h k.stands i)
      where
        clash : Apart k.lock l → l.holder ≡ t
        clash a = absurd (true≢false (sym (x_conflicts k.lock.mode l.mode k.strong) ∙ a.1))

        go : (k.lock ≡ l) ⊎ ((together B k.lock l ≡ true) ⊎ (together B l k.lock ≡ true)) → l.holder ≡ t
        go (inl z) = ap (λ (x : Lk B). x.holder) (sym z) ∙ k.holder
        go (inr (inl r)) = clash (together_apart k.lock l r (k.name ∙ sym e))
        go (inr (inr r)) = clash (apart_turn l k.lock (together_apart l k.lock r (e ∙ sym k.name)))

    -- a lock taken
    module _ (ls ls' : Slots B) (t : ℕ) (n : Name B.Key) (m : Mode) where
      pub took_in : Took ls ls' t n m → (l : Lk B) → In l (in_use ls') → In l (in_use ls) ⊎ ((l.holder ≡ t) × (l.name ≡ n))
      took_in (raised_in e h z) l i = let w = map_in (raise t n m) (in_use ls) l (rw z at i) in go w.0 w.1 w.2 (is_of B t n w.0) refl
        where
          go : (k : Lk B) → In k (in_use ls) → raise t n m k ≡ l → (b : Bool) → is_of B t n k ≡ b → In l (in_use ls) ⊎ ((l.holder ≡ t) × (l.name ≡ n))
          go k j y true q = let o = of_is t n k q in inr (ap (λ (x : Lk B). x.holder) (sym y) ∙ o.0, ap (λ (x : Lk B). x.name) (sym y) ∙ o.1)
          go k j y false q = inl (subst (λ (x : Lk B). In x (in_use ls)) (rw q at y) j)
      took_in (put_at j e h z) l i = go (insert_at_in j (lock_of t n m) (in_use ls) l (rw z at i))
        where
          go : (lock_of t n m ≡ l) ⊎ In l (in_use ls) → In l (in_use ls) ⊎ ((l.holder ≡ t) × (l.name ≡ n))
          go (inl y) = inr (ap (λ (x : Lk B). x.holder) (sym y), ap (λ (x : Lk B). x.name) (sym y))
          go (inr k) = inl k

      pub held_took : Took ls ls' t n m → Held ls' t n m
      held_took (raised_in e q z) = let h = holds_held ls t n q in record {
        lock = raise t n m h.lock;
        stands = rw z (in_map (raise t n m) (in_use ls) h.lock h.stands);
        holder = h.holder;
        name = h.name;
        strong = rw (is_of_lem t n h.lock h.holder h.name) (stronger_has h.lock.mode m);
      }
      held_took (put_at i e q z) = record {
        lock = lock_of t n m;
        stands = rw z (in_insert_at i (lock_of t n m) (in_use ls) (lock_of t n m) (inl refl));
        holder = refl;
        name = refl;
        strong = stronger_has S m;
      }

      -- W2 stays, where nobody else holds n in a mode that goes not with m
      module _ (clear : Clear ls t n m) where
        clear_of : (l : Lk B) → In l (in_use ls) → l.name ≡ n → (l.holder ≡ t → ⊥) → conflict l.mode m ≡ false
        clear_of l i z o = fails (conflict l.mode m) (λ q. o (clear l i z q))

        raised_apart : (x y : Lk B) → In x (in_use ls) → In y (in_use ls) → x.name ≡ y.name → Apart x y → Apart (raise t n m x) (raise t n m y)
        raised_apart x y i j z a = (a.0, go (is_of B t n x) (is_of B t n y) refl refl)
          where
            -- the one raised against the other: k is t's on n, l is another's
            against : (k l : Lk B) → In l (in_use ls) → k.name ≡ l.name → Apart k l → is_of B t n k ≡ true → conflict (stronger k.mode m) l.mode ≡ false
            against k l v w b q =
                let o = of_is t n k q in
                stronger_clear k.mode l.mode m b.1 (clear_of l v (sym w ∙ o.1) (λ y. eqb-false k.holder l.holder b.0 (o.0 ∙ sym y)))

            go : (b c : Bool) → is_of B t n x ≡ b → is_of B t n y ≡ c → conflict (cond b (stronger x.mode m) x.mode) (cond c (stronger y.mode m) y.mode) ≡ false
            go true true q r = absurd (eqb-false x.holder y.holder a.0 ((of_is t n x q).0 ∙ sym (of_is t n y r).0))
            go true false q r = against x y j z a q
            go false true q r = conflict_turn x.mode (stronger y.mode m) ∙ against y x i (sym z) (apart_turn x y a) r
            go false false q r = a.1

        new_apart : holds B ls t n ≡ false → (l : Lk B) → In l (in_use ls) → l.name ≡ n → Apart l (lock_of t n m)
        new_apart q l i z =
            let o : l.holder ≡ t → ⊥ = λ y. true≢false (sym (is_of_lem t n l y z) ∙ none_any (is_of B t n) (in_use ls) l q i) in
            (ne_eqb l.holder t o, clear_of l i z o)

        pub took_together : Took ls ls' t n m → pairs (together B) (in_use ls) ≡ true → pairs (together B) (in_use ls') ≡ true
        took_together (raised_in e q z) h = rw (z, pairs_map) (pairs_weaker (together B) _ (in_use ls)
            (λ x y i j r. apart_together (raise t n m x) (raise t n m y) (λ v. raised_apart x y i j v (together_apart x y r v))) h)
        took_together (put_at i e q z) h = rw z (pairs_insert_at (together B) i (lock_of t n m) (in_use ls) h (λ y j. (
          apart_together (lock_of t n m) y (λ v. apart_turn y (lock_of t n m) (new_apart q y j (sym v))),
          apart_together y (lock_of t n m) (λ v. new_apart q y j v),
        )))
