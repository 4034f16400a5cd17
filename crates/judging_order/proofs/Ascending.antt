-- An order of the locks that goes up, with no slot in use left out: every two slots go together, and the names ascend. Two different slots
-- that do not go together, where they are neighbours, show that not all do. To come first is transitive, so that one place comes before
-- every later one, and each slot has a place of its own. Assumes nothing.
use mathlib.Core.Path.{◌≡◌, refl, sym, ap, ap₂, subst, ◌∙◌}
use mathlib.Core.Logic.{◌⊎◌, inl, inr, ⊎_elim}
use mathlib.Core.Bool.{Bool, true, false, not, ◌&&◌, ◌||◌, false≢true, true≢false}
use mathlib.Core.List.{List, []}
use mathlib.Core.Option.{Option, none, some}
use Prim.Native.Nat.{ℕ, zero, suc, ◌+◌, ◌-◌, ◌≤◌, ◌<◌}
use native.Mathlib.Decide.{dec_lt}
use native.Mathlib.Omega.{arith}
use borrow.Author.Tests.{eqb-true, eqb-false, eq-eqb, ltb-true, lt-ltb, not-true}
use lib.Dec.{eqb, ltb}
use lib.ListN.{length, get_or, get_or-eq_default}
use Rattle.limits.specs.Limits.{key_size, locks_most, desk_size}
use Rattle.lists.specs.Lists.{tab, all, pairs}
use Rattle.lists.proofs.Tests.{both, and_both, either, or_left, or_right, fails, eqb_turn}
use Rattle.lists.proofs.Tables.{all_tab, all_of_tab}
use Rattle.numbers.specs.Numbers.{number_at, fields_at}
use Rattle.numbers.proofs.Numbers.{number_at_ext, number_none}
use Rattle.rules.specs.Kinds.{Lock, Mode, S, X, Name, on, end}
use Rattle.rules.specs.Entries.{is_there}
use Rattle.rules.specs.Locks.{conflict, same_name}
use Rattle.rules.specs.Good.{together}
use Rattle.rules.proofs.Orders.{numbers_ordered}
use Rattle.rules.proofs.KeyTests.{name_equal}
use Rattle.rules.proofs.LockTable.{conflict_turn}
use Rattle.locks.specs.SlotLayout.{lock_place, name_number, slot_in, slot_at, slots_of}
use Rattle.states.specs.States.{book}
use Rattle.judging_locks.specs.LockChecks.{slot_together}
use Rattle.judging_order.specs.LockOrders.{placed, comes_first, goes_up, clashes, begins, has_place}

-- ---- coming first
record Lower (k l : Lock ℕ) : Type 0 where
  pub names : name_number k.name ≤ name_number l.name
  pub same : name_number k.name ≡ name_number l.name → (k.holder < l.holder) × (conflict k.mode l.mode ≡ false)

lower : (k l : Lock ℕ) → comes_first (some k) (some l) ≡ true → Lower k l
unfolding comes_first
lower k l h =
    go (either (ltb n m) ((eqb n m && ltb k.holder l.holder) && not (conflict k.mode l.mode)) h)
  where
    n : ℕ
    n = name_number k.name

    m : ℕ
    m = name_number l.name

    go : (ltb n m ≡ true) ⊎ (((eqb n m && ltb k.holder l.holder) && not (conflict k.mode l.mode)) ≡ true) → Lower k l
    go (inl a) = let x = ltb-true n m a in record { names = omega arith; same = λ e. absurd (omega arith) }
    go (inr a) =
        let x = both (eqb n m && ltb k.holder l.holder) (not (conflict k.mode l.mode)) a in
        let y = both (eqb n m) (ltb k.holder l.holder) x.0 in
        let z = eqb-true n m y.0 in
        record { names = omega arith; same = λ _. (ltb-true k.holder l.holder y.1, not-true (conflict k.mode l.mode) x.1) }

first : (k l : Lock ℕ) → Lower k l → comes_first (some k) (some l) ≡ true
unfolding comes_first
first k l h = go (dec_lt n m)
  where
    n : ℕ
    n = name_number k.name

    m : ℕ
    m = name_number l.name

    go : Dec (n < m) → (ltb n m || ((eqb n m && ltb k.holder l.holder) && not (conflict k.mode l.mode))) ≡ true
    go (yes a) = or_left (ltb n m) ((eqb n m && ltb k.holder l.holder) && not (conflict k.mode l.mode)) (lt-ltb n m a)
    go (no a) =
        let b = h.names in
        let e : n ≡ m = omega arith in
        let s = h.same e in
        or_right (ltb n m) ((eqb n m && ltb k.holder l.holder) && not (conflict k.mode l.mode))
        (and_both (eqb n m && ltb k.holder l.holder) (not (conflict k.mode l.mode))
        (and_both (eqb n m) (ltb k.holder l.holder) (eq-eqb n m e) (lt-ltb k.holder l.holder s.0)) (ap not s.1))

modes_then : (a b c : Mode) → conflict a b ≡ false → conflict b c ≡ false → conflict a c ≡ false
modes_then S S c e f = f
modes_then S X c e f = absurd (false≢true (sym e))
modes_then X S c e f = absurd (false≢true (sym e))
modes_then X X c e f = absurd (false≢true (sym e))

lower_then : (k l p : Lock ℕ) → Lower k l → Lower l p → Lower k p
lower_then k l p f g =
    let a = f.names in
    let b = g.names in
    record {
      names = omega arith;
      same = λ e.
          let x = f.same (omega arith) in
          let y = g.same (omega arith) in
          let u : k.holder < l.holder = x.0 in
          let v : l.holder < p.holder = y.0 in
          (omega arith, modes_then k.mode l.mode p.mode x.1 y.1);
    }

first_then : (x y z : Option (Lock ℕ)) → comes_first x y ≡ true → comes_first y z ≡ true → comes_first x z ≡ true
unfolding comes_first
first_then none y z e f = absurd (false≢true e)
first_then (some k) none z e f = absurd (false≢true e)
first_then (some k) (some l) none e f = absurd (false≢true f)
first_then (some k) (some l) (some p) e f = first k p (lower_then k l p (lower k l e) (lower l p f))

-- ---- going together
goes_together : (k l : Lock ℕ)
    → (name_number k.name ≡ name_number l.name → ((k.holder ≡ l.holder → ⊥) × (conflict k.mode l.mode ≡ false)))
    → together book k l ≡ true
unfolding together
goes_together k l h = go (same_name book k.name l.name) refl
  where
    go : (b : Bool) → same_name book k.name l.name ≡ b
        → (not b || (not (eqb k.holder l.holder) && not (conflict k.mode l.mode))) ≡ true
    go false e = refl
    go true e =
        let s = h (ap name_number (name_equal book numbers_ordered k.name l.name e)) in
        and_both (not (eqb k.holder l.holder)) (not (conflict k.mode l.mode))
        (ap not (fails (eqb k.holder l.holder) (λ t. s.0 (eqb-true k.holder l.holder t)))) (ap not s.1)

first_together : (x y : Option (Lock ℕ)) → comes_first x y ≡ true → (slot_together x y ≡ true) × (slot_together y x ≡ true)
unfolding comes_first
first_together none y e = absurd (false≢true e)
first_together (some k) none e = absurd (false≢true e)
first_together (some k) (some l) e =
    let f = lower k l e in (
      goes_together k l (λ n. let s = f.same n in let h : k.holder < l.holder = s.0 in ((λ z. omega arith), s.1)),
      goes_together l k
          (λ n. let s = f.same (sym n) in let h : k.holder < l.holder = s.0 in ((λ z. omega arith), conflict_turn l.mode k.mode ∙ s.1)),
    )

-- ---- every two
pairs_of_tab : {A : Type 0} (r : A → A → Bool) (n i : ℕ) (f : ℕ → A) → ((a b : ℕ) → i ≤ a → a < b → b < i + n → r (f a) (f b) ≡ true)
    → pairs r (tab n i f) ≡ true
unfolding pairs tab
pairs_of_tab r zero i f h = refl
pairs_of_tab r (suc n) i f h =
    and_both (all (r (f i)) (tab n (i + 1) f)) (pairs r (tab n (i + 1) f))
    (all_of_tab (r (f i)) n (i + 1) f (λ b l u. h i b (omega arith) (omega arith) (omega arith)))
    (pairs_of_tab r n (i + 1) f (λ a b l m u. h a b (omega arith) m (omega arith)))

pairs_in_tab : {A : Type 0} (r : A → A → Bool) (n i : ℕ) (f : ℕ → A) → pairs r (tab n i f) ≡ true → (a b : ℕ) → i ≤ a → a < b → b < i + n
    → r (f a) (f b) ≡ true
unfolding pairs tab
pairs_in_tab r zero i f h a b l k u = absurd (omega arith)
pairs_in_tab r (suc n) i f h a b l k u =
    let w = both (all (r (f i)) (tab n (i + 1) f)) (pairs r (tab n (i + 1) f)) h in
    elim (dec_lt i a) [
      | yes c ↦ pairs_in_tab r n (i + 1) f w.1 a b (omega arith) k (omega arith)
      | no c ↦ let z : i ≡ a = omega arith in subst (λ x. r (f x) (f b) ≡ true) z (all_tab (r (f i)) n (i + 1) f b w.0 (omega arith) (omega arith))
    ]

-- ---- a lock at a place
-- there is no lock past the last slot
none_past : (d : List ℕ) (i : ℕ) → length d ≡ desk_size → locks_most ≤ i → slot_at d i ≡ none
unfolding slot_at slot_in fields_at
none_past d i size h =
    let z : number_at 2 d (lock_place i + key_size) ≡ 0 =
    number_at_ext 2 {t = []} {b = 0} (record { byte = λ k l. get_or-eq_default d 0 {n = lock_place i + key_size + k} (omega arith) }) ∙ number_none 2 0 in
    rw z refl

-- so where a test fails or passes other than of a free slot, it is of a slot
pub slot_some : (t : Option (Lock ℕ) → Bool) (b : Bool) (d : List ℕ) (i : ℕ) → length d ≡ desk_size → (t none ≡ b → ⊥) → t (slot_at d i) ≡ b → i < locks_most
slot_some t b d i size free h =
    elim (dec_lt i locks_most) [ yes l ↦ l | no l ↦ absurd (free (sym (ap t (none_past d i size (omega arith))) ∙ h)) ]

abbrev pub name_of : Option (Lock ℕ) → ℕ
name_of none = 0
name_of (some l) = name_number l.name

first_names : (x y : Option (Lock ℕ)) → comes_first x y ≡ true → name_of x ≤ name_of y
unfolding comes_first
first_names none y e = absurd (false≢true e)
first_names (some k) none e = absurd (false≢true e)
first_names (some k) (some l) e = (lower k l e).names

second_there : (x y : Option (Lock ℕ)) → comes_first x y ≡ true → is_there y ≡ true
unfolding comes_first
second_there none y e = absurd (false≢true e)
second_there (some k) none e = absurd (false≢true e)
second_there (some k) (some l) e = refl

free_second : (x : Option (Lock ℕ)) → slot_together x none ≡ true
free_second none = refl
free_second (some k) = refl

module _ (d o p : List ℕ) (m : ℕ) (up : all (goes_up d o) (tab (m - 1) 1 (λ a. a)) ≡ true)
    (whole : all (has_place d o p m) (tab locks_most 0 (λ i. i)) ≡ true) where
  climbs : (a b : ℕ) → a < b → b < m → comes_first (placed d o a) (placed d o b) ≡ true
  unfolding goes_up
  climbs a zero l h = absurd (omega arith)
  climbs a (suc b) l h =
      let e : suc b - 1 ≡ b = omega arith in
      let step : comes_first (placed d o b) (placed d o (suc b)) ≡ true =
      subst (λ x. comes_first (placed d o x) (placed d o (suc b)) ≡ true) e
      (all_tab (goes_up d o) (m - 1) 1 (λ a. a) (suc b) up (omega arith) (omega arith)) in
      elim (dec_lt a b) [
        | yes k ↦ first_then (placed d o a) (placed d o b) (placed d o (suc b)) (climbs a b k (omega arith)) step
        | no k ↦ subst (λ x. comes_first (placed d o x) (placed d o (suc b)) ≡ true) (let z : b ≡ a = omega arith in z) step
      ]

  -- the place of a slot in use
  record Place (i : ℕ) : Type 0 where
    pub at : ℕ
    pub below : at < m
    pub is : get_or o at 0 ≡ i

  place_of : (i : ℕ) → i < locks_most → (slot_at d i ≡ none) ⊎ Place i
  unfolding has_place
  place_of i h = go (slot_at d i) refl (all_tab (has_place d o p m) locks_most 0 (λ i. i) i whole (omega arith) (omega arith))
    where
      go : (x : Option (Lock ℕ)) → slot_at d i ≡ x → (not (is_there (slot_at d i)) || (ltb (get_or p i 0) m && eqb (get_or o (get_or p i 0) 0) i)) ≡ true
          → (slot_at d i ≡ none) ⊎ Place i
      go none e t = inl e
      go (some l) e t =
          let u : (ltb (get_or p i 0) m && eqb (get_or o (get_or p i 0) 0) i) ≡ true = rw e at t in
          let v = both (ltb (get_or p i 0) m) (eqb (get_or o (get_or p i 0) 0) i) u in
          inr (record { at = get_or p i 0; below = ltb-true (get_or p i 0) m v.0; is = eqb-true (get_or o (get_or p i 0) 0) i v.1 })

  two : (i j : ℕ) → i < j → (slot_at d i ≡ none) ⊎ Place i → (slot_at d j ≡ none) ⊎ Place j → slot_together (slot_at d i) (slot_at d j) ≡ true
  two i j l (inl e) b = ap (λ x. slot_together x (slot_at d j)) e
  two i j l (inr a) (inl e) = ap (slot_together (slot_at d i)) e ∙ free_second (slot_at d i)
  two i j l (inr a) (inr b) =
      elim (dec_lt a.at b.at) [
        | yes k ↦ moved (first_together (placed d o a.at) (placed d o b.at) (climbs a.at b.at k b.below)).0
        | no k ↦ elim (dec_lt b.at a.at) [
          | yes n ↦ moved (first_together (placed d o b.at) (placed d o a.at) (climbs b.at a.at n a.below)).1
          | no n ↦ absurd (let e : a.at ≡ b.at = omega arith in let z : i ≡ j = sym a.is ∙ ap (λ x. get_or o x 0) e ∙ b.is in omega arith)
        ]
      ]
    where
      moved : slot_together (placed d o a.at) (placed d o b.at) ≡ true → slot_together (slot_at d i) (slot_at d j) ≡ true
      moved t = ap₂ (λ x y. slot_together (slot_at d x) (slot_at d y)) (sym a.is) (sym b.is) ∙ t

  pub order_pairs : pairs slot_together (slots_of d) ≡ true
  unfolding slots_of
  order_pairs = pairs_of_tab slot_together locks_most 0 (slot_at d) (λ i j _ l u. two i j l (place_of i (omega arith)) (place_of j (omega arith)))

  -- what is true of every place of the order, and of a free slot, is true of every slot
  pub order_all : (t : Option (Lock ℕ) → Bool) → t none ≡ true → ((a : ℕ) → a < m → t (placed d o a) ≡ true) → all t (slots_of d) ≡ true
  unfolding slots_of
  order_all t free h = all_of_tab t locks_most 0 (slot_at d) (λ i _ u. go i (place_of i (omega arith)))
    where
      go : (i : ℕ) → (slot_at d i ≡ none) ⊎ Place i → t (slot_at d i) ≡ true
      go i (inl e) = ap t e ∙ free
      go i (inr a) = ap (λ x. t (slot_at d x)) (sym a.is) ∙ h a.at a.below

  pub place_some : (t : Option (Lock ℕ) → Bool) → t none ≡ false → (i : ℕ) → i < locks_most → t (slot_at d i) ≡ true
      → (a : ℕ) × (a < m) × (t (placed d o a) ≡ true)
  place_some t free i h e = go (place_of i h)
    where
      go : (slot_at d i ≡ none) ⊎ Place i → (a : ℕ) × (a < m) × (t (placed d o a) ≡ true)
      go (inl z) = absurd (false≢true (sym free ∙ sym (ap t z) ∙ e))
      go (inr a) = (a.at, a.below, ap (λ x. t (slot_at d x)) a.is ∙ e)

  pub names_up : (a b : ℕ) → a ≤ b → b < m → name_of (placed d o a) ≤ name_of (placed d o b)
  names_up a b l h =
      elim (dec_lt a b) [
        | yes c ↦ first_names (placed d o a) (placed d o b) (climbs a b c h)
        | no c ↦ (
            let z : a ≡ b = omega arith in
            let e : name_of (placed d o a) ≡ name_of (placed d o b) = ap (λ x. name_of (placed d o x)) z in
            omega arith
            )
      ]

  pub each_there : begins d o m ≡ true → (a : ℕ) → a < m → is_there (placed d o a) ≡ true
  unfolding begins goes_up
  each_there f zero h =
      ⊎_elim (λ e. absurd (let z = eqb-true m 0 e in omega arith)) (λ e. e) (either (eqb m 0) (is_there (placed d o 0)) f)
  each_there f (suc a) h =
      second_there (placed d o (suc a - 1)) (placed d o (suc a)) (all_tab (goes_up d o) (m - 1) 1 (λ a. a) (suc a) up (omega arith) (omega arith))

-- ---- neighbours that do not go together
names_turn : (x y : Name ℕ) → same_name book x y ≡ same_name book y x
names_turn (on a) (on b) = eqb_turn a b
names_turn (on a) end = refl
names_turn end (on b) = refl
names_turn end end = refl

together_turn : (x y : Option (Lock ℕ)) → slot_together x y ≡ slot_together y x
unfolding together
together_turn none y = sym (free_second y)
together_turn (some k) none = refl
together_turn (some k) (some l) = rw (names_turn k.name l.name, eqb_turn k.holder l.holder, conflict_turn k.mode l.mode)

pub clash_apart : (d o : List ℕ) (a : ℕ) → length d ≡ desk_size → clashes d o a ≡ true → pairs slot_together (slots_of d) ≡ false
unfolding clashes slots_of
clash_apart d o a size h = fails (pairs slot_together (tab locks_most 0 (slot_at d))) no_way
  where
    i : ℕ
    i = get_or o (a - 1) 0

    j : ℕ
    j = get_or o a 0

    w : (not (eqb i j) ≡ true) × (not (slot_together (slot_at d i) (slot_at d j)) ≡ true)
    w = both (not (eqb i j)) (not (slot_together (slot_at d i) (slot_at d j))) h

    bad : slot_together (slot_at d i) (slot_at d j) ≡ false
    bad = not-true (slot_together (slot_at d i) (slot_at d j)) w.1

    first : i < locks_most
    first = slot_some (λ x. slot_together x (slot_at d j)) false d i size true≢false bad

    second : j < locks_most
    second = slot_some (slot_together (slot_at d i)) false d j size (λ e. true≢false (sym (free_second (slot_at d i)) ∙ e)) bad

    no_way : pairs slot_together (tab locks_most 0 (slot_at d)) ≡ true → ⊥
    no_way t =
        elim (dec_lt i j) [
          | yes c ↦ true≢false (sym (pairs_in_tab slot_together locks_most 0 (slot_at d) t i j (omega arith) c (omega (arith, second))) ∙ bad)
          | no c ↦
              let n = eqb-false i j (not-true (eqb i j) w.0) in
              let l : j < i = omega (arith, n) in
              let w = pairs_in_tab slot_together locks_most 0 (slot_at d) t j i (omega arith) l (omega (arith, first)) in
              true≢false (sym (together_turn (slot_at d i) (slot_at d j) ∙ w) ∙ bad)
        ]
