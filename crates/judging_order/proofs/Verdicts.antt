-- The quick way through the locks comes to their tests: where the order is one, the walk along it tells of names and owners, and every two
-- locks go together; where neighbours clash, not every two do; where the lock table is all zero, the order of no locks is one.
-- By what each walk over the entries shows, both ways. Assumes nothing.
use mathlib.Core.Path.{◌≡◌, refl, sym, ap, ◌∙◌}
use Rattle.std.specs.Prelude as Code
use mathlib.Core.Logic.{◌⊎◌, inl, inr}
use mathlib.Core.Bool.{Bool, true, false, cond, not, ◌&&◌, ◌||◌, false≢true}
use mathlib.Core.List.{List, []}
use mathlib.Core.Option.{Option, none, some}
use Prim.Native.Nat.{ℕ, ◌*◌, ◌+◌, ◌-◌, ◌≤◌, ◌<◌}
use native.Mathlib.Decide.{dec_lt}
use native.Mathlib.Omega.{arith}
use borrow.Author.Tests.{eqb-true, eq-eqb, le-leb, not-false}
use lib.Dec.{eqb, leb}
use lib.ListN.{length, get_or}
use Rattle.limits.specs.Limits.{locks_most, slot_size, slots_place, desk_size}
use Rattle.lists.specs.Lists.{tab, all, any, pairs, In}
use Rattle.lists.proofs.Tests.{both, and_both, alike}
use Rattle.lists.proofs.Elements.{all_in, in_all, any_in, in_any, tab_in, in_tab}
use Rattle.lists.proofs.Tables.{all_of_tab}
use Rattle.numbers.specs.Numbers.{fields_at, zero_at}
use Rattle.rules.specs.Kinds.{Lock, Name, on, end}
use Rattle.rules.specs.Entries.{is_there}
use Rattle.rules.specs.Document.{end_mark}
use Rattle.trees.specs.Trees.{flat}
use Rattle.locks.specs.SlotLayout.{lock_widths, lock_place, name_in, name_number, mode_in, slot_in, slot_at, slots_of}
use Rattle.locks.proofs.LockValues.{name_back}
use Rattle.index.specs.Pictures.{Item, tree_of}
use Rattle.judging_desk.proofs.Free.{zero_free}
use Rattle.judging_locks.specs.LockChecks.{slot_together, slot_holds, entry_held, has_key, owners_at, named, slot_named, locks_ok, Fine}
use Rattle.judging_order.specs.LockOrders.{placed, goes_up, clashes, begins, has_place, slot_on, stretch, past, ended, walked}
use Rattle.judging_locks.proofs.Flats.{find_is, owners_is, fine_sorted, fine_small}
use Rattle.judging_order.proofs.Ascending.{name_of, slot_some, order_pairs, order_all, place_some, names_up, each_there, clash_apart}
use Rattle.judging_order.proofs.LockWalks.{held_in, stretch_is, Passed, past_passed, Ready, walk_arrives}

-- ---- a lock at a place
on_name : (y : Option (Lock ℕ)) → is_there y ≡ true → (x : ℕ) → slot_on x y ≡ eqb (name_of y) x
unfolding slot_on
on_name none h x = absurd (false≢true h)
on_name (some l) h x = refl

on_is : (y : Option (Lock ℕ)) (x : ℕ) → slot_on x y ≡ true → name_of y ≡ x
unfolding slot_on
on_is none x h = absurd (false≢true h)
on_is (some l) x h = eqb-true (name_number l.name) x h

module _ (n : ℕ) (s : List ℕ) (q : ℕ) where
  abbrev entries : List Item
  entries = flat ℕ Item n (tree_of n s q)

  key_named : (e : Item) → In e entries → (y : Option (Lock ℕ)) → name_of y ≡ e.key → slot_named n s q y ≡ true
  key_named e i none h = refl
  key_named e i (some l) h = go l.name h
    where
      go : (x : Name ℕ) → name_number x ≡ e.key → named n s q x ≡ true
      go end z = refl
      go (on k) z = find_is n s k q ∙ in_any (has_key k) entries e i (eq-eqb e.key k (sym z))

  named_key : (y : Option (Lock ℕ)) → is_there y ≡ true → slot_named n s q y ≡ true
      → ((e : Item) × In e entries × (e.key ≡ name_of y)) ⊎ (name_of y ≡ end_mark)
  named_key none t h = absurd (false≢true t)
  named_key (some l) t h = go l.name h
    where
      go : (x : Name ℕ) → named n s q x ≡ true → ((e : Item) × In e entries × (e.key ≡ name_number x)) ⊎ (name_number x ≡ end_mark)
      go end z = inr refl
      go (on k) z = let w = any_in (has_key k) entries (sym (find_is n s k q) ∙ z) in inl (w.0, w.1, eqb-true w.0.key k w.2)

  -- a slot's name is the end where its number is the end's
  end_named : (d : List ℕ) (i : ℕ) → slot_on end_mark (slot_at d i) ≡ true → slot_named n s q (slot_at d i) ≡ true
  unfolding slot_at slot_in slot_on
  end_named d i = go (eqb (get_or vs 1 0) 0)
    where
      vs : List ℕ
      vs = fields_at lock_widths d (lock_place i)

      lock : Lock ℕ
      lock = record { name = name_in (get_or vs 0 0); holder = get_or vs 1 0; mode = mode_in (get_or vs 2 0) }

      go : (b : Bool) → slot_on end_mark (cond b none (some lock)) ≡ true → slot_named n s q (cond b none (some lock)) ≡ true
      go true e = refl
      go false e =
          ap (λ x. named n s q (name_in x)) (sym (name_back (get_or vs 0 0)) ∙ eqb-true (name_number (name_in (get_or vs 0 0))) end_mark e)

-- ---- an order that is one
module _ (n : ℕ) (s : List ℕ) (q : ℕ) (fine : Fine n s q) (d o p : List ℕ) (m : ℕ) (size : length d ≡ desk_size)
    (first : begins d o m ≡ true) (up : all (goes_up d o) (tab (m - 1) 1 (λ a. a)) ≡ true)
    (whole : all (has_place d o p m) (tab locks_most 0 (λ i. i)) ≡ true) where
  abbrev es : List Item
  es = flat ℕ Item n (tree_of n s q)

  abbrev f : ℕ → Option (Lock ℕ)
  f = placed d o

  place_slot : (t : Option (Lock ℕ) → Bool) → t none ≡ false → (a : ℕ) → t (f a) ≡ true → In (f a) (slots_of d)
  unfolding slots_of
  place_slot t free a h =
      let l = slot_some t true d (get_or o a 0) size (λ z. false≢true (sym free ∙ z)) h in
      in_tab locks_most 0 (slot_at d) (get_or o a 0) (omega arith) (omega arith)

  held_is : (e : Item) → held_in f m e ≡ entry_held d e
  unfolding entry_held slots_of
  held_is e = ap (λ b. eqb e.owner 0 || b) (alike (any t (tab m 0 f)) (any t (tab locks_most 0 (slot_at d))) there back)
    where
      t : Option (Lock ℕ) → Bool
      t = slot_holds e.owner e.key

      there : any t (tab m 0 f) ≡ true → any t (tab locks_most 0 (slot_at d)) ≡ true
      there h =
          let y = any_in t (tab m 0 f) h in
          let z = tab_in m 0 f y.0 y.1 in
          let v : t (f z.0) ≡ true = ap t z.3 ∙ y.2 in
          let l = slot_some t true d (get_or o z.0 0) size false≢true v in
          in_any t (tab locks_most 0 (slot_at d)) (f z.0) (in_tab locks_most 0 (slot_at d) (get_or o z.0 0) (omega arith) (omega arith)) v

      back : any t (tab locks_most 0 (slot_at d)) ≡ true → any t (tab m 0 f) ≡ true
      back h =
          let y = any_in t (tab locks_most 0 (slot_at d)) h in
          let z = tab_in locks_most 0 (slot_at d) y.0 y.1 in
          let u : z.0 < 0 + locks_most = z.2 in
          let w = place_some d o p m up whole t refl z.0 (omega arith) (ap t z.3 ∙ y.2) in
          let l : w.0 < m = w.1 in
          in_any t (tab m 0 f) (f w.0) (in_tab m 0 f w.0 (omega arith) (omega arith)) w.2

  -- yes is right
  module _ (j : ℕ) (r : past f m es 0 ≡ Code.Some j) (e : eqb (stretch f m end_mark j) m ≡ true) where
    passed : Passed f m es 0 j
    passed = past_passed f m es 0 j (omega arith) r

    place_named : (a : ℕ) → a < m → slot_named n s q (f a) ≡ true
    place_named a l =
        elim (dec_lt a j) [
          | yes c ↦ (
              let w = any_in (λ (x : Item). slot_on x.key (f a)) es (passed.names a (omega arith) c) in
              key_named n s q w.0 w.1 (f a) (on_is (f a) w.0.key w.2)
              )
          | no c ↦ (
              let z = eqb-true (stretch f m end_mark j) m e in
              end_named n s q d (get_or o a 0) ((stretch_is f m end_mark j passed.most).names a (omega arith) (omega arith))
              )
        ]

    walk_names : all (slot_named n s q) (slots_of d) ≡ true
    walk_names = order_all d o p m up whole (slot_named n s q) refl place_named

    walk_owners : owners_at n s d q ≡ true
    walk_owners = owners_is n s d q ∙ in_all (entry_held d) es (λ x i. sym (held_is x) ∙ passed.owners x i)

  -- no is right
  module _ (names : all (slot_named n s q) (slots_of d) ≡ true) (owners : owners_at n s d q ≡ true) where
    on_at : (a : ℕ) → a < m → (x : ℕ) → slot_on x (f a) ≡ eqb (name_of (f a)) x
    on_at a l x = on_name (f a) (each_there d o p m up whole first a l) x

    ready : Ready f m on_at (names_up d o p m up whole) es 0
    ready =
        record {
          below = λ a l. absurd (omega arith);
          there = λ a _ l.
              let t = each_there d o p m up whole first a l in
              named_key n s q (f a) t (all_in (slot_named n s q) (slots_of d) (f a) names (place_slot is_there refl a t));
          held = λ e i. held_is e ∙ all_in (entry_held d) es e (sym (owners_is n s d q) ∙ owners) i;
          order = (fine_sorted n s q fine).order;
          small = fine_small n s q fine;
        }

    walk_ends : ended f m (past f m es 0) ≡ true
    walk_ends =
        let r = walk_arrives f m on_at (names_up d o p m up whole) es 0 (omega arith) ready in
        let w = stretch_is f m end_mark r.at r.most in
        let b = w.most in
        let l = w.up in
        ap (ended f m) r.is
        ∙ eq-eqb (stretch f m end_mark r.at) m
        (elim (dec_lt (stretch f m end_mark r.at) m) [
          | yes c ↦ absurd (false≢true (sym (w.stops c) ∙ on_at (stretch f m end_mark r.at) c end_mark
              ∙ eq-eqb (name_of (f (stretch f m end_mark r.at))) end_mark (r.ends (stretch f m end_mark r.at) l c)))
          | no c ↦ omega arith
        ])

  locks_tell : locks_ok n s d q ≡ true → (all (slot_named n s q) (slots_of d) ≡ true) × (owners_at n s d q ≡ true)
  unfolding locks_ok
  locks_tell h =
      let a = both (pairs slot_together (slots_of d) && all (slot_named n s q) (slots_of d)) (owners_at n s d q) h in
      ((both (pairs slot_together (slots_of d)) (all (slot_named n s q) (slots_of d)) a.0).1, a.1)

  tell_locks : all (slot_named n s q) (slots_of d) ≡ true → owners_at n s d q ≡ true → locks_ok n s d q ≡ true
  unfolding locks_ok
  tell_locks a b =
      and_both (pairs slot_together (slots_of d) && all (slot_named n s q) (slots_of d)) (owners_at n s d q)
      (and_both (pairs slot_together (slots_of d)) (all (slot_named n s q) (slots_of d)) (order_pairs d o p m up whole) a) b

  walked_is : walked n s d o m q ≡ locks_ok n s d q
  unfolding walked
  walked_is =
      alike (ended f m (past f m es 0)) (locks_ok n s d q) (yes_right (past f m es 0) refl)
      (λ h. let w = locks_tell h in walk_ends w.0 w.1)
    where
      yes_right : (r : Code.Option ℕ) → past f m es 0 ≡ r → ended f m r ≡ true → locks_ok n s d q ≡ true
      yes_right (Code.Some j) e h = tell_locks (walk_names j e h) (walk_owners j e h)
      yes_right Code.None e h = absurd (false≢true h)

-- ---- as the code finds it
module _ (n : ℕ) (s d o : List ℕ) (m q : ℕ) where
  pub sorted_done : (p : List ℕ) (a : ℕ) (b c r : Bool) → Fine n s q → length d ≡ desk_size → leb m a ≡ all (goes_up d o) (tab (m - 1) 1 (λ x. x)) → m ≤ a
      → b ≡ begins d o m → c ≡ all (has_place d o p m) (tab locks_most 0 (λ x. x)) → not (b && c) ≡ false → r ≡ walked n s d o m q → r ≡ locks_ok n s d q
  sorted_done p a b c r fine size up l e g t h =
      let w = both b c (not-false (b && c) t) in
      h ∙ walked_is n s q fine d o p m size (sym e ∙ w.0) (sym up ∙ le-leb m a l) (sym g ∙ w.1)

  pub clash_done : (a : ℕ) (b : Bool) → length d ≡ desk_size → b ≡ clashes d o a → b ≡ true → false ≡ locks_ok n s d q
  unfolding locks_ok
  clash_done a b size e t = sym (ap (λ x. (x && all (slot_named n s q) (slots_of d)) && owners_at n s d q) (clash_apart d o a size (sym e ∙ t)))

-- where every slot is free, the order of no locks is one
module _ (d : List ℕ) (size : length d ≡ desk_size) (zero : zero_at (slot_size * locks_most) slots_place d ≡ true) where
  zero_placed : (o : List ℕ) (i : ℕ) → i < locks_most → has_place d o [] 0 i ≡ true
  unfolding has_place
  zero_placed o i h = rw (zero_free d size zero i h)

  pub free_done : (n : ℕ) (s o : List ℕ) (q : ℕ) (r : Bool) → Fine n s q → r ≡ walked n s d o 0 q → r ≡ locks_ok n s d q
  unfolding begins all tab
  free_done n s o q r fine h =
      h ∙ walked_is n s q fine d o [] 0 size refl refl (all_of_tab (has_place d o [] 0) locks_most 0 (λ i. i) (λ i _ u. zero_placed o i (omega arith)))
