-- What one way through the walk along the order comes to, in the very facts that the code has there: a name, an entry, the entries of a
-- leaf, the children of a page. Each by one step of the list that is walked. Assumes nothing.
use mathlib.Core.Path.{◌≡◌, refl, sym, ap, ap₂, ◌∙◌}
use Rattle.std.specs.Prelude as Code
use Rattle.std.specs.Bool.{then_some}
use mathlib.Core.Bool.{Bool, true, false, cond, not, ◌&&◌, ◌||◌}
use mathlib.Core.List.{List}
use Prim.Native.Nat.{ℕ, suc, max, ◌+◌, ◌-◌, ◌≤◌, ◌<◌}
use native.Mathlib.Nat.{sub-zero, add-zero}
use native.Mathlib.Omega.{arith}
use borrow.Author.Tests.{eq-eqb, ne_eqb, le-leb, lt-leb, not-true, not-false}
use lib.Dec.{eqb, ltb, leb}
use lib.ListN.{get_or}
use Rattle.limits.specs.Limits.{locks_most}
use Rattle.lists.specs.Lists.{tab, all, any, place, join}
use Rattle.lists.proofs.Tables.{tab_next, tab_done, all_next, all_done}
use Rattle.lists.proofs.Joins.{join_map}
use Rattle.rules.specs.Entries.{is_there}
use Rattle.rules.specs.Locks.{conflict}
use Rattle.rules.specs.Document.{end_mark}
use Rattle.trees.specs.Trees.{flat}
use Rattle.entries.specs.EntryMeaning.{book_entry}
use Rattle.entries.specs.declared.Entry as E
use Rattle.locks.specs.SlotLayout.{slot_at, book_mode, book_slot}
use Rattle.locks.proofs.LockValues.{name_back}
use Rattle.locks.specs.declared.Lock as L
use Rattle.rows.specs.PageHead.{count_of}
use Rattle.pages.specs.PageLayout.{entry_at, entries_of, child_at, children_of}
use Rattle.pages.specs.declared.Child.{Child}
use Rattle.index.specs.Pictures.{Item, page_at, tree_of}
use Rattle.index.proofs.Frame.{kid}
use Rattle.judging_locks.specs.LockChecks.{slot_together, slot_holds}
use Rattle.judging_order.specs.LockOrders.{slot_on, placed, comes_first, goes_up, clashes, begins, has_place, after, stretch, past_entry, past, ended, walked}
use Rattle.judging_locks.proofs.LockTurns.{book_there}
use Rattle.judging_locks.proofs.Fines.{one_more}
use Rattle.judging_order.proofs.LockWalks.{stretch_is, past_append, entry_most, past_passed}

-- ---- two slots
module _ (a b : Code.Option L.Lock) where
  pub free_before : a ≡ Code.None → false ≡ comes_first (book_slot a) (book_slot b)
  unfolding comes_first
  free_before e = sym (ap (λ x. comes_first (book_slot x) (book_slot b)) e)

  pub free_after : (k : L.Lock) → a ≡ Code.Some k → b ≡ Code.None → false ≡ comes_first (book_slot a) (book_slot b)
  unfolding comes_first
  free_after k e f = sym (ap₂ (λ x y. comes_first (book_slot x) (book_slot y)) e f)

  pub held_first : (k l : L.Lock) (n s c : Bool) → a ≡ Code.Some k → b ≡ Code.Some l → n ≡ ltb k.name.0 l.name.0 → s ≡ eqb k.name.0 l.name.0
      → c ≡ conflict (book_mode k.mode) (book_mode l.mode) → (n || ((s && ltb k.holder l.holder) && not c)) ≡ comes_first (book_slot a) (book_slot b)
  unfolding comes_first
  held_first k l n s c e f p q g =
      ap₂ (λ x y. x || ((y && ltb k.holder l.holder) && not c)) p q
      ∙ ap (λ x. ltb k.name.0 l.name.0 || ((eqb k.name.0 l.name.0 && ltb k.holder l.holder) && not x)) g
      ∙ ap₂ (λ x y. ltb x y || ((eqb x y && ltb k.holder l.holder) && not (conflict (book_mode k.mode) (book_mode l.mode))))
      (sym (name_back k.name.0)) (sym (name_back l.name.0))
      ∙ sym (ap₂ (λ x y. comes_first (book_slot x) (book_slot y)) e f)

not_not : (b : Bool) → not (not b) ≡ b
not_not true = refl
not_not false = refl

pub place_noted : (d o p : List ℕ) (m i a j : ℕ) (s : Code.Option L.Lock) (b : Bool) → book_slot s ≡ slot_at d i → Code.is_some s ≡ not b → a ≡ get_or p i 0
    → j ≡ get_or o a 0
    → (b || (ltb a m && eqb j i)) ≡ has_place d o p m i
unfolding has_place
place_noted d o p m i a j s b e f g h =
    ap₂ (λ x y. x || (ltb a m && eqb y i)) (sym (not_not b) ∙ ap not (sym f ∙ sym (book_there s) ∙ ap is_there e)) h
    ∙ ap (λ x. not (is_there (slot_at d i)) || (ltb x m && eqb (get_or o x 0) i)) g

-- ---- going up
pub now_last : (d o : List ℕ) (a : ℕ) (t : Code.Option L.Lock) → book_slot t ≡ placed d o a → book_slot t ≡ placed d o (a + 1 - 1)
now_last d o a t e = let z : a ≡ a + 1 - 1 = omega arith in e ∙ ap (placed d o) z

module _ (d o : List ℕ) (m a : ℕ) (inv : all (goes_up d o) (tab (m - 1) 1 (λ x. x)) ≡ all (goes_up d o) (tab (m - a) a (λ x. x))) where
  module _ (s t : Code.Option L.Lock) (b : Bool) (l : a < m) (e : book_slot s ≡ placed d o (a - 1)) (f : book_slot t ≡ placed d o a)
      (g : b ≡ comes_first (book_slot s) (book_slot t)) where
    climb_step : all (goes_up d o) (tab (m - 1) 1 (λ x. x)) ≡ (b && all (goes_up d o) (tab (m - (a + 1)) (a + 1) (λ x. x)))
    unfolding goes_up
    climb_step =
        inv
        ∙ all_next (goes_up d o) m a (λ x. x) l
        ∙ ap (λ x. x && all (goes_up d o) (tab (m - (a + 1)) (a + 1) (λ x. x))) (sym (g ∙ ap₂ comes_first e f))

    pub climb_stop : not b ≡ true → leb m a ≡ all (goes_up d o) (tab (m - 1) 1 (λ x. x))
    climb_stop n =
        lt-leb m a l ∙ sym (climb_step ∙ ap (λ x. x && all (goes_up d o) (tab (m - (a + 1)) (a + 1) (λ x. x))) (not-true b n))

    pub climb_next : not b ≡ false → all (goes_up d o) (tab (m - 1) 1 (λ x. x)) ≡ all (goes_up d o) (tab (m - (a + 1)) (a + 1) (λ x. x))
    climb_next n = climb_step ∙ ap (λ x. x && all (goes_up d o) (tab (m - (a + 1)) (a + 1) (λ x. x))) (not-false b n)

  pub climb_end : (r : ℕ) → m ≤ a → r ≡ max m 1 → leb m r ≡ all (goes_up d o) (tab (m - 1) 1 (λ x. x))
  climb_end r l e = le-leb m r (omega arith) ∙ sym (inv ∙ all_done (goes_up d o) m a (λ x. x) l)

-- ---- neighbours, and the first
pub clash_at : (d o : List ℕ) (a i j : ℕ) (b : Bool) → i ≡ get_or o (a - 1) 0 → j ≡ get_or o a 0 → b ≡ slot_together (slot_at d i) (slot_at d j)
    → (not (eqb i j) && not b) ≡ clashes d o a
unfolding clashes
clash_at d o a i j b e f g =
    ap (λ x. not (eqb i j) && not x) g ∙ ap₂ (λ x y. not (eqb x y) && not (slot_together (slot_at d x) (slot_at d y))) e f

pub first_there : (d o : List ℕ) (m : ℕ) (s : Code.Option L.Lock) (b : Bool) → book_slot s ≡ placed d o 0 → b ≡ Code.is_some s
    → (eqb m 0 || b) ≡ begins d o m
unfolding begins
first_there d o m s b e f = ap (λ x. eqb m 0 || x) (f ∙ sym (book_there s) ∙ ap is_there e)

-- ---- a name
module _ (d o : List ℕ) (m x k j : ℕ) (inv : stretch (placed d o) m x k ≡ stretch (placed d o) m x j) where
  abbrev left : ℕ
  left = place (λ y. not (slot_on x y)) (tab (m - (j + 1)) (j + 1) (placed d o))

  name_turn : j < m → stretch (placed d o) m x k ≡ j + cond (not (slot_on x (placed d o j))) 0 (suc left)
  unfolding stretch place
  name_turn l = inv ∙ ap (λ ys. j + place (λ y. not (slot_on x y)) ys) (tab_next m j (placed d o) l)

  pub name_other : (b : Bool) → j < m → b ≡ slot_on x (placed d o j) → not b ≡ true → j ≡ stretch (placed d o) m x k
  name_other b l e t =
      sym (name_turn l ∙ ap (λ c. j + cond c 0 (suc left)) (ap not (sym e) ∙ t) ∙ add-zero j)

  pub name_more : (b : Bool) → j < m → b ≡ slot_on x (placed d o j) → not b ≡ false → stretch (placed d o) m x k ≡ stretch (placed d o) m x (j + 1)
  unfolding stretch
  name_more b l e t =
      let z : j + suc left ≡ j + 1 + left = omega arith in name_turn l ∙ ap (λ c. j + cond c 0 (suc left)) (ap not (sym e) ∙ t) ∙ z

  pub name_end : m ≡ j → m ≡ stretch (placed d o) m x k
  unfolding stretch place
  name_end l = l ∙ sym (inv ∙ ap (λ ys. j + place (λ y. not (slot_on x y)) ys) (tab_done m j (placed d o) (omega arith)) ∙ add-zero j)

pub stretch_few : (d o : List ℕ) (m x k j : ℕ) → k ≤ m → m ≤ locks_most → j ≡ stretch (placed d o) m x k → j ≤ locks_most
stretch_few d o m x k j h l e = let b = (stretch_is (placed d o) m x k h).most in omega arith

-- ---- an entry
some_or_none : (b : Bool) (j : ℕ) → then_some b j ≡ cond b (Code.Some j) Code.None
some_or_none true j = refl
some_or_none false j = refl

module _ (s d o : List ℕ) (m q i k j : ℕ) (e : E.Entry) (p : List ℕ) (l : p ≡ page_at s q) (f : book_entry e ≡ entry_at p i)
    (g : j ≡ stretch (placed d o) m e.key.0 k) where
  entry_is : book_entry e ≡ entry_at (page_at s q) i
  entry_is = f ∙ ap (λ x. entry_at x i) l

  test_is : (b : Bool) → b ≡ (eqb e.owner 0 || any (slot_holds e.owner e.key.0) (tab (j - k) k (placed d o)))
      → then_some b j ≡ past_entry (placed d o) m (entry_at (page_at s q) i) k
  unfolding past_entry
  test_is b h =
      some_or_none b j
      ∙ ap (λ c. cond c (Code.Some j) Code.None) h
      ∙ ap (λ w. cond (eqb e.owner 0 || any (slot_holds e.owner e.key.0) (tab (w - k) k (placed d o))) (Code.Some w) Code.None) g
      ∙ ap (λ x. past_entry (placed d o) m x k) entry_is

  module _ (r : Code.Option ℕ) (b : Bool) (h : r ≡ then_some b j) where
    pub entry_settled : e.owner ≡ 0 → b ≡ eqb e.owner 0 → r ≡ past_entry (placed d o) m (entry_at (page_at s q) i) k
    entry_settled z t =
        h ∙ test_is b (t ∙ eq-eqb e.owner 0 z ∙ sym (ap (λ x. x || any (slot_holds e.owner e.key.0) (tab (j - k) k (placed d o))) (eq-eqb e.owner 0 z)))

    pub entry_owned : (e.owner ≡ 0 → ⊥) → (x : Bool) → x ≡ any (slot_holds e.owner e.key.0) (tab (j - k) k (placed d o)) → b ≡ x
        → r ≡ past_entry (placed d o) m (entry_at (page_at s q) i) k
    entry_owned z x f t =
        h ∙ test_is b (t ∙ f ∙ sym (ap (λ y. y || any (slot_holds e.owner e.key.0) (tab (j - k) k (placed d o))) (ne_eqb e.owner 0 z)))

pub entry_to_most : (d o : List ℕ) (m k j : ℕ) (e : Item) (r : Code.Option ℕ) → k ≤ m → r ≡ past_entry (placed d o) m e k → r ≡ Code.Some j → j ≤ m
entry_to_most d o m k j e r h f g = entry_most (placed d o) m e k j h (sym f ∙ g)

pub past_to_most : (d o : List ℕ) (m k j : ℕ) (es : List Item) (r : Code.Option ℕ) → k ≤ m → r ≡ past (placed d o) m es k → r ≡ Code.Some j → j ≤ m
past_to_most d o m k j es r h f g = (past_passed (placed d o) m es k j h (sym f ∙ g)).most

-- ---- the entries of a leaf
module _ (s d o : List ℕ) (m q k n : ℕ) where
  pub leaf_start : n ≡ count_of (page_at s q)
      → past (placed d o) m (entries_of (page_at s q)) k ≡ past (placed d o) m (tab (n - 0) 0 (entry_at (page_at s q))) k
  unfolding entries_of
  leaf_start e = ap (λ x. past (placed d o) m (tab x 0 (entry_at (page_at s q))) k) (sym e ∙ sym (sub-zero n))

  module _ (i at : ℕ) (inv : past (placed d o) m (entries_of (page_at s q)) k ≡ past (placed d o) m (tab (n - i) i (entry_at (page_at s q))) at) where
    module _ (r : Code.Option ℕ) (l : i < n) (e : r ≡ past_entry (placed d o) m (entry_at (page_at s q) i) at) where
      leaf_step : past (placed d o) m (entries_of (page_at s q)) k ≡ after r (past (placed d o) m (tab (n - (i + 1)) (i + 1) (entry_at (page_at s q))))
      unfolding past
      leaf_step =
          inv
          ∙ ap (λ es. past (placed d o) m es at) (tab_next n i (entry_at (page_at s q)) l)
          ∙ ap (λ x. after x (past (placed d o) m (tab (n - (i + 1)) (i + 1) (entry_at (page_at s q))))) (sym e)

      pub leaf_stuck : r ≡ Code.None → Code.None ≡ past (placed d o) m (entries_of (page_at s q)) k
      leaf_stuck t = sym (leaf_step ∙ ap (λ x. after x (past (placed d o) m (tab (n - (i + 1)) (i + 1) (entry_at (page_at s q))))) t)

      pub leaf_turn : (j : ℕ) → r ≡ Code.Some j
          → past (placed d o) m (entries_of (page_at s q)) k ≡ past (placed d o) m (tab (n - (i + 1)) (i + 1) (entry_at (page_at s q))) j
      leaf_turn j t = leaf_step ∙ ap (λ x. after x (past (placed d o) m (tab (n - (i + 1)) (i + 1) (entry_at (page_at s q))))) t

    pub leaf_end : n ≤ i → Code.Some at ≡ past (placed d o) m (entries_of (page_at s q)) k
    unfolding past
    leaf_end l = sym (inv ∙ ap (λ es. past (placed d o) m es at) (tab_done n i (entry_at (page_at s q)) l))

-- ---- the children of a page
-- the entries of the w children of page q from i on, each a tree of level n
abbrev pub entries_from : (n : ℕ) (s : List ℕ) (q w i : ℕ) → List Item
entries_from n s q w i = join (λ (c : Child). flat ℕ Item n (tree_of n s c.page)) (tab (w - i) i (child_at (page_at s q)))

flat_step : (n : ℕ) (s : List ℕ) (q : ℕ)
    → flat ℕ Item (suc n) (tree_of (suc n) s q) ≡ join (λ (c : Child). flat ℕ Item n (tree_of n s c.page)) (children_of (page_at s q))
unfolding flat tree_of
flat_step n s q = join_map (λ c. flat ℕ Item n c.tree) (kid n s) (children_of (page_at s q))

module _ (s d o : List ℕ) (m q k n : ℕ) where
  abbrev whole : Code.Option ℕ
  whole = past (placed d o) m (flat ℕ Item n (tree_of n s q)) k

  pub tree_leaf : (r : Code.Option ℕ) → n ≡ 0 → r ≡ past (placed d o) m (entries_of (page_at s q)) k → r ≡ whole
  unfolding flat tree_of
  tree_leaf r z e = e ∙ ap (λ x. past (placed d o) m (flat ℕ Item x (tree_of x s q)) k) (sym z)

  pub tree_start : (w : ℕ) → (n ≡ 0 → ⊥) → w ≡ count_of (page_at s q) → whole ≡ past (placed d o) m (entries_from (n - 1) s q w 0) k
  unfolding children_of
  tree_start w z e =
      ap (λ x. past (placed d o) m (flat ℕ Item x (tree_of x s q)) k) (one_more n z)
      ∙ ap (λ es. past (placed d o) m es k) (flat_step (n - 1) s q)
      ∙ ap (λ x. past (placed d o) m (join (λ (c : Child). flat ℕ Item (n - 1) (tree_of (n - 1) s c.page)) (tab x 0 (child_at (page_at s q)))) k)
      (sym e ∙ sym (sub-zero w))

  module _ (w i at : ℕ) (inv : whole ≡ past (placed d o) m (entries_from (n - 1) s q w i) at) where
    module _ (c : ℕ) (r : Code.Option ℕ) (l : i < w) (f : c ≡ (child_at (page_at s q) i).page)
        (e : r ≡ past (placed d o) m (flat ℕ Item (n - 1) (tree_of (n - 1) s c)) at) where
      tree_step : whole ≡ after r (past (placed d o) m (entries_from (n - 1) s q w (i + 1)))
      unfolding join
      tree_step =
          inv
          ∙ ap (λ cs. past (placed d o) m (join (λ (c : Child). flat ℕ Item (n - 1) (tree_of (n - 1) s c.page)) cs) at)
          (tab_next w i (child_at (page_at s q)) l)
          ∙ past_append (placed d o) m (flat ℕ Item (n - 1) (tree_of (n - 1) s (child_at (page_at s q) i).page)) (entries_from (n - 1) s q w (i + 1)) at
          ∙ ap (λ x. after x (past (placed d o) m (entries_from (n - 1) s q w (i + 1))))
          (ap (λ y. past (placed d o) m (flat ℕ Item (n - 1) (tree_of (n - 1) s y)) at) (sym f) ∙ sym e)

      pub tree_stuck : r ≡ Code.None → Code.None ≡ whole
      tree_stuck t = sym (tree_step ∙ ap (λ x. after x (past (placed d o) m (entries_from (n - 1) s q w (i + 1)))) t)

      pub tree_turn : (j : ℕ) → r ≡ Code.Some j → whole ≡ past (placed d o) m (entries_from (n - 1) s q w (i + 1)) j
      tree_turn j t = tree_step ∙ ap (λ x. after x (past (placed d o) m (entries_from (n - 1) s q w (i + 1)))) t

    pub tree_end : w ≤ i → Code.Some at ≡ whole
    unfolding past join
    tree_end l =
        sym (inv
        ∙ ap (λ cs. past (placed d o) m (join (λ (c : Child). flat ℕ Item (n - 1) (tree_of (n - 1) s c.page)) cs) at)
        (tab_done w i (child_at (page_at s q)) l))

-- ---- the whole tree, and then the end
module _ (n : ℕ) (s d o : List ℕ) (m q : ℕ) (r : Code.Option ℕ) (e : r ≡ past (placed d o) m (flat ℕ Item n (tree_of n s q)) 0) where
  pub all_stuck : r ≡ Code.None → false ≡ walked n s d o m q
  unfolding walked
  all_stuck t = sym (ap (ended (placed d o) m) (sym e ∙ t))

  pub all_walked : (j x w : ℕ) → r ≡ Code.Some j → x ≡ end_mark → w ≡ stretch (placed d o) m x j → eqb w m ≡ walked n s d o m q
  unfolding walked
  all_walked j x w t z f =
      ap (λ v. eqb v m) (f ∙ ap (λ v. stretch (placed d o) m v j) z) ∙ sym (ap (ended (placed d o) m) (sym e ∙ t))
