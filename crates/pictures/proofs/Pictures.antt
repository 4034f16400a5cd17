-- Every drawable state is written as a whole picture that says it: its pages are those of the tree's shape with the entries of its keys, its
-- desk that of its tables. The keys are the entries' own and ascend, so that a key tells its entry. Assumes nothing.
use Prim.Native.Nat.{ℕ, zero, suc, ◌<◌, compare}
use mathlib.Core.Path.{◌≡◌, refl, sym, ap, subst, fun_ext, ◌∙◌}
use mathlib.Core.Logic.{◌⊎◌, inl, inr}
use mathlib.Core.Bool.{true, not, false≢true}
use mathlib.Core.List.{List, map, map-map, map-id}
use mathlib.Core.Option.{Option, none, some}
use native.Mathlib.Omega.{arith}
use borrow.Author.Tests.{eqb-true, eq-eqb, ltb-true}
use lib.Dec.{eqb, leb, ltb}
use Rattle.lists.specs.Lists.{In, all, pairs, first}
use Rattle.lists.proofs.Tests.{and_left, and_right}
use Rattle.lists.proofs.Elements.{all_in, first_in}
use Rattle.lists.proofs.Pairs.{pairs_in}
use Rattle.lists.proofs.Joins.{map_append, map_same}
use Rattle.lists.proofs.Firsts.{first_only}
use Rattle.rules.specs.Kinds.{Ask, read, insert, delete}
use Rattle.rules.specs.Queue.{St}
use Rattle.rules.specs.Desk.{runs}
use Rattle.rules.specs.Good.{below, ascending, Good}
use Rattle.rules.specs.Document.{end_mark}
use Rattle.rules.proofs.Orders.{numbers_ordered}
use Rattle.rules.proofs.KeyTests.{at_most_itself}
use Rattle.rules.proofs.Waits.{transaction_high, runs_known}
use Rattle.rules.proofs.Sound.{OwnerHolds}
use Rattle.rules.proofs.Unblocked.{good_sound}
use Rattle.trees.specs.Trees.{Tree, Index, WholeIndex, document_sizes, flat}
use Rattle.trees.specs.Growth.{with_tree, leaves, in_leaves}
use Rattle.trees.specs.Shapes.{shape}
use Rattle.trees.proofs.Thinning.{map_thins, flat_leaves, leaves_whole}
use Rattle.trees.proofs.ShapeSettling.{leaves_twice}
use Rattle.pages.specs.PageLayout.{EntryFits}
use Rattle.index.specs.Pictures.{Item, key_of, index_of, entries_in, WholePages}
use Rattle.states.specs.States.{book, state_of}
use Rattle.states.specs.Fitting.{AskFits, Fitting}
use Rattle.states.proofs.DeskBytes.{desk_says}
use Rattle.states.proofs.Itself.{desk_itself, desk_state}
use Rattle.states.proofs.Good.{RecordFits, good_fits}
use Rattle.states.specs.Whole.{Whole}
use Rattle.pictures.specs.Drawing.{or_absent, entry_of, index_with, pages_for, desk_for, Drawable}
use Rattle.pictures.proofs.DrawnPages.{drawn_pages}

-- ---- the shape with its entries
leaves_itself : (K A : Type 0) (n : ℕ) (t : Tree K A n) → leaves K A A (λ xs. xs) n t ≡ t
unfolding leaves
leaves_itself K A zero t = refl
leaves_itself K A (suc n) t =
    ap (λ cs. record { number = t.number; holds = cs })
    (ap (λ h. map (with_tree h) t.holds) (fun_ext (leaves_itself K A n)) ∙ map-id t.holds)

module _ (es : List Item) where
  entry_key : (k : ℕ) → key_of (entry_of es k) ≡ k
  unfolding entry_of
  entry_key k = go (first (λ e. eqb e.key k) es) refl
    where
      go : (o : Option Item) → first (λ e. eqb e.key k) es ≡ o → (or_absent k o).key ≡ k
      go none e = refl
      go (some y) e = eqb-true y.key k (first_in (λ e. eqb e.key k) es y e).1

  -- no two entries with one key
  one_entry : ascending book es ≡ true → (x y : Item) → In x es → In y es → x.key ≡ y.key → x ≡ y
  unfolding ascending
  one_entry h x y i j e =
      go (pairs_in (below book) es x y (and_left (pairs (below book) es) (all (λ e. ltb e.key end_mark) es) h) i j)
    where
      never_below : (a b : ℕ) → a ≡ b → not (leb b a) ≡ true → ⊥
      never_below a b d m = false≢true (rw (d, at_most_itself book numbers_ordered b) at m)

      go : (x ≡ y) ⊎ ((below book x y ≡ true) ⊎ (below book y x ≡ true)) → x ≡ y
      go (inl d) = d
      go (inr (inl m)) = absurd (never_below x.key y.key e m)
      go (inr (inr m)) = absurd (never_below y.key x.key (sym e) m)

  own_entry : ascending book es ≡ true → (e : Item) → In e es → entry_of es e.key ≡ e
  unfolding entry_of
  own_entry h e i =
      ap (or_absent e.key)
      (first_only (λ y. eqb y.key e.key) es e i (eq-eqb e.key e.key refl) (λ y j m. one_entry h y e j i (eqb-true y.key e.key m)))

  module _ (x : Index ℕ ℕ) where
    pub with_entries_whole : WholeIndex compare (λ k. k) 0 (some end_mark) document_sizes x
        → WholeIndex compare key_of 0 (some end_mark) document_sizes (index_with es x)
    unfolding index_with
    with_entries_whole w =
        leaves_whole ℕ (map (entry_of es)) compare (λ k. k) key_of (map_thins (λ k. k) key_of (entry_of es) entry_key) 0 (some end_mark) document_sizes x w

    pub with_entries_shape : shape key_of (index_with es x) ≡ x
    unfolding shape index_with in_leaves
    with_entries_shape =
        ap (λ t. record { level = x.level; used = x.used; tree = t })
        (leaves_twice ℕ (map key_of) (map (entry_of es)) x.level x.tree
        ∙ (ap (λ g. leaves ℕ ℕ ℕ g x.level x.tree)
        (fun_ext (λ ks. map-map key_of (entry_of es) ks ∙ (ap (λ g. map g ks) (fun_ext entry_key) ∙ map-id ks)))
        ∙ leaves_itself ℕ ℕ x.level x.tree))

    pub with_entries_flat : ascending book es ≡ true → flat ℕ ℕ x.level x.tree ≡ map key_of es
        → flat ℕ Item (index_with es x).level (index_with es x).tree ≡ es
    unfolding index_with in_leaves
    with_entries_flat h keys =
        flat_leaves ℕ (map (entry_of es)) refl (map_append (entry_of es)) x.level x.tree
        ∙ (ap (map (entry_of es)) keys
        ∙ (map-map (entry_of es) key_of es ∙ (map_same (λ e. entry_of es e.key) (λ e. e) es (own_entry h) ∙ map-id es)))

-- ---- a drawable state
record_fits : (a : Ask ℕ ℕ) → AskFits a → RecordFits a
record_fits (read lo hi) f = tt
record_fits (insert k r) f = f.1
record_fits (delete k) f = tt

module _ (s : St book) (d : Drawable s) where
  owner_small : (e : Item) → OwnerHolds book (runs book s) s.slots e → e.owner < 65536
  owner_small e (inl z) = omega arith
  owner_small e (inr w) =
      let k = runs_known book s d.good e.owner w.0 in
      let m = transaction_high book e.owner k in omega arith

  entry_small : (e : Item) → In e s.entries → EntryFits e
  unfolding ascending
  entry_small e i =
      let legal = and_right (pairs (below book) s.entries) (all (λ e. ltb e.key end_mark) s.entries) d.good.keys in
      let k = ltb-true e.key end_mark (all_in (λ e. ltb e.key end_mark) s.entries e legal i) in
      record {
        key = omega arith;
        owner = owner_small e ((good_sound book numbers_ordered s d.good).owners e i);
        now = (d.records e i).now;
        before = (d.records e i).before;
      }

  tables_fit : Fitting s.slots s.queue s.marks
  tables_fit = good_fits book.paging s d.good (λ q i. record_fits q.asks (d.asks q i))

  abbrev x : Index ℕ Item
  x = index_with s.entries s.pages

  items : flat ℕ Item x.level x.tree ≡ s.entries
  items = with_entries_flat s.entries s.pages d.good.keys d.keys

  drawn : WholePages (pages_for s) × (index_of (pages_for s) ≡ x)
  unfolding pages_for
  drawn = drawn_pages x (with_entries_whole s.entries s.pages d.index) (λ e i. entry_small e (subst (In e) items i))

  said : state_of (pages_for s) (desk_for s) ≡ s
  unfolding desk_for entries_in
  said =
      desk_state s.slots s.queue s.marks tables_fit (desk_for s) refl (pages_for s)
      ∙ (ap (λ es. state es (shape key_of (index_of (pages_for s)))) (ap (λ y. flat ℕ Item y.level y.tree) drawn.1 ∙ items)
      ∙ ap (state s.entries) (ap (shape key_of) drawn.1 ∙ with_entries_shape s.entries s.pages))
    where
      state : List Item → Index ℕ ℕ → St book
      state es y = record { entries = es; pages = y; slots = s.slots; queue = s.queue; marks = s.marks }

  whole : Whole (pages_for s) (desk_for s)
  unfolding desk_for
  whole =
      record {
        pages = drawn.0;
        size = (desk_says s.slots s.queue s.marks tables_fit).len;
        desk = desk_itself s.slots s.queue s.marks tables_fit (desk_for s) refl;
        values = subst (Good book) (sym said) d.good;
      }

pub pictured : (s : St book) → Drawable s → Whole (pages_for s) (desk_for s) × (state_of (pages_for s) (desk_for s) ≡ s)
pictured s d = (whole s d, said s d)
