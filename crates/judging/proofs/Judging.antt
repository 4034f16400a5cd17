-- The tests of the whole picture come to Whole, both ways: the pages and the desk by their own laws, the locks by what they say of the
-- entries in the tree and of the slots in use. Assumes nothing.
use mathlib.Core.Path.{◌≡◌, refl, sym, ap, ap₂, subst, ◌∙◌}
use mathlib.Core.Logic.{⊎_elim}
use mathlib.Core.Bool.{Bool, true, false, ◌&&◌, ◌||◌}
use mathlib.Core.List.{List, [], ◌∷◌}
use mathlib.Core.Option.{Option, none, some}
use Prim.Native.Nat.{ℕ, ◌-◌, ◌<◌, compare}
use native.Mathlib.Omega.{arith}
use borrow.Author.Tests.{eqb-true, lt-ltb}
use lib.Dec.{eqb, ltb}
use lib.ListN.{length, get_or}
use Rattle.limits.specs.Limits.{pages_size, desk_size}
use Rattle.lists.specs.Lists.{all, any, pairs, In}
use Rattle.lists.proofs.Tests.{both, and_both, either, or_left, or_right}
use Rattle.lists.proofs.Elements.{all_in, in_all, any_in}
use Rattle.numbers.specs.Numbers.{Bytes}
use Rattle.rules.specs.Kinds.{Lock, Name, on, end, idle}
use Rattle.rules.specs.Locks.{in_use, same_name, is_of}
use Rattle.rules.specs.Good.{is_x, ascending, is_name, lock_stands, together, holds_x, owner_holds, queue_stands, Good}
use Rattle.rules.specs.Desk as D
use Rattle.rules.specs.Document.{end_mark}
use Rattle.rules.proofs.Orders.{numbers_ordered}
use Rattle.trees.specs.Trees.{flat, under, inside}
use Rattle.trees.proofs.Sorted.{Sorted}
use Rattle.trees.proofs.ItemOrder.{flat_sorted}
use Rattle.rows.specs.PageHead.{root_of, height_of}
use Rattle.index.specs.Pictures.{Item, key_of, page_at, tree_of, index_of, entries_in}
use Rattle.locks.specs.SlotLayout.{name_in, slots_of}
use Rattle.queue.specs.QueueLayout.{queue_of, marks_of}
use Rattle.locks.proofs.SlotBytes.{length_slots}
use Rattle.queue.proofs.MarkBytes.{length_marks}
use Rattle.locks.proofs.SlotBack.{name_there}
use Rattle.judging_pages.specs.Walks.{pages_ok}
use Rattle.judging_pages.proofs.EntriesJudged.{Rests}
use Rattle.judging_pages.proofs.LeavesJudged.{is_under}
use Rattle.judging_pages.proofs.PagesJudged.{PagesFacts, pages_sound, pages_complete}
use Rattle.states.specs.States.{book, state_of, desk_with}
use Rattle.states.proofs.Itself.{itself_fits}
use Rattle.states.specs.Whole.{Whole, Judged}
use Rattle.judging_locks.specs.LockChecks.{slot_together, slot_holds, entry_held, has_key, owners_at, named, slot_named, locks_ok}
use Rattle.judging.specs.Verdict.{whole_ok}
use Rattle.judging_locks.proofs.Flats.{find_is, owners_is}
use Rattle.judging_desk.specs.DeskChecks.{desk_ok}
use Rattle.judging_desk.proofs.SlotsJudged.{in_use_lem, use_in}
use Rattle.judging_desk.proofs.DeskJudged.{DeskGood, desk_sound, desk_complete}

-- ---- over the slots in use
all_use : (l : Lock ℕ) (ls : List (Option (Lock ℕ))) → all (together book l) (in_use ls) ≡ all (slot_together (some l)) ls
unfolding all in_use
all_use l [] = refl
all_use l (none ∷ ls) = all_use l ls
all_use l (some x ∷ ls) = ap (λ b. together book l x && b) (all_use l ls)

all_free : (ls : List (Option (Lock ℕ))) → all (slot_together none) ls ≡ true
unfolding all
all_free [] = refl
all_free (x ∷ ls) = all_free ls

pairs_use : (ls : List (Option (Lock ℕ))) → pairs (together book) (in_use ls) ≡ pairs slot_together ls
unfolding pairs in_use
pairs_use [] = refl
pairs_use (none ∷ ls) = pairs_use ls ∙ sym (ap (λ b. b && pairs slot_together ls) (all_free ls))
pairs_use (some l ∷ ls) = ap₂ (λ x y. x && y) (all_use l ls) (pairs_use ls)

any_use : (t k : ℕ) → name_in k ≡ on k → (ls : List (Option (Lock ℕ))) → any (λ l. is_of book t (on k) l && is_x l.mode) (in_use ls) ≡ any (slot_holds t k) ls
unfolding any in_use
any_use t k e [] = refl
any_use t k e (none ∷ ls) = any_use t k e ls
any_use t k e (some l ∷ ls) = ap₂ (λ x y. x || y) (ap (λ n. is_of book t n l && is_x l.mode) (sym e)) (any_use t k e ls)

-- ---- the picture
module _ (p d : List ℕ) where
  abbrev n : ℕ
  n = height_of (page_at p 0) - 1

  abbrev root : ℕ
  root = root_of (page_at p 0)

  entries_are : entries_in p ≡ flat ℕ Item n (tree_of n p root)
  unfolding entries_in index_of
  entries_are = refl

  name_is : (x : Name ℕ) → is_name book (entries_in p) x ≡ named n p root x
  name_is end = refl
  name_is (on k) = ap (any (has_key k)) entries_are ∙ sym (find_is n p k root)

  module _ (f : PagesFacts p) where
    sorted : Sorted compare key_of 0 (some end_mark) (entries_in p)
    unfolding entries_in index_of
    sorted = flat_sorted numbers_ordered key_of 0 n 0 (some end_mark) (tree_of n p root) f.whole.index.keys

    key_below : (e : Item) → In e (entries_in p) → e.key < end_mark
    key_below e m = is_under e.key end_mark (all_in (λ x. inside compare (key_of x) (some end_mark)) (entries_in p) e sorted.high m)

    keys_good : ascending book (entries_in p) ≡ true
    unfolding ascending
    keys_good =
        and_both (pairs (λ (a b : Item). under compare a.key b.key) (entries_in p)) (all (λ (e : Item). ltb e.key end_mark) (entries_in p)) sorted.order
        (in_all (λ (e : Item). ltb e.key end_mark) (entries_in p) (λ e m. lt-ltb e.key end_mark (key_below e m)))

    held_is : (e : Item) → In e (entries_in p) → entry_held d e ≡ (eqb e.owner 0 || holds_x book (slots_of d) e.owner (on e.key))
    unfolding entry_held
    held_is e m =
        ap (λ b. eqb e.owner 0 || b) (sym (any_use e.owner e.key (name_there e.key (λ q. let l = key_below e m in omega arith)) (slots_of d)))

    -- the owner holds X, so it runs
    module _ (h : (l : Lock ℕ) → In l (in_use (slots_of d)) → D.is_running (get_or (marks_of d) l.holder idle) ≡ true) where
      x_runs : (e : Item) → holds_x book (slots_of d) e.owner (on e.key) ≡ true → D.is_running (get_or (marks_of d) e.owner idle) ≡ true
      x_runs e x =
          let y = any_in (λ l. is_of book e.owner (on e.key) l && is_x l.mode) (in_use (slots_of d)) x in
          let z = both (is_of book e.owner (on e.key) y.0) (is_x y.0.mode) y.2 in
          let w = both (eqb y.0.holder e.owner) (same_name book y.0.name (on e.key)) z.0 in
          subst (λ t. D.is_running (get_or (marks_of d) t idle) ≡ true) (eqb-true y.0.holder e.owner w.0) (h y.0 y.1)

      owner_good : (e : Item) → In e (entries_in p) → entry_held d e ≡ true → owner_holds book (state_of p d) e ≡ true
      unfolding owner_holds state_of
      owner_good e m x =
          ⊎_elim
          (λ a. or_left (eqb e.owner 0) (D.is_running (get_or (marks_of d) e.owner idle) && holds_x book (slots_of d) e.owner (on e.key)) a)
          (λ b. or_right (eqb e.owner 0) (D.is_running (get_or (marks_of d) e.owner idle) && holds_x book (slots_of d) e.owner (on e.key))
          (and_both (D.is_running (get_or (marks_of d) e.owner idle)) (holds_x book (slots_of d) e.owner (on e.key)) (x_runs e b) b))
          (either (eqb e.owner 0) (holds_x book (slots_of d) e.owner (on e.key)) (sym (held_is e m) ∙ x))

    good_owner : (e : Item) → In e (entries_in p) → owner_holds book (state_of p d) e ≡ true → entry_held d e ≡ true
    unfolding owner_holds state_of
    good_owner e m x =
        held_is e m
        ∙ ⊎_elim
        (λ a. or_left (eqb e.owner 0) (holds_x book (slots_of d) e.owner (on e.key)) a)
        (λ b. or_right (eqb e.owner 0) (holds_x book (slots_of d) e.owner (on e.key)) (both (D.is_running (get_or (marks_of d) e.owner idle)) (holds_x book (slots_of d) e.owner (on e.key)) b).1)
        (either (eqb e.owner 0) (D.is_running (get_or (marks_of d) e.owner idle) && holds_x book (slots_of d) e.owner (on e.key)) x)

  nobody : D.is_running (get_or (marks_of d) 0 idle) ≡ false
  unfolding marks_of
  nobody = refl

  -- ---- what the rule book asks of the values
  good_values : PagesFacts p → DeskGood d → pairs slot_together (slots_of d) ≡ true → all (slot_named n p root) (slots_of d) ≡ true → all (entry_held d) (entries_in p) ≡ true → Good book (state_of p d)
  unfolding state_of lock_stands queue_stands
  good_values f k m x o =
      record {
        slots = length_slots d;
        marks = length_marks d;
        nobody = nobody;
        keys = keys_good f;
        names = in_all (λ l. D.is_running (get_or (marks_of d) l.holder idle) && is_name book (entries_in p) l.name) (in_use (slots_of d))
            (λ l i. and_both (D.is_running (get_or (marks_of d) l.holder idle)) (is_name book (entries_in p) l.name) (k.holders l i)
            (name_is l.name ∙ all_in (slot_named n p root) (slots_of d) (some l) x (in_use_lem (slots_of d) l i)));
        modes = pairs_use (slots_of d) ∙ m;
        owners = in_all (owner_holds book (state_of p d)) (entries_in p) (λ e i. owner_good f k.holders e i (all_in (entry_held d) (entries_in p) e o i));
        settled = λ e i z. let r = f.rests e i z in record { is_there = r.is_there; equal = r.equal };
        queued = k.queue;
        askers = k.askers;
      }

  good_desk : d ≡ desk_with (slots_of d) (queue_of d) (marks_of d) → Good book (state_of p d) → DeskGood d
  unfolding state_of lock_stands queue_stands
  good_desk e v =
      record {
        laid = e;
        queue = v.queued;
        askers = v.askers;
        holders = λ l i. (both (D.is_running (get_or (marks_of d) l.holder idle)) (is_name book (entries_in p) l.name)
            (all_in (λ l. D.is_running (get_or (marks_of d) l.holder idle) && is_name book (entries_in p) l.name) (in_use (slots_of d)) l v.names i)).0;
      }

  named_use : (x : Option (Lock ℕ)) → ((l : Lock ℕ) → x ≡ some l → named n p root l.name ≡ true) → slot_named n p root x ≡ true
  named_use none h = refl
  named_use (some l) h = h l refl

  good_locks : PagesFacts p → Good book (state_of p d) → locks_ok n p d root ≡ true
  unfolding state_of lock_stands locks_ok
  good_locks f v =
      and_both (pairs slot_together (slots_of d) && all (slot_named n p root) (slots_of d)) (owners_at n p d root)
      (and_both (pairs slot_together (slots_of d)) (all (slot_named n p root) (slots_of d)) (sym (pairs_use (slots_of d)) ∙ v.modes)
      (in_all (slot_named n p root) (slots_of d)
      (λ x i. named_use x (λ l e. sym (name_is l.name) ∙ (both (D.is_running (get_or (marks_of d) l.holder idle)) (is_name book (entries_in p) l.name)
      (all_in (λ l. D.is_running (get_or (marks_of d) l.holder idle) && is_name book (entries_in p) l.name) (in_use (slots_of d)) l v.names (use_in (slots_of d) l (subst (λ y. In y (slots_of d)) e i)))).1))))
      (owners_is n p d root ∙ ap (all (entry_held d)) (sym entries_are)
      ∙ in_all (entry_held d) (entries_in p) (λ e i. good_owner f e i (all_in (owner_holds book (state_of p d)) (entries_in p) e v.owners i)))

  good_rests : Good book (state_of p d) → (e : Item) → In e (entries_in p) → e.owner ≡ 0 → Rests e
  unfolding state_of
  good_rests v e i z = let r = v.settled e i z in record { is_there = r.is_there; equal = r.equal }

  module _ (size : length p ≡ pages_size) (long : length d ≡ desk_size) (g : Bytes p) (h : Bytes d) where
    sound : whole_ok p d ≡ true → Whole p d
    unfolding whole_ok locks_ok
    sound w =
        let a = both (pages_ok p && desk_ok d) ((pairs slot_together (slots_of d) && all (slot_named n p root) (slots_of d)) && owners_at n p d root) w in
        let b = both (pages_ok p) (desk_ok d) a.0 in
        let c = both (pairs slot_together (slots_of d) && all (slot_named n p root) (slots_of d)) (owners_at n p d root) a.1 in
        let e = both (pairs slot_together (slots_of d)) (all (slot_named n p root) (slots_of d)) c.0 in
        let f = pages_sound p g size b.0 in
        let k = desk_sound d h long b.1 in
        let o : all (entry_held d) (entries_in p) ≡ true = ap (all (entry_held d)) entries_are ∙ sym (owners_is n p d root) ∙ c.1 in
        record { pages = f.whole; size = long; desk = k.laid; values = good_values f k e.0 e.1 o }

    complete : Whole p d → whole_ok p d ≡ true
    unfolding whole_ok
    complete w =
        let f : PagesFacts p = record { whole = w.pages; rests = good_rests w.values } in
        and_both (pages_ok p && desk_ok d) (locks_ok n p d root)
        (and_both (pages_ok p) (desk_ok d) (pages_complete p g f) (desk_complete d h long (itself_fits d w.desk p w.values) (good_desk w.desk w.values)))
        (good_locks f w.values)

    pub judged : (r : Bool) → r ≡ whole_ok p d → Judged p d r
    judged r e = record { sound = λ t. sound (sym e ∙ t); complete = λ w. e ∙ complete w }
