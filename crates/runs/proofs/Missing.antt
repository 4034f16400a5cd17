-- The run of an insert whose key is missing: X on the key and the entry put in, unless slots or pages are short.
-- Locks stand only on entries or the end, so nobody has one on the key: a new slot is needed. Assumes nothing.
use Prim.Native.Nat.{ℕ, ◌≤◌, ◌<◌, compare}
use Rattle.std.specs.Prelude as Code
use mathlib.Core.Path.{◌≡◌, refl, sym, ap, ap₂, subst, ◌∙◌}
use mathlib.Core.Bool.{Bool, true, false, cond, not, true≢false}
use mathlib.Core.List.{List}
use mathlib.Core.Option.{Option, none, some, none-ne-some}
use borrow.Author.Tests.{lt-ltb, le-ltb}
use lib.Dec.{eqb, ltb}
use Rattle.limits.specs.Limits.{locks_most}
use Rattle.lists.specs.Lists.{first}
use Rattle.lists.proofs.Tests.{fails, not_any}
use Rattle.lists.proofs.Elements.{all_in, first_in}
use Rattle.rules.specs.Kinds.{X, on, insert}
use Rattle.rules.specs.Entries.{is_there, same, at_most, inserted, put}
use Rattle.rules.specs.Locks.{Slots, holds, taken, target, itself}
use Rattle.rules.specs.Runs.{done, pages_short, Ran, unmoved, taking, insert_missing, insert_as, run_on, run}
use Rattle.rules.specs.Good.{is_name}
use Rattle.rules.specs.Document.{end_mark}
use Rattle.rules.proofs.Orders.{numbers_ordered}
use Rattle.rules.proofs.LockTable.{holds_held}
use Rattle.rules.proofs.Unblocked.{good_sound}
use Rattle.trees.specs.Trees.{document_sizes, flat}
use Rattle.trees.specs.Growth.{missing}
use Rattle.trees.specs.Shapes.{shape}
use Rattle.trees.proofs.Shaped.{fits_shape}
use Rattle.entries.specs.declared.Entry as E
use Rattle.answers.specs.declared.Says.TheVariants as S
use Rattle.entries.specs.EntryMeaning.{book_entry}
use Rattle.queue.specs.QueueLayout.{in_place, queued_at}
use Rattle.locks.specs.SlotLayout.{slots_of, name_in}
use Rattle.locks.specs.SlotMoves.{held_in, free_in, lock_taken, lock_given}
use Rattle.queue.specs.QueueMoves.{queue_left}
use Rattle.locks.proofs.Takes.{holds_is, none_held, refused_same}
use Rattle.index.specs.Searches.{book_found}
use Rattle.index.specs.Pictures.{Item, key_of, index_of, entries_in}
use Rattle.index.specs.Changes.{with_entry, entry_fits, Becomes, Added}
use Rattle.index.proofs.EntriesIn.{key_missing, entries_added, shape_added}
use Rattle.states.specs.States.{book, state_of}
use Rattle.states.specs.Fitting.{AskFits}
use Rattle.states.proofs.ValuesFit.{name_read}
use Rattle.states.specs.Whole.{Whole}
use Rattle.runs.specs.RunsAt as A
use Rattle.states.proofs.TablesSay.{whole_fits}
use Rattle.runs.proofs.RunsSay.{asker_fits, ran_says, goes_if, given_if, refused, granted}

-- ---- a missing key: no lock stands on it, and it is not its insert's target
module _ (p d : List ℕ) (w : Whole p d) (k : ℕ) where
  -- where the target is not the key it is missing
  pub is_missing : (t rec : ℕ) (there : Code.Option E.Entry) → book_found there ≡ itself book k (target book (entries_in p) t (insert k rec)) → there ≡ Code.None
      → missing compare key_of k (entries_in p) ≡ true
  unfolding target state_of
  is_missing t rec there i h =
      key_missing p w.pages k (λ x e.
      fails (eqb x.key k) (λ q.
      let n = ap (itself book k) (sym e) ∙ sym i ∙ ap book_found h in
      none-ne-some x (sym n ∙ ap (λ b. cond b (some x) none) q)))

  module _ (m : missing compare key_of k (entries_in p) ≡ true) where
    no_lock : (t : ℕ) → holds book (slots_of d) t (on k) ≡ false
    unfolding state_of
    no_lock t =
        fails (holds book (slots_of d) t (on k)) (λ h.
        let l = holds_held book numbers_ordered (slots_of d) t (on k) h in
        let stands = ((good_sound book numbers_ordered (state_of p d) w.values).names l.lock l.stands).1 in
        let there : is_name book (entries_in p) (on k) ≡ true = subst (λ n. is_name book (entries_in p) n ≡ true) l.name stands in
        true≢false (sym m ∙ sym (not_any (λ e. same book e.key k) (entries_in p)) ∙ ap not there))

    slot_needed : (t : ℕ) → lock_given d t (on k) ≡ ltb (free_in d) locks_most
    unfolding lock_given
    slot_needed t = ap (λ h. cond h true (ltb (free_in d) locks_most)) (sym (holds_is book.paging d t (on k)) ∙ no_lock t)

    not_target : (t rec : ℕ) → itself book k (target book (entries_in p) t (insert k rec)) ≡ none
    unfolding target
    not_target t rec = go (first (λ e. at_most book k e.key) (entries_in p)) refl
      where
        go : (o : Option Item) → first (λ e. at_most book k e.key) (entries_in p) ≡ o → itself book k o ≡ none
        go none h = refl
        go (some e) h =
            let i = (first_in (λ e. at_most book k e.key) (entries_in p) e h).0 in
            let other : not (same book e.key k) ≡ true = all_in (λ x. not (same book x.key k)) (entries_in p) e m i in
            let z : same book e.key k ≡ false = fails (same book e.key k) (λ y. true≢false (sym other ∙ ap not y)) in
            rw z

-- ---- the run, and what it comes to
module _ (p d : List ℕ) (w : Whole p d) (q : ℕ) (c : A.Clear p d q) (k rec : ℕ) (asks : (queued_at d q).asks ≡ insert k rec) where
  key_fits : k < end_mark
  key_fits = (subst AskFits asks (asker_fits p d w q c).asks).0

  -- the entry that is put in
  module _ (t : ℕ) (e : E.Entry) (new : book_entry e ≡ inserted t k rec) where
    pub entry_fits_lem : e.key.0 < end_mark
    entry_fits_lem = subst (λ (x : Item). x.key < end_mark) (sym new) key_fits

  module _ (m : missing compare key_of k (entries_in p) ≡ true) (t : ℕ) (a : t ≡ in_place d q) where
    abbrev act : Slots book → Ran book
    act = insert_missing book (state_of p d) t k rec

    goes : run book (state_of p d) (queued_at d q) ≡ taking book (state_of p d) t (on k) X act
    unfolding run run_on insert_as state_of queued_at
    goes =
        ap₂ (λ u y. run_on book (state_of p d) u y (target book (entries_in p) u y)) (sym a) asks
        ∙ ap (insert_as book (state_of p d) t k rec) (not_target p d w k m t rec)

    -- t has no lock on the key
    pub none_own : locks_most ≡ held_in d t (name_in k)
    none_own = none_held book.paging d t (on k) (no_lock p d w k m t) ∙ ap (held_in d t) (sym (name_read (on k) key_fits))

    abbrev with_lock : List ℕ
    with_lock = lock_taken d t (on k) X

    -- the lock is given exactly where a slot is free
    free_if : (o : Option (Slots book)) → taken book (slots_of d) t (on k) X ≡ o → ltb (free_in d) locks_most ≡ is_there o
    free_if o h =
        sym (slot_needed p d w k m t) ∙ given_if p d w q c t a (on k) X key_fits o h

    -- 17: no slot is free
    pub locks_short : (free : ℕ) (d₁ : List ℕ) → free ≡ free_in d → locks_most ≤ free → d₁ ≡ queue_left d q
        → A.Ran p d p d₁ q (record { asker = t; says = S.LocksShort })
    locks_short free d₁ is full e = go (taken book (slots_of d) t (on k) X) refl
      where
        none_free : ltb (free_in d) locks_most ≡ false
        none_free = ap (λ x. ltb x locks_most) (sym is) ∙ le-ltb free locks_most full

        same_desk : d ≡ with_lock
        same_desk = sym (refused_same d t (on k) X (slot_needed p d w k m t ∙ none_free))

        go : (o : Option (Slots book)) → taken book (slots_of d) t (on k) X ≡ o → A.Ran p d p d₁ q (record { asker = t; says = S.LocksShort })
        go none h = refused p d w q c t a (on k) X key_fits act goes d₁ (e ∙ ap (λ x. queue_left x q) same_desk) S.LocksShort h refl
        go (some ks) h = absurd (true≢false (sym (free_if (some ks) h) ∙ none_free))

    -- a slot is free: the lock can be had, and the rest goes by the pages
    module _ (free : ℕ) (is : free ≡ free_in d) (room : free < locks_most) (e : E.Entry) (new : book_entry e ≡ inserted t k rec) (p' : List ℕ) (b : Bool)
        (added : Added p p' (book_entry e) b) where
      with_slots : {T : Type 0} → ((ks : Slots book) → taken book (slots_of d) t (on k) X ≡ some ks → T) → T
      with_slots {T} f = go (taken book (slots_of d) t (on k) X) refl
        where
          go : (o : Option (Slots book)) → taken book (slots_of d) t (on k) X ≡ o → T
          go none h = absurd (true≢false (sym (lt-ltb free locks_most room) ∙ ap (λ x. ltb x locks_most) is ∙ free_if none h))
          go (some ks) h = f ks h

      fits : b ≡ book.paging.fits (shape key_of (index_of p)) k
      unfolding entry_fits
      fits = added.fit ∙ ap (λ (x : Item). entry_fits x.key (index_of p)) new ∙ sym (fits_shape compare key_of 0 document_sizes k (index_of p))

      abbrev with_key : Slots book → Ran book
      with_key ks =
          record { says = done; entries = put book (inserted t k rec) (entries_in p); pages = book.paging.grown (shape key_of (index_of p)) k; slots = ks }

      comes_to : (x : Bool) → b ≡ x → (ks : Slots book) → act ks ≡ cond x (with_key ks) (unmoved book (state_of p d) pages_short)
      unfolding state_of insert_missing
      comes_to x h ks = ap (λ y. cond y (with_key ks) (unmoved book (state_of p d) pages_short)) (sym fits ∙ h)

      becomes : (x : Bool) → b ≡ x → Becomes p' (cond x (with_entry (inserted t k rec) (index_of p)) (index_of p))
      becomes x h =
          subst (λ y. Becomes p' (cond y (with_entry (inserted t k rec) (index_of p)) (index_of p))) h
          (subst (λ (i : Item). Becomes p' (cond b (with_entry i (index_of p)) (index_of p))) new added.becomes)

      -- 18: the pages are short, and no lock is taken
      pub pages_short_lem : (d₁ : List ℕ) → b ≡ false → d₁ ≡ queue_left d q → A.Ran p d p' d₁ q (record { asker = t; says = S.PagesShort })
      unfolding A.ran_at state_of queued_at entries_in
      pages_short_lem d₁ short l =
          with_slots (λ ks h.
          let x = becomes false short in
          let r : run book (state_of p d) (queued_at d q) ≡ unmoved book (state_of p d) pages_short =
          goes_if p d q t (on k) X act goes (some ks) h ∙ comes_to false short ks in
          record {
            says = ran_says p d w q c p' x.whole (unmoved book (state_of p d) pages_short) r (ap (λ i. flat ℕ Item i.level i.tree) x.index)
                (ap (shape key_of) x.index) (whole_fits p d w) d d₁ w.desk l;
            answer = ap₂ (λ u y. record { asker = u; says = y }) a (ap (λ (y : Ran book). y.says) (sym r));
          })

      -- done: the entry is put in, and the lock is taken
      pub put_in : (d₁ : List ℕ) → b ≡ true → d₁ ≡ queue_left (lock_taken d t (name_in k) X) q → A.Ran p d p' d₁ q (record { asker = t; says = S.Done })
      unfolding put
      put_in d₁ room l =
          with_slots (λ ks h.
          let x = becomes true room in
          let r = sym (comes_to true room ks) in
          granted p d w q c t a (on k) X key_fits act goes d₁ (l ∙ ap (λ n. queue_left (lock_taken d t n X) q) (name_read (on k) key_fits)) ks p' S.Done h x.whole
          (ap (λ (y : Ran book). y.slots) (sym r))
          (entries_added p p' (inserted t k rec) w.pages key_fits x ∙ ap (λ (y : Ran book). y.entries) r)
          (shape_added p p' (inserted t k rec) x ∙ ap (λ (y : Ran book). y.pages) r)
          (ap (λ (y : Ran book). y.says) r))
