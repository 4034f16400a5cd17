-- All who block a request as a set: the holders a slot at a time, the earlier ones a place at a time, and both together.
-- Who is collected so far are the rule book's blockers of the slots, or of the places, that are passed. Assumes nothing.
use Prim.Native.Nat.{ℕ, ◌+◌, ◌≤◌, ◌<◌}
use Rattle.std.specs.Prelude as Code
use mathlib.Core.Path.{◌≡◌, refl, sym, ap, subst, ◌∙◌}
use mathlib.Core.Bool.{Bool, true, false, cond, not, ◌&&◌, ◌||◌}
use mathlib.Core.List.{List, [], ◌∷◌, ◌++◌, map, append-nil}
use mathlib.Core.Option.{Option, none, some}
use native.Mathlib.Omega.{arith}
use borrow.Author.Tests.{lt-ltb, le-ltb}
use lib.Bits.{bit_or}
use lib.Dec.{eqb, ltb}
use Rattle.limits.specs.Limits.{locks_most}
use Rattle.lists.specs.Lists.{keep, member, tab}
use Rattle.lists.proofs.Tests.{any_append, keep_append}
use Rattle.lists.proofs.Joins.{map_append}
use Rattle.lists.proofs.Tables.{tab_last}
use Rattle.rules.specs.Kinds.{Lock, Queued}
use Rattle.rules.specs.Entries.{is_there}
use Rattle.rules.specs.Locks as K
use Rattle.queue.specs.QueueLayout.{queued, in_place, queued_at}
use Rattle.locks.specs.SlotLayout.{slot_at, slots_of, book_slot}
use Rattle.locks.specs.SlotMoves.{is_slot_of, is_slot_against, held_in, free_in}
use Rattle.locks.proofs.Holders as H
use Rattle.index.specs.Pictures.{entries_in}
use Rattle.states.specs.States.{book}
use Rattle.states.specs.Whole.{Whole}
use Rattle.circles.specs.CircleSets.{has, SetOf}
use Rattle.circles.specs.Search.{with_one}
use Rattle.circles.proofs.Bits.{has_union}
use Rattle.circles.proofs.Collected.{set_none, with_last}
use Rattle.waits.specs.declared.Want.{Want}
use Rattle.waits.specs.declared.Collected.{Collected}
use Rattle.waits.specs.Choices.{book_want}
use Rattle.waits.specs.Blocks.{ahead, WantAt, blockers_at, is_rival, HolderKnown, HoldersKnown, with_holder, with_rival}
use Rattle.waits.specs.Slots.{collected_with, Scanned}
use Rattle.waits.proofs.QueueKnown.{whole_order}
use Rattle.waits.proofs.Blocks.{paging, rival_at, holds_by, blockers_are}
use Rattle.waits.proofs.Scanning.{place_to, place_start}
use Rattle.locks.specs.declared.Lock as CodeLock

-- ---- lists and sets
module _ (m : ℕ) (us : List ℕ) (s : SetOf m us) where
  set_both : (n : ℕ) (vs : List ℕ) → SetOf n vs → SetOf (bit_or m n) (us ++ vs)
  set_both n vs r =
      record {
        just = λ t.
            has_union m n t
            ∙ ap (λ b. b || has n t) (s.just t)
            ∙ ap (λ b. member t us || b) (r.just t)
            ∙ sym (any_append _ us vs);
      }

  -- with one more, if a test passes
  set_more : (b : Bool) (t : ℕ) → 1 ≤ t → SetOf (cond b (with_one m t) m) (us ++ cond b (t ∷ []) [])
  set_more true t h = with_last m t us h s
  set_more false t h = subst (SetOf m) (sym (append-nil us)) s

-- ---- the holders, slot by slot
pub holder_at : (d : List ℕ) (i : ℕ) (slot : Code.Option CodeLock.Lock) → HoldersKnown d → i < locks_most → book_slot slot ≡ slot_at d i → HolderKnown (book_slot slot)
holder_at d i slot k h e = subst HolderKnown (sym e) (k.each i h)

module _ (t : ℕ) (w : K.Want book) where
  abbrev holding : List (Option (Lock ℕ)) → List ℕ
  holding ls = K.holders book ls t w

  holders_append : (xs ys : List (Option (Lock ℕ))) → holding (xs ++ ys) ≡ holding xs ++ holding ys
  unfolding K.holders K.in_use keep
  holders_append [] ys = refl
  holders_append (x ∷ xs) ys =
      H.holders_next paging t w x (xs ++ ys)
      ∙ ap (λ us. cond (is_slot_against t w.name w.mode x) (H.holder_of x ∷ us) us) (holders_append xs ys)
      ∙ go (is_slot_against t w.name w.mode x)
      ∙ sym (ap (λ us. us ++ holding ys) (H.holders_next paging t w x xs))
    where
      go : (b : Bool) → cond b (H.holder_of x ∷ (holding xs ++ holding ys)) (holding xs ++ holding ys) ≡ cond b (H.holder_of x ∷ holding xs) (holding xs) ++ holding ys
      go true = refl
      go false = refl

  set_slot : (m : ℕ) (us : List ℕ) → SetOf m us → (x : Option (Lock ℕ)) → ((l : Lock ℕ) → x ≡ some l → 1 ≤ l.holder)
      → SetOf (with_holder m t w x) (us ++ holding (x ∷ []))
  unfolding K.holders K.in_use keep
  set_slot m us s none h = subst (SetOf m) (sym (append-nil us)) s
  set_slot m us s (some l) h =
      rw (H.holders_next paging t w (some l) []) (set_more m us s (is_slot_against t w.name w.mode (some l)) l.holder (h l refl))

module _ (d : List ℕ) (t : ℕ) (w : K.Want book) where
  pub scan_start : Scanned d t w 0 (record { against = 0; own = 0; free = 0 })
  unfolding tab K.holders K.in_use keep
  scan_start =
      record { against = set_none; own = place_start (is_slot_of t w.name) (slot_at d); free = place_start (λ x. not (is_there x)) (slot_at d) }

  pub scan_turn : (i : ℕ) (c r : Collected) (x : Code.Option CodeLock.Lock) → HoldersKnown d → i < locks_most → book_slot x ≡ slot_at d i
      → r ≡ collected_with c i t w (book_slot x) → Scanned d t w i c → Scanned d t w (i + 1) r
  scan_turn i c r x k h e f s =
      let us = K.holders book (tab i 0 (slot_at d)) t w in
      rw f
      (record {
        against =
            rw (e, ← tab_last i (slot_at d), holders_append t w (tab i 0 (slot_at d)) (slot_at d i ∷ []))
            (set_slot t w c.against us s.against (slot_at d i) (λ l q. (k.each i h).low l q));
        own = place_to (is_slot_of t w.name) (slot_at d) i c.own (is_slot_of t w.name (book_slot x)) (ap (is_slot_of t w.name) e) s.own;
        free = place_to (λ y. not (is_there y)) (slot_at d) i c.free (not (is_there (book_slot x))) (ap (λ y. not (is_there y)) e) s.free;
      })

  module _ (c : Collected) (s : Scanned d t w locks_most c) where
    pub scanned_own : c.own ≡ held_in d t w.name
    unfolding held_in slots_of
    scanned_own = s.own

    pub scanned_free : c.free ≡ free_in d
    unfolding free_in slots_of
    scanned_free = s.free

-- ---- the earlier ones, place by place
module _ (p d : List ℕ) (i m : ℕ) (v w : Want) (k : WantAt p d i v) (b : Bool) (e : b ≡ (not (eqb v.asker w.asker) && K.clash book (book_want v) (book_want w))) where
  pub rival_in : (r : ℕ) → b ≡ true → r ≡ with_one m v.asker → r ≡ with_rival m p w.asker (book_want w) (queued_at d i)
  unfolding queued_at
  rival_in r h q = q ∙ ap (with_one m) k.asker ∙ sym (ap (λ x. cond x (with_one m (in_place d i)) m) (sym (rival_at p d i v w b k e) ∙ h))

  pub rival_out : b ≡ false → m ≡ with_rival m p w.asker (book_want w) (queued_at d i)
  rival_out h = sym (ap (λ x. cond x (with_one m (queued_at d i).asker) m) (sym (rival_at p d i v w b k e) ∙ h))

module _ (p d : List ℕ) (t : ℕ) (w : Want) where
  abbrev earlier : List (Queued ℕ ℕ) → List ℕ
  earlier qs = K.earlier book (entries_in p) qs t (book_want w)

  earlier_last : (qs : List (Queued ℕ ℕ)) (x : Queued ℕ ℕ) → earlier (qs ++ (x ∷ [])) ≡ earlier qs ++ cond (is_rival p t (book_want w) x) (x.asker ∷ []) []
  unfolding K.earlier keep
  earlier_last qs x =
      ap (map (λ q. q.asker)) (keep_append test qs (x ∷ []))
      ∙ map_append (λ q. q.asker) (keep test qs) (keep test (x ∷ []))
      ∙ ap (λ us. map (λ q. q.asker) (keep test qs) ++ us) (go (test x))
    where
      test : Queued ℕ ℕ → Bool
      test q = is_rival p t (book_want w) q

      go : (b : Bool) → map (λ q. q.asker) (cond b (x ∷ []) []) ≡ cond b (x.asker ∷ []) []
      go true = refl
      go false = refl

  pub rivals_start : SetOf 0 (K.earlier book (entries_in p) (ahead d 0) t (book_want w))
  unfolding ahead tab K.earlier keep
  rivals_start = set_none

  pub rivals_turn : (i q m r : ℕ) → Whole p d → q < queued d → i < q → r ≡ with_rival m p t (book_want w) (queued_at d i)
      → SetOf m (K.earlier book (entries_in p) (ahead d i) t (book_want w)) → SetOf r (K.earlier book (entries_in p) (ahead d (i + 1)) t (book_want w))
  unfolding ahead queued_at
  rivals_turn i q m r k h l e s =
      rw (e, ← tab_last i (queued_at d), earlier_last (tab i 0 (queued_at d)) (queued_at d i))
      (set_more m (earlier (tab i 0 (queued_at d))) s (is_rival p t (book_want w) (queued_at d i)) (in_place d i) ((whole_order p d k).from i (omega arith)))

-- ---- both
module _ (p d : List ℕ) (q : ℕ) (w : Want) (k : WantAt p d q w) (c : Collected) (s : Scanned d w.asker (book_want w) locks_most c) where
  abbrev t : ℕ
  t = w.asker

  abbrev waiting : List ℕ
  waiting = K.earlier book (entries_in p) (ahead d q) t (book_want w)

  abbrev holders : List ℕ
  holders = K.holders book (slots_of d) t (book_want w)

  collected : SetOf c.against holders
  unfolding slots_of
  collected = s.against

  blockers_by : (b : Bool) → ltb c.own locks_most ≡ b → blockers_at p d q ≡ holders ++ cond b [] waiting
  blockers_by b h = blockers_are p d q w k ∙ ap (λ x. holders ++ cond x [] waiting) (holds_by d t c.own (book_want w).name (scanned_own d t (book_want w) c s) ∙ h)

  pub blockers_held : c.own < locks_most → SetOf c.against (blockers_at p d q)
  blockers_held h = rw (blockers_by true (lt-ltb c.own locks_most h), append-nil) collected

  pub blockers_both : (n : ℕ) → locks_most ≤ c.own → SetOf n (K.earlier book (entries_in p) (ahead d q) w.asker (book_want w))
      → SetOf (bit_or c.against n) (blockers_at p d q)
  blockers_both n h l = rw (blockers_by false (le-ltb c.own locks_most h)) (set_both c.against holders collected n waiting l)
