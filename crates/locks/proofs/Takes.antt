-- Taking a lock: the cases that the code tells apart, and that what it does to the bytes is the rule book's `taken`.
-- A holder has one lock on a name, so strengthening touches one slot only; a new lock takes the first free slot.
-- Assumes for the rule book that the table's locks go together (rules/specs/Good, W2).
use Prim.Native.Nat.{ℕ, suc, ◌^◌, ◌≤◌, ◌<◌}
use Rattle.std.specs.Prelude as Code
use mathlib.Core.Path.{◌≡◌, refl, sym, ap, ap₂, subst, ◌∙◌}
use mathlib.Core.Logic.{◌≢◌}
use mathlib.Core.Bool.{Bool, true, false, cond, not, ◌&&◌, ◌||◌, true≢false, false≢true}
use mathlib.Core.List.{List, [], ◌∷◌, map}
use mathlib.Core.Option.{Option, none, some}
use borrow.Author.Tests.{eqb-true, eq-eqb, lt-ltb, le-ltb, ltb-true}
use lib.Dec.{eqb, ltb}
use lib.ListN.{length, get_or, set}
use Rattle.limits.specs.Limits.{locks_most, key_size, desk_size}
use Rattle.lists.specs.Lists.{all, any, pairs, place}
use Rattle.lists.proofs.Tests.{and_left, and_right}
use Rattle.lists.proofs.Scans.{place_any, place_passes, place_none}
use Rattle.rules.specs.Kinds.{Book, Paging, Mode, Name, Lock}
use Rattle.rules.specs.Entries.{is_there}
use Rattle.rules.specs.Locks.{Slots, in_use, stronger, same_name, is_of, holds, raised, behind, added, taken}
use Rattle.rules.specs.Good.{together}
use Rattle.rules.specs.Document.{document, endless}
use Rattle.locks.specs.SlotLayout.{name_in, slot_at, put_slot, slots_of, book_slot}
use Rattle.locks.specs.SlotMoves.{is_slot_of, strengthened, held_in, free_in, taken_at, given_at, lock_taken, lock_given}
use Rattle.locks.proofs.LockValues.{names_any, same_is, same_itself}
use Rattle.locks.proofs.SlotBytes.{lock, lock_fits, lock_back, slots_put, length_slots, slot_in_lem}
use Rattle.locks.specs.declared.Lock as CodeLock

-- ---- the code's cases: t has the name, a slot is free, none is
module _ (i j : ℕ) where
  pub given_held : i < locks_most → true ≡ given_at i j
  given_held h = rw (lt-ltb i locks_most h)

  pub given_new : locks_most ≤ i → j < locks_most → true ≡ given_at i j
  given_new h l = rw (le-ltb i locks_most h, lt-ltb j locks_most l)

  pub given_none : locks_most ≤ i → locks_most ≤ j → false ≡ given_at i j
  given_none h l = rw (le-ltb i locks_most h, le-ltb j locks_most l)

  module _ (d : List ℕ) (t : ℕ) (n : Name ℕ) (m : Mode) where
    pub taken_held : (u : List ℕ) (s x : Code.Option CodeLock.Lock) → i < locks_most → book_slot s ≡ slot_at d i → book_slot x ≡ strengthened m (book_slot s)
        → u ≡ put_slot d i (book_slot x) → u ≡ taken_at d i j t n m
    taken_held u s x h p q r = rw (lt-ltb i locks_most h, r, q, p)

    pub taken_new : (u : List ℕ) → locks_most ≤ i → j < locks_most → u ≡ put_slot d j (some (record { name = n; holder = t; mode = m }))
        → u ≡ taken_at d i j t n m
    taken_new u h l r = rw (le-ltb i locks_most h, lt-ltb j locks_most l) r

    pub taken_none : locks_most ≤ i → locks_most ≤ j → d ≡ taken_at d i j t n m
    taken_none h l = rw (le-ltb i locks_most h, le-ltb j locks_most l)

-- where these are t's own slot and the lowest free one
module _ (d : List ℕ) (i j t : ℕ) (n : Name ℕ) (e : i ≡ held_in d t n) (f : j ≡ free_in d) where
  pub given_there : (b : Bool) → b ≡ given_at i j → b ≡ lock_given d t n
  unfolding lock_given
  given_there b h = h ∙ ap₂ given_at e f

  pub taken_there : (m : Mode) (u : List ℕ) → u ≡ taken_at d i j t n m → u ≡ lock_taken d t n m
  unfolding lock_taken
  taken_there m u h = h ∙ ap₂ (λ x y. taken_at d x y t n m) e f

-- ---- lists of slots
module _ (P : Paging ℕ) (t : ℕ) (n : Name ℕ) where
  abbrev B : Book
  B = document P

  of_any : (l : Lock ℕ) → is_of (document endless) t n l ≡ is_of B t n l
  of_any l = ap (λ b. eqb l.holder t && b) (sym (names_any P l.name n))

  holds_any : (ls : Slots B) → holds B ls t n ≡ any (is_slot_of t n) ls
  unfolding in_use any
  holds_any [] = refl
  holds_any (none ∷ ls) = holds_any ls
  holds_any (some l ∷ ls) = ap₂ (λ a b. a || b) (sym (of_any l)) (holds_any ls)

  -- another lock that goes together with t's lock on n is not t's on n
  other_not : (k l : Lock ℕ) → is_of B t n k ≡ true → together B k l ≡ true → is_of (document endless) t n l ≡ false
  unfolding together
  other_not k l p q = go (is_of B t n l) refl
    where
      go : (b : Bool) → is_of B t n l ≡ b → is_of (document endless) t n l ≡ false
      go false r = of_any l ∙ r
      go true r =
          let name : k.name ≡ l.name =
          same_is P k.name n (and_right (eqb k.holder t) (same_name B k.name n) p)
          ∙ sym (same_is P l.name n (and_right (eqb l.holder t) (same_name B l.name n) r)) in
          let who : eqb k.holder l.holder ≡ true =
          eq-eqb k.holder l.holder (eqb-true k.holder t (and_left (eqb k.holder t) (same_name B k.name n) p)
          ∙ sym (eqb-true l.holder t (and_left (eqb l.holder t) (same_name B l.name n) r))) in
          let same : same_name B k.name l.name ≡ true = subst (λ x. same_name B k.name x ≡ true) name (same_itself P k.name) in
          absurd (false≢true (rw (same, who) at q))

  others_not : (k : Lock ℕ) → is_of B t n k ≡ true → (ls : Slots B) → all (together B k) (in_use ls) ≡ true → any (is_slot_of t n) ls ≡ false
  unfolding in_use all any
  others_not k p [] q = refl
  others_not k p (none ∷ ls) q = others_not k p ls q
  others_not k p (some l ∷ ls) q =
      ap₂ (λ a b. a || b) (other_not k l p (and_left (together B k l) (all (together B k) (in_use ls)) q))
      (others_not k p ls (and_right (together B k l) (all (together B k) (in_use ls)) q))

  module _ (m : Mode) where
    raised_none : (ls : Slots B) → any (is_slot_of t n) ls ≡ false → map (raised B t n m) ls ≡ ls
    unfolding any
    raised_none [] e = refl
    raised_none (none ∷ ls) e = ap (λ r. none ∷ r) (raised_none ls e)
    raised_none (some l ∷ ls) e = go (is_of (document endless) t n l) refl e (raised_none ls)
      where
        go : (b : Bool) → is_of (document endless) t n l ≡ b → (b || any (is_slot_of t n) ls) ≡ false
            → (any (is_slot_of t n) ls ≡ false → map (raised B t n m) ls ≡ ls) → map (raised B t n m) (some l ∷ ls) ≡ some l ∷ ls
        go true q h r = absurd (true≢false h)
        go false q h r = let z : is_of B t n l ≡ false = sym (of_any l) ∙ q in rw (z, r h)

    -- "A transaction has at most one lock per name": where t has n, strengthening changes the slot of that lock alone
    raised_one : (ls : Slots B) → pairs (together B) (in_use ls) ≡ true → any (is_slot_of t n) ls ≡ true
        → map (raised B t n m) ls ≡ set ls (place (is_slot_of t n) ls) (strengthened m (get_or ls (place (is_slot_of t n) ls) none))
    unfolding in_use pairs any place
    raised_one [] one e = absurd (false≢true e)
    raised_one (none ∷ ls) one e = ap (λ r. none ∷ r) (raised_one ls one e)
    raised_one (some l ∷ ls) one e =
        go (is_of (document endless) t n l) refl e
        (and_left (all (together B l) (in_use ls)) (pairs (together B) (in_use ls)) one)
        (raised_one ls (and_right (all (together B l) (in_use ls)) (pairs (together B) (in_use ls)) one))
      where
        go : (b : Bool) → is_of (document endless) t n l ≡ b → (b || any (is_slot_of t n) ls) ≡ true → all (together B l) (in_use ls) ≡ true
            → (any (is_slot_of t n) ls ≡ true
            → map (raised B t n m) ls ≡ set ls (place (is_slot_of t n) ls) (strengthened m (get_or ls (place (is_slot_of t n) ls) none)))
            → map (raised B t n m) (some l ∷ ls)
            ≡ set (some l ∷ ls) (cond b 0 (suc (place (is_slot_of t n) ls))) (strengthened m (get_or (some l ∷ ls) (cond b 0 (suc (place (is_slot_of t n) ls))) none))
        go true q h a r =
            let z : is_of B t n l ≡ true = sym (of_any l) ∙ q in
            rw (z, raised_none ls (others_not l z ls a))
        go false q h a r = let z : is_of B t n l ≡ false = sym (of_any l) ∙ q in rw (z, r h)

-- a new lock goes into the lowest free slot, where there is one
abbrev is_free : Option (Lock ℕ) → Bool
is_free x = not (is_there x)

module _ (P : Paging ℕ) (l : Lock ℕ) where
  added_is : (ls : Slots (document P)) → added (document P) l ls ≡ cond (any is_free ls) (some (set ls (place is_free ls) (some l))) none
  unfolding added any place
  added_is [] = refl
  added_is (none ∷ ls) = refl
  added_is (some x ∷ ls) = ap (behind (document P) (some x)) (added_is ls) ∙ go (any is_free ls)
    where
      go : (b : Bool) → behind (document P) (some x) (cond b (some (set ls (place is_free ls) (some l))) none)
          ≡ cond b (some (some x ∷ set ls (place is_free ls) (some l))) none
      go true = refl
      go false = refl

-- ---- what the two searches find
held_any : (d : List ℕ) (t : ℕ) (n : Name ℕ) → any (is_slot_of t n) (slots_of d) ≡ ltb (held_in d t n) locks_most
unfolding held_in
held_any d t n = place_any (is_slot_of t n) (slots_of d) ∙ ap (ltb (place (is_slot_of t n) (slots_of d))) (length_slots d)

free_any : (d : List ℕ) → any is_free (slots_of d) ≡ ltb (free_in d) locks_most
unfolding free_in
free_any d = place_any is_free (slots_of d) ∙ ap (ltb (place is_free (slots_of d))) (length_slots d)

pub holds_is : (P : Paging ℕ) (d : List ℕ) (t : ℕ) (n : Name ℕ) → holds (document P) (slots_of d) t n ≡ ltb (held_in d t n) locks_most
holds_is P d t n = holds_any P t n (slots_of d) ∙ held_any d t n

pub none_held : (P : Paging ℕ) (d : List ℕ) (t : ℕ) (n : Name ℕ) → holds (document P) (slots_of d) t n ≡ false → locks_most ≡ held_in d t n
unfolding held_in
none_held P d t n h = sym (length_slots d) ∙ place_none (is_slot_of t n) (slots_of d) (sym (holds_any P t n (slots_of d)) ∙ h)

-- ---- taking
-- t's lock on n, strengthened, is a lock of t on n
strengthened_of : (t : ℕ) (n : Name ℕ) (m : Mode) (x : Option (Lock ℕ)) → is_slot_of t n x ≡ true
    → (q : Mode) × (strengthened m x ≡ some (record { name = n; holder = t; mode = q }))
strengthened_of t n m none e = absurd (false≢true e)
strengthened_of t n m (some l) e =
    let name : l.name ≡ n = same_is endless l.name n (and_right (eqb l.holder t) (same_name (document endless) l.name n) e) in
    let who : l.holder ≡ t = eqb-true l.holder t (and_left (eqb l.holder t) (same_name (document endless) l.name n) e) in
    (stronger l.mode m, ap₂ (λ a b. some (record { name = a; holder = b; mode = stronger l.mode m })) name who)

module _ (P : Paging ℕ) (d : List ℕ) (t k : ℕ) (m : Mode) (size : length d ≡ desk_size) (name : k < 256 ^ key_size) (who : t < 256 ^ 2) (someone : t ≢ 0) where
  abbrev n : Name ℕ
  n = name_in k

  -- t has the name already
  held_put : ltb (held_in d t n) locks_most ≡ true
      → slots_of (put_slot d (held_in d t n) (strengthened m (slot_at d (held_in d t n))))
      ≡ set (slots_of d) (held_in d t n) (strengthened m (slot_at d (held_in d t n)))
  unfolding held_in
  held_put h =
      let i = place (is_slot_of t n) (slots_of d) in
      let low : i < locks_most = ltb-true i locks_most h in
      let passes : is_slot_of t n (slot_at d i) ≡ true =
      subst (λ x. is_slot_of t n x ≡ true) (slot_in_lem d i low) (place_passes (is_slot_of t n) (slots_of d) none (held_any d t n ∙ h)) in
      let w = strengthened_of t n m (slot_at d i) passes in
      subst (λ x. slots_of (put_slot d i x) ≡ set (slots_of d) i x) (sym w.1)
      (slots_put d i (lock k t w.0) size low (lock_fits k t w.0 name who) (lock_back k t w.0 someone))

  abbrev new : Lock ℕ
  new = record { name = n; holder = t; mode = m }

  pub taken_is : pairs (together (document P)) (in_use (slots_of d)) ≡ true
      → taken (document P) (slots_of d) t n m ≡ cond (lock_given d t n) (some (slots_of (lock_taken d t n m))) none
  unfolding taken lock_given lock_taken held_in free_in
  taken_is one =
      ap (λ b. cond b (some (map (raised (document P) t n m) (slots_of d))) (added (document P) new (slots_of d))) (holds_is P d t n)
      ∙ go (ltb (held_in d t n) locks_most) refl (ltb (free_in d) locks_most) refl
    where
      go : (h : Bool) → ltb (held_in d t n) locks_most ≡ h → (f : Bool) → ltb (free_in d) locks_most ≡ f
          → cond h (some (map (raised (document P) t n m) (slots_of d))) (added (document P) new (slots_of d))
          ≡ cond (cond h true f)
          (some (slots_of (cond h (put_slot d (held_in d t n) (strengthened m (slot_at d (held_in d t n)))) (cond f (put_slot d (free_in d) (some new)) d)))) none
      go true p f q =
          ap some (raised_one P t n m (slots_of d) one (held_any d t n ∙ p)
          ∙ ap (λ x. set (slots_of d) (held_in d t n) (strengthened m x)) (slot_in_lem d (held_in d t n) (ltb-true (held_in d t n) locks_most p))
          ∙ sym (held_put p))
      go false p true q =
          added_is P new (slots_of d)
          ∙ ap (λ b. cond b (some (set (slots_of d) (free_in d) (some new))) none) (free_any d ∙ q)
          ∙ ap some (sym (slots_put d (free_in d) (some new) size (ltb-true (free_in d) locks_most q) (lock_fits k t m name who) (lock_back k t m someone)))
      go false p false q = added_is P new (slots_of d) ∙ ap (λ b. cond b (some (set (slots_of d) (free_in d) (some new))) none) (free_any d ∙ q)

-- where it is not given nothing changes
pub refused_same : (d : List ℕ) (t : ℕ) (n : Name ℕ) (m : Mode) → lock_given d t n ≡ false → lock_taken d t n m ≡ d
unfolding lock_given lock_taken
refused_same d t n m e = go (ltb (held_in d t n) locks_most) (ltb (free_in d) locks_most) e
  where
    go : (h f : Bool) → cond h true f ≡ false
        → cond h (put_slot d (held_in d t n) (strengthened m (slot_at d (held_in d t n))))
        (cond f (put_slot d (free_in d) (some (record { name = n; holder = t; mode = m }))) d) ≡ d
    go true f e = absurd (true≢false e)
    go false true e = absurd (true≢false e)
    go false false e = refl
