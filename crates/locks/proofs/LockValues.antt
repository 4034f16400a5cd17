-- What the code's modes, names and locks are in the rule book, case by case, as they are made, read and written. Assumes nothing.
use Prim.Native.Nat.{ℕ, ◌+◌, ◌*◌}
use Rattle.std.specs.Prelude as Code
use mathlib.Core.Path.{◌≡◌, refl, sym, ap, ◌∙◌}
use mathlib.Core.Bool.{Bool, true, false, cond, not, ◌&&◌, false≢true}
use mathlib.Core.List.{List, [], ◌∷◌}
use mathlib.Core.Option.{none}
use borrow.Author.Tests.{eqb-true, eqb-false, eq-eqb, ne_eqb}
use lib.Dec.{eqb}
use Rattle.limits.specs.Limits.{key_size, slot_size, slots_place}
use Rattle.numbers.specs.Numbers.{number_at, fields_at, put_fields}
use Rattle.rules.specs.Kinds.{Paging, Mode, S, X, Name, on, end}
use Rattle.rules.specs.Locks.{conflict, stronger, same_name}
use Rattle.rules.specs.Document.{document, endless, end_mark}
use Rattle.keys.specs.declared.Key.{Key}
use Rattle.locks.specs.declared.Mode as M
use Rattle.locks.specs.declared.Mode.TheVariants as MV
use Rattle.locks.specs.declared.Lock as L
use Rattle.locks.specs.SlotLayout.{lock_widths, lock_place, name_in, name_number, mode_in, mode_number, slot_in, slot_at, slot_fields, put_slot, book_mode, book_slot}
use Rattle.locks.specs.SlotMoves.{is_slot_of, is_slot_against, strengthened}

-- ---- modes
pub mode_x : (number : ℕ) → number ≡ 2 → X ≡ mode_in number
mode_x number e = sym (ap (λ b. cond b X S) (eq-eqb number 2 e))

pub mode_s : (number : ℕ) → (number ≡ 2 → ⊥) → S ≡ mode_in number
mode_s number h = sym (ap (λ b. cond b X S) (ne_eqb number 2 h))

pub x_conflicts : (x y : M.Mode) → x ≡ MV.X → true ≡ conflict (book_mode x) (book_mode y)
x_conflicts x MV.S e = rw e
x_conflicts x MV.X e = rw e

-- ---- names: the number of the end mark is the end, every other one a key
pub name_back : (k : ℕ) → name_number (name_in k) ≡ k
name_back k = go (eqb k end_mark) refl
  where
    go : (b : Bool) → eqb k end_mark ≡ b → name_number (cond b end (on k)) ≡ k
    go true e = sym (eqb-true k end_mark e)
    go false e = refl

pub same_name_lem : (P : Paging ℕ) (a b : ℕ) → same_name (document P) (name_in a) (name_in b) ≡ eqb a b
same_name_lem P a b = go (eqb a end_mark) (eqb b end_mark) refl refl
  where
    go : (x y : Bool) → eqb a end_mark ≡ x → eqb b end_mark ≡ y → same_name (document P) (cond x end (on a)) (cond y end (on b)) ≡ eqb a b
    go true true p q = sym (eq-eqb a b (eqb-true a end_mark p ∙ sym (eqb-true b end_mark q)))
    go true false p q = sym (ne_eqb a b (λ e. eqb-false b end_mark q (sym e ∙ eqb-true a end_mark p)))
    go false true p q = sym (ne_eqb a b (λ e. eqb-false a end_mark p (e ∙ eqb-true b end_mark q)))
    go false false p q = refl

-- whatever the pages, names are the same in one book where they are in another, and only where they are equal
pub names_any : (P : Paging ℕ) (a b : Name ℕ) → same_name (document P) a b ≡ same_name (document endless) a b
names_any P (on a) (on b) = refl
names_any P (on a) end = refl
names_any P end (on b) = refl
names_any P end end = refl

pub same_is : (P : Paging ℕ) (a b : Name ℕ) → same_name (document P) a b ≡ true → a ≡ b
same_is P (on a) (on b) e = ap on (eqb-true a b e)
same_is P (on a) end e = absurd (false≢true e)
same_is P end (on b) e = absurd (false≢true e)
same_is P end end e = refl

pub same_itself : (P : Paging ℕ) (a : Name ℕ) → same_name (document P) a a ≡ true
same_itself P (on a) = eq-eqb a a refl
same_itself P end = refl

-- ---- a slot's tests
module _ (s : Code.Option L.Lock) (l : L.Lock) (e : s ≡ Code.Some l) (k : ℕ) (b : Bool) (q : b ≡ eqb l.name.0 k) where
  pub held_of : (t : ℕ) → (eqb l.holder t && b) ≡ is_slot_of t (name_in k) (book_slot s)
  held_of t = rw (e, q, same_name_lem endless l.name.0 k)

  pub held_against : (t : ℕ) (m : Mode) (c : Bool) → c ≡ conflict (book_mode l.mode) m
      → (not (eqb l.holder t) && (b && c)) ≡ is_slot_against t (name_in k) m (book_slot s)
  held_against t m c p = rw (e, p, q, same_name_lem endless l.name.0 k)

pub held_strengthened : (s : Code.Option L.Lock) (l : L.Lock) (m : Mode) (x : M.Mode) → s ≡ Code.Some l → book_mode x ≡ stronger (book_mode l.mode) m
    → book_slot (Code.Some (record { name = l.name; holder = l.holder; mode = x })) ≡ strengthened m (book_slot s)
held_strengthened s l m x e p = rw (e, p)

-- ---- a slot read, and written
pub read_free : (d : List ℕ) (i holder : ℕ) → holder ≡ number_at 2 d (slots_place + slot_size * i + key_size) → holder ≡ 0 → none ≡ slot_at d i
unfolding slot_at slot_in fields_at
read_free d i holder e h = let z : eqb (number_at 2 d (slots_place + slot_size * i + key_size)) 0 ≡ true = eq-eqb (number_at 2 d (slots_place + slot_size * i + key_size)) 0 (sym e ∙ h) in rw z

pub read_held : (d : List ℕ) (i : ℕ) (k : Key) (holder number : ℕ) (x : M.Mode) → holder ≡ number_at 2 d (slots_place + slot_size * i + key_size) → (holder ≡ 0 → ⊥)
    → k.0 ≡ number_at key_size d (slots_place + slot_size * i) → number ≡ number_at 2 d (slots_place + slot_size * i + key_size + 2) → book_mode x ≡ mode_in number
    → book_slot (Code.Some (record { name = k; holder = holder; mode = x })) ≡ slot_at d i
unfolding slot_at slot_in fields_at
read_held d i k holder number x e h p q r =
    let z : eqb holder 0 ≡ false = ne_eqb holder 0 h in rw (r, p, q, ← e, z)

pub put_free : (d u : List ℕ) (i : ℕ) (s : Code.Option L.Lock) → s ≡ Code.None → u ≡ put_fields lock_widths d (lock_place i) (0 ∷ 0 ∷ 0 ∷ 0 ∷ []) → u ≡ put_slot d i (book_slot s)
unfolding put_slot slot_fields
put_free d u i s e p = rw e p

pub put_held : (d u : List ℕ) (i : ℕ) (s : Code.Option L.Lock) (l : L.Lock) (number : ℕ) → s ≡ Code.Some l → number ≡ mode_number (book_mode l.mode)
    → u ≡ put_fields lock_widths d (lock_place i) (l.name.0 ∷ l.holder ∷ number ∷ 0 ∷ []) → u ≡ put_slot d i (book_slot s)
unfolding put_slot slot_fields
put_held d u i s l number e q p = rw (e, name_back, ← q) p
