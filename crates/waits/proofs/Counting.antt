-- The locks of each transaction, counted in one pass over the table: a slot adds one to its holder's. A free slot adds to nobody's.
-- Assumes nothing.
use Prim.Native.Nat.{ℕ, ◌+◌, ◌≤◌, ◌<◌}
use Rattle.std.specs.Prelude as Code
use mathlib.Core.Path.{◌≡◌, refl, sym, ap, ◌∙◌}
use mathlib.Core.Bool.{Bool, true, false, cond}
use mathlib.Core.List.{List, [], ◌∷◌, ◌++◌}
use mathlib.Core.Option.{Option, none, some}
use native.Mathlib.Omega.{arith}
use borrow.Author.Tests.{eq-eqb, eqb-true, eqb-false}
use lib.Dec.{eqb}
use lib.ListN.{get_or, set, replicate, length-set, length-replicate}
use lib.Seq.{get_or-set_same, get_or-set_other}
use Rattle.limits.specs.Limits.{transactions_most, locks_most}
use Rattle.lists.specs.Lists.{times, tab}
use Rattle.lists.proofs.Tables.{tab_last}
use Rattle.lists.proofs.Places.{get_d_alike}
use Rattle.rules.specs.Kinds.{Lock}
use Rattle.rules.specs.Locks as K
use Rattle.rules.specs.Queue.{locks_held}
use Rattle.locks.specs.SlotLayout.{slot_at, book_slot}
use Rattle.states.specs.States.{book}
use Rattle.waits.specs.Blocks.{HolderKnown, HoldersKnown, holder_of}
use Rattle.waits.specs.Weights.{CountedTo}
use Rattle.locks.specs.declared.Lock as CodeLock

-- ---- what one slot adds
abbrev once : Bool → ℕ
once b = cond b 1 0

abbrev one : ℕ → Option (Lock ℕ) → ℕ
one t none = 0
one t (some l) = once (eqb l.holder t)

held_last : (t : ℕ) (xs : List (Option (Lock ℕ))) (x : Option (Lock ℕ)) → locks_held book (xs ++ (x ∷ [])) t ≡ locks_held book xs t + one t x
unfolding locks_held K.in_use times
held_last t [] none = refl
held_last t [] (some l) = omega arith
held_last t (none ∷ xs) x = held_last t xs x
held_last t (some l ∷ xs) x = let r = held_last t xs x in omega arith

module _ (d : List ℕ) where
  pub counted_start : CountedTo d (replicate (transactions_most + 1) 0) 0
  unfolding tab locks_held K.in_use times
  counted_start =
      let nothing : (t : ℕ) → get_or (replicate (transactions_most + 1) 0) t 0 ≡ 0 = λ t. get_d_alike (transactions_most + 1) t 0 in
      record {
        long = length-replicate {A = ℕ} (transactions_most + 1) 0;
        most = λ t. omega (arith, nothing t);
        held = λ t low high. nothing t;
      }

  module _ (counts : List ℕ) (i : ℕ) (c : CountedTo d counts i) (h : i < locks_most) (k : HoldersKnown d) (slot : Code.Option CodeLock.Lock) (e : book_slot slot ≡ slot_at d i)
      (t : ℕ) (a : t ≡ holder_of (book_slot slot)) where
    holder_most : (x : Option (Lock ℕ)) → HolderKnown x → holder_of x ≤ transactions_most
    holder_most none y = omega arith
    holder_most (some l) y = y.high l refl

    pub holder_counted : t < transactions_most + 1
    holder_counted = omega (arith, a, ap holder_of e, holder_most (slot_at d i) (k.each i h))

    pub counted_turn : (counts' : List ℕ) → counts' ≡ set counts t (get_or counts t 0 + 1) → CountedTo d counts' (i + 1)
    counted_turn counts' q =
        rw q
        (record {
          long = length-set counts t (get_or counts t 0 + 1) ∙ c.long;
          most = λ u. most u (eqb u t) refl;
          held = λ u low high. held u low high (eqb u t) refl ∙ sym (held_last u (tab i 0 (slot_at d)) (slot_at d i)) ∙ ap (λ ls. locks_held book ls u) (tab_last i (slot_at d));
        })
      where
        now : List ℕ
        now = set counts t (get_or counts t 0 + 1)

        mine : (u : ℕ) → u ≡ t → get_or now u 0 ≡ get_or counts u 0 + 1
        mine u s = rw s (get_or-set_same counts t (get_or counts t 0 + 1) 0 (omega (arith, c.long, holder_counted)))

        other : (u : ℕ) → eqb u t ≡ false → get_or now u 0 ≡ get_or counts u 0
        other u s = get_or-set_other counts t u (get_or counts t 0 + 1) 0 (λ z. eqb-false u t s z)

        most : (u : ℕ) (b : Bool) → eqb u t ≡ b → get_or now u 0 ≤ i + 1
        most u true s = omega (arith, mine u (eqb-true u t s), c.most u)
        most u false s = omega (arith, other u s, c.most u)

        -- t holds the slot, and nobody else
        adds : (u : ℕ) (x : Option (Lock ℕ)) → 1 ≤ u → (b : Bool) → eqb u (holder_of x) ≡ b → one u x ≡ once b
        adds u none low true s = absurd (omega (arith, eqb-true u 0 s))
        adds u none low false s = refl
        adds u (some l) low true s = ap once (eq-eqb l.holder u (sym (eqb-true u l.holder s)))
        adds u (some l) low false s = go (eqb l.holder u) refl
          where
            go : (b : Bool) → eqb l.holder u ≡ b → once b ≡ 0
            go true z = absurd (eqb-false u l.holder s (sym (eqb-true l.holder u z)))
            go false z = refl

        holder : t ≡ holder_of (slot_at d i)
        holder = a ∙ ap holder_of e

        held : (u : ℕ) → 1 ≤ u → u ≤ transactions_most → (b : Bool) → eqb u t ≡ b → get_or now u 0 ≡ locks_held book (tab i 0 (slot_at d)) u + one u (slot_at d i)
        held u low high true s =
            let z : one u (slot_at d i) ≡ 1 = adds u (slot_at d i) low true (ap (eqb u) (sym holder) ∙ s) in
            omega (arith, mine u (eqb-true u t s), c.held u low high, z)
        held u low high false s =
            let z : one u (slot_at d i) ≡ 0 = adds u (slot_at d i) low false (ap (eqb u) (sym holder) ∙ s) in
            omega (arith, other u s, c.held u low high, z)
