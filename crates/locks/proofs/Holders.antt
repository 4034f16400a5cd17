-- Who holds a name against a request, slot by slot: the rule book's `holders` by the test of a slot.
-- By induction on the slots. Assumes nothing.
use Prim.Native.Nat.{ℕ}
use mathlib.Core.Path.{◌≡◌, refl, ap, ◌∙◌}
use mathlib.Core.Bool.{Bool, true, false, cond, not, ◌&&◌, ◌||◌}
use mathlib.Core.List.{List, [], ◌∷◌, map}
use mathlib.Core.Option.{Option, none, some}
use lib.Dec.{eqb}
use Rattle.lists.specs.Lists.{any, keep, is_nil}
use Rattle.rules.specs.Kinds.{Paging, Lock}
use Rattle.rules.specs.Locks.{Slots, Want, in_use, conflict, same_name, holders}
use Rattle.rules.specs.Document.{document}
use Rattle.locks.specs.SlotMoves.{is_slot_against}
use Rattle.locks.proofs.LockValues.{names_any}

abbrev pub holder_of : Option (Lock ℕ) → ℕ
holder_of none = 0
holder_of (some l) = l.holder

module _ (P : Paging ℕ) (t : ℕ) (w : Want (document P)) where
  pub holders_next : (x : Option (Lock ℕ)) (ls : Slots (document P))
      → holders (document P) (x ∷ ls) t w
      ≡ cond (is_slot_against t w.name w.mode x) (holder_of x ∷ holders (document P) ls t w) (holders (document P) ls t w)
  unfolding holders in_use keep
  holders_next none ls = refl
  holders_next (some l) ls =
      ap (λ b. map (λ k. k.holder) (cond (not (eqb l.holder t) && (b && conflict l.mode w.mode)) (l ∷ rest) rest)) (names_any P l.name w.name)
      ∙ go (is_slot_against t w.name w.mode (some l))
    where
      rest : List (Lock ℕ)
      rest = keep (λ l. not (eqb l.holder t) && (same_name (document P) l.name w.name && conflict l.mode w.mode)) (in_use ls)

      go : (b : Bool) → map (λ k. k.holder) (cond b (l ∷ rest) rest) ≡ cond b (l.holder ∷ map (λ k. k.holder) rest) (map (λ k. k.holder) rest)
      go true = refl
      go false = refl

  pub holders_none : (ls : Slots (document P)) → is_nil (holders (document P) ls t w) ≡ not (any (is_slot_against t w.name w.mode) ls)
  unfolding any holders in_use keep
  holders_none [] = refl
  holders_none (x ∷ ls) = ap is_nil (holders_next x ls) ∙ go (is_slot_against t w.name w.mode x) (holders_none ls)
    where
      go : (b : Bool) → is_nil (holders (document P) ls t w) ≡ not (any (is_slot_against t w.name w.mode) ls)
          → is_nil (cond b (holder_of x ∷ holders (document P) ls t w) (holders (document P) ls t w)) ≡ not (b || any (is_slot_against t w.name w.mode) ls)
      go true r = refl
      go false r = r
