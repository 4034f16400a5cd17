-- A scan of the lock table, slot by slot: the first slot to pass a test, of those seen and one more, is the first of those seen, unless
-- there is none. Assumes nothing.
use Prim.Native.Nat.{ℕ, ◌+◌}
use mathlib.Core.Path.{◌≡◌, refl, sym, ap, ap₂, ◌∙◌}
use mathlib.Core.Bool.{Bool}
use Rattle.lists.specs.Lists.{place, tab}
use Rattle.lists.proofs.Tables.{tab_last, length_tab}
use Rattle.lists.proofs.Scans.{place_last}
use Rattle.waits.specs.Slots.{first_to}

module _ {A : Type 0} (p : A → Bool) where
  pub place_to : (f : ℕ → A) (i k : ℕ) (b : Bool) → b ≡ p (f i) → k ≡ place p (tab i 0 f) → first_to k i b ≡ place p (tab (i + 1) 0 f)
  place_to f i k b h e =
      ap₂ (λ j c. first_to j i c) e h
      ∙ sym (ap (place p) (sym (tab_last i f)) ∙ place_last p (tab i 0 f) (f i) ∙ ap (λ n. first_to (place p (tab i 0 f)) n (p (f i))) (length_tab i 0 f))

  pub place_start : (f : ℕ → A) → 0 ≡ place p (tab 0 0 f)
  unfolding place tab
  place_start f = refl
