-- The child that a key belongs to, by its place: how the code finds it, what is asked of it, and the row when it has grown, with the new
-- child one place behind. From where the key belongs. Assumes nothing.
use Prim.Native.Nat.{ℕ, ◌+◌, ◌≤◌, Ordering}
use mathlib.Core.Path.{◌≡◌, sym, ap, ◌∙◌}
use mathlib.Core.List.{List, ◌∷◌, ◌++◌}
use mathlib.Core.Option.{Option, none, some}
use native.Mathlib.Omega.{arith}
use lib.ListN.{length, get_or, set}
use lib.Seq.{get_or-append_seam, set-append_seam}
use Rattle.lists.specs.Lists.{insert_at}
use Rattle.lists.proofs.Places.{insert_at_behind}
use Rattle.trees.specs.Trees.{Child}
use Rattle.trees.specs.Growth.{Grown, Row, beside, place, belongs, widened}
use Rattle.trees.proofs.Spots.{Lies, at_spot, widen}

-- the children when the one at place i is grown
abbrev pub grown_at : {K T : Type 0} → ℕ → Child K T → T → Option (Child K T) → List (Child K T) → List (Child K T)
grown_at i c t none cs = set cs i (record { low = c.low; tree = t })
grown_at i c t (some d) cs = insert_at (i + 1) d (set cs i (record { low = c.low; tree = t }))

module _ {K T : Type 0} (compare : K → K → Ordering) (k : K) where
  -- with any child to stand for a missing one
  module _ (none-such : Child K T) where
    own : (b : List (Child K T)) (c : Child K T) (a : List (Child K T)) → Lies compare k (b ++ c ∷ a) b c a
        → get_or (b ++ c ∷ a) (place compare k (b ++ c ∷ a)) none-such ≡ c
    own b c a l = ap (λ i. get_or (b ++ c ∷ a) i none-such) l.at ∙ get_or-append_seam b c a none-such

    pub belongs_at : (f : T → ℕ) (cs : List (Child K T)) → 1 ≤ length cs
        → belongs compare k f cs ≡ f (get_or cs (place compare k cs) none-such).tree
    belongs_at f =
        at_spot compare k (λ cs. 1 ≤ length cs → belongs compare k f cs ≡ f (get_or cs (place compare k cs) none-such).tree)
        (λ h. absurd (omega arith)) (λ b c a l h. l.says f ∙ ap (λ x. f x.tree) (sym (own b c a l)))

    pub widened_at : (f : T → Grown K T) (used : ℕ) (cs : List (Child K T)) → 1 ≤ length cs
        → let c = get_or cs (place compare k cs) none-such in
        widened compare k f used cs
        ≡ record { used = (f c.tree).used; children = grown_at (place compare k cs) c (f c.tree).tree (f c.tree).beside cs }
    widened_at f used =
        widen compare k f used
        (λ cs r. 1 ≤ length cs → r ≡ row cs (place compare k cs) (get_or cs (place compare k cs) none-such))
        (λ h. absurd (omega arith))
        (λ b c a l h. ap (λ zs. record { used = (f c.tree).used; children = zs }) (go b c a (f c.tree).tree (f c.tree).beside)
        ∙ ap (λ i. row (b ++ c ∷ a) i c) (sym l.at) ∙ ap (row (b ++ c ∷ a) (place compare k (b ++ c ∷ a))) (sym (own b c a l)))
      where
        row : List (Child K T) → ℕ → Child K T → Row K T
        row cs i c = record { used = (f c.tree).used; children = grown_at i c (f c.tree).tree (f c.tree).beside cs }

        go : (b : List (Child K T)) (c : Child K T) (a : List (Child K T)) (t : T) (o : Option (Child K T))
            → b ++ (record { low = c.low; tree = t } ∷ (beside o ++ a)) ≡ grown_at (length b) c t o (b ++ c ∷ a)
        go b c a t none = sym (set-append_seam b c a (record { low = c.low; tree = t }))
        go b c a t (some d) =
            sym (ap (insert_at (length b + 1) d) (set-append_seam b c a (record { low = c.low; tree = t }))
            ∙ insert_at_behind d (record { low = c.low; tree = t }) b a)
