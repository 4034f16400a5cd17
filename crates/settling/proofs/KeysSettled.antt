-- What settling one key leaves for the end of its transaction: settling all then gives the same as before, and where the transaction owns
-- nothing more, all is settled. A settled entry has no owner, so settling again leaves it. Assumes nothing.
use Prim.Native.Nat.{ℕ, ◌≤◌}
use mathlib.Core.Path.{◌≡◌, refl, ap, ap₂, subst, fun_ext, ◌∙◌}
use mathlib.Core.Logic.{◌≢◌, inl, inr, ⊎_elim}
use mathlib.Core.Bool.{Bool, true, false, cond}
use mathlib.Core.List.{List, [], ◌∷◌, ◌++◌, append-nil}
use native.Mathlib.Omega.{arith}
use lib.Dec.{eqb}
use borrow.Author.Tests.{eqb-false, ne_eqb}
use Rattle.lists.specs.Lists.{In, join}
use Rattle.lists.proofs.Elements.{append_in}
use Rattle.lists.proofs.Joins.{join_append}
use Rattle.rules.specs.Entries.{present, left, settled}
use Rattle.pages.specs.PageChanges.{end_of}
use Rattle.trees.specs.Trees.{Index, flat}
use Rattle.trees.specs.Growth.{leaves, in_leaves}
use Rattle.trees.proofs.ShapeSettling.{leaves_twice, leaves_none}
use Rattle.trees.proofs.Thinning.{flat_leaves}
use Rattle.index.specs.Pictures.{Item, index_of, entries_in}
use Rattle.index.specs.Changes.{left_at, key_settled, settled_in, settled_at, Becomes}

module _ (commits : Bool) (t : ℕ) (some : 1 ≤ t) where
  abbrev ends : Item → Item
  ends e = end_of commits e

  nobodys : (e : Item) → (ends e).owner ≡ 0
  nobodys e = go commits
    where
      go : (b : Bool) → (end_of b e).owner ≡ 0
      go true = refl
      go false = refl

  -- ---- another's entry stays
  anothers : (e : Item) → e.owner ≢ t → left ends t e ≡ e ∷ []
  unfolding left
  anothers e h = ap (λ b. cond b (cond (present (ends e)) (ends e ∷ []) []) (e ∷ [])) (ne_eqb e.owner t h)

  -- ---- settled once more, it is as it was
  module _ (k : ℕ) where
    again : (e : Item) → settled ends t (left_at commits t k e) ≡ left ends t e
    unfolding settled left join
    again e = go (eqb e.key k)
      where
        own : (c : Bool) → eqb e.owner t ≡ c → (d : Bool)
            → settled ends t (cond c (cond d (ends e ∷ []) []) (e ∷ [])) ≡ cond c (cond d (ends e ∷ []) []) (e ∷ [])
        own true h true = ap (λ es. es ++ []) (anothers (ends e) (λ i. omega (arith, nobodys e)))
        own true h false = refl
        own false h d = ap (λ es. es ++ []) (anothers e (eqb-false e.owner t h))

        go : (b : Bool) → settled ends t (cond b (left ends t e) (e ∷ [])) ≡ left ends t e
        go true = own (eqb e.owner t) refl (present (ends e))
        go false = append-nil (left ends t e)

    all_again : (es : List Item) → settled ends t (key_settled commits t k es) ≡ settled ends t es
    unfolding settled key_settled join
    all_again [] = refl
    all_again (e ∷ es) = join_append (left ends t) (left_at commits t k e) (key_settled commits t k es) ∙ ap₂ ◌++◌ (again e) (all_again es)

    pub settled_after : (x : Index ℕ Item) → settled_in commits t (settled_at commits t k x) ≡ settled_in commits t x
    unfolding settled_in settled_at in_leaves
    settled_after x =
        ap (λ u. record { level = x.level; used = x.used; tree = u })
        (leaves_twice ℕ (settled ends t) (key_settled commits t k) x.level x.tree
        ∙ ap (λ g. leaves ℕ Item Item g x.level x.tree) (fun_ext all_again))

    -- ---- what t still owns is not of this key
    owned_left : (e y : Item) → In e (left_at commits t k y) → e.owner ≡ t → (y ≡ e) × (e.key ≢ k)
    unfolding left
    owned_left e y i o = go (eqb y.key k) refl (eqb y.owner t) refl (present (ends y)) i
      where
        go : (b : Bool) → eqb y.key k ≡ b → (c : Bool) → eqb y.owner t ≡ c → (d : Bool)
            → In e (cond b (cond c (cond d (ends y ∷ []) []) (y ∷ [])) (y ∷ [])) → (y ≡ e) × (e.key ≢ k)
        go true h true g true (inl q) = absurd (omega (arith, nobodys y, ap (λ (x : Item). x.owner) q))
        go true h true g true (inr q) = absurd q
        go true h true g false q = absurd q
        go true h false g d (inl q) = absurd (eqb-false y.owner t g (ap (λ (x : Item). x.owner) q ∙ o))
        go true h false g d (inr q) = absurd q
        go false h c g d (inl q) = (q, λ z. eqb-false y.key k h (ap (λ (x : Item). x.key) q ∙ z))
        go false h c g d (inr q) = absurd q

    owned_in : (e : Item) (es : List Item) → In e (key_settled commits t k es) → e.owner ≡ t → In e es × (e.key ≢ k)
    unfolding key_settled join
    owned_in e [] i o = absurd i
    owned_in e (y ∷ ys) i o =
        ⊎_elim (λ j. let w = owned_left e y j o in (inl w.0, w.1)) (λ j. let w = owned_in e ys j o in (inr w.0, w.1))
        (append_in (left_at commits t k y) (key_settled commits t k ys) e i)

    entries_after : (s s' : List ℕ) → Becomes s' (settled_at commits t k (index_of s)) → entries_in s' ≡ key_settled commits t k (entries_in s)
    unfolding entries_in settled_at in_leaves key_settled join
    entries_after s s' b =
        ap (λ (x : Index ℕ Item). flat ℕ Item x.level x.tree) b.index
        ∙ flat_leaves ℕ (key_settled commits t k) refl (join_append (left_at commits t k)) (index_of s).level (index_of s).tree

    pub owned_still : (s s' : List ℕ) → Becomes s' (settled_at commits t k (index_of s)) → (e : Item) → In e (entries_in s') → e.owner ≡ t
        → In e (entries_in s) × (e.key ≢ k)
    owned_still s s' b e i o = owned_in e (entries_in s) (subst (In e) (entries_after s s' b) i) o

  -- ---- and where t owns nothing, all is settled
  pub settled_none : (s : List ℕ) → ((e : Item) → In e (entries_in s) → e.owner ≢ t) → settled_in commits t (index_of s) ≡ index_of s
  unfolding settled_in entries_in settled join
  settled_none s h =
      leaves_none ℕ Item (settled ends t) refl (join_append (left ends t)) (index_of s) (λ e i. ap (λ es. es ++ []) (anothers e (h e i)))
