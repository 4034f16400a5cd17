-- Where a key belongs among the children of a page: those before, the child itself, those after; what place, widened and belongs say of
-- it, and that the key lies in its range. By induction on the children. Assumes nothing.
use Prim.Native.Nat.{ℕ, suc, Ordering}
use mathlib.Core.Path.{◌≡◌, refl, sym, ap, subst}
use mathlib.Core.Bool.{Bool, true, false, not}
use mathlib.Core.List.{List, [], ◌∷◌, ◌++◌}
use mathlib.Core.Option.{Option, some}
use lib.ListN.{length}
use Rattle.trees.specs.Trees.{Child, at_most, inside}
use Rattle.trees.specs.Growth.{Grown, Row, parts, low_of, place, widened, belongs}

-- where the range of a child begins and ends, if it stands between these in a page whose range is lo to hi
abbrev pub start_of : {K T : Type 0} → K → List (Child K T) → Child K T → K
start_of lo [] c = lo
start_of lo (b ∷ bs) c = c.low

abbrev pub end_of : {K T : Type 0} → Option K → List (Child K T) → Option K
end_of hi [] = hi
end_of hi (d ∷ ds) = some d.low

module _ {K T : Type 0} (compare : K → K → Ordering) where
  -- of the children cs, k belongs to this child, which stands between these
  pub record Lies (k : K) (cs before : List (Child K T)) (child : Child K T) (after : List (Child K T)) : Type 0 where
    pub at : place compare k cs ≡ length before
    pub says : (f : T → ℕ) → belongs compare k f cs ≡ f child.tree
    pub grows : (f : T → Grown K T) (used : ℕ) → widened compare k f used cs
        ≡ record { used = (f child.tree).used; children = before ++ (parts child.low (f child.tree) ++ after) }
    pub from : (lo : K) → at_most compare lo k ≡ true → at_most compare (start_of lo before child) k ≡ true
    pub reached : (lo : K) → at_most compare (low_of lo cs) k ≡ true → at_most compare child.low k ≡ true
    pub upto : (hi : Option K) → inside compare k hi ≡ true → inside compare k (end_of hi after) ≡ true

  record Spot (k : K) (cs : List (Child K T)) : Type 0 where
    before : List (Child K T)
    child : Child K T
    after : List (Child K T)
    whole : cs ≡ before ++ child ∷ after
    lies : Lies k cs before child after

  spot : (k : K) (c : Child K T) (cs : List (Child K T)) → Spot k (c ∷ cs)
  unfolding place widened belongs
  spot k c [] =
      record {
        before = [];
        child = c;
        after = [];
        whole = refl;
        lies = record { at = refl; says = λ f. refl; grows = λ f used. refl; from = λ lo h. h; reached = λ lo h. h; upto = λ hi h. h };
      }
  spot k c (d ∷ cs) = go (at_most compare d.low k) refl (spot k d cs)
    where
      go : (b : Bool) → at_most compare d.low k ≡ b → Spot k (d ∷ cs) → Spot k (c ∷ d ∷ cs)
      go true e s =
          let l = s.lies in
          record {
            before = c ∷ s.before;
            child = s.child;
            after = s.after;
            whole = ap (λ zs. c ∷ zs) s.whole;
            lies = record {
              at = rw e (ap suc l.at);
              says = λ f. rw e (l.says f);
              grows = λ f used. rw e (ap (λ r. record { used = r.used; children = c ∷ r.children }) (l.grows f used));
              from = λ lo h. l.reached lo e;
              reached = λ lo h. l.reached lo e;
              upto = l.upto;
            };
          }
      go false e s =
          record {
            before = [];
            child = c;
            after = d ∷ cs;
            whole = refl;
            lies = record {
              at = rw e refl;
              says = λ f. rw e refl;
              grows = λ f used. rw e refl;
              from = λ lo h. h;
              reached = λ lo h. h;
              upto = λ hi h. ap not e;
            };
          }

  -- what holds of no children, and of children wherever k belongs, holds of all children
  pub at_spot : (k : K) (P : List (Child K T) → Type 0) → P []
      → ((b : List (Child K T)) (c : Child K T) (a : List (Child K T)) → Lies k (b ++ c ∷ a) b c a → P (b ++ c ∷ a))
      → (cs : List (Child K T)) → P cs
  at_spot k P e f [] = e
  at_spot k P e f (c ∷ cs) =
      let s = spot k c cs in
      subst P (sym s.whole)
      (f s.before s.child s.after (subst (λ zs. Lies k zs s.before s.child s.after) s.whole s.lies))

  -- the same with the row that is left when that child has grown
  pub widen : (k : K) (f : T → Grown K T) (used : ℕ) (P : List (Child K T) → Row K T → Type 0)
      → P [] (record { used = used; children = [] })
      → ((b : List (Child K T)) (c : Child K T) (a : List (Child K T)) → Lies k (b ++ c ∷ a) b c a
      → P (b ++ c ∷ a) (record { used = (f c.tree).used; children = b ++ (parts c.low (f c.tree) ++ a) }))
      → (cs : List (Child K T)) → P cs (widened compare k f used cs)
  unfolding widened
  widen k f used P e g cs =
      at_spot k (λ zs. P zs (widened compare k f used zs)) e
      (λ b c a l. subst (P (b ++ c ∷ a)) (sym (l.grows f used)) (g b c a l)) cs
