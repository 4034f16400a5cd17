-- Document 01, "Records and pages": what an insert of a missing key does to the tree, how many pages it needs, and what taking items out
-- leaves. Assumes nothing.
use Prim.Native.Nat.{ℕ, zero, suc, ◌+◌, Ordering}
use Rattle.std.specs.Prelude.{Bool, true, false, cond, not, ◌&&◌, List, [], ◌∷◌, ◌++◌, map, leb, eqb, length, take, drop}
use Rattle.std.proofs.Math.Option.{Option, none, some}
use Rattle.std.proofs.Math.Dec.{compare_is_eq}
use Rattle.lists.specs.Lists.{insert_before, all}
use Rattle.trees.specs.Trees.{Sizes, Page, Child, Tree, Index, at_most}

-- what becomes of a tree that an item was put into: itself, how many pages are used then, and the new tree beside it if it was divided
pub record Grown (K T : Type 0) : Type 0 where
  pub used : ℕ
  pub tree : T
  pub beside : Option (Child K T)

-- "A full leaf with one more (25): the lowest 13 stay, 12 move to a new page. Inner (31): 16 stay, 15 move." "New pages take the next
-- unused number." `low` gives the new separator of those that move, `first` what the new page makes of them; the test says whether they
-- all stay.
abbrev pub halves : {K C : Type 0} → Bool → ℕ → (List C → K) → (List C → List C) → ℕ → ℕ → List C → Grown K (Page C)
halves true stay low first used number xs = record { used = used; tree = record { number = number; holds = xs }; beside = none }
halves false stay low first used number xs =
    record {
      used = used + 1;
      tree = record { number = number; holds = take stay xs };
      beside = some (record { low = low (drop stay xs); tree = record { number = used; holds = first (drop stay xs) } });
    }

abbrev pub divided : {K C : Type 0} → ℕ → ℕ → (List C → K) → (List C → List C) → ℕ → ℕ → List C → Grown K (Page C)
divided most stay low first used number xs = halves (leb (length xs) most) stay low first used number xs

-- the children of an inner page, one of which has grown
pub record Row (K T : Type 0) : Type 0 where
  pub used : ℕ
  pub children : List (Child K T)

abbrev pub beside : {K T : Type 0} → Option (Child K T) → List (Child K T)
beside none = []
beside (some c) = c ∷ []

-- a tree that has grown, as children: itself with its separator, and the new tree beside it
abbrev pub parts : {K T : Type 0} → K → Grown K T → List (Child K T)
parts low g = record { low = low; tree = g.tree } ∷ beside g.beside

abbrev pub spliced : {K T : Type 0} → K → Grown K T → List (Child K T) → Row K T
spliced low g cs = record { used = g.used; children = parts low g ++ cs }

abbrev pub behind : {K T : Type 0} → Child K T → Row K T → Row K T
behind c r = record { used = r.used; children = c ∷ r.children }

-- "The new separator is the right page's lowest key; from an inner page it is the moved first separator."
abbrev pub low_key : {K C : Type 0} → (C → K) → K → List C → K
low_key key lowest [] = lowest
low_key key lowest (x ∷ xs) = key x

abbrev pub low_of : {K T : Type 0} → K → List (Child K T) → K
low_of lowest cs = low_key (λ c. c.low) lowest cs

-- "the first separator is 0"
abbrev pub from_lowest : {K T : Type 0} → K → List (Child K T) → List (Child K T)
from_lowest lowest [] = []
from_lowest lowest (c ∷ cs) = record { low = lowest; tree = c.tree } ∷ cs

module _ {K : Type 0} (compare : K → K → Ordering) where
  -- the place of the child that k belongs to: the last one whose separator is at most k, or the first
  unfoldable pub place : {T : Type 0} → K → List (Child K T) → ℕ
  place k [] = 0
  place k (c ∷ []) = 0
  place k (c ∷ d ∷ cs) = cond (at_most compare d.low k) (suc (place k (d ∷ cs))) 0

  -- that child, grown
  unfoldable pub widened : {T : Type 0} → K → (T → Grown K T) → ℕ → List (Child K T) → Row K T
  widened k f used [] = record { used = used; children = [] }
  widened k f used (c ∷ []) = spliced c.low (f c.tree) []
  widened k f used (c ∷ d ∷ cs) =
      cond (at_most compare d.low k) (behind c (widened k f used (d ∷ cs))) (spliced c.low (f c.tree) (d ∷ cs))

  -- what f says of that child
  unfoldable pub belongs : {T : Type 0} → K → (T → ℕ) → List (Child K T) → ℕ
  belongs k f [] = 0
  belongs k f (c ∷ []) = f c.tree
  belongs k f (c ∷ d ∷ cs) = cond (at_most compare d.low k) (belongs k f (d ∷ cs)) (f c.tree)

-- "insert of a missing key": no item has it
abbrev pub missing : {K A : Type 0} → (K → K → Ordering) → (A → K) → K → List A → Bool
missing compare key k xs = all (λ x. not (compare_is_eq (compare (key x) k))) xs

module _ {K A : Type 0} (compare : K → K → Ordering) (key : A → K) (lowest : K) (Z : Sizes) where
  -- the tree with an item put in; `used` pages are used before
  unfoldable pub grown : (n : ℕ) → A → ℕ → Tree K A n → Grown K (Tree K A n)
  grown zero a used t =
      divided Z.leaf_most Z.leaf_stay (low_key key lowest) (λ as'. as') used t.number
      (insert_before (λ x. at_most compare (key a) (key x)) a t.holds)
  grown (suc n) a used t =
      let r = widened compare (key a) (grown n a used) used t.holds in
      divided Z.inner_most Z.inner_stay (low_of lowest) (from_lowest lowest) r.used t.number r.children

  -- "leaf first, a new root last"
  unfoldable pub rooted : (n : ℕ) → Grown K (Tree K A n) → Option (Child K (Tree K A n)) → Index K A
  rooted n g none = record { level = n; used = g.used; tree = g.tree }
  rooted n g (some c) =
      record {
        level = suc n;
        used = g.used + 1;
        tree = record { number = g.used; holds = record { low = lowest; tree = g.tree } ∷ c ∷ [] };
      }

  unfoldable pub with_item : A → Index K A → Index K A
  with_item a x = let g = grown x.level a x.used x.tree in rooted x.level g g.beside

  -- "one for each full page in an unbroken run from the leaf upward"
  unfoldable pub full_run : (n : ℕ) → K → Tree K A n → ℕ
  full_run zero k t = cond (leb Z.leaf_most (length t.holds)) 1 0
  full_run (suc n) k t =
      let r = belongs compare k (full_run n k) t.holds in
      cond (eqb r (suc n) && leb Z.inner_most (length t.holds)) (suc r) r

  -- "and one more if the root is in it"
  unfoldable pub needed : K → Index K A → ℕ
  needed k x = let r = full_run x.level k x.tree in cond (eqb r (suc x.level)) (suc r) r

  -- "18 if used plus needed is over 64"
  unfoldable pub fits : K → Index K A → Bool
  fits k x = leb (x.used + needed k x) Z.pages

-- a child with its tree changed by f
abbrev pub with_tree : {K T U : Type 0} → (T → U) → Child K T → Child K U
with_tree f c = record { low = c.low; tree = f c.tree }

module _ (K A B : Type 0) where
  -- what f leaves of the items of each leaf: "Emptied leaves keep their page and range"
  unfoldable pub leaves : (List A → List B) → (n : ℕ) → Tree K A n → Tree K B n
  leaves f zero t = record { number = t.number; holds = f t.holds }
  leaves f (suc n) t = record { number = t.number; holds = map (with_tree (leaves f n)) t.holds }

  unfoldable pub in_leaves : (List A → List B) → Index K A → Index K B
  in_leaves f x = record { level = x.level; used = x.used; tree = leaves f x.level x.tree }
