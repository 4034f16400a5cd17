-- Document 01, "Records and pages": the index as a tree of pages. A tree of level 0 is a leaf; one of a higher level is an inner page
-- whose children are trees of the level below. Everything is said of any items with a key, any ordered keys and any page sizes.
-- Assumes nothing.
use Prim.Native.Nat.{ℕ, zero, suc, ◌+◌, ◌≤◌, Ordering}
use Rattle.std.specs.Prelude.{◌≡◌, Bool, true, cond, not, ◌&&◌, List, [], ◌∷◌, leb, eqb, length}
use Rattle.std.proofs.Math.Option.{Option, none, some}
use Rattle.std.proofs.Math.Dec.{is_le, compare_is_eq}
use Rattle.limits.specs.Limits as L
use Rattle.lists.specs.Lists.{all, pairs, join}

-- How much a leaf and an inner page hold, and how much of one more stays when it is divided; how few children an inner page other than the
-- root has; how many pages there are.
pub record Sizes : Type 0 where
  pub leaf_most : ℕ
  pub leaf_stay : ℕ
  pub inner_most : ℕ
  pub inner_stay : ℕ
  pub fewest : ℕ
  pub pages : ℕ

abbrev pub document_sizes : Sizes
document_sizes =
    record {
      leaf_most = L.leaf_most;
      leaf_stay = L.leaf_stay;
      inner_most = L.inner_most;
      inner_stay = L.inner_stay;
      fewest = L.inner_fewest;
      pages = L.pages_most;
    }

-- a page by its number, with what it holds: entries, or children
pub record Page (C : Type 0) : Type 0 where
  pub number : ℕ
  pub holds : List C

-- a child with its separator
pub record Child (K T : Type 0) : Type 0 where
  pub low : K
  pub tree : T

abbrev pub Tree : Type 0 → Type 0 → ℕ → Type 0
Tree K A zero = Page A
Tree K A (suc n) = Page (Child K (Tree K A n))

-- the index: the root with its level, and how many pages are used
pub record Index (K A : Type 0) : Type 0 where
  pub level : ℕ
  pub used : ℕ
  pub tree : Tree K A level

-- the sum of what f gives of the elements
unfoldable pub summed : {A : Type 0} → (A → ℕ) → List A → ℕ
summed f [] = 0
summed f (x ∷ xs) = f x + summed f xs

-- 1 for page p itself
abbrev pub is_page : ℕ → ℕ → ℕ
is_page q p = cond (eqb q p) 1 0

-- 1 for every page from u on: the pages that are not used, if u is how many are
abbrev pub above : ℕ → ℕ → ℕ
above u q = cond (leb u q) 1 0

module _ (K A : Type 0) where
  -- the items in order
  unfoldable pub flat : (n : ℕ) → Tree K A n → List A
  flat zero t = t.holds
  flat (suc n) t = join (λ c. flat n c.tree) t.holds

  -- how often page q stands in a tree
  unfoldable pub times : (n : ℕ) → ℕ → Tree K A n → ℕ
  times zero q t = is_page q t.number
  times (suc n) q t = is_page q t.number + summed (λ c. times n q c.tree) t.holds

  -- "a tree of pages 1 to used-1, each reached once": page q stands in the tree as often as it lies from 1 to used - 1
  pub record EachOnce (x : Index K A) : Type 0 where
    pub once : (q : ℕ) → times x.level q x.tree + above x.used q ≡ above 1 q

  -- "root with 2 to 30 children or a leaf, other inner pages with 15 to 30"; a leaf has at most 24 entries
  unfoldable pub counted : Sizes → ℕ → (n : ℕ) → Tree K A n → Bool
  counted Z least zero t = leb (length t.holds) Z.leaf_most
  counted Z least (suc n) t =
      (leb least (length t.holds) && leb (length t.holds) Z.inner_most)
      && all (λ c. counted Z Z.fewest n c.tree) t.holds

module _ {K : Type 0} (compare : K → K → Ordering) where
  abbrev pub at_most : K → K → Bool
  at_most a b = is_le (compare a b)

  abbrev pub under : K → K → Bool
  under a b = not (at_most b a)

  -- the upper end of a range: below a key, or no end
  abbrev pub inside : K → Option K → Bool
  inside k none = true
  inside k (some hi) = under k hi

  -- "A child holds keys at or above its separator and below the next": f of the children's ranges. The first child's range begins where
  -- the page's own does; "(a separator above its low end)"
  unfoldable pub ranges : {T : Type 0} → (K → Option K → T → Bool) → K → Option K → List (Child K T) → Bool
  ranges f lo hi [] = true
  ranges f lo hi (c ∷ []) = f lo hi c.tree
  ranges f lo hi (c ∷ d ∷ cs) = (f lo (some d.low) c.tree && (under lo d.low && inside d.low hi)) && ranges f d.low hi (d ∷ cs)

  -- "the first separator is 0", in every inner page
  abbrev pub first_low : {T : Type 0} → K → List (Child K T) → Bool
  first_low lowest [] = true
  first_low lowest (c ∷ cs) = compare_is_eq (compare c.low lowest)

module _ {K A : Type 0} (compare : K → K → Ordering) (key : A → K) where
  -- "keys, and separators after a page's first, strictly ascending and in that page's range"
  unfoldable pub ranged : K → (n : ℕ) → K → Option K → Tree K A n → Bool
  ranged lowest zero lo hi t =
      all (λ a. at_most compare lo (key a) && inside compare (key a) hi) t.holds && pairs (λ a b. under compare (key a) (key b)) t.holds
  ranged lowest (suc n) lo hi t = first_low compare lowest t.holds && ranges compare (ranged lowest n) lo hi t.holds

  -- the tree's part of "Whole": what document 01 asks of the pages of an index. `top` is the end where the end is a key's value: "none of
  -- them the end".
  pub record WholeIndex (lowest : K) (top : Option K) (Z : Sizes) (x : Index K A) : Type 0 where
    pub pages : EachOnce K A x
    pub counts : counted K A Z 2 x.level x.tree ≡ true
    pub keys : ranged lowest x.level lowest top x.tree ≡ true
    pub room : x.used ≤ Z.pages

-- What the sizes have to be for a divided page to be whole on both sides, and for a fresh index to fit.
pub record Fair (Z : Sizes) : Type 0 where
  pub leaf_some : 1 ≤ Z.leaf_stay
  pub leaf_left : Z.leaf_stay ≤ Z.leaf_most
  pub inner_enough : Z.fewest ≤ Z.inner_stay
  pub inner_moved : Z.inner_stay + Z.fewest ≤ suc Z.inner_most
  pub fewest_some : 2 ≤ Z.fewest
  pub fresh : 2 ≤ Z.pages
