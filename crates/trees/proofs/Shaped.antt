-- The shape: an insert into a tree of items, seen by its keys alone, is the insert of the key into the shape; and whether it fits
-- is seen by the shape. Each definition against map, by the definition's own recursion. Assumes nothing.
use Prim.Native.Nat.{ℕ, zero, suc, ◌+◌, Ordering}
use mathlib.Core.Path.{◌≡◌, refl, sym, ap, ap₂, fun_ext, ◌∙◌}
use mathlib.Core.Bool.{Bool, true, false, cond, ◌&&◌}
use mathlib.Core.List.{List, [], ◌∷◌, ◌++◌, map}
use mathlib.Core.Option
use mathlib.Core.Option.{Option, none, some}
use lib.Dec.{leb, eqb}
use lib.ListN.{length, drop, length-map}
use Rattle.lists.specs.Lists.{insert_before}
use Rattle.lists.proofs.Joins.{map_append, map_take, map_drop}
use Rattle.lists.proofs.Places.{map_insert_before}
use Rattle.trees.specs.Trees.{Sizes, Page, Child, Tree, Index, at_most}
use Rattle.trees.specs.Growth.{Grown, Row, halves, divided, beside, parts, spliced, behind, low_key, low_of, from_lowest, widened, belongs, grown, rooted, with_item, full_run, needed, fits, with_tree, leaves, in_leaves}
use Rattle.trees.specs.Shapes.{shaped, shape}

-- a page, a grown tree and a row with what they hold changed
abbrev page_to : {C D : Type 0} → (List C → List D) → Page C → Page D
page_to f p = record { number = p.number; holds = f p.holds }

abbrev grown_to : {K T U : Type 0} → (T → U) → Grown K T → Grown K U
grown_to h g = record { used = g.used; tree = h g.tree; beside = Option.map (with_tree h) g.beside }

abbrev row_to : {K T U : Type 0} → (T → U) → Row K T → Row K U
row_to h r = record { used = r.used; children = map (with_tree h) r.children }

low_key_map : {K C D : Type 0} (key : D → K) (lowest : K) (f : C → D) (xs : List C) → low_key key lowest (map f xs) ≡ low_key (λ x. key (f x)) lowest xs
low_key_map key lowest f [] = refl
low_key_map key lowest f (x ∷ xs) = refl

halves_map : {K C D : Type 0} (f : C → D) (stay : ℕ) (low : List C → K) (low' : List D → K) → ((xs : List C) → low' (map f xs) ≡ low xs)
    → (first : List C → List C) (first' : List D → List D) → ((xs : List C) → first' (map f xs) ≡ map f (first xs))
    → (most used number : ℕ) (xs : List C)
    → halves (leb (length (map f xs)) most) stay low' first' used number (map f xs)
    ≡ grown_to (page_to (map f)) (halves (leb (length xs) most) stay low first used number xs)
halves_map f stay low low' p first first' q most used number xs = rw (length-map xs f) (go (leb (length xs) most))
  where
    go : (b : Bool) → halves b stay low' first' used number (map f xs) ≡ grown_to (page_to (map f)) (halves b stay low first used number xs)
    go true = refl
    go false =
        let d = sym (map_drop f stay xs) in
        λ i. record {
          used = used + 1;
          tree = record { number = number; holds = sym (map_take f stay xs) i };
          beside = some (record {
            low = (ap low' d ∙ p (drop stay xs)) i;
            tree = record { number = used; holds = (ap first' d ∙ q (drop stay xs)) i };
          });
        }

module _ {K T U : Type 0} (compare : K → K → Ordering) (h : T → U) where
  parts_map : (low : K) (t : T) (o : Option (Child K T))
      → record { low = low; tree = h t } ∷ beside (Option.map (with_tree h) o) ≡ map (with_tree h) (record { low = low; tree = t } ∷ beside o)
  parts_map low t none = refl
  parts_map low t (some c) = refl

  spliced_map : (low : K) (g : Grown K T) (cs : List (Child K T)) → spliced low (grown_to h g) (map (with_tree h) cs) ≡ row_to h (spliced low g cs)
  spliced_map low g cs =
      ap (λ zs. record { used = g.used; children = zs })
      (ap (λ zs. zs ++ map (with_tree h) cs) (parts_map low g.tree g.beside) ∙ sym (map_append (with_tree h) (parts low g) cs))

  widened_map : (k : K) (f : T → Grown K T) (f' : U → Grown K U) → ((t : T) → f' (h t) ≡ grown_to h (f t)) → (used : ℕ) (cs : List (Child K T))
      → widened compare k f' used (map (with_tree h) cs) ≡ row_to h (widened compare k f used cs)
  unfolding widened
  widened_map k f f' same used [] = refl
  widened_map k f f' same used (c ∷ []) = ap (λ g. spliced c.low g []) (same c.tree) ∙ spliced_map c.low (f c.tree) []
  widened_map k f f' same used (c ∷ d ∷ cs) = go (at_most compare d.low k) (widened_map k f f' same used (d ∷ cs))
    where
      ds : List (Child K U)
      ds = map (with_tree h) (d ∷ cs)

      go : (b : Bool) → widened compare k f' used ds ≡ row_to h (widened compare k f used (d ∷ cs))
          → cond b (behind (with_tree h c) (widened compare k f' used ds)) (spliced c.low (f' (h c.tree)) ds)
          ≡ row_to h (cond b (behind c (widened compare k f used (d ∷ cs))) (spliced c.low (f c.tree) (d ∷ cs)))
      go true e = ap (behind (with_tree h c)) e
      go false e = ap (λ g. spliced c.low g ds) (same c.tree) ∙ spliced_map c.low (f c.tree) (d ∷ cs)

  belongs_map : (k : K) (f : U → ℕ) (cs : List (Child K T)) → belongs compare k f (map (with_tree h) cs) ≡ belongs compare k (λ t. f (h t)) cs
  unfolding belongs
  belongs_map k f [] = refl
  belongs_map k f (c ∷ []) = refl
  belongs_map k f (c ∷ d ∷ cs) = ap (λ m. cond (at_most compare d.low k) m (f (h c.tree))) (belongs_map k f (d ∷ cs))

module _ {K A : Type 0} (compare : K → K → Ordering) (key : A → K) (lowest : K) (Z : Sizes) where
  from_lowest_map : {T U : Type 0} (h : T → U) (cs : List (Child K T))
      → from_lowest lowest (map (with_tree h) cs) ≡ map (with_tree h) (from_lowest lowest cs)
  from_lowest_map h [] = refl
  from_lowest_map h (c ∷ cs) = refl

  grown_shape : (n : ℕ) (a : A) (used : ℕ) (t : Tree K A n)
      → grown compare (λ k. k) lowest Z n (key a) used (shaped key n t)
      ≡ grown_to (shaped key n) (grown compare key lowest Z n a used t)
  unfolding grown leaves
  grown_shape zero a used t =
      let xs = insert_before (λ x. at_most compare (key a) (key x)) a t.holds in
      ap (λ zs. divided Z.leaf_most Z.leaf_stay (low_key (λ k. k) lowest) (λ ks. ks) used t.number zs)
      (sym (map_insert_before (at_most compare (key a)) key a t.holds))
      ∙ halves_map key Z.leaf_stay (low_key key lowest) (low_key (λ k. k) lowest) (low_key_map (λ k. k) lowest key) (λ xs. xs) (λ ks. ks) (λ xs. refl)
      Z.leaf_most used t.number xs
  grown_shape (suc n) a used t =
      let h = shaped key n in
      let r = widened compare (key a) (grown compare key lowest Z n a used) used t.holds in
      ap (λ r. divided Z.inner_most Z.inner_stay (low_of lowest) (from_lowest lowest) r.used t.number r.children)
      (widened_map compare h (key a) (grown compare key lowest Z n a used) (grown compare (λ k. k) lowest Z n (key a) used)
      (grown_shape n a used) used t.holds)
      ∙ halves_map (with_tree h) Z.inner_stay (low_of lowest) (low_of lowest) (low_key_map (λ c. c.low) lowest (with_tree h))
      (from_lowest lowest) (from_lowest lowest) (from_lowest_map h) Z.inner_most r.used t.number r.children

  rooted_shape : (n : ℕ) (g : Grown K (Tree K A n)) (o : Option (Child K (Tree K A n)))
      → let h = shaped key n in
      rooted compare (λ k. k) lowest Z n (grown_to h g) (Option.map (with_tree h) o) ≡ shape key (rooted compare key lowest Z n g o)
  unfolding rooted shape in_leaves leaves
  rooted_shape n g none = refl
  rooted_shape n g (some c) = refl

  pub with_shape : (a : A) (x : Index K A)
      → shape key (with_item compare key lowest Z a x) ≡ with_item compare (λ k. k) lowest Z (key a) (shape key x)
  unfolding with_item shape in_leaves
  with_shape a x =
      let g = grown compare key lowest Z x.level a x.used x.tree in
      sym (ap (λ g. rooted compare (λ k. k) lowest Z x.level g g.beside) (grown_shape x.level a x.used x.tree)
      ∙ rooted_shape x.level g g.beside)

  run_shape : (n : ℕ) (k : K) (t : Tree K A n)
      → full_run compare (λ k. k) lowest Z n k (shaped key n t) ≡ full_run compare key lowest Z n k t
  unfolding full_run leaves
  run_shape zero k t = rw (length-map t.holds key)
  run_shape (suc n) k t =
      let h = shaped key n in
      ap₂ (λ r m. cond (eqb r (suc n) && leb Z.inner_most m) (suc r) r)
      (belongs_map compare h k (full_run compare (λ k. k) lowest Z n k) t.holds
      ∙ ap (λ f. belongs compare k f t.holds) (fun_ext (run_shape n k)))
      (length-map t.holds (with_tree h))

  pub needed_shape : (k : K) (x : Index K A) → needed compare (λ k. k) lowest Z k (shape key x) ≡ needed compare key lowest Z k x
  unfolding needed shape in_leaves
  needed_shape k x = ap (λ r. cond (eqb r (suc x.level)) (suc r) r) (run_shape x.level k x.tree)

  pub fits_shape : (k : K) (x : Index K A) → fits compare (λ k. k) lowest Z k (shape key x) ≡ fits compare key lowest Z k x
  unfolding fits shape in_leaves
  fits_shape k x = ap (λ m. leb (x.used + m) Z.pages) (needed_shape k x)
