-- What the changes of the index make of it: the page buffer is whole again and is that of the index named. Assumes nothing.
use Prim.Native.Nat.{ℕ, compare}
use Rattle.std.specs.Prelude.{◌≡◌, Bool, cond, List, [], ◌∷◌, map, eqb}
use Rattle.lists.specs.Lists.{join}
use Rattle.rules.specs.Entries.{left, settled}
use Rattle.trees.specs.Trees.{Index, document_sizes}
use Rattle.trees.specs.Growth.{with_item, fits, in_leaves}
use Rattle.pages.specs.PageChanges.{end_of}
use Rattle.index.specs.Pictures.{Item, key_of, index_of, WholePages}

-- an entry, or the one that is put in its place if it has the same key
abbrev pub put_over : Item → Item → Item
put_over e y = cond (eqb y.key e.key) e y

-- what is left of the entry of key k when t has ended; the others stay
abbrev pub left_at : Bool → ℕ → ℕ → Item → List Item
left_at commits t k e = cond (eqb e.key k) (left (end_of commits) t e) (e ∷ [])

unfoldable pub key_settled : Bool → ℕ → ℕ → List Item → List Item
key_settled commits t k es = join (left_at commits t k) es

-- the index with an entry put in; with the entry of its key put in the place of the one there; with one transaction's entries settled, and
-- with its entry of one key alone
unfoldable pub with_entry : Item → Index ℕ Item → Index ℕ Item
with_entry e x = with_item compare key_of 0 document_sizes e x

unfoldable pub entry_fits : ℕ → Index ℕ Item → Bool
entry_fits k x = fits compare key_of 0 document_sizes k x

unfoldable pub replaced : Item → Index ℕ Item → Index ℕ Item
replaced e x = in_leaves ℕ Item Item (map (λ (y : Item). put_over e y)) x

unfoldable pub settled_in : Bool → ℕ → Index ℕ Item → Index ℕ Item
settled_in commits t x = in_leaves ℕ Item Item (settled (end_of commits) t) x

unfoldable pub settled_at : Bool → ℕ → ℕ → Index ℕ Item → Index ℕ Item
settled_at commits t k x = in_leaves ℕ Item Item (key_settled commits t k) x

pub record Becomes (p : List ℕ) (x : Index ℕ Item) : Type 0 where
  pub whole : WholePages p
  pub index : index_of p ≡ x

-- an insert of a missing key: done if it fits; where it doesn't, nothing has changed
pub record Added (p p' : List ℕ) (e : Item) (r : Bool) : Type 0 where
  pub fit : r ≡ entry_fits e.key (index_of p)
  pub becomes : Becomes p' (cond r (with_entry e (index_of p)) (index_of p))
