-- The entry of a key exchanged for another, or not. Assumes nothing.
use Rattle.std.specs.Prelude.{ℕ, ◌≡◌, Bool, true, false, List}
use Rattle.index.specs.Pictures.{Item, index_of}
use Rattle.index.specs.Changes.{replaced, Becomes}

-- x stands in the place of the entry of its key, if b says so; otherwise nothing has changed
pub record Exchanged (p p' : List ℕ) (b : Bool) (x : Item) : Type 0 where
  pub changed : b ≡ true → Becomes p' (replaced x (index_of p))
  pub kept : b ≡ false → p' ≡ p
