-- What the doors learn of a buffer before they use the index: that it is whole, and that a key is missing. Assumes nothing.
use Prim.Native.Nat.{ℕ, compare}
use Rattle.std.specs.Prelude.{◌≡◌, Bool, true, false, List}
use Rattle.trees.specs.Growth.{missing}
use Rattle.index.specs.Pictures.{key_of, entries_in, WholePages}

pub record Held (s : List ℕ) (r : Bool) : Type 0 where
  pub whole : r ≡ true → WholePages s

pub record Sees (s : List ℕ) (k : ℕ) (r : Bool) : Type 0 where
  pub absent : r ≡ false → missing compare key_of k (entries_in s) ≡ true
