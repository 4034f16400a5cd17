-- The order that is derived on keys is that of their numbers. Assumes nothing.
use Prim.Native.Nat.{ℕ}
use mathlib.Core.Path.{◌≡◌, ◌∙◌}
use mathlib.Core.Bool.{Bool}
use lib.Dec.{leb, ltb}
use borrow.Author.Rules.{rules}
use Rattle.std.specs.Ordering.{nat_cmp, is_le, is_lt}

le_is_leb : (a b : ℕ) → is_le (nat_cmp a b) ≡ leb a b
le_is_leb a b = search rules

lt_is_ltb : (a b : ℕ) → is_lt (nat_cmp a b) ≡ ltb a b
lt_is_ltb a b = search rules

pub at_most : (r : Bool) (a b : ℕ) → r ≡ is_le (nat_cmp a b) → r ≡ leb a b
at_most r a b e = e ∙ le_is_leb a b

pub below : (r : Bool) (a b : ℕ) → r ≡ is_lt (nat_cmp a b) → r ≡ ltb a b
below r a b e = e ∙ lt_is_ltb a b
