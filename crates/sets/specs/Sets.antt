-- Sets of small numbers, a bit for each: in a word those below 64, in a Set those below 128.
-- Assumes nothing.
use Rattle.std.specs.Prelude.{ℕ, ◌-◌, ◌/◌, ◌%◌, ◌^◌, Bool, cond, eqb, ltb}
use Rattle.std.specs.Int.Bits.{bit_or}
use Rattle.sets.specs.declared.Set.{Set}

-- whether n is in a word
unfoldable pub word_has : ℕ → ℕ → Bool
word_has m n = eqb (m / 2 ^ n % 2) 1

-- a word with n in it
unfoldable pub word_with : ℕ → ℕ → ℕ
word_with m n = bit_or m (2 ^ n)

-- the set with nothing in it
abbrev pub empty : Set
empty = record { low = 0; high = 0 }

-- whether n is in a set
unfoldable pub has : Set → ℕ → Bool
has s n = cond (ltb n 64) (word_has s.low n) (word_has s.high (n - 64))

-- a set with n in it
unfoldable pub with_one : Set → ℕ → Set
with_one s n =
    cond (ltb n 64) (record { low = word_with s.low n; high = s.high }) (record { low = s.low; high = word_with s.high (n - 64) })
