-- Little-endian numbers in a list of bytes, records as rows of such numbers, tables of records, a part of a buffer, moved bytes.
-- Everything is said once over the width; a record is a list of widths, its fillers among them. (Document 01, "Records and pages".)
-- Assumes nothing.
use Rattle.std.specs.Prelude.{ℕ, zero, suc, ◌+◌, ◌-◌, ◌*◌, ◌/◌, ◌%◌, ◌^◌, ◌<◌, Bool, List, [], ◌∷◌, ◌++◌, eqb, length, get_or, set, take, drop, replicate}
use Rattle.lists.specs.Lists.{tab, all}

-- the number of w bytes at a place, the lowest byte first
unfoldable pub number_at : ℕ → List ℕ → ℕ → ℕ
number_at zero s at = 0
number_at (suc w) s at = get_or s at 0 + 256 * number_at w s (at + 1)

-- the bytes with a number of w bytes written at a place
unfoldable pub put_number : ℕ → List ℕ → ℕ → ℕ → List ℕ
put_number zero s at v = s
put_number (suc w) s at v = put_number w (set s at (v % 256)) (at + 1) (v / 256)

-- how many bytes a record of these widths takes
unfoldable pub width_of : List ℕ → ℕ
width_of [] = 0
width_of (w ∷ ws) = w + width_of ws

-- the fields of the record of these widths at a place
unfoldable pub fields_at : List ℕ → List ℕ → ℕ → List ℕ
fields_at [] s at = []
fields_at (w ∷ ws) s at = number_at w s at ∷ fields_at ws s (at + w)

-- the bytes with such a record written at a place; a field that is not given is 0
unfoldable pub put_fields : List ℕ → List ℕ → ℕ → List ℕ → List ℕ
put_fields [] s at vs = s
put_fields (w ∷ ws) s at [] = put_fields ws (put_number w s at 0) (at + w) []
put_fields (w ∷ ws) s at (v ∷ vs) = put_fields ws (put_number w s at v) (at + w) vs

-- there are as many fields as widths, and each fits its own
abbrev pub Fits : List ℕ → List ℕ → Type 0
Fits [] [] = Unit {0}
Fits [] (v ∷ vs) = ⊥
Fits (w ∷ ws) [] = ⊥
Fits (w ∷ ws) (v ∷ vs) = (v < 256 ^ w) × Fits ws vs

-- n records of these widths, the first at base, each stride bytes after the one before
unfoldable pub rows : List ℕ → ℕ → ℕ → ℕ → List ℕ → List (List ℕ)
rows ws base stride n s = tab n 0 (λ i. fields_at ws s (base + stride * i))

-- the n bytes from a place on, and the buffer with those bytes put back there
unfoldable pub part : ℕ → ℕ → List ℕ → List ℕ
part at n s = take n (drop at s)

unfoldable pub put_part : ℕ → List ℕ → List ℕ → List ℕ
put_part at t s = take at s ++ t ++ drop (at + length t) s

-- n bytes from `from` on in one buffer, put at `to` in another
unfoldable pub copied : ℕ → List ℕ → ℕ → ℕ → List ℕ → List ℕ
copied n src from to s = put_part to (part from n src) s

-- n bytes from `from` on moved to `to` in their own buffer, up or down, as if all were read before one is written
abbrev pub moved : ℕ → ℕ → ℕ → List ℕ → List ℕ
moved n from to s = copied n s from to s

-- n bytes from a place on set to zero
unfoldable pub zeroed : ℕ → ℕ → List ℕ → List ℕ
zeroed n at s = put_part at (replicate n 0) s

-- whether n bytes from a place on are all zero
unfoldable pub zero_at : ℕ → ℕ → List ℕ → Bool
zero_at n at s = all (λ b. eqb b 0) (part at n s)

-- n bytes at a and m bytes at b have no byte in common: one arithmetic term, so that omega reads it
abbrev pub Apart : ℕ → ℕ → ℕ → ℕ → Type 0
Apart a n b m = 0 < (a + 1 - (b + m)) + (b + 1 - (a + n))

-- every element is a byte
pub record Bytes (s : List ℕ) : Type 0 where
  pub below : (i : ℕ) → get_or s i 0 < 256
