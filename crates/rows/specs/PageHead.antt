-- Document 01, "Records and pages": the head of a page, and what page 0 has behind its own. Assumes nothing.
use Rattle.std.specs.Prelude.{ℕ, ◌+◌, List, [], ◌∷◌}
use Rattle.limits.specs.Limits.{page_size, head_size}
use Rattle.numbers.specs.Numbers.{number_at, put_fields}

-- "64 pages of 512 bytes; each head is 16 bytes: length 512, kind, count, level, eight zeros."
abbrev pub head_widths : List ℕ
head_widths = 2 ∷ 2 ∷ 2 ∷ 2 ∷ 8 ∷ []

abbrev pub kind_of : List ℕ → ℕ
kind_of p = number_at 2 p 2

abbrev pub count_of : List ℕ → ℕ
count_of p = number_at 2 p 4

abbrev pub level_of : List ℕ → ℕ
level_of p = number_at 2 p 6

unfoldable pub put_head : List ℕ → ℕ → ℕ → ℕ → List ℕ
put_head p kind count level = put_fields head_widths p 0 (page_size ∷ kind ∷ count ∷ level ∷ 0 ∷ [])

-- "Page 0: kind 1, count and level 0, then at byte 16 root, pages used, height (two bytes each)."
abbrev pub root_of : List ℕ → ℕ
root_of p = number_at 2 p head_size

abbrev pub used_of : List ℕ → ℕ
used_of p = number_at 2 p (head_size + 2)

abbrev pub height_of : List ℕ → ℕ
height_of p = number_at 2 p (head_size + 4)

abbrev pub root_widths : List ℕ
root_widths = 2 ∷ 2 ∷ 2 ∷ []

unfoldable pub put_root : List ℕ → ℕ → ℕ → ℕ → List ℕ
put_root p root used height = put_fields root_widths p head_size (root ∷ used ∷ height ∷ [])
