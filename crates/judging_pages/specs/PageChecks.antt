-- The tests that the code makes of the bytes of one page, in the order in which it makes them. They are not for readers: what they come to
-- is shown in ../proofs. Assumes nothing.
use Rattle.std.specs.Prelude.{ℕ, ◌+◌, ◌*◌, ◌-◌, ◌/◌, ◌%◌, Bool, true, false, cond, not, ◌&&◌, ◌||◌, List, [], ◌∷◌, eqb, leb, ltb, get_or}
use Rattle.limits.specs.Limits.{page_size, head_size, body_size, entry_size, leaf_most, child_size, inner_most}
use Rattle.lists.specs.Lists.{tab}
use Rattle.numbers.specs.Numbers.{number_at, fields_at, zero_at}
use Rattle.rows.specs.PageHead.{kind_of, count_of, level_of}
use Rattle.pages.specs.PageLayout.{entry_widths, child_widths}
use Rattle.pages.specs.declared.Child.{Child}

-- the head: length, kind, level and the eight zeros; the count is tested with what it counts
unfoldable pub head_ok : ℕ → ℕ → List ℕ → Bool
head_ok kind level p =
    ((eqb (number_at 2 p 0) page_size && eqb (kind_of p) kind) && eqb (level_of p) level) && eqb (number_at 8 p 8) 0

-- page 0: behind its root, used and height there is nothing
unfoldable pub first_page_ok : List ℕ → Bool
first_page_ok p = (head_ok 1 0 p && eqb (count_of p) 0) && zero_at (body_size - 6) (head_size + 6) p

-- an entry by its fields: what is absent is 0, and one that is settled is present with now and before equal
unfoldable pub entry_ok : List ℕ → Bool
entry_ok vs =
    ((ltb (get_or vs 4 0) 4 && (eqb (get_or vs 4 0 % 2) 1 || eqb (get_or vs 1 0) 0)) && (eqb (get_or vs 4 0 / 2) 1 || eqb (get_or vs 2 0) 0))
    && (not (eqb (get_or vs 3 0) 0) || (eqb (get_or vs 4 0) 3 && eqb (get_or vs 1 0) (get_or vs 2 0)))

abbrev pub in_range : ℕ → ℕ → ℕ → Bool
in_range lo hi k = leb lo k && ltb k hi

abbrev pub between : ℕ → ℕ → ℕ → Bool
between lo hi k = ltb lo k && ltb k hi

-- an entry's key that may come next: the first lies from lo on, each other one above the last; all below hi
abbrev pub next_ok : Bool → ℕ → ℕ → ℕ → Bool
next_ok first lo hi k = cond first (in_range lo hi k) (between lo hi k)

unfoldable pub entry_fields_at : List ℕ → ℕ → List ℕ
entry_fields_at p i = fields_at entry_widths p (head_size + entry_size * i)

-- entries with keys from lo on, or above it if they are not the first, and below hi, strictly ascending
unfoldable pub entries_ok : Bool → ℕ → ℕ → List (List ℕ) → Bool
entries_ok first lo hi [] = true
entries_ok first lo hi (vs ∷ vss) = (next_ok first lo hi (get_or vs 0 0) && entry_ok vs) && entries_ok false (get_or vs 0 0) hi vss

unfoldable pub leaf_ok : ℕ → ℕ → List ℕ → Bool
leaf_ok lo hi p =
    ((head_ok 2 0 p && leb (count_of p) leaf_most) && entries_ok true lo hi (tab (count_of p) 0 (entry_fields_at p)))
    && zero_at (body_size - entry_size * count_of p) (head_size + entry_size * count_of p) p

-- a child by its fields: the six zeros
unfoldable pub fillers_ok : List ℕ → Bool
fillers_ok vs = eqb (get_or vs 2 0) 0 && eqb (get_or vs 3 0) 0

unfoldable pub child_fields_at : List ℕ → ℕ → List ℕ
child_fields_at p i = fields_at child_widths p (head_size + child_size * i)

-- children after the first, with separators above lo and below hi, strictly ascending
unfoldable pub children_ok : ℕ → ℕ → List (List ℕ) → Bool
children_ok lo hi [] = true
children_ok lo hi (vs ∷ vss) = (between lo hi (get_or vs 0 0) && fillers_ok vs) && children_ok (get_or vs 0 0) hi vss

unfoldable pub first_ok : List ℕ → Bool
first_ok vs = eqb (get_or vs 0 0) 0 && fillers_ok vs

unfoldable pub inner_ok : ℕ → ℕ → ℕ → ℕ → List ℕ → Bool
inner_ok level least lo hi p =
    (((head_ok 3 level p && (leb least (count_of p) && leb (count_of p) inner_most)) && first_ok (child_fields_at p 0))
    && children_ok lo hi (tab (count_of p - 1) 1 (child_fields_at p)))
    && zero_at (body_size - child_size * count_of p) (head_size + child_size * count_of p) p

-- the same of the separators alone
unfoldable pub aboves : ℕ → ℕ → List Child → Bool
aboves lo hi [] = true
aboves lo hi (c ∷ cs) = between lo hi c.low.0 && aboves c.low.0 hi cs
