-- Where a key stands in a page whose keys ascend. Nothing is said of how it is looked for. Assumes nothing.
use Rattle.std.specs.Prelude.{ℕ, ◌≤◌, ◌<◌, ◌≡◌, Bool, true, List, leb, ltb, drop}
use Rattle.lists.specs.Lists.{place, pairs}
use Rattle.rules.specs.Kinds.{Entry}
use Rattle.pages.specs.declared.Child.{Child}
use Rattle.rows.specs.PageHead.{count_of}
use Rattle.pages.specs.PageLayout.{entries_of, children_of}

-- strictly ascending keys, and separators
unfoldable pub keys_ascend : List (Entry ℕ ℕ) → Bool
keys_ascend es = pairs (λ a b. ltb a.key b.key) es

unfoldable pub lows_ascend : List Child → Bool
lows_ascend cs = pairs (λ a b. ltb a.low.0 b.low.0) cs

-- the place of the first entry at or above k
pub record EntryPlace (p : List ℕ) (k r : ℕ) : Type 0 where
  pub within : r ≤ count_of p
  pub first : keys_ascend (entries_of p) ≡ true → r ≡ place (λ e. leb k e.key) (entries_of p)

-- the place of the child that k belongs to: the last one whose separator is at most k, or the first
pub record ChildPlace (p : List ℕ) (k r : ℕ) : Type 0 where
  pub within : r < count_of p
  pub last : lows_ascend (children_of p) ≡ true → r ≡ place (λ c. ltb k c.low.0) (drop 1 (children_of p))
