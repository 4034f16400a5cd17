-- The walk over the pages of a tree as the code makes it: each page's own test, the pages seen as a set, the children one after the other.
-- It is not for readers: what it comes to is shown in ../proofs. Assumes nothing.
use Rattle.std.specs.Prelude.{ℕ, zero, suc, ◌+◌, ◌*◌, ◌-◌, Bool, false, cond, not, ◌&&◌, List, [], ◌∷◌, leb, ltb}
use Rattle.std.specs.Prelude as Code
use Rattle.limits.specs.Limits.{pages_most, page_size, pages_size, inner_fewest}
use Rattle.lists.specs.Lists.{tab, all}
use Rattle.numbers.specs.Numbers.{zero_at}
use Rattle.sets.specs.declared.Set.{Set}
use Rattle.sets.specs.Sets.{empty, has, with_one}
use Rattle.rules.specs.Document.{end_mark}
use Rattle.rows.specs.PageHead.{root_of, used_of, height_of}
use Rattle.pages.specs.PageLayout.{child_at, children_of}
use Rattle.pages.specs.declared.Child.{Child}
use Rattle.index.specs.Pictures.{page_at}
use Rattle.judging_pages.specs.declared.Span.{Span}
use Rattle.judging_pages.specs.PageChecks.{first_page_ok, leaf_ok, inner_ok}

abbrev pub span_of : ℕ → ℕ → ℕ → Span
span_of q lo hi = record { page = q; low = record { 0 = lo }; high = record { 0 = hi } }

-- the ranges of the children of a page with the range from lo to hi
unfoldable pub spans : ℕ → ℕ → List Child → List Span
spans lo hi [] = []
spans lo hi (c ∷ []) = span_of c.page lo hi ∷ []
spans lo hi (c ∷ d ∷ cs) = span_of c.page lo d.low.0 ∷ spans d.low.0 hi (d ∷ cs)

unfoldable pub high_at : List ℕ → ℕ → ℕ → ℕ → ℕ
high_at p n i hi = cond (ltb (i + 1) n) (child_at p (i + 1)).low.0 hi

abbrev pub after : Code.Option Set → (Set → Code.Option Set) → Code.Option Set
after (Code.Some m) f = f m
after Code.None f = Code.None

-- what is set down beforehand: number 0, which no child's page is, and no asker
abbrev pub only_zero : Set
only_zero = with_one empty 0

abbrev pub guard : Bool → Code.Option Set → Code.Option Set
guard b w = cond b w Code.None

-- page q seen for the first time
unfoldable pub mark_at : ℕ → Set → ℕ → Code.Option Set
mark_at used m q = cond (ltb q used && not (has m q)) (Code.Some (with_one m q)) Code.None

unfoldable pub marks : ℕ → List ℕ → Set → Code.Option Set
marks used [] m = Code.Some m
marks used (q ∷ qs) m = after (mark_at used m q) (marks used qs)

unfoldable pub page_ok : ℕ → ℕ → List ℕ → Span → Bool
page_ok zero least s t = leaf_ok t.low.0 t.high.0 (page_at s t.page)
page_ok (suc n) least s t = inner_ok (suc n) least t.low.0 t.high.0 (page_at s t.page)

unfoldable pub walk_over : (Span → Set → Code.Option Set) → List Span → Set → Code.Option Set
walk_over f [] m = Code.Some m
walk_over f (t ∷ ts) m = after (f t m) (walk_over f ts)

unfoldable pub walk_at : ℕ → ℕ → List ℕ → ℕ → Span → Set → Code.Option Set
walk_at zero least s used t m = after (mark_at used m t.page) (λ k. guard (page_ok zero least s t) (Code.Some k))
walk_at (suc n) least s used t m =
    after (mark_at used m t.page)
    (λ k. guard (page_ok (suc n) least s t) (walk_over (walk_at n inner_fewest s used) (spans t.low.0 t.high.0 (children_of (page_at s t.page))) k))

-- every page of the tree is in order
unfoldable pub tree_ok : ℕ → ℕ → List ℕ → Span → Bool
tree_ok zero least s t = page_ok zero least s t
tree_ok (suc n) least s t =
    page_ok (suc n) least s t && all (tree_ok n inner_fewest s) (spans t.low.0 t.high.0 (children_of (page_at s t.page)))

-- every page below `used` is seen
unfoldable pub seen_ok : ℕ → Set → Bool
seen_ok used m = all (has m) (tab used 0 (λ q. q))

abbrev pub went_ok : ℕ → Code.Option Set → Bool
went_ok used (Code.Some m) = seen_ok used m
went_ok used Code.None = false

-- the whole page buffer
unfoldable pub front_ok : List ℕ → Bool
front_ok s = first_page_ok (page_at s 0) && (leb (used_of (page_at s 0)) pages_most && ltb 0 (height_of (page_at s 0)))

unfoldable pub tree_in : List ℕ → Code.Option Set
tree_in s =
    let p = page_at s 0 in walk_at (height_of p - 1) 2 s (used_of p) (span_of (root_of p) 0 end_mark) only_zero

unfoldable pub pages_ok : List ℕ → Bool
pages_ok s =
    (front_ok s && went_ok (used_of (page_at s 0)) (tree_in s)) && zero_at (pages_size - page_size * used_of (page_at s 0)) (page_size * used_of (page_at s 0)) s
