-- The picture of a state, the other way round from `state_of`: the pages that an index is written as, the desk that tables are written as
-- (`desk_with`), and which states have one. Assumes nothing.
use Prim.Native.Nat.{ℕ, zero, suc, ◌<◌, compare}
use Rattle.std.specs.Prelude.{◌≡◌, List, [], ◌∷◌, map, eqb, replicate}
use Rattle.std.proofs.Math.Option.{Option, none, some}
use Rattle.limits.specs.Limits.{pages_most, page_size}
use Rattle.lists.specs.Lists.{In, first, join, tab}
use Rattle.rules.specs.Kinds.{Queued}
use Rattle.rules.specs.Queue.{St}
use Rattle.rules.specs.Good.{Good}
use Rattle.rules.specs.Document.{end_mark}
use Rattle.trees.specs.Trees.{Child, Tree, Index, WholeIndex, document_sizes, flat}
use Rattle.trees.specs.Growth.{in_leaves}
use Rattle.entries.specs.Absent.{or_zero}
use Rattle.pages.specs.declared.Child as P
use Rattle.index.specs.Pictures.{Item, key_of, head_page, leaf_page, inner_page}
use Rattle.states.specs.States.{book, desk_with}
use Rattle.states.specs.Fitting.{AskFits}

-- ---- the pages of an index
-- a page by its number, with its bytes
pub record Drawn : Type 0 where
  pub number : ℕ
  pub bytes : List ℕ

-- the number of the page at the top of a tree
abbrev pub top_page : (n : ℕ) → Tree ℕ Item n → ℕ
top_page zero t = t.number
top_page (suc n) t = t.number

-- a child as its page has it: separator and page number
abbrev pub child_of : (n : ℕ) → Child ℕ (Tree ℕ Item n) → P.Child
child_of n c = record { low = record { 0 = c.low }; page = top_page n c.tree }

-- the pages of a tree, and of an index with its page 0
unfoldable pub drawn_tree : (n : ℕ) → Tree ℕ Item n → List Drawn
drawn_tree zero t = record { number = t.number; bytes = leaf_page t.holds } ∷ []
drawn_tree (suc n) t =
    record { number = t.number; bytes = inner_page (suc n) (map (child_of n) t.holds) } ∷ join (λ c. drawn_tree n c.tree) t.holds

unfoldable pub drawn_index : Index ℕ Item → List Drawn
drawn_index x =
    record { number = 0; bytes = head_page (top_page x.level x.tree) x.used (suc x.level) } ∷ drawn_tree x.level x.tree

-- page q of these; "Unused bytes are zero", pages that are not used too
abbrev pub bytes_if : Option Drawn → List ℕ
bytes_if none = replicate page_size 0
bytes_if (some g) = g.bytes

unfoldable pub drawn_page : List Drawn → ℕ → List ℕ
drawn_page gs q = bytes_if (first (λ g. eqb g.number q) gs)

-- the page buffer
unfoldable pub pages_of : Index ℕ Item → List ℕ
pages_of x = join (drawn_page (drawn_index x)) (tab pages_most 0 (λ q. q))

-- ---- the picture of a state
-- the entry of a key; where the list has none, an absent one stands in
abbrev pub or_absent : ℕ → Option Item → Item
or_absent k none = record { key = k; owner = 0; now = none; before = none }
or_absent k (some e) = e

unfoldable pub entry_of : List Item → ℕ → Item
entry_of es k = or_absent k (first (λ e. eqb e.key k) es)

-- a tree's shape, with the entries of its keys
unfoldable pub index_with : List Item → Index ℕ ℕ → Index ℕ Item
index_with es x = in_leaves ℕ ℕ Item (map (entry_of es)) x

unfoldable pub pages_for : St book → List ℕ
pages_for s = pages_of (index_with s.entries s.pages)

unfoldable pub desk_for : St book → List ℕ
desk_for s = desk_with s.slots s.queue s.marks

-- records within their four bytes
pub record RecordsFit (e : Item) : Type 0 where
  pub now : or_zero e.now < 4294967296
  pub before : or_zero e.before < 4294967296

-- which states have a picture: good, with a whole tree that has the entries' keys, and with values that fit their fields
pub record Drawable (s : St book) : Type 0 where
  pub good : Good book s
  pub index : WholeIndex compare (λ k. k) 0 (some end_mark) document_sizes s.pages
  pub keys : flat ℕ ℕ s.pages.level s.pages.tree ≡ map key_of s.entries
  pub records : (e : Item) → In e s.entries → RecordsFit e
  pub asks : (q : Queued ℕ ℕ) → In q s.queue → AskFits q.asks
