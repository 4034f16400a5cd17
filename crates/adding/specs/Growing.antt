-- What the steps of an insert leave, between the functions that take them: a tree that has grown, a leaf and an inner page with one more.
-- Not for readers of the promises. Assumes nothing.
use Prim.Native.Nat.{ℕ, suc, ◌+◌, ◌-◌, ◌≤◌, ◌<◌, compare}
use Rattle.std.specs.Prelude as Code
use Rattle.std.specs.Prelude.{◌≡◌, cond, List, [], ◌∷◌, leb, eqb, length, take, drop, replicate}
use Rattle.std.proofs.Math.Option.{none, some}
use Rattle.limits.specs.Limits.{pages_most, page_size, pages_size, leaf_most, leaf_stay, inner_most, inner_stay}
use Rattle.lists.specs.Lists.{insert_at}
use Rattle.pages.specs.declared.Child as P
use Rattle.pages.specs.PageLayout.{EntryFits, ChildFits, entries_of, children_of}
use Rattle.rows.specs.PageHead.{count_of}
use Rattle.trees.specs.Trees.{Tree, document_sizes, times}
use Rattle.trees.specs.Growth as G
use Rattle.adding.specs.declared.Grown.{Grown}
use Rattle.index.specs.Pictures.{Item, key_of, page_at, put_page, tree_of, leaf_page, inner_page, Laid, zero_first, low_first}
use Rattle.index.specs.Descents.{Subtree, run_of}

-- the pages that an insert of k needs, in the tree of level n at page pg and above it: where the tree's own page is in the run, `above` more
abbrev pub needed_in : ℕ → ℕ → List ℕ → ℕ → ℕ → ℕ
needed_in n k s pg above = cond (eqb (run_of n k s pg) (suc n)) (run_of n k s pg + above) (run_of n k s pg)

-- and above a child of an inner page with so many children
abbrev pub needed_above : ℕ → ℕ → ℕ
needed_above count above = cond (leb inner_most count) (above + 1) 0

-- a tree that an entry is to be put into
pub record GrowIn (s : List ℕ) (n pg u : ℕ) (e : Item) : Type 0 where
  pub sub : Subtree s n pg u
  pub used : pg < u
  pub most : u ≤ pages_most
  pub small : EntryFits e

-- the tree with the entry
abbrev pub grown_of : (n : ℕ) → Item → ℕ → List ℕ → ℕ → G.Grown ℕ (Tree ℕ Item n)
grown_of n e u s pg = G.grown compare key_of 0 document_sizes n e u (tree_of n s pg)

-- what the code tells of it: how many pages are used then, and the new tree beside it
abbrev pub Told : (n : ℕ) → List ℕ → G.Grown ℕ (Tree ℕ Item n) → ℕ → Code.Option P.Child → Type 0
Told n s g v Code.None = (v ≡ g.used) × (g.beside ≡ none)
Told n s g v (Code.Some c) =
    (v ≡ g.used) × (g.beside ≡ some (record { low = c.low.0; tree = tree_of n s c.page })) × Laid n s c.page × ChildFits c

-- a tree that was not divided, and one that was
abbrev pub one_tree : ℕ → Grown
one_tree v = record { used = v; beside = Code.None }

abbrev pub two_trees : ℕ → P.Child → Grown
two_trees v c = record { used = v; beside = Code.Some c }

pub record Grew (n : ℕ) (s s' : List ℕ) (pg u : ℕ) (e : Item) (r : Grown) : Type 0 where
  pub size : length s' ≡ pages_size
  pub tree : tree_of n s' pg ≡ (grown_of n e u s pg).tree
  pub laid : Laid n s' pg
  pub told : Told n s' (grown_of n e u s pg) r.used r.beside
  pub more : u ≤ r.used
  pub most : r.used ≤ pages_most
  pub kept : (q : ℕ) → q < u → times ℕ Item n q (tree_of n s pg) ≡ 0 → page_at s' q ≡ page_at s q
  pub spare : (q : ℕ) → r.used ≤ q → q < pages_most → page_at s' q ≡ page_at s q

-- the tree has grown, if the pages had room; otherwise nothing has changed
abbrev pub Outcome : (n : ℕ) → List ℕ → List ℕ → ℕ → ℕ → ℕ → Item → Code.Option Grown → Type 0
Outcome n s s' pg u above e Code.None = (s' ≡ s) × (pages_most < u + needed_in n e.key s pg above)
Outcome n s s' pg u above e (Code.Some g) = Grew n s s' pg u e g × (u + needed_in n e.key s pg above ≤ pages_most)

pub record Tried (n : ℕ) (s s' : List ℕ) (pg u above : ℕ) (e : Item) (r : Code.Option Grown) : Type 0 where
  pub outcome : Outcome n s s' pg u above e r

-- a leaf with one more entry, at place i of those that it had
pub record LeafSplit (s s' : List ℕ) (pg u i : ℕ) (e : Item) (r : Grown) : Type 0 where
  pub bytes : s' ≡ put_page (put_page s pg (leaf_page (take leaf_stay (insert_at i e (entries_of (page_at s pg)))))) u
      (leaf_page (drop leaf_stay (insert_at i e (entries_of (page_at s pg)))))
  pub told : r ≡ two_trees (u + 1) (record { low = record { 0 = G.low_key key_of 0 (drop leaf_stay (insert_at i e (entries_of (page_at s pg)))) }; page = u })

-- a full leaf that is to be divided
pub record LeafFull (s : List ℕ) (pg u i : ℕ) (e : Item) : Type 0 where
  pub size : length s ≡ pages_size
  pub which : pg < pages_most
  pub next : u < pages_most
  pub other : pg < u
  pub full : length (entries_of (page_at s pg)) ≡ leaf_most
  pub count : count_of (page_at s pg) ≡ leaf_most
  pub place : i ≤ leaf_most
  pub laid : page_at s pg ≡ leaf_page (entries_of (page_at s pg))
  pub small : EntryFits e

-- a full leaf, if there is a page for the new one
pub record LeafOver (s : List ℕ) (pg u i : ℕ) (e : Item) : Type 0 where
  pub full : u < pages_most → LeafFull s pg u i e

-- divided, if there are pages for the new leaf and for what is needed above; otherwise nothing has changed
abbrev pub Parted : List ℕ → List ℕ → ℕ → ℕ → ℕ → ℕ → Item → Code.Option Grown → Type 0
Parted s s' pg u above i e Code.None = (s' ≡ s) × (pages_most < u + above + 1)
Parted s s' pg u above i e (Code.Some g) = LeafSplit s s' pg u i e g × (u + above + 1 ≤ pages_most)

pub record LeafParted (s s' : List ℕ) (pg u above i : ℕ) (e : Item) (r : Code.Option Grown) : Type 0 where
  pub how : Parted s s' pg u above i e r

-- an inner page with one more child, at place i of those that it had
abbrev pub Wider : List ℕ → List ℕ → ℕ → ℕ → ℕ → List P.Child → List P.Child → ℕ → Code.Option P.Child → Type 0
Wider s s' n pg u cs ds v Code.None = (v ≡ u) × (s' ≡ put_page s pg (inner_page n ds)) × (length cs ≤ inner_most - 1)
Wider s s' n pg u cs ds v (Code.Some d) =
    (v ≡ u + 1)
    × (s' ≡ put_page (put_page s pg (inner_page n (take inner_stay ds))) u (inner_page n (zero_first (drop inner_stay ds))))
    × (d ≡ record { low = record { 0 = low_first (drop inner_stay ds) }; page = u })
    × (length cs ≡ inner_most)

pub record Widened (s s' : List ℕ) (n pg u i : ℕ) (c : P.Child) (r : Grown) : Type 0 where
  pub how : Wider s s' n pg u (children_of (page_at s pg)) (insert_at i c (children_of (page_at s pg))) r.used r.beside

-- an inner page that a child is to be put into
pub record InnerRoom (s : List ℕ) (n pg u i : ℕ) (c : P.Child) : Type 0 where
  pub size : length s ≡ pages_size
  pub which : pg < pages_most
  pub most : u ≤ pages_most
  pub other : pg < u
  pub few : count_of (page_at s pg) ≤ inner_most
  pub place : i ≤ count_of (page_at s pg)
  pub next : inner_most ≤ count_of (page_at s pg) → u < pages_most
  pub laid : page_at s pg ≡ inner_page n (children_of (page_at s pg))
  pub small : ChildFits c

-- and one that is full
pub record InnerFull (s : List ℕ) (n pg u i : ℕ) (c : P.Child) : Type 0 where
  pub size : length s ≡ pages_size
  pub which : pg < pages_most
  pub next : u < pages_most
  pub other : pg < u
  pub count : count_of (page_at s pg) ≡ inner_most
  pub place : i ≤ inner_most
  pub laid : page_at s pg ≡ inner_page n (children_of (page_at s pg))
  pub small : ChildFits c

-- an inner page whose child has grown: it has room for a new one beside it
abbrev pub Rising : List ℕ → ℕ → ℕ → ℕ → ℕ → Code.Option P.Child → Type 0
Rising s n pg i v Code.None = Unit
Rising s n pg i v (Code.Some c) = InnerRoom s n pg v i c

pub record Rises (s : List ℕ) (n pg i : ℕ) (g : Grown) : Type 0 where
  pub room : Rising s n pg i g.used g.beside

-- and what becomes of it
abbrev pub Rose : List ℕ → List ℕ → ℕ → ℕ → ℕ → ℕ → Code.Option P.Child → Grown → Type 0
Rose s s' n pg i v Code.None r = (s' ≡ s) × (r ≡ one_tree v)
Rose s s' n pg i v (Code.Some c) r = Widened s s' n pg v i c r

pub record Risen (s s' : List ℕ) (n pg i : ℕ) (g r : Grown) : Type 0 where
  pub how : Rose s s' n pg i g.used g.beside r

-- the new root's page, from a page of zeros, and the buffer with it: "a new root last"
abbrev pub root_page : ℕ → ℕ → P.Child → List ℕ
root_page n root c = inner_page (n + 1) (record { low = record { 0 = 0 }; page = root } ∷ c ∷ [])

pub record RootIn (s : List ℕ) (n root u : ℕ) (c : P.Child) : Type 0 where
  pub size : length s ≡ pages_size
  pub next : u < pages_most
  pub some : 0 < u
  pub low : n < pages_most
  pub old : root < pages_most
  pub blank : page_at s u ≡ replicate page_size 0
