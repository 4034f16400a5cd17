-- The tests made page by page are tests of the tree's entries in their order; where the pages are in order, these ascend, and no key is
-- above the end. By induction on the level and the children. Assumes nothing.
use mathlib.Core.Path.{◌≡◌, refl, sym, ap₂, ◌∙◌}
use mathlib.Core.Bool.{Bool, true, ◌&&◌, ◌||◌}
use mathlib.Core.List.{List, [], ◌∷◌, map}
use mathlib.Core.Option.{some}
use Prim.Native.Nat.{ℕ, zero, suc, ◌+◌, ◌*◌, ◌≤◌, ◌<◌, compare}
use native.Mathlib.Omega.{arith}
use borrow.Author.Tests.{leb-true, le-leb}
use lib.Dec.{leb}
use Rattle.limits.specs.Limits.{key_size, page_size, head_size, entry_size}
use Rattle.lists.specs.Lists.{all, any, join, In}
use Rattle.lists.proofs.Tests.{all_append, any_append, all_both}
use Rattle.lists.proofs.Elements.{all_in}
use Rattle.lists.proofs.Tables.{all_of_tab}
use Rattle.numbers.specs.Numbers.{number_at, fields_at, Bytes}
use Rattle.numbers.proofs.Numbers.{number_below}
use Rattle.numbers.proofs.BytesKept.{bytes_part}
use Rattle.rules.specs.Document.{end_mark}
use Rattle.rules.proofs.Orders.{numbers_ordered}
use Rattle.trees.specs.Trees.{flat}
use Rattle.trees.proofs.Sorted.{Sorted}
use Rattle.trees.proofs.ItemOrder.{flat_sorted}
use Rattle.rows.specs.PageHead.{count_of}
use Rattle.pages.specs.PageLayout.{entry_in, entry_at, entries_of, children_of}
use Rattle.pages.specs.declared.Child as P
use Rattle.index.specs.Pictures.{Item, key_of, page_at, tree_of}
use Rattle.index.proofs.Frame.{kid}
use Rattle.judging_pages.specs.Walks.{span_of}
use Rattle.judging_pages.proofs.TreesJudged.{tree_facts}
use Rattle.judging_locks.specs.LockChecks.{entry_held, has_key, find_at, owners_at, Fine}

-- ---- a key, and the owners
any_kids : (n : ℕ) (s : List ℕ) (k : ℕ) → ((q : ℕ) → find_at n s k q ≡ any (has_key k) (flat ℕ Item n (tree_of n s q))) → (cs : List P.Child)
    → any (λ c. find_at n s k c.page) cs ≡ any (has_key k) (join (λ c. flat ℕ Item n c.tree) (map (kid n s) cs))
unfolding any join
any_kids n s k h [] = refl
any_kids n s k h (c ∷ cs) =
    ap₂ (λ x y. x || y) (h c.page) (any_kids n s k h cs)
    ∙ sym (any_append (has_key k) (flat ℕ Item n (tree_of n s c.page)) (join (λ c. flat ℕ Item n c.tree) (map (kid n s) cs)))

pub find_is : (n : ℕ) (s : List ℕ) (k q : ℕ) → find_at n s k q ≡ any (has_key k) (flat ℕ Item n (tree_of n s q))
unfolding find_at flat tree_of
find_is zero s k q = refl
find_is (suc n) s k q = any_kids n s k (find_is n s k) (children_of (page_at s q))

all_kids : (n : ℕ) (s d : List ℕ) → ((q : ℕ) → owners_at n s d q ≡ all (entry_held d) (flat ℕ Item n (tree_of n s q))) → (cs : List P.Child)
    → all (λ c. owners_at n s d c.page) cs ≡ all (entry_held d) (join (λ c. flat ℕ Item n c.tree) (map (kid n s) cs))
unfolding all join
all_kids n s d h [] = refl
all_kids n s d h (c ∷ cs) =
    ap₂ (λ x y. x && y) (h c.page) (all_kids n s d h cs)
    ∙ sym (all_append (entry_held d) (flat ℕ Item n (tree_of n s c.page)) (join (λ c. flat ℕ Item n c.tree) (map (kid n s) cs)))

pub owners_is : (n : ℕ) (s d : List ℕ) (q : ℕ) → owners_at n s d q ≡ all (entry_held d) (flat ℕ Item n (tree_of n s q))
unfolding owners_at flat tree_of
owners_is zero s d q = refl
owners_is (suc n) s d q = all_kids n s d (owners_is n s d) (children_of (page_at s q))

-- ---- the keys
abbrev small : Item → Bool
small e = leb e.key end_mark

leaf_small : (s : List ℕ) (q : ℕ) → Bytes s → all small (entries_of (page_at s q)) ≡ true
unfolding entries_of entry_at entry_in fields_at page_at
leaf_small s q g =
    all_of_tab small (count_of (page_at s q)) 0 (entry_at (page_at s q))
    (λ i _ _.
    let b : number_at key_size (page_at s q) (head_size + entry_size * i) < 18446744073709551616 = number_below key_size (page_at s q) (head_size + entry_size * i) (bytes_part (page_size * q) page_size s g) in
    le-leb (number_at key_size (page_at s q) (head_size + entry_size * i)) end_mark (omega arith))

small_kids : (n : ℕ) (s : List ℕ) → ((q : ℕ) → all small (flat ℕ Item n (tree_of n s q)) ≡ true) → (cs : List P.Child)
    → all small (join (λ c. flat ℕ Item n c.tree) (map (kid n s) cs)) ≡ true
unfolding all join
small_kids n s h [] = refl
small_kids n s h (c ∷ cs) =
    all_both small (flat ℕ Item n (tree_of n s c.page)) (join (λ c. flat ℕ Item n c.tree) (map (kid n s) cs)) (h c.page) (small_kids n s h cs)

flat_small : (n : ℕ) (s : List ℕ) → Bytes s → (q : ℕ) → all small (flat ℕ Item n (tree_of n s q)) ≡ true
unfolding flat tree_of
flat_small zero s g q = leaf_small s q g
flat_small (suc n) s g q = small_kids n s (flat_small n s g) (children_of (page_at s q))

module _ (n : ℕ) (s : List ℕ) (q : ℕ) (f : Fine n s q) where
  pub fine_sorted : Sorted compare key_of f.low (some f.high) (flat ℕ Item n (tree_of n s q))
  fine_sorted =
      flat_sorted numbers_ordered key_of 0 n f.low (some f.high) (tree_of n s q)
      (tree_facts s f.bytes f.size n f.least (span_of q f.low f.high) f.one f.ok).keys

  pub fine_small : (e : Item) → In e (flat ℕ Item n (tree_of n s q)) → e.key ≤ end_mark
  fine_small e m = leb-true e.key end_mark (all_in small (flat ℕ Item n (tree_of n s q)) e (flat_small n s f.bytes q) m)
