-- The fresh picture is whole and says the rule book's fresh state: pages that are those of the bare index, with the desk of free slots, an
-- empty queue and no one running. Such pages exist. By the laws of both parts. Assumes nothing.
use Prim.Native.Nat.{ℕ, ◌+◌, ◌*◌, ◌<◌}
use mathlib.Core.Path.{◌≡◌, refl, sym, ap, subst, ◌∙◌}
use mathlib.Core.List.{List, []}
use mathlib.Core.Option.{some}
use native.Mathlib.Omega.{arith}
use lib.Dec.{lit<, lit≤}
use lib.ListN.{length, get_or, replicate, length-replicate}
use lib.Seq.{ext_get_or}
use Rattle.limits.specs.Limits.{pages_most, page_size, pages_size, entry_size}
use Rattle.numbers.proofs.Parts.{get_d_part}
use Rattle.rules.specs.Queue.{St}
use Rattle.rules.specs.Desk.{fresh}
use Rattle.rules.specs.Good.{Good}
use Rattle.rules.specs.Document.{end_mark}
use Rattle.rules.proofs.Orders.{numbers_ordered}
use Rattle.rules.proofs.GoodKept.{fresh_good}
use Rattle.trees.specs.Trees.{Index, document_sizes, flat}
use Rattle.trees.specs.Growth.{in_leaves, leaves}
use Rattle.trees.specs.Shapes.{bare, shape}
use Rattle.trees.proofs.Wholes.{bare_whole, document_fair}
use Rattle.pages.specs.PageLayout.{entries_of}
use Rattle.index.specs.Pictures.{Item, key_of, page_at, put_page, tree_of, index_of, entries_in, leaf_page, head_page}
use Rattle.index.specs.Changes.{Becomes}
use Rattle.index.proofs.Buffers.{length_page, length_put_page, page_same, page_other}
use Rattle.index.proofs.BlankPages.{length_blank, blank_none}
use Rattle.index.proofs.LeafPages.{leaf_entries}
use Rattle.index.proofs.Heads.{length_head}
use Rattle.index.proofs.Becoming.{becomes}
use Rattle.lists.proofs.Places.{get_d_alike}
use Rattle.states.specs.States.{book, state_of, desk_with}
use Rattle.states.proofs.DeskBytes.{desk_says}
use Rattle.states.proofs.Itself.{desk_itself, desk_state}
use Rattle.states.proofs.FreshDesk.{free, quiet, fresh_fits}
use Rattle.states.specs.Whole.{Whole}
use Rattle.states.specs.Fresh.{fresh_pages, fresh_desk}

-- ---- any pages of the bare index
module _ (p : List ℕ) (b : Becomes p bare) where
  no_entries : entries_in p ≡ []
  unfolding entries_in flat
  no_entries = ap (λ x. flat ℕ Item x.level x.tree) b.index

  bare_shape : shape key_of (index_of p) ≡ bare
  unfolding shape in_leaves leaves
  bare_shape = ap (shape key_of) b.index

  pub fresh_says : state_of p (desk_with free [] quiet) ≡ fresh book
  unfolding fresh
  fresh_says =
      desk_state free [] quiet fresh_fits (desk_with free [] quiet) refl p
      ∙ ap (λ es. state es (shape key_of (index_of p))) no_entries
      ∙ ap (state []) bare_shape
    where
      state : List Item → Index ℕ ℕ → St book
      state es x = record { entries = es; pages = x; slots = free; queue = []; marks = quiet }

  pub fresh_whole : Whole p (desk_with free [] quiet)
  fresh_whole =
      record {
        pages = b.whole;
        size = (desk_says free [] quiet fresh_fits).len;
        desk = desk_itself free [] quiet fresh_fits (desk_with free [] quiet) refl;
        values = subst (Good book) (sym fresh_says) (fresh_good book numbers_ordered);
      }

-- ---- and these are such pages
module _ (z : List ℕ) (size : length z ≡ pages_size) (zeros : (k : ℕ) → get_or z k 0 ≡ 0) where
  zero_page : (q : ℕ) → q < pages_most → page_at z q ≡ replicate page_size 0
  unfolding page_at
  zero_page q h =
      let n = length_page z size q h in
      ext_get_or 0 (page_at z q) (replicate page_size 0) (n ∙ sym (length-replicate {A = ℕ} page_size 0))
      (λ k i. get_d_part (page_size * q) page_size z k (omega arith) ∙ zeros (page_size * q + k) ∙ sym (get_d_alike page_size k 0))

  bare_is : Becomes (put_page (put_page z 1 (leaf_page [])) 0 (head_page 1 2 1)) bare
  unfolding tree_of leaf_page
  bare_is =
      let s = put_page z 1 (leaf_page []) in
      let h = head_page 1 2 1 in
      let l : length (leaf_page []) ≡ page_size = ap length (sym (blank_none entry_size 2 0)) ∙ length_blank 2 0 in
      let k = length_head 1 2 1 in
      let w = length_put_page z size 1 (lit< tt) (leaf_page []) l in
      let leaf : page_at (put_page s 0 h) 1 ≡ leaf_page [] = page_other s w 0 (lit< tt) h k 1 (lit< tt) (λ d. omega arith) ∙ page_same z size 1 (lit< tt) (leaf_page []) l in
      let none : entries_of (page_at (put_page s 0 h) 1) ≡ [] = ap entries_of leaf ∙ leaf_entries [] (lit≤ tt) (λ e i. absurd i) in
      becomes (put_page s 0 h) 1 2 0 bare (length_put_page s w 0 (lit< tt) h k) (page_same s w 0 (lit< tt) h k) (lit< tt) (lit≤ tt) (lit< tt) (leaf ∙ ap leaf_page (sym none))
      (λ q i j. page_other s w 0 (lit< tt) h k q j (λ d. omega arith) ∙ page_other z size 1 (lit< tt) (leaf_page []) l q j (λ d. omega arith) ∙ zero_page q j)
      (ap (λ es. record { level = 0; used = 2; tree = record { number = 1; holds = es } }) none)
      (bare_whole numbers_ordered key_of 0 (some end_mark) document_sizes document_fair)

pub fresh_becomes : Becomes fresh_pages bare
unfolding fresh_pages
fresh_becomes = bare_is (replicate pages_size 0) (length-replicate {A = ℕ} pages_size 0) (λ k. get_d_alike pages_size k 0)

pub fresh_picture : Whole fresh_pages fresh_desk × (state_of fresh_pages fresh_desk ≡ fresh book)
unfolding fresh_desk
fresh_picture = (fresh_whole fresh_pages fresh_becomes, fresh_says fresh_pages fresh_becomes)
