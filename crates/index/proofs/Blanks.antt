-- A fresh page buffer: zeros, page 1 an empty leaf, page 0 with its numbers. It is that of the bare index, which is whole.
-- Page by page. Assumes nothing.
use Prim.Native.Nat.{ℕ, ◌+◌, ◌*◌, ◌-◌, ◌<◌}
use mathlib.Core.Path.{◌≡◌, refl, sym, ap, ◌∙◌}
use mathlib.Core.List.{List, []}
use mathlib.Core.Option.{some}
use native.Mathlib.Nat.{zero-add}
use native.Mathlib.Omega.{arith}
use lib.Dec.{lit<, lit≤}
use lib.ListN.{length, get_or, take, drop, replicate, length-replicate, get_or-replicate}
use lib.Seq.{ext_get_or}
use borrow.Rule.Slice.PartMut.{put_mid}
use Rattle.limits.specs.Limits.{pages_most, page_size, pages_size, entry_size}
use Rattle.rules.specs.Document.{end_mark}
use Rattle.rules.proofs.Orders.{numbers_ordered}
use Rattle.numbers.specs.Numbers.{zeroed}
use Rattle.numbers.proofs.Parts.{get_d_part}
use Rattle.numbers.proofs.ByteMoves.{length_zeroed, get_d_zeroed_in}
use Rattle.rows.specs.PageHead.{put_head, put_root}
use Rattle.pages.specs.PageLayout.{entries_of}
use Rattle.trees.specs.Trees.{document_sizes}
use Rattle.trees.specs.Shapes.{bare}
use Rattle.trees.proofs.Wholes.{bare_whole, document_fair}
use Rattle.index.specs.Pictures.{key_of, page_at, put_page, tree_of, blank_page, head_page, leaf_page}
use Rattle.index.specs.Changes.{Becomes}
use Rattle.index.proofs.Buffers.{length_page, length_put_page, page_same, page_other, page_lent, page_back}
use Rattle.index.proofs.BlankPages.{length_blank, blank_none}
use Rattle.index.proofs.LeafPages.{leaf_entries}
use Rattle.index.proofs.Heads.{length_head}
use Rattle.index.proofs.Becoming.{becomes}

pub blank_back : (s : List ℕ) (q kind : ℕ) (p : List ℕ) → length p ≡ length (take (page_size * q + page_size - page_size * q) (drop (page_size * q) s))
    → p ≡ put_head (take (page_size * q + page_size - page_size * q) (drop (page_size * q) s)) kind 0 0
    → put_mid (page_size * q) (page_size * q + page_size - page_size * q) s p ≡ put_page s q (put_head (page_at s q) kind 0 0)
blank_back s q kind p l e = page_back s q p (put_head (page_at s q) kind 0 0) l (e ∙ ap (λ v. put_head v kind 0 0) (page_lent s q))

zero_page : (m : ℕ) (s : List ℕ) (q : ℕ) → length s ≡ pages_size → m ≡ pages_size → q < pages_most → page_at (zeroed m 0 s) q ≡ replicate page_size 0
unfolding page_at
zero_page m s q l e h =
    let z = length_zeroed m 0 s (omega arith) in
    let n = length_page (zeroed m 0 s) (z ∙ l) q h in
    ext_get_or 0 (page_at (zeroed m 0 s) q) (replicate page_size 0) (n ∙ sym (length-replicate {A = ℕ} page_size 0))
    (λ k i. let j : k < page_size = omega arith in
    get_d_part (page_size * q) page_size (zeroed m 0 s) k j
    ∙ ap (λ x. get_or (zeroed m 0 s) x 0) (sym (zero-add (page_size * q + k)))
    ∙ get_d_zeroed_in m 0 s (omega arith) (page_size * q + k) (omega arith) ∙ sym (get_or-replicate page_size k 0 0 j))

pub fresh_is : (s s₁ s₂ s₃ s₄ : List ℕ) → length s ≡ pages_size → s₁ ≡ zeroed pages_size 0 s → s₂ ≡ put_page s₁ 0 (put_head (page_at s₁ 0) 1 0 0)
    → s₃ ≡ put_page s₂ 1 (put_head (page_at s₂ 1) 2 0 0) → s₄ ≡ put_page s₃ 0 (put_root (page_at s₃ 0) 1 2 1) → Becomes s₄ bare
unfolding tree_of leaf_page head_page blank_page
fresh_is s s₁ s₂ s₃ s₄ l e₁ e₂ e₃ e₄ =
    let z₁ : length s₁ ≡ pages_size = ap length e₁ ∙ length_zeroed pages_size 0 s (omega arith) ∙ l in
    let zero : (q : ℕ) → q < pages_most → page_at s₁ q ≡ replicate page_size 0 = λ q h. ap (λ v. page_at v q) e₁ ∙ zero_page pages_size s q l refl h in
    let a = blank_page 1 0 in
    let b = blank_page 2 0 in
    let h = head_page 1 2 1 in
    let x₂ : s₂ ≡ put_page s₁ 0 a = e₂ ∙ ap (λ v. put_page s₁ 0 (put_head v 1 0 0)) (zero 0 (lit< tt)) in
    let z₂ : length s₂ ≡ pages_size = ap length x₂ ∙ length_put_page s₁ z₁ 0 (lit< tt) a (length_blank 1 0) in
    let y₂ : (q : ℕ) → q < pages_most → (q ≡ 0 → ⊥) → page_at s₂ q ≡ replicate page_size 0 =
    λ q i d. ap (λ v. page_at v q) x₂ ∙ page_other s₁ z₁ 0 (lit< tt) a (length_blank 1 0) q i d ∙ zero q i in
    let x₃ : s₃ ≡ put_page s₂ 1 b = e₃ ∙ ap (λ v. put_page s₂ 1 (put_head v 2 0 0)) (y₂ 1 (lit< tt) (λ d. omega arith)) in
    let z₃ : length s₃ ≡ pages_size = ap length x₃ ∙ length_put_page s₂ z₂ 1 (lit< tt) b (length_blank 2 0) in
    let t₃ : page_at s₃ 0 ≡ a = ap (λ v. page_at v 0) x₃ ∙ page_other s₂ z₂ 1 (lit< tt) b (length_blank 2 0) 0 (lit< tt) (λ d. omega arith)
    ∙ ap (λ v. page_at v 0) x₂ ∙ page_same s₁ z₁ 0 (lit< tt) a (length_blank 1 0) in
    let x₄ : s₄ ≡ put_page s₃ 0 h = e₄ ∙ ap (λ v. put_page s₃ 0 (put_root v 1 2 1)) t₃ in
    let k = length_head 1 2 1 in
    let leaf : page_at s₄ 1 ≡ leaf_page [] = ap (λ v. page_at v 1) x₄ ∙ page_other s₃ z₃ 0 (lit< tt) h k 1 (lit< tt) (λ d. omega arith)
    ∙ ap (λ v. page_at v 1) x₃ ∙ page_same s₂ z₂ 1 (lit< tt) b (length_blank 2 0) ∙ blank_none entry_size 2 0 in
    let none : entries_of (page_at s₄ 1) ≡ [] = ap entries_of leaf ∙ leaf_entries [] (lit≤ tt) (λ e i. absurd i) in
    becomes s₄ 1 2 0 bare (ap length x₄ ∙ length_put_page s₃ z₃ 0 (lit< tt) h k) (ap (λ v. page_at v 0) x₄ ∙ page_same s₃ z₃ 0 (lit< tt) h k)
    (lit< tt) (lit≤ tt) (lit< tt) (leaf ∙ ap leaf_page (sym none))
    (λ q i j. ap (λ v. page_at v q) x₄ ∙ page_other s₃ z₃ 0 (lit< tt) h k q j (λ d. omega arith)
    ∙ ap (λ v. page_at v q) x₃ ∙ page_other s₂ z₂ 1 (lit< tt) b (length_blank 2 0) q j (λ d. omega arith) ∙ y₂ q j (λ d. omega arith))
    (ap (λ es. record { level = 0; used = 2; tree = record { number = 1; holds = es } }) none)
    (bare_whole numbers_ordered key_of 0 (some end_mark) document_sizes document_fair)
