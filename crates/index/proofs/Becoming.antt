-- When a page buffer is that of an index: page 0 says its root, used pages and height, its tree is laid from there, and the pages that are not
-- used are zero. Assumes nothing.
use Prim.Native.Nat.{ℕ, ◌+◌, ◌-◌, ◌≤◌, ◌<◌, compare}
use mathlib.Core.Path.{◌≡◌, sym, ap, subst, ◌∙◌}
use mathlib.Core.List.{List}
use mathlib.Core.Option.{some}
use native.Mathlib.Omega.{arith}
use lib.ListN.{length, replicate}
use Rattle.limits.specs.Limits.{pages_most, page_size, pages_size}
use Rattle.rules.specs.Document.{end_mark}
use Rattle.rows.specs.PageHead.{root_of, used_of, height_of}
use Rattle.trees.specs.Trees.{Index, WholeIndex, document_sizes}
use Rattle.index.specs.Pictures.{Item, key_of, page_at, tree_of, index_of, head_page, Laid}
use Rattle.index.specs.Changes.{Becomes}
use Rattle.index.proofs.Heads.{root_head, used_head, height_head}

pub becomes : (s : List ℕ) (root used n : ℕ) (x : Index ℕ Item) → length s ≡ pages_size → page_at s 0 ≡ head_page root used (n + 1) → root < 65536 → used ≤ pages_most → n < 65535
    → Laid n s root → ((q : ℕ) → used ≤ q → q < pages_most → page_at s q ≡ replicate page_size 0)
    → record { level = n; used = used; tree = tree_of n s root } ≡ x → WholeIndex compare key_of 0 (some end_mark) document_sizes x → Becomes s x
unfolding index_of
becomes s root used n x size head a b c laid spare is whole =
    let i : root_of (page_at s 0) ≡ root = ap root_of head ∙ root_head root used (n + 1) a (omega arith) (omega arith) in
    let j : used_of (page_at s 0) ≡ used = ap used_of head ∙ used_head root used (n + 1) a (omega arith) (omega arith) in
    let k : height_of (page_at s 0) ≡ n + 1 = ap height_of head ∙ height_head root used (n + 1) a (omega arith) (omega arith) in
    let l : height_of (page_at s 0) - 1 ≡ n = omega arith in
    let y : index_of s ≡ x =
    ap (λ m. record { level = m; used = used_of (page_at s 0); tree = tree_of m s (root_of (page_at s 0)) }) l
    ∙ ap (λ m. record { level = n; used = m; tree = tree_of n s (root_of (page_at s 0)) }) j
    ∙ ap (λ m. record { level = n; used = used; tree = tree_of n s m }) i ∙ is in
    record {
      whole = record {
        size = size;
        head = head ∙ sym (ap (λ m. head_page m (used_of (page_at s 0)) (height_of (page_at s 0))) i ∙ ap (λ m. head_page root m (height_of (page_at s 0))) j ∙ ap (head_page root used) k);
        tall = omega arith;
        laid = subst (λ m. Laid m s (root_of (page_at s 0))) (sym l) (subst (Laid n s) (sym i) laid);
        spare = λ q g h. spare q (omega arith) h;
        index = subst (WholeIndex compare key_of 0 (some end_mark) document_sizes) (sym y) whole;
      };
      index = y;
    }
