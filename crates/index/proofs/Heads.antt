-- Page 0 as it is written, read and written again; and how high a tree of pages can be: each level has a page of its own.
-- Root, pages used and height fit their widths. Assumes nothing.
use Prim.Native.Nat.{ℕ, zero, suc, ◌+◌, ◌-◌, ◌≤◌, ◌<◌}
use mathlib.Core.Path.{◌≡◌, refl, sym, ap, subst, ◌∙◌}
use mathlib.Core.Logic.{inl}
use mathlib.Core.Bool.{cond}
use mathlib.Core.List.{List, [], ◌∷◌}
use native.Mathlib.Decide.{dec_lt}
use native.Mathlib.Omega.{arith}
use lib.Dec.{lit≤}
use lib.ListN.{length, get_or, take}
use lib.Seq.{ext_get_or}
use borrow.Rule.Slice.PartMut.{put_mid}
use borrow.Author.Tests.{eq-eqb}
use Rattle.limits.specs.Limits.{pages_most, page_size, head_size}
use Rattle.lists.specs.Lists.{In}
use Rattle.numbers.specs.Numbers.{fields_at, put_fields, width_of}
use Rattle.numbers.proofs.Fields.{touches_put_fields, length_put_fields, fields_same}
use Rattle.numbers.proofs.Splices.{fields_alike}
use Rattle.pages.specs.declared.Child as P
use Rattle.rows.specs.PageHead.{root_of, used_of, height_of, root_widths, put_root}
use Rattle.pages.specs.PageLayout.{children_of}
use Rattle.trees.specs.Trees.{is_page, times}
use Rattle.trees.proofs.PageCounts.{summed_in}
use Rattle.index.specs.Pictures.{page_at, put_page, tree_of, blank_page, head_page}
use Rattle.index.specs.Descents.{Subtree}
use Rattle.index.proofs.Buffers.{page_lent, page_back}
use Rattle.index.proofs.BlankPages.{length_blank}
use Rattle.index.proofs.Frame.{Times, times_inner}
use Rattle.index.proofs.Subtrees.{subtree_child, inner_filled}

pub top_back : (s p : List ℕ) (root used height : ℕ) → length p ≡ length (take page_size s) → p ≡ put_root (take page_size s) root used height
    → put_mid 0 page_size s p ≡ put_page s 0 (put_root (page_at s 0) root used height)
top_back s p root used height l e = page_back s 0 p (put_root (page_at s 0) root used height) l (e ∙ ap (λ v. put_root v root used height) (page_lent s 0))

pub length_head : (root used height : ℕ) → length (head_page root used height) ≡ page_size
unfolding head_page put_root
length_head root used height = length_put_fields root_widths (blank_page 1 0) head_size (root ∷ used ∷ height ∷ []) ∙ length_blank 1 0

-- written again
pub head_again : (a b c root used height : ℕ) → put_root (head_page a b c) root used height ≡ head_page root used height
unfolding head_page put_root width_of
head_again a b c root used height =
    let f = touches_put_fields root_widths (blank_page 1 0) head_size (a ∷ b ∷ c ∷ []) in
    let g = touches_put_fields root_widths (put_fields root_widths (blank_page 1 0) head_size (a ∷ b ∷ c ∷ [])) head_size (root ∷ used ∷ height ∷ []) in
    let h = touches_put_fields root_widths (blank_page 1 0) head_size (root ∷ used ∷ height ∷ []) in
    ext_get_or 0 (put_fields root_widths (put_fields root_widths (blank_page 1 0) head_size (a ∷ b ∷ c ∷ [])) head_size (root ∷ used ∷ height ∷ []))
    (put_fields root_widths (blank_page 1 0) head_size (root ∷ used ∷ height ∷ [])) (g.len ∙ f.len ∙ sym h.len)
    (λ i o. at i (dec_lt i head_size) (dec_lt i (head_size + 6)))
  where
    at : (i : ℕ) → Dec (i < head_size) → Dec (i < head_size + 6)
        → get_or (put_fields root_widths (put_fields root_widths (blank_page 1 0) head_size (a ∷ b ∷ c ∷ [])) head_size (root ∷ used ∷ height ∷ [])) i 0
        ≡ get_or (put_fields root_widths (blank_page 1 0) head_size (root ∷ used ∷ height ∷ [])) i 0
    at i (yes x) y =
        (touches_put_fields root_widths (put_fields root_widths (blank_page 1 0) head_size (a ∷ b ∷ c ∷ [])) head_size (root ∷ used ∷ height ∷ [])).rest i (omega arith)
        ∙ (touches_put_fields root_widths (blank_page 1 0) head_size (a ∷ b ∷ c ∷ [])).rest i (omega arith)
        ∙ sym ((touches_put_fields root_widths (blank_page 1 0) head_size (root ∷ used ∷ height ∷ [])).rest i (omega arith))
    at i (no x) (no y) =
        (touches_put_fields root_widths (put_fields root_widths (blank_page 1 0) head_size (a ∷ b ∷ c ∷ [])) head_size (root ∷ used ∷ height ∷ [])).rest i (omega arith)
        ∙ (touches_put_fields root_widths (blank_page 1 0) head_size (a ∷ b ∷ c ∷ [])).rest i (omega arith)
        ∙ sym ((touches_put_fields root_widths (blank_page 1 0) head_size (root ∷ used ∷ height ∷ [])).rest i (omega arith))
    at i (no x) (yes y) =
        let q : i ≡ head_size + (i - head_size) = omega arith in
        let m = fields_alike root_widths (put_fields root_widths (blank_page 1 0) head_size (a ∷ b ∷ c ∷ [])) head_size (blank_page 1 0) head_size (root ∷ used ∷ height ∷ [])
        (omega (arith, length_put_fields root_widths (blank_page 1 0) head_size (a ∷ b ∷ c ∷ []), length_blank 1 0)) (omega (arith, length_blank 1 0)) in
        subst (λ z. get_or (put_fields root_widths (put_fields root_widths (blank_page 1 0) head_size (a ∷ b ∷ c ∷ [])) head_size (root ∷ used ∷ height ∷ [])) z 0
        ≡ get_or (put_fields root_widths (blank_page 1 0) head_size (root ∷ used ∷ height ∷ [])) z 0) (sym q) (m.byte (i - head_size) (omega arith))

-- read
module _ (root used height : ℕ) (x : root < 65536) (y : used < 65536) (z : height < 65536) where
  head_fields : fields_at root_widths (head_page root used height) head_size ≡ root ∷ used ∷ height ∷ []
  unfolding head_page put_root width_of
  head_fields = fields_same root_widths (blank_page 1 0) head_size (root ∷ used ∷ height ∷ []) (x, (y, (z, tt))) (omega (arith, length_blank 1 0))

  pub root_head : root_of (head_page root used height) ≡ root
  unfolding fields_at
  root_head = ap (λ vs. get_or vs 0 0) head_fields

  pub used_head : used_of (head_page root used height) ≡ used
  unfolding fields_at
  used_head = ap (λ vs. get_or vs 1 0) head_fields

  pub height_head : height_of (head_page root used height) ≡ height
  unfolding fields_at
  height_head = ap (λ vs. get_or vs 2 0) head_fields

-- ---- how high a tree is
sum_to : ℕ → (ℕ → ℕ) → ℕ
sum_to zero f = 0
sum_to (suc m) f = f m + sum_to m f

sum_least : (m : ℕ) (f g k : ℕ → ℕ) → ((q : ℕ) → f q + g q ≤ k q) → sum_to m f + sum_to m g ≤ sum_to m k
unfolding sum_to
sum_least zero f g k h = lit≤ tt
sum_least (suc m) f g k h = let r = sum_least m f g k h in omega (arith, h m)

sum_most : (m : ℕ) (f : ℕ → ℕ) → ((q : ℕ) → f q ≤ 1) → sum_to m f ≤ m
unfolding sum_to
sum_most zero f h = lit≤ tt
sum_most (suc m) f h = let r = sum_most m f h in omega (arith, h m)

sum_page : (m p : ℕ) → p < m → 1 ≤ sum_to m (λ q. is_page q p)
unfolding sum_to
sum_page zero p h = absurd (omega arith)
sum_page (suc m) p h = go (dec_lt p m) (sum_page m p)
  where
    go : Dec (p < m) → (p < m → 1 ≤ sum_to m (λ q. is_page q p)) → 1 ≤ sum_to (suc m) (λ q. is_page q p)
    go (yes k) r = omega (arith, r k)
    go (no k) r = omega (arith, ap (λ b. cond {A = ℕ} b 1 0) (eq-eqb m p (omega arith)))

some_child : (cs : List P.Child) → 1 ≤ length cs → (c : P.Child) × In c cs
some_child [] h = absurd (omega arith)
some_child (c ∷ cs) h = (c, inl refl)

levels : (s : List ℕ) (n pg u : ℕ) → Subtree s n pg u → n + 1 ≤ sum_to pages_most (λ q. Times n q s pg)
unfolding times tree_of
levels s zero pg u t = omega (arith, sum_page pages_most pg t.which)
levels s (suc n) pg u t =
    let f = inner_filled s n pg u t in
    let c = some_child (children_of (page_at s pg)) (omega (arith, f.few, t.enough)) in
    let r = levels s n c.0.page u (subtree_child s n pg u t c.0 c.1) in
    let k = sum_least pages_most (λ q. is_page q pg) (λ q. Times n q s c.0.page) (λ q. Times (suc n) q s pg)
    (λ q. omega (arith, times_inner n q s pg, summed_in (λ (x : P.Child). Times n q s x.page) (children_of (page_at s pg)) c.0 c.1)) in
    omega (arith, sum_page pages_most pg t.which)

pub level_small : (s : List ℕ) (n pg u : ℕ) → Subtree s n pg u → n < pages_most
level_small s n pg u t = omega (arith, levels s n pg u t, sum_most pages_most (λ q. Times n q s pg) (λ q. omega (arith, t.alone q)))
