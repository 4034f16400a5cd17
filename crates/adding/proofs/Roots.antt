-- Page 0 and the new root, as the code writes them: the parts that are lent are those pages, and a page of zeros with two children is the
-- page written from the two. Assumes nothing.
use Prim.Native.Nat.{ℕ, ◌+◌, ◌*◌, ◌-◌, ◌≤◌, ◌<◌}
use mathlib.Core.Path.{◌≡◌, ap, ◌∙◌}
use mathlib.Core.List.{List, [], ◌∷◌}
use native.Mathlib.Omega.{arith}
use lib.Dec.{lit≤}
use lib.ListN.{length, take, drop, replicate}
use borrow.Rule.Slice.PartMut.{put_mid}
use Rattle.limits.specs.Limits.{page_size, child_size, inner_most}
use Rattle.lists.specs.Lists.{insert_at}
use Rattle.pages.specs.declared.Child as P
use Rattle.rows.specs.PageHead.{count_of, put_head, put_root}
use Rattle.pages.specs.PageChanges.{child_put}
use Rattle.index.specs.Pictures.{page_at, put_page, blank_page, inner_page}
use Rattle.adding.specs.Growing.{root_page, RootIn}
use Rattle.index.proofs.Buffers.{page_lent, page_back, page_other}
use Rattle.index.proofs.InnerPages.{inner_put, inner_count, inner_length}
use Rattle.index.proofs.BlankPages.{blank_none}

none_blank : (n : ℕ) → blank_page 3 n ≡ inner_page n []
unfolding inner_page
none_blank n = blank_none child_size 3 n

pub cleared : (p p₁ : List ℕ) (n : ℕ) → p ≡ replicate page_size 0 → p₁ ≡ put_head p 3 0 n → p₁ ≡ inner_page n []
unfolding blank_page
cleared p p₁ n z e = e ∙ ap (λ v. put_head v 3 0 n) z ∙ none_blank n

pub none_yet : (p : List ℕ) (n : ℕ) → p ≡ inner_page n [] → count_of p < inner_most
none_yet p n e = omega (arith, ap count_of e, inner_count n [] (lit≤ tt))

pub first_is : (p q : List ℕ) (n : ℕ) (c : P.Child) → p ≡ inner_page n [] → q ≡ child_put p 0 c → q ≡ inner_page n (c ∷ [])
unfolding insert_at
first_is p q n c e f = f ∙ ap (λ v. child_put v 0 c) e ∙ inner_put n [] (lit≤ tt) 0 c (lit≤ tt)

module _ (p : List ℕ) (n : ℕ) (c : P.Child) (e : p ≡ inner_page n (c ∷ [])) where
  pub one_now : count_of p < inner_most
  one_now = omega (arith, ap count_of e, inner_count n (c ∷ []) (lit≤ tt))

  pub one_there : 1 ≤ count_of p
  one_there = omega (arith, ap count_of e, inner_count n (c ∷ []) (lit≤ tt))

  pub two_children : (q : List ℕ) (d : P.Child) → q ≡ child_put p 1 d → q ≡ inner_page n (c ∷ d ∷ [])
  unfolding insert_at
  two_children q d g = g ∙ ap (λ v. child_put v 1 d) e ∙ inner_put n (c ∷ []) (lit≤ tt) 1 d (lit≤ tt)

module _ (s : List ℕ) (n root u : ℕ) (c : P.Child) (r : RootIn s n root u c) where
  pub root_blank : take (page_size * u + page_size - page_size * u) (drop (page_size * u) s) ≡ replicate page_size 0
  root_blank = page_lent s u ∙ r.blank

  pub root_added : (p s₂ : List ℕ) → length p ≡ length (take (page_size * u + page_size - page_size * u) (drop (page_size * u) s)) → p ≡ root_page n root c
      → s₂ ≡ put_page (put_mid (page_size * u) (page_size * u + page_size - page_size * u) s p) 0 (put_root (page_at (put_mid (page_size * u) (page_size * u + page_size - page_size * u) s p) 0) u (u + 1) (n + 2))
      → s₂ ≡ put_page (put_page s u (root_page n root c)) 0 (put_root (page_at s 0) u (u + 1) (n + 2))
  root_added p s₂ l e f =
      let g = page_back s u p (root_page n root c) l e in
      let k : page_at (put_page s u (root_page n root c)) 0 ≡ page_at s 0 =
      page_other s r.size u r.next (root_page n root c) (inner_length (n + 1) (record { low = record { 0 = 0 }; page = root } ∷ c ∷ []) (lit≤ tt)) 0 (lit≤ tt) (λ i. omega (arith, r.some)) in
      f ∙ ap (λ v. put_page v 0 (put_root (page_at v 0) u (u + 1) (n + 2))) g
      ∙ ap (λ v. put_page (put_page s u (root_page n root c)) 0 (put_root v u (u + 1) (n + 2))) k
