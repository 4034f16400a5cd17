-- What the functions around the walk come to: a part that is lent is a page, and page 0.
-- Each in the very facts that the code has there. Assumes nothing.
use mathlib.Core.Path.{◌≡◌, refl, sym, ap, ◌∙◌}
use mathlib.Core.Bool.{Bool, ◌&&◌}
use mathlib.Core.List.{List}
use Prim.Native.Nat.{ℕ}
use lib.Dec.{leb, ltb}
use Rattle.limits.specs.Limits.{pages_most}
use Rattle.rows.specs.PageHead.{used_of, height_of}
use Rattle.index.specs.Pictures.{page_at}
use Rattle.judging_pages.specs.declared.Span.{Span}
use Rattle.judging_pages.specs.PageChecks.{first_page_ok, leaf_ok, inner_ok}
use Rattle.judging_pages.specs.Walks.{page_ok, front_ok}
use Rattle.judging_pages.proofs.WalkTurns.{inner_page}

-- ---- a part that is lent
module _ (level least : ℕ) (s p : List ℕ) (t : Span) (b : Bool) (l : p ≡ page_at s t.page) where
  pub leaf_lent : b ≡ leaf_ok t.low.0 t.high.0 p → level ≡ 0 → b ≡ page_ok level least s t
  unfolding page_ok
  leaf_lent e z = e ∙ ap (leaf_ok t.low.0 t.high.0) l ∙ ap (λ x. page_ok x least s t) (sym z)

  pub inner_lent : b ≡ inner_ok level least t.low.0 t.high.0 p → (level ≡ 0 → ⊥) → b ≡ page_ok level least s t
  inner_lent e z = e ∙ ap (inner_ok level least t.low.0 t.high.0) l ∙ inner_page level least s t z

-- ---- page 0
pub front_lent : (s p : List ℕ) (a : Bool) (u h : ℕ) → p ≡ page_at s 0 → a ≡ first_page_ok p → u ≡ used_of p → h ≡ height_of p
    → (a && (leb u pages_most && ltb 0 h)) ≡ front_ok s
unfolding front_ok
front_lent s p a u h l e f g = rw (e, f, g, l) refl
