-- What one way through the tests of a picture comes to, in the very facts that the code has there: the pages, the desk, and then the locks over
-- a tree of pages that are in order. Assumes nothing.
use mathlib.Core.Path.{◌≡◌, sym, ap, ap₂, subst, ◌∙◌}
use mathlib.Core.Bool.{Bool, true, false, not, ◌&&◌}
use mathlib.Core.List.{List}
use Prim.Native.Nat.{ℕ, ◌*◌, ◌-◌, ◌≤◌}
use borrow.Author.Tests.{not-true, not-false}
use lib.Dec.{lit≤}
use lib.ListN.{length}
use Rattle.limits.specs.Limits.{page_size, pages_size}
use Rattle.lists.proofs.Tests.{both}
use Rattle.rules.specs.Document.{end_mark}
use Rattle.numbers.specs.Numbers.{Bytes, zero_at}
use Rattle.judging_pages.specs.Walks.{span_of, only_zero, marks, tree_ok, went_ok, front_ok, tree_in, pages_ok}
use Rattle.judging_pages.proofs.PagesMarked.{reached, walk_is}
use Rattle.judging_pages.proofs.PagesJudged.{guard_went, went_ok_lem}
use Rattle.judging_pages.proofs.Tops.{height_some, front_parts}
use Rattle.rows.specs.PageHead.{root_of, used_of, height_of}
use Rattle.index.specs.Pictures.{page_at}
use Rattle.judging_desk.specs.DeskChecks.{desk_ok}
use Rattle.judging_locks.specs.LockChecks.{locks_ok, Fine}
use Rattle.judging.specs.Verdict.{whole_ok}

-- ---- what the test of the pages has
pages_front : (s : List ℕ) → pages_ok s ≡ true → front_ok s ≡ true
unfolding pages_ok
pages_front s h =
    (both (front_ok s) (went_ok (used_of (page_at s 0)) (tree_in s)) (both (front_ok s && went_ok (used_of (page_at s 0)) (tree_in s)) (zero_at (pages_size - page_size * used_of (page_at s 0)) (page_size * used_of (page_at s 0)) s) h).0).0

pages_tree : (s : List ℕ) → pages_ok s ≡ true → tree_ok (height_of (page_at s 0) - 1) 2 s (span_of (root_of (page_at s 0)) 0 end_mark) ≡ true
unfolding pages_ok tree_in
pages_tree s h =
    let a = both (front_ok s && went_ok (used_of (page_at s 0)) (tree_in s)) (zero_at (pages_size - page_size * used_of (page_at s 0)) (page_size * used_of (page_at s 0)) s) h in
    let w = went_ok_lem (used_of (page_at s 0)) (tree_in s) (both (front_ok s) (went_ok (used_of (page_at s 0)) (tree_in s)) a.0).1 in
    (guard_went (tree_ok (height_of (page_at s 0) - 1) 2 s (span_of (root_of (page_at s 0)) 0 end_mark)) (marks (used_of (page_at s 0)) (reached (height_of (page_at s 0) - 1) s (root_of (page_at s 0))) only_zero) w.0
    (sym (walk_is (height_of (page_at s 0) - 1) 2 s (used_of (page_at s 0)) (span_of (root_of (page_at s 0)) 0 end_mark) only_zero) ∙ w.1)).0

-- ---- the tests one after the other
module _ (s d : List ℕ) (a : Bool) (e : a ≡ pages_ok s) where
  pub not_pages : not a ≡ true → false ≡ whole_ok s d
  unfolding whole_ok
  not_pages t = sym (ap (λ x. (x && desk_ok d) && locks_ok (height_of (page_at s 0) - 1) s d (root_of (page_at s 0))) (sym e ∙ not-true a t))

  module _ (t : not a ≡ false) where
    good_pages : pages_ok s ≡ true
    good_pages = sym e ∙ not-false a t

    pub tall_pages : (h : ℕ) → h ≡ height_of (page_at s 0) → 1 ≤ h
    tall_pages h f = height_some s h f (front_parts s (pages_front s good_pages)).2

    pub fine_root : (r h : ℕ) → Bytes s → length s ≡ pages_size → r ≡ root_of (page_at s 0) → h ≡ height_of (page_at s 0) → Fine (h - 1) s r
    fine_root r h b size x y =
        record { least = 2; low = 0; high = end_mark; one = lit≤ tt; bytes = b; size = size; ok = subst (λ k. tree_ok (k - 1) 2 s (span_of r 0 end_mark) ≡ true) (sym y) (subst (λ v. tree_ok (height_of (page_at s 0) - 1) 2 s (span_of v 0 end_mark) ≡ true) (sym x) (pages_tree s good_pages)) }

    module _ (b : Bool) (f : b ≡ desk_ok d) where
      pub not_desk : not b ≡ true → false ≡ whole_ok s d
      unfolding whole_ok
      not_desk v = sym (ap₂ (λ x y. (x && y) && locks_ok (height_of (page_at s 0) - 1) s d (root_of (page_at s 0))) good_pages (sym f ∙ not-true b v))

      pub whole_done : (r h : ℕ) (c : Bool) → not b ≡ false → r ≡ root_of (page_at s 0) → h ≡ height_of (page_at s 0) → c ≡ locks_ok (h - 1) s d r → c ≡ whole_ok s d
      unfolding whole_ok
      whole_done r h c v u w z =
          z
          ∙ ap₂ (λ k m. locks_ok (k - 1) s d m) w u
          ∙ sym (ap₂ (λ x y. (x && y) && locks_ok (height_of (page_at s 0) - 1) s d (root_of (page_at s 0))) good_pages (sym f ∙ not-false b v))
