-- A page of the buffer, and the buffer with another page there: what is read of it then, and how the part that is lent to the page code is
-- that page. Pages lie 512 bytes apart. Assumes nothing.
use Prim.Native.Nat.{ℕ, ◌+◌, ◌*◌, ◌-◌, ◌≤◌, ◌<◌}
use mathlib.Core.Path.{◌≡◌, refl, sym, ◌∙◌}
use mathlib.Core.Logic.{◌≢◌}
use mathlib.Core.List.{List, [], ◌∷◌}
use native.Mathlib.Decide.{dec_lt}
use native.Mathlib.Omega.{arith}
use lib.ListN.{length, take, drop, length-take, length-drop}
use borrow.Rule.Slice.PartMut.{put_mid}
use Rattle.limits.specs.Limits.{pages_most, page_size, pages_size}
use Rattle.numbers.specs.Numbers.{part}
use Rattle.numbers.proofs.Parts.{length_part, length_put_part, part_same, part_other, lent, back}
use Rattle.index.specs.Pictures.{page_at, put_page}

module _ (s : List ℕ) (size : length s ≡ pages_size) (q : ℕ) (h : q < pages_most) where
  pub length_page : length (page_at s q) ≡ page_size
  unfolding page_at
  length_page = length_part (page_size * q) page_size s (omega arith)

  module _ (g : List ℕ) (l : length g ≡ page_size) where
    pub length_put_page : length (put_page s q g) ≡ pages_size
    unfolding put_page
    length_put_page = length_put_part (page_size * q) g s (omega arith) ∙ size

    pub page_same : page_at (put_page s q g) q ≡ g
    unfolding page_at put_page
    page_same = part_same (page_size * q) page_size g s l (omega arith)

    pub page_other : (r : ℕ) → r < pages_most → r ≢ q → page_at (put_page s q g) r ≡ page_at s r
    unfolding page_at put_page
    page_other r k d = part_other (page_size * r) page_size (page_size * q) g s (omega arith) (omega arith) (omega arith)

-- there is no page from 64 on
none_of : (t : List ℕ) → length t ≡ 0 → t ≡ []
none_of [] e = refl
none_of (x ∷ t) e = absurd (omega arith)

pub page_none : (s : List ℕ) → length s ≡ pages_size → (r : ℕ) → pages_most ≤ r → page_at s r ≡ []
unfolding page_at part
page_none s size r h = none_of (take page_size (drop (page_size * r) s)) (simp (length-take, length-drop) (omega arith))

pub page_kept : (s : List ℕ) → length s ≡ pages_size → (q : ℕ) → q < pages_most → (g : List ℕ) → length g ≡ page_size → (r : ℕ) → r ≢ q
    → page_at (put_page s q g) r ≡ page_at s r
page_kept s size q h g l r d = go (dec_lt r pages_most)
  where
    go : Dec (r < pages_most) → page_at (put_page s q g) r ≡ page_at s r
    go (yes k) = page_other s size q h g l r k d
    go (no k) = page_none (put_page s q g) (length_put_page s size q h g l) r (omega arith) ∙ sym (page_none s size r (omega arith))

-- the part that starts at the page's offset
pub page_lent : (s : List ℕ) (q : ℕ) → take (page_size * q + page_size - page_size * q) (drop (page_size * q) s) ≡ page_at s q
unfolding page_at
page_lent s q = lent (page_size * q) page_size s

pub page_back : (s : List ℕ) (q : ℕ) (t u : List ℕ) → length t ≡ length (take (page_size * q + page_size - page_size * q) (drop (page_size * q) s)) → t ≡ u
    → put_mid (page_size * q) (page_size * q + page_size - page_size * q) s t ≡ put_page s q u
unfolding put_page
page_back s q t u l e = back (page_size * q) page_size t u s l e
