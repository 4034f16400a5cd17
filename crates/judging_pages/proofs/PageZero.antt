-- Page 0 has the bytes that root, used and height write, exactly where it passes its test; and the pages that are not used are zero exactly
-- where the bytes from there on are. By the fields and the zeros, byte for byte. Assumes nothing.
use mathlib.Core.Path.{◌≡◌, sym, ap, ◌∙◌}
use mathlib.Core.Bool.{true, ◌&&◌}
use mathlib.Core.List.{List, [], ◌∷◌}
use Prim.Native.Nat.{ℕ, ◌+◌, ◌*◌, ◌-◌, ◌/◌, ◌%◌, ◌≤◌, ◌<◌}
use native.Mathlib.Decide.{dec_lt}
use native.Mathlib.Omega.{arith}
use borrow.Author.Tests.{eqb-true, eq-eqb}
use lib.Dec.{eqb, lit<, lit≤}
use lib.ListN.{length, get_or, replicate, length-replicate}
use lib.Seq.{ext_get_or}
use Rattle.limits.specs.Limits.{pages_most, page_size, head_size, body_size, pages_size}
use Rattle.lists.proofs.Tests.{both, and_both}
use Rattle.lists.proofs.Places.{get_d_alike}
use Rattle.numbers.specs.Numbers.{number_at, width_of, fields_at, part, zero_at, Bytes}
use Rattle.numbers.proofs.Agree.{Agree}
use Rattle.numbers.proofs.Numbers.{number_below, numbers_inj, number_at_ext}
use Rattle.numbers.proofs.Fields.{fields_same, fields_inj, touches_put_fields, length_put_fields}
use Rattle.numbers.proofs.Parts.{length_part, get_d_part}
use Rattle.numbers.proofs.ByteMoves.{zero_at_true, zero_at_is}
use Rattle.numbers.proofs.BytesKept.{bytes_put_fields}
use Rattle.rows.specs.PageHead.{root_widths, count_of, root_of, used_of, height_of, put_root}
use Rattle.index.specs.Pictures.{page_at, blank_page, head_page}
use Rattle.index.proofs.BlankPages.{length_blank, bytes_blank, blank_zero, count_blank}
use Rattle.judging_pages.specs.PageChecks.{head_ok, first_page_ok}
use Rattle.judging_pages.proofs.Layouts.{head_bytes, fields_head}

module _ (p : List ℕ) (g : Bytes p) where
  abbrev written : List ℕ
  written = head_page (root_of p) (used_of p) (height_of p)

  written_length : length written ≡ page_size
  unfolding head_page put_root
  written_length = length_put_fields root_widths (blank_page 1 0) head_size (root_of p ∷ used_of p ∷ height_of p ∷ []) ∙ length_blank 1 0

  written_head : (k : ℕ) → k < head_size → get_or written k 0 ≡ get_or (blank_page 1 0) k 0
  unfolding head_page put_root width_of
  written_head k h = (touches_put_fields root_widths (blank_page 1 0) head_size (root_of p ∷ used_of p ∷ height_of p ∷ [])).rest k (omega arith)

  written_rest : (k : ℕ) → head_size + 6 ≤ k → get_or written k 0 ≡ 0
  unfolding head_page put_root width_of
  written_rest k h = (touches_put_fields root_widths (blank_page 1 0) head_size (root_of p ∷ used_of p ∷ height_of p ∷ [])).rest k (omega arith) ∙ blank_zero 1 0 k (omega arith)

  written_root : Agree 6 p head_size written head_size
  unfolding head_page put_root width_of fields_at
  written_root =
      let b = length_blank 1 0 in
      let f : fields_at root_widths written head_size ≡ root_of p ∷ used_of p ∷ height_of p ∷ [] =
      fields_same root_widths (blank_page 1 0) head_size (root_of p ∷ used_of p ∷ height_of p ∷ []) (number_below 2 p head_size g, (number_below 2 p (head_size + 2) g, (number_below 2 p (head_size + 4) g, tt))) (omega arith) in
      fields_inj root_widths g (bytes_put_fields root_widths (blank_page 1 0) head_size (root_of p ∷ used_of p ∷ height_of p ∷ []) (bytes_blank 1 0)) (sym f)

  pub first_laid : length p ≡ page_size → first_page_ok p ≡ true → p ≡ head_page (root_of p) (used_of p) (height_of p)
  unfolding first_page_ok
  first_laid size h =
      let a = both (head_ok 1 0 p && eqb (count_of p) 0) (zero_at (body_size - 6) (head_size + 6) p) h in
      let b = both (head_ok 1 0 p) (eqb (count_of p) 0) a.0 in
      let n : count_of p ≡ 0 = eqb-true (count_of p) 0 b.1 in
      let c : Agree 2 p 4 (blank_page 1 0) 4 = same_count n in
      let z = zero_at_true (body_size - 6) (head_size + 6) p a.1 (omega arith) in
      ext_get_or 0 p written (size ∙ sym written_length) (λ k l. at k (omega arith) b.0 c z (dec_lt k head_size) (dec_lt k (head_size + 6)) (dec_lt k 4) (dec_lt k 6))
    where
      same_count : count_of p ≡ 0 → Agree 2 p 4 (blank_page 1 0) 4
      same_count n = numbers_inj 2 g (bytes_blank 1 0) (n ∙ sym (count_blank 1 0))

      at : (k : ℕ) → k < page_size → head_ok 1 0 p ≡ true → Agree 2 p 4 (blank_page 1 0) 4 → Agree (body_size - 6) p (head_size + 6) [] 0 → Dec (k < head_size) → Dec (k < head_size + 6) → Dec (k < 4) → Dec (k < 6) → get_or p k 0 ≡ get_or written k 0
      at k l h c z (yes i) j (yes m) o = head_bytes 1 0 (lit< tt) (lit< tt) p g h k i (omega arith) ∙ sym (written_head k i)
      at k l h c z (yes i) j (no m) (yes o) =
          let q : k ≡ 4 + (k - 4) = omega arith in
          let r : get_or p k 0 ≡ get_or (blank_page 1 0) k 0 = rw q (c.byte (k - 4) (omega arith)) in
          r ∙ sym (written_head k i)
      at k l h c z (yes i) j (no m) (no o) = head_bytes 1 0 (lit< tt) (lit< tt) p g h k i (omega arith) ∙ sym (written_head k i)
      at k l h c z (no i) (yes j) m o =
          let q : k ≡ head_size + (k - head_size) = omega arith in
          rw q (written_root.byte (k - head_size) (omega arith))
      at k l h c z (no i) (no j) m o =
          let q : k ≡ head_size + 6 + (k - (head_size + 6)) = omega arith in
          let r : get_or p k 0 ≡ 0 = ap (λ x. get_or p x 0) q ∙ z.byte (k - (head_size + 6)) (omega arith) in
          r ∙ sym (written_rest k (omega arith))

  pub laid_first : p ≡ head_page (root_of p) (used_of p) (height_of p) → (first_page_ok p ≡ true) × (length p ≡ page_size)
  unfolding first_page_ok
  laid_first e =
      let size : length p ≡ page_size = ap length e ∙ written_length in (
        and_both (head_ok 1 0 p && eqb (count_of p) 0) (zero_at (body_size - 6) (head_size + 6) p)
            (and_both (head_ok 1 0 p) (eqb (count_of p) 0)
            (fields_head 1 0 (lit< tt) (lit< tt) p (same 2 0 (lit≤ tt)) (same 2 2 (lit≤ tt)) (same 2 6 (lit≤ tt)) (same 8 8 (lit≤ tt)))
            (eq-eqb (count_of p) 0 (same 2 4 (lit≤ tt) ∙ count_blank 1 0)))
            (zero_at_is (body_size - 6) (head_size + 6) p (omega arith) (record { byte = λ k h. ap (λ s. get_or s (head_size + 6 + k) 0) e ∙ written_rest (head_size + 6 + k) (omega arith) })),
        size,
      )
    where
      same : (w at : ℕ) → at + w ≤ head_size → number_at w p at ≡ number_at w (blank_page 1 0) at
      same w at h = ap (λ s. number_at w s at) e ∙ number_at_ext w (record { byte = λ k l. written_head (at + k) (omega arith) })

-- ---- pages that are not used
module _ (s : List ℕ) (size : length s ≡ pages_size) (used : ℕ) (few : used ≤ pages_most) where
  pub spare_zero : zero_at (pages_size - page_size * used) (page_size * used) s ≡ true → (q : ℕ) → used ≤ q → q < pages_most → page_at s q ≡ replicate page_size 0
  unfolding page_at
  spare_zero h q a b =
      let z = zero_at_true (pages_size - page_size * used) (page_size * used) s h (omega arith) in
      ext_get_or 0 (part (page_size * q) page_size s) (replicate page_size 0) (length_part (page_size * q) page_size s (omega arith) ∙ sym (length-replicate {A = ℕ} page_size 0))
      (λ k l.
      let m : k < page_size = omega (arith, length_part (page_size * q) page_size s (omega arith)) in
      let e : page_size * q + k ≡ page_size * used + (page_size * q + k - page_size * used) = omega arith in
      get_d_part (page_size * q) page_size s k m ∙ ap (λ x. get_or s x 0) e ∙ z.byte (page_size * q + k - page_size * used) (omega arith) ∙ sym (get_d_alike page_size k 0))

  pub zero_spare : ((q : ℕ) → used ≤ q → q < pages_most → page_at s q ≡ replicate page_size 0) → zero_at (pages_size - page_size * used) (page_size * used) s ≡ true
  unfolding page_at
  zero_spare h =
      zero_at_is (pages_size - page_size * used) (page_size * used) s (omega arith)
      (record {
        byte = λ k l.
            let e : page_size * used + k ≡ page_size * ((page_size * used + k) / page_size) + (page_size * used + k) % page_size = omega arith in
            let m : (page_size * used + k) % page_size < page_size = omega arith in
            ap (λ x. get_or s x 0) e
            ∙ sym (get_d_part (page_size * ((page_size * used + k) / page_size)) page_size s ((page_size * used + k) % page_size) m)
            ∙ ap (λ p. get_or p ((page_size * used + k) % page_size) 0) (h ((page_size * used + k) / page_size) (omega arith) (omega arith))
            ∙ get_d_alike page_size ((page_size * used + k) % page_size) 0;
      })
