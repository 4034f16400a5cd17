-- The first separator of an inner page, as a row has it: it is read, and set to 0. Byte by byte. Assumes nothing.
use mathlib.Core.Path.{◌≡◌, sym, ap, ◌∙◌}
use mathlib.Core.List.{List, [], ◌∷◌, ◌++◌}
use Prim.Native.Nat.{ℕ, suc, ◌+◌, ◌-◌, ◌*◌, ◌≤◌, ◌<◌}
use native.Mathlib.Nat.{zero-add}
use native.Mathlib.Omega.{arith}
use native.Mathlib.Decide.{dec_lt}
use lib.Dec.{lit<}
use lib.ListN.{length, get_or, get_or-append}
use lib.Seq.{get_or-append-add}
use Rattle.limits.specs.Limits.{key_size, head_size}
use Rattle.lists.specs.Lists.{join}
use Rattle.numbers.specs.Numbers.{number_at, put_number}
use Rattle.numbers.proofs.Numbers.{number_at_ext, length_put_number, get_d_put_number_in, get_d_put_number_out}
use Rattle.rows.specs.PageRows.{with_rows}
use Rattle.pages.specs.PageChanges.{from_zero, first_low}
use Rattle.rows.proofs.PageRows.{bytes_of, wide_first, wide_rest, wide_more}
use Rattle.rows.proofs.WithRows.{Fit, Holds, holds_same, holds_with}

-- ---- the first row's separator set to 0
number_first : (r u : List ℕ) (rs : List (List ℕ)) (k : ℕ) → k < key_size → key_size ≤ length r → head_size + key_size ≤ length u
    → get_or (put_number key_size u head_size 0) (head_size + k) 0 ≡ get_or (bytes_of (put_number key_size r 0 0 ∷ rs)) k 0
unfolding join
number_first r u rs k h l m =
    get_d_put_number_in key_size u head_size 0 k h m
    ∙ sym (get_d_put_number_in key_size r 0 0 k h l)
    ∙ ap (λ x. get_or (put_number key_size r 0 0) x 0) (zero-add k)
    ∙ sym (get_or-append (put_number key_size r 0 0) (bytes_of rs) 0 k (omega (arith, length_put_number key_size r 0 0)))

number_later : (r : List ℕ) (rs : List (List ℕ)) (k : ℕ) → key_size ≤ k → get_or (bytes_of (r ∷ rs)) k 0 ≡ get_or (bytes_of (put_number key_size r 0 0 ∷ rs)) k 0
unfolding join
number_later r rs k h = at (dec_lt k (length r))
  where
    r₀ : List ℕ
    r₀ = put_number key_size r 0 0

    e : length r₀ ≡ length r
    e = length_put_number key_size r 0 0

    at : Dec (k < length r) → get_or (r ++ bytes_of rs) k 0 ≡ get_or (r₀ ++ bytes_of rs) k 0
    at (yes l) =
        get_or-append r (bytes_of rs) 0 k l
        ∙ sym (get_or-append r₀ (bytes_of rs) 0 k (omega (arith, e)) ∙ get_d_put_number_out key_size r 0 0 k (omega arith))
    at (no l) =
        let a : k ≡ length r + (k - length r) = omega arith in
        let b : length r₀ + (k - length r) ≡ k = omega (arith, e) in
        ap (λ x. get_or (r ++ bytes_of rs) x 0) a
        ∙ get_or-append-add r (bytes_of rs) (k - length r) 0
        ∙ sym (get_or-append-add r₀ (bytes_of rs) (k - length r) 0)
        ∙ ap (λ x. get_or (r₀ ++ bytes_of rs) x 0) b

pub first_from_zero : (z : ℕ) (p : List ℕ) (rs : List (List ℕ)) → Fit z p rs → key_size ≤ z → 0 < length rs
    → put_number key_size (with_rows z p rs) head_size 0 ≡ with_rows z p (from_zero rs)
first_from_zero z p [] f w h = absurd (omega arith)
first_from_zero z p (r ∷ rs) f w h =
    holds_same z p (r₀ ∷ rs) (put_number key_size u head_size 0) (with_rows z p (r₀ ∷ rs))
    (record {
      len = length_put_number key_size u head_size 0 ∙ a.len;
      low = get_d_put_number_out key_size u head_size 0 4 (lit< tt) ∙ a.low;
      high = get_d_put_number_out key_size u head_size 0 5 (lit< tt) ∙ a.high;
      head = λ k i j. get_d_put_number_out key_size u head_size 0 k (omega arith) ∙ a.head k i j;
      rows = λ k i. at k i (dec_lt k key_size);
      freed = λ k i j. get_d_put_number_out key_size u head_size 0 k (omega arith) ∙ a.freed k i j;
      behind = λ k i j. get_d_put_number_out key_size u head_size 0 k (omega arith) ∙ a.behind k i j;
    })
    (holds_with z p (r₀ ∷ rs) (record { wide = wide_more z r₀ rs (length_put_number key_size r 0 0 ∙ b) (wide_rest z r rs f.wide); own = f.own; room = f.room; few = f.few }))
  where
    u : List ℕ
    u = with_rows z p (r ∷ rs)

    r₀ : List ℕ
    r₀ = put_number key_size r 0 0

    a : Holds z p (r ∷ rs) u
    a = holds_with z p (r ∷ rs) f

    b : length r ≡ z
    b = wide_first z r rs f.wide

    at : (k : ℕ) → k < z * suc (length rs) → Dec (k < key_size) → get_or (put_number key_size u head_size 0) (head_size + k) 0 ≡ get_or (bytes_of (r₀ ∷ rs)) k 0
    at k i (yes c) = number_first r u rs k c (omega (arith, b)) (omega (arith, f.room, a.len))
    at k i (no c) = get_d_put_number_out key_size u head_size 0 (head_size + k) (omega arith) ∙ a.rows k i ∙ number_later r rs k (omega arith)

pub first_low_lem : (z : ℕ) (p : List ℕ) (rs : List (List ℕ)) → Fit z p rs → key_size ≤ z → 0 < length rs → number_at key_size (with_rows z p rs) head_size ≡ first_low rs
unfolding join
first_low_lem z p [] f w h = absurd (omega arith)
first_low_lem z p (r ∷ rs) f w h =
    let e = wide_first z r rs f.wide in
    number_at_ext key_size
    (record {
      byte = λ k l. (holds_with z p (r ∷ rs) f).rows k (omega arith)
          ∙ get_or-append r (bytes_of rs) 0 k (omega arith)
          ∙ ap (λ x. get_or r x 0) (sym (zero-add k));
    })
