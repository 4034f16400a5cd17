-- Laws of a page that is given other rows (`with_rows`): what is read of it then, that it may be done at once instead of in two steps, and
-- that unused bytes stay zero. By what stands at each byte of it, which says all of it. Assumes nothing.
use mathlib.Core.Path.{◌≡◌, refl, sym, ap, ap₂, ◌∙◌}
use mathlib.Core.Bool.{true}
use mathlib.Core.List.{List, ◌++◌}
use Prim.Native.Nat.{ℕ, ◌+◌, ◌-◌, ◌*◌, ◌/◌, ◌%◌, ◌≤◌, ◌<◌}
use native.Mathlib.Nat.{mul-le-mul_left, mul-sub, zero-add, div-one}
use native.Mathlib.Decide.{dec_lt}
use native.Mathlib.Omega.{arith}
use lib.Dec.{lit<, lit≤}
use lib.ListN.{length, get_or, replicate, length-append, length-replicate, get_or-replicate, get_or-append}
use lib.Seq.{ext_get_or, get_or-append-add}
use Rattle.limits.specs.Limits.{head_size}
use Rattle.lists.specs.Lists.{insert_at}
use Rattle.lists.proofs.Places.{length_insert_at}
use Rattle.numbers.specs.Numbers.{number_at, part, put_part, zero_at, Apart, Bytes}
use Rattle.numbers.proofs.Agree.{Agree}
use Rattle.numbers.proofs.Numbers.{number_at_ext, length_put_number, get_d_put_number_in, get_d_put_number_out, number_below}
use Rattle.numbers.proofs.Parts.{length_put_part, get_d_part, get_d_put_part_in, get_d_put_part_out, part_ext, part_all}
use Rattle.numbers.proofs.ByteMoves.{zero_at_true, zero_at_is}
use Rattle.rows.specs.PageHead.{kind_of, count_of}
use Rattle.rows.specs.PageRows.{rows_of, with_rows}
use Rattle.rows.proofs.PageRows.{Wide, bytes_of, length_bytes, rows_told, length_rows_of, wide_rows_of, bytes_rows_of}

-- the page has room for its own rows and for these
pub record Fit (z : ℕ) (p : List ℕ) (rs : List (List ℕ)) : Type 0 where
  pub wide : Wide z rs
  pub own : head_size + z * count_of p ≤ length p
  pub room : head_size + z * length rs ≤ length p
  pub few : length rs < 65536

-- what stands at each byte of u, where u is page p with rows rs
pub record Holds (z : ℕ) (p : List ℕ) (rs : List (List ℕ)) (u : List ℕ) : Type 0 where
  pub len : length u ≡ length p
  pub low : get_or u 4 0 ≡ length rs % 256
  pub high : get_or u 5 0 ≡ length rs / 256 % 256
  pub head : (k : ℕ) → k < head_size → Apart k 1 4 2 → get_or u k 0 ≡ get_or p k 0
  pub rows : (k : ℕ) → k < z * length rs → get_or u (head_size + k) 0 ≡ get_or (bytes_of rs) k 0
  pub freed : (k : ℕ) → head_size + z * length rs ≤ k → k < head_size + z * count_of p → get_or u k 0 ≡ 0
  pub behind : (k : ℕ) → head_size + z * length rs ≤ k → head_size + z * count_of p ≤ k → get_or u k 0 ≡ get_or p k 0

-- which says all of it
pub holds_same : (z : ℕ) (p : List ℕ) (rs : List (List ℕ)) (u v : List ℕ) → Holds z p rs u → Holds z p rs v → u ≡ v
holds_same z p rs u v f g = ext_get_or 0 u v (f.len ∙ sym g.len) (λ k l. in_head k (dec_lt k head_size) (dec_lt k 4) (dec_lt k 5) (dec_lt k 6))
  where
    in_rows : (k : ℕ) → head_size ≤ k → Dec (k < head_size + z * length rs) → Dec (k < head_size + z * count_of p) → get_or u k 0 ≡ get_or v k 0
    in_rows k h (yes a) b =
        let e : k ≡ head_size + (k - head_size) = omega arith in
        let i : k - head_size < z * length rs = omega arith in
        rw e (f.rows (k - head_size) i ∙ sym (g.rows (k - head_size) i))
    in_rows k h (no a) (yes b) = f.freed k (omega arith) b ∙ sym (g.freed k (omega arith) b)
    in_rows k h (no a) (no b) = f.behind k (omega arith) (omega arith) ∙ sym (g.behind k (omega arith) (omega arith))

    in_head : (k : ℕ) → Dec (k < head_size) → Dec (k < 4) → Dec (k < 5) → Dec (k < 6) → get_or u k 0 ≡ get_or v k 0
    in_head k (no h) a b c = in_rows k (omega arith) (dec_lt k (head_size + z * length rs)) (dec_lt k (head_size + z * count_of p))
    in_head k (yes h) (yes a) b c = f.head k h (omega arith) ∙ sym (g.head k h (omega arith))
    in_head k (yes h) (no a) (yes b) c = let e : k ≡ 4 = omega arith in rw e (f.low ∙ sym g.low)
    in_head k (yes h) (no a) (no b) (yes c) = let e : k ≡ 5 = omega arith in rw e (f.high ∙ sym g.high)
    in_head k (yes h) (no a) (no b) (no c) = f.head k h (omega arith) ∙ sym (g.head k h (omega arith))

-- the bytes that are written behind the head
abbrev pub strip : ℕ → List ℕ → List (List ℕ) → List ℕ
strip z p rs = bytes_of rs ++ replicate (z * (count_of p - length rs)) 0

module _ (z : ℕ) (p : List ℕ) (rs : List (List ℕ)) (f : Fit z p rs) where
  length_strip : length (strip z p rs) ≡ z * length rs + (z * count_of p - z * length rs)
  length_strip =
      length-append (bytes_of rs) (replicate (z * (count_of p - length rs)) 0)
      ∙ ap₂ (λ x y. x + y) (length_bytes z rs f.wide) (length-replicate (z * (count_of p - length rs)) 0 ∙ mul-sub z (count_of p) (length rs))

  pub span : head_size + length (strip z p rs) ≤ length p
  span = omega (arith, length_strip, f.own, f.room)

  pub holds_with : Holds z p rs (with_rows z p rs)
  unfolding with_rows
  holds_with =
      let e = length_strip in
      let s = span in
      let b = length_bytes z rs f.wide in
      record {
        len = length_put_number 2 u 4 (length rs) ∙ length_put_part head_size (strip z p rs) p s;
        low = get_d_put_number_in 2 u 4 (length rs) 0 (lit< tt) (omega (arith, l)) ∙ ap (λ x. x % 256) (div-one (length rs));
        high = get_d_put_number_in 2 u 4 (length rs) 1 (lit< tt) (omega (arith, l));
        head = λ k h a. get_d_put_number_out 2 u 4 (length rs) k a ∙ get_d_put_part_out head_size (strip z p rs) p k s (omega arith);
        rows = λ k h.
            get_d_put_number_out 2 u 4 (length rs) (head_size + k) (omega arith)
            ∙ get_d_put_part_in head_size (strip z p rs) p k (omega arith) (omega arith)
            ∙ get_or-append (bytes_of rs) zeros 0 k (omega arith);
        freed = λ k h m.
            let q : k ≡ head_size + (length (bytes_of rs) + (k - (head_size + z * length rs))) = omega arith in
            get_d_put_number_out 2 u 4 (length rs) k (omega arith)
            ∙ ap (λ x. get_or u x 0) q
            ∙ get_d_put_part_in head_size (strip z p rs) p (length (bytes_of rs) + (k - (head_size + z * length rs))) (omega arith) (omega arith)
            ∙ get_or-append-add (bytes_of rs) zeros (k - (head_size + z * length rs)) 0
            ∙ get_or-replicate (z * (count_of p - length rs)) (k - (head_size + z * length rs)) 0 0 (omega (arith, mul-sub z (count_of p) (length rs)));
        behind = λ k h m.
            get_d_put_number_out 2 u 4 (length rs) k (omega arith) ∙ get_d_put_part_out head_size (strip z p rs) p k s (omega arith);
      }
    where
      zeros : List ℕ
      zeros = replicate (z * (count_of p - length rs)) 0

      u : List ℕ
      u = put_part head_size (strip z p rs) p

      l : length u ≡ length p
      l = length_put_part head_size (strip z p rs) p span

  -- ---- what is read of it
  pub length_with : length (with_rows z p rs) ≡ length p
  length_with = holds_with.len

  pub count_with : count_of (with_rows z p rs) ≡ length rs
  unfolding number_at
  count_with = let h = holds_with in omega (arith, h.low, h.high, f.few)

  -- the head but for the count
  pub head_with : (w at : ℕ) → at + w ≤ head_size → Apart at w 4 2 → number_at w (with_rows z p rs) at ≡ number_at w p at
  head_with w at h a = number_at_ext w (record { byte = λ k l. holds_with.head (at + k) (omega arith) (omega arith) })

  pub kind_with : kind_of (with_rows z p rs) ≡ kind_of p
  kind_with = head_with 2 2 (lit≤ tt) (lit< tt)

  pub rows_with : rows_of z (with_rows z p rs) ≡ rs
  rows_with =
      let l = length_with in
      let c = count_with in
      let b = length_bytes z rs f.wide in
      let own : head_size + z * count_of (with_rows z p rs) ≤ length (with_rows z p rs) = rw (c, l) f.room in
      let g : Agree (z * length rs) (with_rows z p rs) head_size (bytes_of rs) 0 =
      record { byte = λ k h. holds_with.rows k h ∙ ap (λ x. get_or (bytes_of rs) x 0) (sym (zero-add k)) } in
      rows_told z (rows_of z (with_rows z p rs)) rs (wide_rows_of z (with_rows z p rs) own) f.wide (length_rows_of z (with_rows z p rs) ∙ c)
      (bytes_rows_of z (with_rows z p rs)
      ∙ ap (λ n. part head_size (z * n) (with_rows z p rs)) c
      ∙ part_ext (z * length rs) (omega (arith, f.room)) (omega arith) g
      ∙ part_all (z * length rs) (bytes_of rs) (omega arith))

  -- "Unused bytes are zero": where they are zero before, they are so afterwards
  pub zero_with : (b : ℕ) → b ≤ length p → zero_at (b - (head_size + z * count_of p)) (head_size + z * count_of p) p ≡ true
      → zero_at (b - (head_size + z * length rs)) (head_size + z * length rs) (with_rows z p rs) ≡ true
  zero_with b h e =
      let l = length_with in
      let own : head_size + z * count_of p ≤ length p = f.own in
      let room : head_size + z * length rs ≤ length p = f.room in
      zero_at_is (b - (head_size + z * length rs)) (head_size + z * length rs) (with_rows z p rs) (omega arith)
      (record { byte = λ k m. at (head_size + z * length rs + k) (omega arith) (omega arith) (dec_lt (head_size + z * length rs + k) (head_size + z * count_of p)) })
    where
      at : (k : ℕ) → head_size + z * length rs ≤ k → k < b → Dec (k < head_size + z * count_of p) → get_or (with_rows z p rs) k 0 ≡ 0
      at k m j (yes a) = holds_with.freed k m a
      at k m j (no a) =
          let q : k ≡ head_size + z * count_of p + (k - (head_size + z * count_of p)) = omega arith in
          let i : k - (head_size + z * count_of p) < b - (head_size + z * count_of p) = omega arith in
          holds_with.behind k m (omega arith)
          ∙ ap (λ x. get_or p x 0) q
          ∙ (zero_at_true (b - (head_size + z * count_of p)) (head_size + z * count_of p) p e (omega (arith, f.own))).byte (k - (head_size + z * count_of p)) i

-- ---- rows that fit
fit_own : (z : ℕ) (p : List ℕ) → head_size + z * count_of p ≤ length p → count_of p < 65536 → Fit z p (rows_of z p)
fit_own z p h l =
    let e = length_rows_of z p in
    record { wide = wide_rows_of z p h; own = h; room = rw e h; few = omega arith }

module _ (z : ℕ) (p : List ℕ) (i : ℕ) where
  pub length_insert : (r : List ℕ) → length (insert_at i r (rows_of z p)) ≡ count_of p + 1
  length_insert r = length_insert_at i r (rows_of z p) ∙ ap (λ m. m + 1) (length_rows_of z p)

pub fit_with : (z : ℕ) (p : List ℕ) (rs qs : List (List ℕ)) → Fit z p rs → Fit z p qs → Fit z (with_rows z p rs) qs
fit_with z p rs qs f g =
    let l = length_with z p rs f in
    record { wide = g.wide; own = rw (count_with z p rs f, l) f.room; room = rw l g.room; few = g.few }

-- ---- other rows instead of those: what was given between counts no more, where what only its rows have written over was zero
with_over : (z : ℕ) (p : List ℕ) (rs qs : List (List ℕ)) → Fit z p rs → Fit z p qs
    → ((k : ℕ) → head_size + z * length qs ≤ k → head_size + z * count_of p ≤ k → k < head_size + z * length rs → get_or p k 0 ≡ 0)
    → with_rows z (with_rows z p rs) qs ≡ with_rows z p qs
with_over z p rs qs f g h =
    holds_same z p qs (with_rows z u qs) (with_rows z p qs)
    (record {
      len = b.len ∙ a.len;
      low = b.low;
      high = b.high;
      head = λ k i j. b.head k i j ∙ a.head k i j;
      rows = b.rows;
      freed = λ k i j. within k i j (dec_lt k (head_size + z * length rs));
      behind = λ k i j. past k i j (dec_lt k (head_size + z * length rs));
    })
    (holds_with z p qs g)
  where
    u : List ℕ
    u = with_rows z p rs

    a : Holds z p rs u
    a = holds_with z p rs f

    b : Holds z u qs (with_rows z u qs)
    b = holds_with z u qs (fit_with z p rs qs f g)

    c : count_of u ≡ length rs
    c = count_with z p rs f

    within : (k : ℕ) → head_size + z * length qs ≤ k → k < head_size + z * count_of p → Dec (k < head_size + z * length rs) → get_or (with_rows z u qs) k 0 ≡ 0
    within k i j (yes m) = b.freed k i (rw c m)
    within k i j (no m) = b.behind k i (rw c (omega arith)) ∙ a.freed k (omega arith) j

    past : (k : ℕ) → head_size + z * length qs ≤ k → head_size + z * count_of p ≤ k → Dec (k < head_size + z * length rs) → get_or (with_rows z u qs) k 0 ≡ get_or p k 0
    past k i j (yes m) = b.freed k i (rw c m) ∙ sym (h k i j m)
    past k i j (no m) = b.behind k i (rw c (omega arith)) ∙ a.behind k (omega arith) j

-- so where its rows lie within the page's own or the later ones
pub with_with : (z : ℕ) (p : List ℕ) (rs qs : List (List ℕ)) → Fit z p rs → Fit z p qs → length rs ≤ length qs + (count_of p - length qs)
    → with_rows z (with_rows z p rs) qs ≡ with_rows z p qs
with_with z p rs qs f g h = with_over z p rs qs f g (λ k i j m. absurd (never k i j m (dec_lt (length qs) (count_of p))))
  where
    never : (k : ℕ) → head_size + z * length qs ≤ k → head_size + z * count_of p ≤ k → k < head_size + z * length rs → Dec (length qs < count_of p) → ⊥
    never k i j m (yes d) = let l : length rs ≤ count_of p = omega arith in omega (arith, mul-le-mul_left z l)
    never k i j m (no d) = let l : length rs ≤ length qs = omega arith in omega (arith, mul-le-mul_left z l)

-- and where the page's unused bytes are zero
pub with_blank : (z : ℕ) (p : List ℕ) (rs qs : List (List ℕ)) → Fit z p rs → Fit z p qs
    → zero_at (length p - (head_size + z * count_of p)) (head_size + z * count_of p) p ≡ true → with_rows z (with_rows z p rs) qs ≡ with_rows z p qs
with_blank z p rs qs f g e =
    with_over z p rs qs f g
    (λ k i j m.
    let q : k ≡ head_size + z * count_of p + (k - (head_size + z * count_of p)) = omega arith in
    ap (λ x. get_or p x 0) q
    ∙ (zero_at_true (length p - (head_size + z * count_of p)) (head_size + z * count_of p) p e (omega (arith, f.own))).byte (k - (head_size + z * count_of p)) (omega (arith, f.room)))

count_low : (p : List ℕ) → Bytes p → get_or p 4 0 ≡ count_of p % 256
unfolding number_at
count_low p g = omega (arith, g.below 4)

count_high : (p : List ℕ) → Bytes p → get_or p 5 0 ≡ count_of p / 256 % 256
unfolding number_at
count_high p g = omega (arith, g.below 4, g.below 5)

-- a page with its own rows is itself; that its count's two bytes are bytes is needed here
pub with_own : (z : ℕ) (p : List ℕ) → Bytes p → head_size + z * count_of p ≤ length p → with_rows z p (rows_of z p) ≡ p
with_own z p g h =
    let e = length_rows_of z p in
    let f = fit_own z p h (number_below 2 p 4 g) in
    holds_same z p (rows_of z p) (with_rows z p (rows_of z p)) p (holds_with z p (rows_of z p) f)
    (record {
      len = refl;
      low = count_low p g ∙ ap (λ n. n % 256) (sym e);
      high = count_high p g ∙ ap (λ n. n / 256 % 256) (sym e);
      head = λ k i j. refl;
      rows = λ k i.
          let m : k < z * count_of p = rw e at i in
          sym (ap (λ s. get_or s k 0) (bytes_rows_of z p) ∙ get_d_part head_size (z * count_of p) p k m);
      freed = λ k i j. let m : head_size + z * count_of p ≤ k = rw e at i in absurd (omega arith);
      behind = λ k i j. refl;
    })
