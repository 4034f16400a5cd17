-- The two searches in a page: what each turn knows, in the very facts that the code has there. In a leaf by halves: the place lies between
-- low and high. In an inner page from the left: the place among all is the number passed and the place among the rest. Assumes nothing.
use mathlib.Core.Path.{◌≡◌, sym, ap, ◌∙◌}
use mathlib.Core.Bool.{Bool, true, false}
use mathlib.Core.List.{List}
use Prim.Native.Nat.{ℕ, suc, ◌+◌, ◌-◌, ◌/◌, ◌≤◌, ◌<◌}
use native.Mathlib.Nat.{zero-add}
use native.Mathlib.Omega.{arith}
use borrow.Author.Tests.{leb-true, le-leb, ltb-true}
use lib.Dec.{leb, ltb}
use lib.ListN.{drop, length, get_or}
use Rattle.lists.specs.Lists.{tab, place}
use Rattle.lists.proofs.Tables.{drop_tab, get_d_tab}
use Rattle.lists.proofs.Scans.{scan_done, scan_found, scan_next}
use Rattle.rules.specs.Kinds.{Entry}
use Rattle.pages.specs.declared.Child.{Child}
use Rattle.rows.specs.PageHead.{count_of}
use Rattle.pages.specs.PageLayout.{entry_at, entries_of, child_at, children_of}
use Rattle.pages.specs.KeyPlaces.{keys_ascend, EntryPlace, ChildPlace}
use Rattle.pages.proofs.EntryRows.{length_entries}
use Rattle.pages.proofs.Halves.{place_within, place_upto, place_beyond}

-- ---- the first entry at or above k, by halves: where keys ascend it is none before low, and it is none behind high
abbrev from : ℕ → Entry ℕ ℕ → Bool
from k e = leb k e.key

pub record EntryBetween (p : List ℕ) (k low high : ℕ) : Type 0 where
  pub ordered : low ≤ high
  pub within : high ≤ count_of p
  pub lower : keys_ascend (entries_of p) ≡ true → low ≤ place (from k) (entries_of p)
  pub upper : place (from k) (entries_of p) ≤ high

module _ (p : List ℕ) (k : ℕ) where
  entry_in : (i : ℕ) → i < count_of p → get_or (entries_of p) i (entry_at p 0) ≡ entry_at p i
  unfolding entries_of
  entry_in i h = get_d_tab (count_of p) 0 (entry_at p) i (entry_at p 0) h ∙ ap (entry_at p) (zero-add i)

  passes_on : (a b : Entry ℕ ℕ) → ltb a.key b.key ≡ true → from k a ≡ true → from k b ≡ true
  passes_on a b l e = let h = ltb-true a.key b.key l in let m = leb-true k a.key e in le-leb k b.key (omega arith)

  pub between_start : (n : ℕ) → n ≡ count_of p → EntryBetween p k 0 n
  between_start n e =
      let h = place_within (from k) (entries_of p) in
      record { ordered = omega arith; within = omega arith; lower = λ _. omega arith; upper = omega (arith, length_entries p) }

  module _ (low high : ℕ) (s : EntryBetween p k low high) where
    module _ (x : ℕ) (b : Bool) (l : low < high) (a : x ≡ (entry_at p (low + (high - low) / 2)).key) (d : b ≡ leb k x) where
      middle : ℕ
      middle = low + (high - low) / 2

      in_list : middle < length (entries_of p)
      unfolding middle
      in_list = omega (arith, length_entries p, s.within)

      tested : (c : Bool) → b ≡ c → from k (get_or (entries_of p) middle (entry_at p 0)) ≡ c
      unfolding middle
      tested c e = ap (from k) (entry_in middle (omega (arith, s.within))) ∙ sym (d ∙ ap (leb k) a) ∙ e

      pub between_lower : b ≡ true → EntryBetween p k low (low + (high - low) / 2)
      unfolding middle
      between_lower e =
          record {
            ordered = omega arith;
            within = omega (arith, s.within);
            lower = s.lower;
            upper = place_upto (from k) (entries_of p) middle (entry_at p 0) in_list (tested true e);
          }

      beyond_it : b ≡ false → keys_ascend (entries_of p) ≡ true → middle < place (from k) (entries_of p)
      unfolding keys_ascend
      beyond_it e o =
          place_beyond (from k) (λ a b. ltb a.key b.key) passes_on (entries_of p) middle (entry_at p 0) o in_list (tested false e)

      pub between_upper : b ≡ false → EntryBetween p k (low + (high - low) / 2 + 1) high
      unfolding middle
      between_upper e =
          record { ordered = omega arith; within = s.within; lower = λ o. let m = beyond_it e o in omega arith; upper = s.upper }

    pub between_end : high ≤ low → EntryPlace p k low
    between_end l = record { within = omega (arith, s.ordered, s.within); first = λ o. let m = s.lower o in omega (arith, s.upper) }

-- ---- the child that k belongs to
abbrev beyond : ℕ → Child → Bool
beyond k c = ltb k c.low.0

pub record ChildFrom (p : List ℕ) (k n i : ℕ) : Type 0 where
  pub found : place (beyond k) (drop 1 (children_of p)) ≡ i + place (beyond k) (tab (n - (i + 1)) (i + 1) (child_at p))

module _ (p : List ℕ) (k n : ℕ) where
  pub child_start : n ≡ count_of p → ChildFrom p k n 0
  unfolding children_of
  child_start e =
      record {
        found =
            ap (place (beyond k)) (drop_tab 1 (count_of p) 0 (child_at p))
            ∙ ap (λ m. place (beyond k) (tab (m - 1) 1 (child_at p))) (sym e)
            ∙ sym (zero-add (place (beyond k) (tab (n - 1) 1 (child_at p))));
      }

  module _ (i : ℕ) (s : ChildFrom p k n i) where
    pub child_on : (b : Bool) → b ≡ ltb k (child_at p (i + 1)).low.0 → b ≡ false → i + 1 < n → ChildFrom p k n (i + 1)
    child_on b a e h =
        let q = scan_next (beyond k) n (child_at p) (suc (place (beyond k) (drop 1 (children_of p)))) (i + 1) b a h (omega (arith, s.found)) e in
        record { found = omega arith }

    pub child_here : (b : Bool) → n ≡ count_of p → b ≡ ltb k (child_at p (i + 1)).low.0 → b ≡ true → i + 1 < n → ChildPlace p k i
    child_here b c a e h =
        let q = scan_found (beyond k) n (child_at p) (suc (place (beyond k) (drop 1 (children_of p)))) (i + 1) b a h (omega (arith, s.found)) e in
        record { within = omega arith; last = λ _. omega arith }

    pub child_end : n ≡ count_of p → i < n → n ≤ i + 1 → ChildPlace p k i
    child_end c h l =
        let m = suc (place (beyond k) (drop 1 (children_of p))) in
        let q = scan_done (beyond k) n (child_at p) m (i + 1) l (omega arith) (omega (arith, s.found)) in
        record { within = omega arith; last = λ _. omega arith }
