-- The way back, from the rule book's requests to their numbers: writing undoes reading where the numbers are in order. Assumes nothing.
use Prim.Native.Nat.{ℕ, ◌+◌}
use mathlib.Core.Path.{◌≡◌, refl}
use mathlib.Core.Bool.{Bool, true, false, cond, ◌&&◌}
use mathlib.Core.List.{List, [], ◌∷◌}
use borrow.Author.Tests.{eqb-true}
use lib.Dec.{eqb}
use lib.ListN.{get_or}
use Rattle.lists.proofs.Tests.{and_left, and_right}
use Rattle.numbers.specs.Numbers.{fields_at}
use Rattle.rules.specs.Kinds.{Ask, read, insert, delete}
use Rattle.queue.specs.QueueLayout.{record_place, record_at, ask_by, ask_in, ask_at, ask_widths, ask_fields}

-- ---- requests, by their four numbers
abbrev pub ask_of : List ℕ → Ask ℕ ℕ
ask_of vs = ask_by (get_or vs 0 0) (get_or vs 1 0) (get_or vs 2 0) (get_or vs 3 0)

pub ask_of_lem : (d : List ℕ) (t : ℕ) → ask_at d t ≡ ask_of (fields_at ask_widths d (record_place t + 2))
unfolding ask_in record_at fields_at
ask_of_lem d t = refl

-- numbers in order: one of the three kinds, and what it does not use is zero
abbrev pub is_ask : ℕ → ℕ → ℕ → Bool
is_ask kind r hi = cond (eqb kind 4) (eqb r 0) (cond (eqb kind 5) (eqb hi 0) (eqb kind 6 && (eqb r 0 && eqb hi 0)))

pub ask_back : (kind r lo hi : ℕ) → is_ask kind r hi ≡ true → ask_fields (ask_by kind r lo hi) ≡ kind ∷ r ∷ lo ∷ hi ∷ []
unfolding ask_fields
ask_back kind r lo hi e = go (eqb kind 4) refl (eqb kind 5) refl e
  where
    go : (x : Bool) → eqb kind 4 ≡ x → (y : Bool) → eqb kind 5 ≡ y → cond x (eqb r 0) (cond y (eqb hi 0) (eqb kind 6 && (eqb r 0 && eqb hi 0))) ≡ true
        → ask_fields (cond x (read lo hi) (cond y (insert lo r) (delete lo))) ≡ kind ∷ r ∷ lo ∷ hi ∷ []
    go true p y q h = rw (eqb-true kind 4 p, eqb-true r 0 h)
    go false p true q h = rw (eqb-true kind 5 q, eqb-true hi 0 h)
    go false p false q h =
        let k = eqb-true kind 6 (and_left (eqb kind 6) (eqb r 0 && eqb hi 0) h) in
        let w = and_right (eqb kind 6) (eqb r 0 && eqb hi 0) h in
        rw (k, eqb-true r 0 (and_left (eqb r 0) (eqb hi 0) w), eqb-true hi 0 (and_right (eqb r 0) (eqb hi 0) w))
