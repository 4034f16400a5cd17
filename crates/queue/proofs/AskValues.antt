-- What the code's requests are in the rule book, case by case, as they are read from a record and written into it. Assumes nothing.
use Prim.Native.Nat.{ℕ, ◌+◌}
use mathlib.Core.Path.{◌≡◌}
use mathlib.Core.List.{List, [], ◌∷◌}
use borrow.Author.Tests.{ne_eqb}
use Rattle.limits.specs.Limits.{key_size}
use Rattle.numbers.specs.Numbers.{number_at, fields_at}
use Rattle.rules.specs.Kinds.{read, insert, delete}
use Rattle.keys.specs.declared.Key.{Key}
use Rattle.requests.specs.declared.Ask as A
use Rattle.requests.specs.declared.Ask.TheVariants as AV
use Rattle.requests.specs.RequestMeaning.{book_ask}
use Rattle.queue.specs.QueueLayout.{record_place, record_at, ask_in, ask_at, ask_fields, put_ask}

-- ---- a waiting request read, and written
module _ (d : List ℕ) (t kind : ℕ) (q : kind ≡ number_at 2 d (record_place t + 2)) where
  pub ask_read : (lo hi : ℕ) → kind ≡ 4 → lo ≡ number_at key_size d (record_place t + 2 + 2 + 4) → hi ≡ number_at key_size d (record_place t + 2 + 2 + 4 + key_size) → read lo hi ≡ ask_at d t
  unfolding ask_in record_at fields_at
  ask_read lo hi k r s = rw (← q, k, r, s)

  pub ask_insert : (lo rec : ℕ) → (kind ≡ 4 → ⊥) → kind ≡ 5 → lo ≡ number_at key_size d (record_place t + 2 + 2 + 4) → rec ≡ number_at 4 d (record_place t + 2 + 2) → insert lo rec ≡ ask_at d t
  unfolding ask_in record_at fields_at
  ask_insert lo rec h k r s = rw (← q, k, r, s)

  pub ask_delete : (lo : ℕ) → (kind ≡ 4 → ⊥) → (kind ≡ 5 → ⊥) → lo ≡ number_at key_size d (record_place t + 2 + 2 + 4) → delete lo ≡ ask_at d t
  unfolding ask_in record_at fields_at
  ask_delete lo h k r = rw (← q, ne_eqb kind 4 h, ne_eqb kind 5 k, r)

module _ (d u : List ℕ) (t : ℕ) (a : A.Ask) where
  pub put_read : (lo hi : Key) → a ≡ AV.Read lo hi → u ≡ put_ask d t (4 ∷ 0 ∷ lo.0 ∷ hi.0 ∷ []) → u ≡ put_ask d t (ask_fields (book_ask a))
  unfolding ask_fields
  put_read lo hi e p = rw e p

  pub put_insert : (k : Key) (r : ℕ) → a ≡ AV.Insert k r → u ≡ put_ask d t (5 ∷ r ∷ k.0 ∷ 0 ∷ []) → u ≡ put_ask d t (ask_fields (book_ask a))
  unfolding ask_fields
  put_insert k r e p = rw e p

  pub put_delete : (k : Key) → a ≡ AV.Delete k → u ≡ put_ask d t (6 ∷ 0 ∷ k.0 ∷ 0 ∷ []) → u ≡ put_ask d t (ask_fields (book_ask a))
  unfolding ask_fields
  put_delete k e p = rw e p
