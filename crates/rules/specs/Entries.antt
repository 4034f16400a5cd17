-- Document 01, "Keys and entries": the sorted list of entries, what an insert, a delete, a commit and a rollback do to it.
-- Assumes nothing.
use Rattle.std.specs.Prelude.{ℕ, Bool, true, false, cond, not, ◌&&◌, List, [], ◌∷◌, map, eqb}
use Rattle.std.proofs.Math.Option.{Option, none, some}
use Rattle.std.proofs.Math.Dec.{is_le, compare_is_eq}
use Rattle.lists.specs.Lists.{keep, join, insert_before}
use Rattle.rules.specs.Kinds.{Book, Entry}

abbrev pub is_there : {A : Type 0} → Option A → Bool
is_there (some r) = true
is_there none = false

module _ {K R : Type 0} where
  -- present now, and "An entry that is absent now is a ghost"
  abbrev pub present : Entry K R → Bool
  present e = is_there e.now

  abbrev pub ghost : Entry K R → Bool
  ghost e = not (present e)

  -- "A first insert makes an entry with before absent."
  abbrev pub inserted : ℕ → K → R → Entry K R
  inserted t k r = record { key = k; owner = t; now = some r; before = none }

  -- "Delete makes now absent. Both set the owner."
  abbrev pub deleted : ℕ → Entry K R → Entry K R
  deleted t e = record { key = e.key; owner = t; now = none; before = e.before }

  -- "An insert over one's own ghost makes it present again."
  abbrev pub revived : ℕ → R → Entry K R → Entry K R
  revived t r e = record { key = e.key; owner = t; now = some r; before = e.before }

  -- "Commit copies now to before, rollback before to now; then the owner is 0"
  abbrev pub committed : Entry K R → Entry K R
  committed e = record { key = e.key; owner = 0; now = e.now; before = e.now }

  abbrev pub rolled_back : Entry K R → Entry K R
  rolled_back e = record { key = e.key; owner = 0; now = e.before; before = e.before }

  -- "and an entry left absent is taken out": what is left of an entry when t ends, and of all
  unfoldable pub left : (Entry K R → Entry K R) → ℕ → Entry K R → List (Entry K R)
  left f t e = cond (eqb e.owner t) (cond (present (f e)) (f e ∷ []) []) (e ∷ [])

  unfoldable pub settled : (Entry K R → Entry K R) → ℕ → List (Entry K R) → List (Entry K R)
  settled f t es = join (left f t) es

  -- the keys of those that are taken out
  unfoldable pub taken_out : (Entry K R → Entry K R) → ℕ → List (Entry K R) → List K
  taken_out f t es = map (λ e. e.key) (keep (λ e. eqb e.owner t && not (present (f e))) es)

module _ (B : Book) where
  abbrev pub Entries : Type 0
  Entries = List (Entry B.Key B.Rec)

  -- the order of keys as tests
  abbrev pub at_most : B.Key → B.Key → Bool
  at_most a b = is_le (B.compare a b)

  abbrev pub same : B.Key → B.Key → Bool
  same a b = compare_is_eq (B.compare a b)

  -- the list with an entry put in where it belongs
  unfoldable pub put : Entry B.Key B.Rec → Entries → Entries
  put e es = insert_before (λ x. at_most e.key x.key) e es

  -- the list with the entry of key k changed where it stands
  unfoldable pub changed : B.Key → (Entry B.Key B.Rec → Entry B.Key B.Rec) → Entries → Entries
  changed k f es = map (λ e. cond (same e.key k) (f e) e) es
