-- What the quick way through the locks looks at: the slots in use put in an order, place by place, and the walk over the entries along it.
-- It is not for readers: ../proofs shows that it comes to the tests of Checks. Assumes nothing.
use Rattle.std.specs.Prelude.{ℕ, ◌+◌, ◌-◌, Bool, false, cond, not, ◌&&◌, ◌||◌, List, [], ◌∷◌, eqb, ltb, get_or}
use Rattle.std.proofs.Math.Option.{Option, none, some}
use Rattle.std.specs.Prelude as Code
use Rattle.lists.specs.Lists.{tab, any, place}
use Rattle.rules.specs.Kinds.{Lock, Entry}
use Rattle.rules.specs.Entries.{is_there}
use Rattle.rules.specs.Locks.{conflict}
use Rattle.rules.specs.Document.{end_mark}
use Rattle.trees.specs.Trees.{flat}
use Rattle.locks.specs.SlotLayout.{name_number, slot_at}
use Rattle.index.specs.Pictures.{Item, tree_of}
use Rattle.judging_locks.specs.LockChecks.{slot_together, slot_holds}

-- the slot at a place of the order
abbrev pub placed : List ℕ → List ℕ → ℕ → Option (Lock ℕ)
placed d o a = slot_at d (get_or o a 0)

-- the order goes up: by name, and of one name by holder, with modes that go together
unfoldable pub comes_first : Option (Lock ℕ) → Option (Lock ℕ) → Bool
comes_first none x = false
comes_first (some k) none = false
comes_first (some k) (some l) =
    ltb (name_number k.name) (name_number l.name)
    || ((eqb (name_number k.name) (name_number l.name) && ltb k.holder l.holder) && not (conflict k.mode l.mode))

unfoldable pub goes_up : List ℕ → List ℕ → ℕ → Bool
goes_up d o a = comes_first (placed d o (a - 1)) (placed d o a)

-- two neighbours that are different slots and do not go together
unfoldable pub clashes : List ℕ → List ℕ → ℕ → Bool
clashes d o a = not (eqb (get_or o (a - 1) 0) (get_or o a 0)) && not (slot_together (placed d o (a - 1)) (placed d o a))

-- the first of m places, if there is one, has a lock
unfoldable pub begins : List ℕ → List ℕ → ℕ → Bool
begins d o m = eqb m 0 || is_there (placed d o 0)

-- a slot that is free, or stands among the first m of the order at the place that is noted for it
unfoldable pub has_place : List ℕ → List ℕ → List ℕ → ℕ → ℕ → Bool
has_place d o p m i = not (is_there (slot_at d i)) || (ltb (get_or p i 0) m && eqb (get_or o (get_or p i 0) 0) i)

-- a lock on the name of a number
unfoldable pub slot_on : ℕ → Option (Lock ℕ) → Bool
slot_on k none = false
slot_on k (some l) = eqb (name_number l.name) k

abbrev pub after : Code.Option ℕ → (ℕ → Code.Option ℕ) → Code.Option ℕ
after (Code.Some k) f = f k
after Code.None f = Code.None

-- the walk along the m places of an order
module _ (f : ℕ → Option (Lock ℕ)) (m : ℕ) where
  -- the first place from k on with a lock on another name, or m
  unfoldable pub stretch : ℕ → ℕ → ℕ
  stretch x k = k + place (λ y. not (slot_on x y)) (tab (m - k) k f)

  -- an entry: the locks on it are passed, and its owner, if it has one, is to hold X among them
  unfoldable pub past_entry : Entry ℕ ℕ → ℕ → Code.Option ℕ
  past_entry e k =
      cond (eqb e.owner 0 || any (slot_holds e.owner e.key) (tab (stretch e.key k - k) k f)) (Code.Some (stretch e.key k)) Code.None

  -- the entries one after the other
  unfoldable pub past : List (Entry ℕ ℕ) → ℕ → Code.Option ℕ
  past [] k = Code.Some k
  past (e ∷ es) k = after (past_entry e k) (past es)

  -- behind them only locks on the end are left
  abbrev pub ended : Code.Option ℕ → Bool
  ended (Code.Some k) = eqb (stretch end_mark k) m
  ended Code.None = false

-- the walk over the entries of a tree
unfoldable pub walked : ℕ → List ℕ → List ℕ → List ℕ → ℕ → ℕ → Bool
walked n s d o m q = ended (placed d o) m (past (placed d o) m (flat ℕ Item n (tree_of n s q)) 0)
