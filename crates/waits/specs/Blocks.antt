-- The queue at one of its places: who is ahead, and who blocks the request there. Assumes nothing.
use Rattle.std.specs.Prelude.{ℕ, ◌+◌, ◌≤◌, ◌<◌, ◌≡◌, Bool, true, cond, not, ◌&&◌, List, [], eqb, length}
use Rattle.std.proofs.Math.Option.{Option, none, some}
use Rattle.std.specs.Prelude as Code
use Rattle.limits.specs.Limits.{transactions_most, locks_most}
use Rattle.lists.specs.Lists.{lowest, tab}
use Rattle.rules.specs.Kinds.{Entry, Queued, Lock}
use Rattle.rules.specs.Entries.{is_there}
use Rattle.rules.specs.Locks as K
use Rattle.rules.specs.Queue.{Wait, waits_from, waits}
use Rattle.queue.specs.QueueLayout.{in_place, queued_at}
use Rattle.locks.specs.SlotLayout.{slot_at, slots_of}
use Rattle.locks.specs.SlotMoves.{is_slot_against}
use Rattle.index.specs.Pictures.{entries_in}
use Rattle.states.specs.States.{book, state_of}
use Rattle.circles.specs.CircleSets.{RowOf}
use Rattle.circles.specs.Search.{with_one}
use Rattle.waits.specs.declared.Want.{Want}
use Rattle.waits.specs.declared.Next.{Next}
use Rattle.waits.specs.Choices.{book_want, Known}

-- the target of the request at a place, and what it wants
abbrev pub target_at : List ℕ → List ℕ → ℕ → Option (Entry ℕ ℕ)
target_at p d q = K.target book (entries_in p) (queued_at d q).asker (queued_at d q).asks

abbrev pub wanted_at : List ℕ → List ℕ → ℕ → K.Want book
wanted_at p d q = K.wanted book (entries_in p) (queued_at d q)

-- the code's want is that of the request at a place
pub record WantAt (p d : List ℕ) (q : ℕ) (w : Want) : Type 0 where
  pub asker : w.asker ≡ in_place d q
  pub want : book_want w ≡ wanted_at p d q

unfoldable pub ahead : List ℕ → ℕ → List (Queued ℕ ℕ)
ahead d q = tab q 0 (queued_at d)

-- all who block the request at a place
unfoldable pub blockers_at : List ℕ → List ℕ → ℕ → List ℕ
blockers_at p d q = K.blockers book (entries_in p) (slots_of d) (ahead d q) (queued_at d q)

-- another's request with the same target, in a conflicting mode
abbrev pub is_rival : List ℕ → ℕ → K.Want book → Queued ℕ ℕ → Bool
is_rival p t w x = not (eqb x.asker t) && K.clash book (K.wanted book (entries_in p) x) w

-- a lock's holder is a transaction; every lock's is
pub record HolderKnown (x : Option (Lock ℕ)) : Type 0 where
  pub low : (l : Lock ℕ) → x ≡ some l → 1 ≤ l.holder
  pub high : (l : Lock ℕ) → x ≡ some l → l.holder ≤ transactions_most

pub record HoldersKnown (d : List ℕ) : Type 0 where
  pub each : (i : ℕ) → i < locks_most → HolderKnown (slot_at d i)

-- who holds a slot; nobody, where it is free
abbrev pub holder_of : Option (Lock ℕ) → ℕ
holder_of none = 0
holder_of (some l) = l.holder

-- a set with a slot's holder, and with a request's asker, where it blocks t
abbrev pub with_holder : ℕ → ℕ → K.Want book → Option (Lock ℕ) → ℕ
with_holder m t w x = cond (is_slot_against t w.name w.mode x) (with_one m (holder_of x)) m

abbrev pub with_rival : ℕ → List ℕ → ℕ → K.Want book → Queued ℕ ℕ → ℕ
with_rival m p t w x = cond (is_rival p t w x) (with_one m x.asker) m

-- the waits of the places before q, and for each transaction, at its number, all who block its request where it stands at one of them
unfoldable pub waits_to : List ℕ → List ℕ → ℕ → List (Wait book)
waits_to p d q = waits_from book (entries_in p) (slots_of d) [] (ahead d q)

pub record RowTo (p d row : List ℕ) (q : ℕ) : Type 0 where
  pub long : length row ≡ transactions_most + 1
  pub links : RowOf book row (waits_to p d q)

-- the turn of the request at a place: it runs where nobody is in its way, and what is known of it is said
pub record RunsAt (p d : List ℕ) (q : ℕ) (x : Next) : Type 0 where
  pub place : x.place ≡ q
  pub nobody : lowest (blockers_at p d q) ≡ none
  pub known : Known p d x

abbrev pub TurnAt : List ℕ → List ℕ → ℕ → Code.Option Next → Type 0
TurnAt p d q (Code.Some x) = RunsAt p d q x
TurnAt p d q Code.None = is_there (lowest (blockers_at p d q)) ≡ true

-- for each transaction, at its number, all who block its queued request
pub record Rows (p d row : List ℕ) : Type 0 where
  pub long : length row ≡ transactions_most + 1
  pub links : RowOf book row (waits book (state_of p d))

-- all of them, where nobody can run
abbrev pub RowsIn : List ℕ → List ℕ → List ℕ → Code.Option Next → Type 0
RowsIn p d row (Code.Some x) = Unit {0}
RowsIn p d row Code.None = Rows p d row
