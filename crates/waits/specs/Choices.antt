-- What the searches through the queue find, in the rule book's words, of a whole picture. Assumes nothing.
use Rattle.std.specs.Prelude.{ℕ, ◌<◌, ◌≡◌, List}
use Rattle.std.proofs.Math.Option.{Option, none, some}
use Rattle.std.specs.Prelude as Code
use Rattle.rules.specs.Kinds.{Queued}
use Rattle.rules.specs.Locks as K
use Rattle.rules.specs.Queue.{Wait, oldest, yields}
use Rattle.queue.specs.QueueLayout.{queued, queued_at}
use Rattle.locks.specs.SlotLayout.{name_in, book_mode}
use Rattle.locks.specs.SlotMoves.{held_in, free_in}
use Rattle.index.specs.Pictures.{entries_in}
use Rattle.index.specs.Searches.{book_found}
use Rattle.states.specs.States.{book, state_of}
use Rattle.waits.specs.declared.Want.{Want}
use Rattle.waits.specs.declared.Next.{Next}

-- what the code's want means
abbrev pub book_want : Want → K.Want book
book_want w = record { name = name_in w.name.0; mode = book_mode w.mode }

-- the request at a place of the queue
abbrev pub request_at : List ℕ → Code.Option ℕ → Option (Queued ℕ ℕ)
request_at d (Code.Some q) = some (queued_at d q)
request_at d Code.None = none

abbrev pub request_of : Option (Wait book) → Option (Queued ℕ ℕ)
request_of none = none
request_of (some w) = some w.request

abbrev pub Inside : List ℕ → Code.Option ℕ → Type 0
Inside d (Code.Some q) = q < queued d
Inside d Code.None = Unit {0}

-- a choice among the queued requests, found at its place
pub record Chosen (d : List ℕ) (c : Option (Wait book)) (r : Code.Option ℕ) : Type 0 where
  pub inside : Inside d r
  pub request : request_at d r ≡ request_of c

-- "the oldest such"; of those on a circle the one that gives way
abbrev pub OldestAt : List ℕ → List ℕ → Code.Option ℕ → Type 0
OldestAt p d r = Chosen d (oldest book (state_of p d)) r

abbrev pub LightestAt : List ℕ → List ℕ → Code.Option ℕ → Type 0
LightestAt p d r = Chosen d (yields book (state_of p d)) r

-- what is known of the request that runs next: its target, and the slots that its lock may take
pub record Known (p d : List ℕ) (x : Next) : Type 0 where
  pub inside : x.place < queued d
  pub target : book_found x.target ≡ K.target book (entries_in p) (queued_at d x.place).asker (queued_at d x.place).asks
  pub own : x.own ≡ held_in d (queued_at d x.place).asker (K.named book (book_found x.target))
  pub free : x.free ≡ free_in d

abbrev pub place_in : Code.Option Next → Code.Option ℕ
place_in (Code.Some x) = Code.Some x.place
place_in Code.None = Code.None

abbrev pub KnownIn : List ℕ → List ℕ → Code.Option Next → Type 0
KnownIn p d (Code.Some x) = Known p d x
KnownIn p d Code.None = Unit {0}

-- "the oldest such", with what is known of it
pub record OldestIs (p d : List ℕ) (r : Code.Option Next) : Type 0 where
  pub chosen : OldestAt p d (place_in r)
  pub known : KnownIn p d r
