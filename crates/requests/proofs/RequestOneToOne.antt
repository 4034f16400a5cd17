-- Two requests, and two slices heard, that mean the same are the same. By a map back. Assumes nothing.
use Prim.Native.Nat.{ℕ}
use Rattle.std.specs.Prelude as Code
use mathlib.Core.Path.{◌≡◌, refl, ap}
use mathlib.Core.Option.{Option, none, some}
use Rattle.rules.specs.Kinds as K
use Rattle.requests.specs.declared.Ask.{Ask}
use Rattle.requests.specs.declared.Ask.TheVariants.{Read, Insert, Delete}
use Rattle.requests.specs.declared.Request.{Request}
use Rattle.requests.specs.declared.Request.TheVariants.{Begin, Commit, Rollback, Asks}
use Rattle.requests.specs.declared.Call.{Call}
use Rattle.requests.specs.RequestMeaning.{book_ask, book_request, book_call, book_heard}
use Rattle.entries.proofs.EntryOneToOne.{one_to_one}

-- ---- calls
abbrev ask_of : K.Ask ℕ ℕ → Ask
ask_of (K.read lo hi) = Read (record { 0 = lo }) (record { 0 = hi })
ask_of (K.insert k r) = Insert (record { 0 = k }) r
ask_of (K.delete k) = Delete (record { 0 = k })

ask_back : (a : Ask) → ask_of (book_ask a) ≡ a
ask_back (Read lo hi) = refl
ask_back (Insert k r) = refl
ask_back (Delete k) = refl

pub ask_inj : (a b : Ask) → book_ask a ≡ book_ask b → a ≡ b
ask_inj = one_to_one book_ask ask_of ask_back

abbrev request_of : K.Request ℕ ℕ → Request
request_of K.begin = Begin
request_of K.commit = Commit
request_of K.rollback = Rollback
request_of (K.ask a) = Asks (ask_of a)

request_back : (r : Request) → request_of (book_request r) ≡ r
request_back Begin = refl
request_back Commit = refl
request_back Rollback = refl
request_back (Asks a) = ap Asks (ask_back a)

abbrev call_of : K.Call ℕ ℕ → Call
call_of c = record { asker = c.asker; request = request_of c.request }

call_back : (c : Call) → call_of (book_call c) ≡ c
call_back c = ap (λ r. record { asker = c.asker; request = r }) (request_back c.request)

pub call_inj : (a b : Call) → book_call a ≡ book_call b → a ≡ b
call_inj = one_to_one book_call call_of call_back

abbrev heard_of : Option (K.Call ℕ ℕ) → Code.Option Call
heard_of (some c) = Code.Some (call_of c)
heard_of none = Code.None

heard_back : (h : Code.Option Call) → heard_of (book_heard h) ≡ h
heard_back (Code.Some c) = ap Code.Some (call_back c)
heard_back Code.None = refl

pub heard_inj : (a b : Code.Option Call) → book_heard a ≡ book_heard b → a ≡ b
heard_inj = one_to_one book_heard heard_of heard_back
