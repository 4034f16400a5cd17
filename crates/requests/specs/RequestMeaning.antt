-- What a request means in the rule book. Each map is one to one. Assumes nothing.
use Rattle.std.specs.Prelude.{ℕ}
use Rattle.std.proofs.Math.Option.{Option, none, some}
use Rattle.std.specs.Prelude as Code
use Rattle.rules.specs.Kinds as K
use Rattle.requests.specs.declared.Ask.{Ask}
use Rattle.requests.specs.declared.Ask.TheVariants.{Read, Insert, Delete}
use Rattle.requests.specs.declared.Request.{Request}
use Rattle.requests.specs.declared.Request.TheVariants.{Begin, Commit, Rollback, Asks}
use Rattle.requests.specs.declared.Call.{Call}

abbrev pub book_ask : Ask → K.Ask ℕ ℕ
book_ask (Read lo hi) = K.read lo.0 hi.0
book_ask (Insert k r) = K.insert k.0 r
book_ask (Delete k) = K.delete k.0

abbrev pub book_request : Request → K.Request ℕ ℕ
book_request Begin = K.begin
book_request Commit = K.commit
book_request Rollback = K.rollback
book_request (Asks a) = K.ask (book_ask a)

abbrev pub book_call : Call → K.Call ℕ ℕ
book_call c = record { asker = c.asker; request = book_request c.request }

abbrev pub book_heard : Code.Option Call → Option (K.Call ℕ ℕ)
book_heard (Code.Some c) = some (book_call c)
book_heard Code.None = none
