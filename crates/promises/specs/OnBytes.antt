-- Demand 3 on bytes: of every run of calls, any bytes sent, on a picture that was fresh. The story that the demand goes by is, answer for
-- answer, the bytes that the calls wrote. Assumes nothing.
use Rattle.std.specs.Prelude.{ℕ, ◌≡◌, true, false, List, [], ◌++◌, map}
use Rattle.lists.specs.Lists.{In, all, join}
use Rattle.rules.specs.Kinds.{Lock}
use Rattle.rules.specs.Locks.{in_use, same_name, conflict}
use Rattle.rules.specs.Runs.{AtRest}
use Rattle.rules.specs.Desk.{fresh, after}
use Rattle.rules.specs.Chains.{ChainsEnd}
use Rattle.locks.specs.SlotLayout.{slots_of}
use Rattle.index.specs.Pictures.{entries_in}
use Rattle.states.specs.States.{book, state_of}
use Rattle.states.specs.Whole.{Whole}
use Rattle.calls.specs.Promise.{returned}
use Rattle.calls.specs.Calls.{Sent, Back, Runs, FromFresh, calls_in, backs_from, wrote, bytes_of}
use Rattle.promises.specs.Story.{Deed, story, answer_of, Seamless}
use Rattle.promises.specs.Demand3.{now_at, KnowsOf, leaves_alone, Demand3}

-- what was sent, what came back, and the picture that it left
pub record OnBytes (as' : List Sent) (bs : List Back) (p d : List ℕ) : Type 0 where
  -- the picture is whole, and says what the rule book says of the calls
  pub whole : Whole p d
  pub state : state_of p d ≡ after book (fresh book) (calls_in as')
  -- "at rest"
  pub rest : AtRest book (state_of p d)
  -- what came back is what the rule book says, and never 11
  pub backs : bs ≡ backs_from (fresh book) as'
  pub never11 : (b : Back) → In b bs → b.result ≡ returned 11 0 → ⊥
  -- the story: its answers are the bytes written, in their order, and it leads from no entry to the entries of the pages
  pub bytes : join wrote bs ≡ join bytes_of (map (answer_of book) (story book (calls_in as')))
  pub seamless : Seamless book [] (story book (calls_in as')) (entries_in p)
  -- of that story: no conflict, nothing told about has changed, the same again, no circle
  pub demand : Demand3 book (calls_in as')
  -- and of the bytes as they stand: "no two transactions hold conflicting locks"; the chains of waits end
  pub locks : (k l : Lock ℕ) → In k (in_use (slots_of d)) → In l (in_use (slots_of d))
      → (k.holder ≡ l.holder → ⊥) → same_name book k.name l.name ≡ true → conflict k.mode l.mode ≡ false
  pub chains : ChainsEnd book (state_of p d)

-- every run of calls from fresh
abbrev pub Demand3OnBytes : Type 0
Demand3OnBytes = (as' : List Sent) (bs : List Back) (p d : List ℕ) → FromFresh as' bs p d → OnBytes as' bs p d

-- Then and now: take two moments of a run from fresh, the pages p at the first and p' at the second, when `more` was sent in between and ds
-- is what was answered to it. What t knew of at the first, and has neither ended nor changed itself since, is at the second as it was.
abbrev pub ThenAndNowOnBytes : Type 0
ThenAndNowOnBytes =
    (as' more : List Sent) (bs bs' : List Back) (p d p' d' : List ℕ) → FromFresh as' bs p d → Runs p d more bs' p' d'
    → (ds : List (Deed book)) (t x : ℕ) → story book (calls_in (as' ++ more)) ≡ story book (calls_in as') ++ ds
    → KnowsOf book t x (story book (calls_in as'))
    → all (leaves_alone book t x) ds ≡ true
    → now_at book (entries_in p') x ≡ now_at book (entries_in p) x

-- and ds is, answer for answer, the bytes that were written in between
abbrev pub BetweenOnBytes : Type 0
BetweenOnBytes =
    (as' more : List Sent) (bs bs' : List Back) (p d p' d' : List ℕ) → FromFresh as' bs p d → Runs p d more bs' p' d'
    → (ds : List (Deed book)) → story book (calls_in (as' ++ more)) ≡ story book (calls_in as') ++ ds
    → join wrote bs' ≡ join bytes_of (map (answer_of book) ds)
