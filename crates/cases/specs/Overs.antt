-- Document 01, "Overs to bowl at it", on bytes: the table of rules/specs/Cases, each call sent as its record to a picture that was fresh,
-- with a scorecard of what calls wrote, literally. The claim `AllHoldOnBytes` is proved in proofs/Overs.antt. Assumes nothing.
use Prim.Native.Nat.{ℕ, compare}
use Rattle.std.specs.Prelude.{◌≡◌, true, not, List, [], ◌∷◌, ◌++◌, map, length, get_or, replicate}
use Rattle.std.proofs.Math.Option.{Option, none, some}
use Rattle.lists.specs.Lists.{all, In, join}
use Rattle.numbers.specs.Numbers.{width_of, put_fields}
use Rattle.rules.specs.Kinds.{read, insert, delete, Request, begin, commit, rollback, ask, Call}
use Rattle.rules.specs.Runs.{locks_short, pages_short, Answer}
use Rattle.rules.specs.Cases.{Over, Case, to, cases, scene_of}
use Rattle.rules.specs.Cases as C
use Rattle.trees.specs.Trees.{document_sizes}
use Rattle.trees.specs.Shapes.{tree_paging}
use Rattle.requests.specs.RequestRecord.{form_of}
use Rattle.states.specs.States.{state_of}
use Rattle.calls.specs.Promise.{short_space}
use Rattle.calls.specs.Calls.{Sent, Back, FromFresh, gives, refuses, wrote, bytes_of}

-- "Request: length, kind, transaction, two zero bytes; then by kind ..": a request's kind, what follows its head, and its record
abbrev pub kind_of : Request ℕ ℕ → ℕ
kind_of begin = 1
kind_of commit = 2
kind_of rollback = 3
kind_of (ask (read lo hi)) = 4
kind_of (ask (insert k r)) = 5
kind_of (ask (delete k)) = 6

abbrev pub follows_head : Request ℕ ℕ → List ℕ
follows_head begin = []
follows_head commit = []
follows_head rollback = []
follows_head (ask (read lo hi)) = lo ∷ hi ∷ []
follows_head (ask (insert k r)) = k ∷ r ∷ 0 ∷ []
follows_head (ask (delete k)) = k ∷ []

unfoldable pub request_record : Call ℕ ℕ → List ℕ
request_record c =
    let form = form_of (kind_of c.request) in
    put_fields form (replicate (width_of form) 0) 0 (width_of form ∷ kind_of c.request ∷ c.asker ∷ 0 ∷ follows_head c.request)

-- a case played on bytes: its calls as their records, with space for the answers, from a fresh picture
pub record Bowled (c : Case) (as' : List Sent) (bs : List Back) (p d : List ℕ) : Type 0 where
  pub records : map (λ (a : Sent). a.request) as' ≡ map (λ (o : Over). request_record o.bowled) c.overs
  pub room : all (λ (a : Sent). not (short_space a.space)) as' ≡ true
  pub run : FromFresh as' bs p d

-- what the case states: 12 and nothing written, or the answers, written one after the other
abbrev pub stated_back : List ℕ → Option (List (Answer ℕ ℕ)) → Back
stated_back o none = refuses o 12
stated_back o (some xs) = gives o xs

unfoldable pub stated_backs : List Over → List Sent → List Back
stated_backs [] as' = []
stated_backs (o ∷ os) [] = []
stated_backs (o ∷ os) (a ∷ as') = stated_back a.space o.answered ∷ stated_backs os as'

abbrev pub answers_in : Option (List (Answer ℕ ℕ)) → List (Answer ℕ ℕ)
answers_in none = []
answers_in (some xs) = xs

-- the bytes of what is stated: those of the answers, one after the other
abbrev pub stated_bytes : Over → List ℕ
stated_bytes o = join bytes_of (answers_in o.answered)

-- what a call wrote, byte for byte; a case's calls are counted from 0
pub record Wrote : Type 0 where
  pub call : ℕ
  pub bytes : List ℕ

-- a case, with what some of its calls wrote
pub record Scored : Type 0 where
  pub case : Case
  pub wrote : List Wrote

pub record Holds (c : Scored) (as' : List Sent) (bs : List Back) (p d : List ℕ) : Type 0 where
  pub backs : bs ≡ stated_backs c.case.overs as'
  -- call by call, the bytes that were written: those of the stated answers, and just those that are scored
  pub bytes : map wrote bs ≡ map stated_bytes c.case.overs
  pub literally : map (λ (w : Wrote). get_or (map wrote bs) w.call []) c.wrote ≡ map (λ (w : Wrote). w.bytes) c.wrote
  pub scene : scene_of (tree_paging compare 0 document_sizes) (state_of p d) ≡ c.case.scene

-- the words in which cases are scored
abbrev pub scored : Case → List Wrote → Scored
scored c ws = record { case = c; wrote = ws }

abbrev pub writes : ℕ → List ℕ → Wrote
writes n b = record { call = n; bytes = b }

-- "twelve zeros": no key and no record
abbrev pub zeros : List ℕ
zeros = replicate 12 0

-- of the first case: "The commit writes, whole: `14 00 07 00 01 00 00 00`, twelve zeros, `14 00 07 00 02 00 01 00 64 00 00 00 00 00 00 00 07 00
-- 00 00`"
abbrev pub first_commit : List ℕ
first_commit =
    20 ∷ 0 ∷ 7 ∷ 0 ∷ 1 ∷ 0 ∷ 0 ∷ 0 ∷ zeros
    ++ (20 ∷ 0 ∷ 7 ∷ 0 ∷ 2 ∷ 0 ∷ 1 ∷ 0 ∷ 100 ∷ 0 ∷ 0 ∷ 0 ∷ 0 ∷ 0 ∷ 0 ∷ 0 ∷ 7 ∷ 0 ∷ 0 ∷ 0 ∷ [])

-- The table. Beside the commit's forty bytes: 0, and 3 with who is in the way; 2; 19; 1 with the old record; 16 and 1, with key 300 (`2C 01`)
-- and record 70000 (`70 11 01`); 14, 13 and 15; 3 with the lowest of those in the way; 19 to an older request and 3 to the one that joined; 19 twice.
unfoldable pub scorecard : List Scored
scorecard =
    scored
    C.reader_waits
    (writes 0 (20 ∷ 0 ∷ 7 ∷ 0 ∷ 1 ∷ 0 ∷ 0 ∷ 0 ∷ zeros)
    ∷ writes 3 (20 ∷ 0 ∷ 7 ∷ 0 ∷ 2 ∷ 0 ∷ 3 ∷ 0 ∷ 0 ∷ 0 ∷ 0 ∷ 0 ∷ 0 ∷ 0 ∷ 0 ∷ 0 ∷ 1 ∷ 0 ∷ 0 ∷ 0 ∷ [])
    ∷ writes 4 first_commit
    ∷ [])
    ∷ scored C.nothing_stays_nothing (writes 6 (20 ∷ 0 ∷ 7 ∷ 0 ∷ 1 ∷ 0 ∷ 2 ∷ 0 ∷ zeros) ∷ [])
    ∷ scored C.two_readers (writes 9 (20 ∷ 0 ∷ 7 ∷ 0 ∷ 2 ∷ 0 ∷ 19 ∷ 0 ∷ zeros) ∷ [])
    ∷ scored C.circle_at_commit []
    ∷ scored
    C.ghost_comes_back
    (writes 9 (20 ∷ 0 ∷ 7 ∷ 0 ∷ 1 ∷ 0 ∷ 1 ∷ 0 ∷ 20 ∷ 0 ∷ 0 ∷ 0 ∷ 0 ∷ 0 ∷ 0 ∷ 0 ∷ 4 ∷ 0 ∷ 0 ∷ 0 ∷ []) ∷ [])
    ∷ scored C.last_key []
    ∷ scored C.empty_index []
    ∷ scored C.sole_holder []
    ∷ scored C.target_moves []
    ∷ scored C.joining_frees []
    ∷ scored C.present_stays_present []
    ∷ scored
    C.present_takes_s
    (writes 5 (20 ∷ 0 ∷ 7 ∷ 0 ∷ 1 ∷ 0 ∷ 16 ∷ 0 ∷ 44 ∷ 1 ∷ 0 ∷ 0 ∷ 0 ∷ 0 ∷ 0 ∷ 0 ∷ 112 ∷ 17 ∷ 1 ∷ 0 ∷ [])
    ∷ writes 6 (20 ∷ 0 ∷ 7 ∷ 0 ∷ 2 ∷ 0 ∷ 1 ∷ 0 ∷ 44 ∷ 1 ∷ 0 ∷ 0 ∷ 0 ∷ 0 ∷ 0 ∷ 0 ∷ 112 ∷ 17 ∷ 1 ∷ 0 ∷ [])
    ∷ [])
    ∷ scored
    C.turned_away
    (writes 3 (20 ∷ 0 ∷ 7 ∷ 0 ∷ 1 ∷ 0 ∷ 14 ∷ 0 ∷ zeros)
    ∷ writes 9 (20 ∷ 0 ∷ 7 ∷ 0 ∷ 1 ∷ 0 ∷ 13 ∷ 0 ∷ zeros)
    ∷ writes 13 (20 ∷ 0 ∷ 7 ∷ 0 ∷ 2 ∷ 0 ∷ 15 ∷ 0 ∷ zeros)
    ∷ [])
    ∷ scored C.rollback_drops []
    ∷ scored C.freed_together []
    ∷ scored C.older_first []
    ∷ scored
    C.lowest_named
    (writes 11 (20 ∷ 0 ∷ 7 ∷ 0 ∷ 1 ∷ 0 ∷ 3 ∷ 0 ∷ 0 ∷ 0 ∷ 0 ∷ 0 ∷ 0 ∷ 0 ∷ 0 ∷ 0 ∷ 2 ∷ 0 ∷ 0 ∷ 0 ∷ [])
    ∷ writes 12 (20 ∷ 0 ∷ 7 ∷ 0 ∷ 5 ∷ 0 ∷ 3 ∷ 0 ∷ 0 ∷ 0 ∷ 0 ∷ 0 ∷ 0 ∷ 0 ∷ 0 ∷ 0 ∷ 1 ∷ 0 ∷ 0 ∷ 0 ∷ [])
    ∷ [])
    ∷ scored
    C.lighter_gives_way
    (writes 13
    (20 ∷ 0 ∷ 7 ∷ 0 ∷ 1 ∷ 0 ∷ 19 ∷ 0 ∷ zeros
    ++ (20 ∷ 0 ∷ 7 ∷ 0 ∷ 2 ∷ 0 ∷ 3 ∷ 0 ∷ 0 ∷ 0 ∷ 0 ∷ 0 ∷ 0 ∷ 0 ∷ 0 ∷ 0 ∷ 1 ∷ 0 ∷ 0 ∷ 0 ∷ []))
    ∷ [])
    ∷ scored
    C.named_at_rest
    (writes 15
    (20 ∷ 0 ∷ 7 ∷ 0 ∷ 1 ∷ 0 ∷ 19 ∷ 0 ∷ zeros
    ++ (20 ∷ 0 ∷ 7 ∷ 0 ∷ 3 ∷ 0 ∷ 19 ∷ 0 ∷ zeros)
    ++ (20 ∷ 0 ∷ 7 ∷ 0 ∷ 2 ∷ 0 ∷ 3 ∷ 0 ∷ 0 ∷ 0 ∷ 0 ∷ 0 ∷ 0 ∷ 0 ∷ 0 ∷ 0 ∷ 3 ∷ 0 ∷ 0 ∷ 0 ∷ []))
    ∷ [])
    ∷ []

-- the one claim
pub record AllHoldOnBytes : Type 0 where
  pub how_many : length scorecard ≡ 19
  pub same : map (λ (c : Scored). c.case) scorecard ≡ cases
  pub each : (c : Scored) → In c scorecard → (as' : List Sent) (bs : List Back) (p d : List ℕ)
      → Bowled c.case as' bs p d → Holds c as' bs p d
  -- 17 and 18, for which 256 locks or 64 pages would have to be filled
  pub locks : bytes_of (to 3 locks_short) ≡ 20 ∷ 0 ∷ 7 ∷ 0 ∷ 3 ∷ 0 ∷ 17 ∷ 0 ∷ zeros
  pub pages : bytes_of (to 3 pages_short) ≡ 20 ∷ 0 ∷ 7 ∷ 0 ∷ 3 ∷ 0 ∷ 18 ∷ 0 ∷ zeros
