-- The story that the desk was made for, as one more case in the words of the table: a night job reads a pupil's deliveries one by one, an
-- enrolment would put a namesake's ball among them and has to wait, the night job reads again and is told the same. Assumes nothing.
use Rattle.std.specs.Prelude.{ℕ, ◌+◌, ◌*◌, ◌≡◌, List, [], ◌∷◌, ◌++◌}
use Rattle.std.proofs.Math.Option.{none, some}
use Rattle.rules.specs.Kinds.{X, on, commit}
use Rattle.rules.specs.Runs.{found, nothing, done}
use Rattle.rules.specs.Document.{endless}
use Rattle.calls.specs.Calls.{Sent, Back}
use Rattle.cases.specs.Overs.{Bowled, Scored, Holds, scored, writes, zeros}
use Rattle.rules.specs.Cases.{Over, Case, over, to, only, behind, begins, reads, inserts, row, settling, lock, settled_as, entry, left, played, stated}

-- "made of an upper half (pupil) and a lower half (delivery)"
abbrev pub ball : ℕ → ℕ → ℕ
ball pupil delivery = pupil * 4294967296 + delivery

-- the night job, transaction 1, goes over all that pupil 7 can have: each delivery, and that there is no other
abbrev pub pupil_read : List Over
pupil_read =
    reads 1 (ball 7 0) (ball 7 4294967295) (only 1 (found (ball 7 10) (some 501)))
    ∷ reads 1 (ball 7 11) (ball 7 4294967295) (only 1 (found (ball 7 20) (some 502)))
    ∷ reads 1 (ball 7 21) (ball 7 4294967295) (only 1 (found (ball 7 30) (some 503)))
    ∷ reads 1 (ball 7 31) (ball 7 4294967295) (only 1 nothing)
    ∷ []

-- pupils 6, 7 and 8 have deliveries; the enrolment, transaction 2, would put one in between those of pupil 7
unfoldable pub namesake : Case
namesake =
    record {
      overs =
          settling (row (ball 6 90) 400 ∷ row (ball 7 10) 501 ∷ row (ball 7 20) 502 ∷ row (ball 7 30) 503 ∷ row (ball 8 10) 600 ∷ [])
          ++ (begins 1 ∷ begins 2 ∷ [])
          ++ pupil_read
          ++ (inserts 2 (ball 7 25) 777 (only 2 (behind 1)) ∷ [])
          ++ pupil_read
          ++ (over 1 commit (to 1 done ∷ to 2 done ∷ []) ∷ []);
      scene =
          left
          []
          (lock X (on (ball 7 25)) 2 ∷ [])
          (settled_as (ball 6 90) 400
          ∷ settled_as (ball 7 10) 501
          ∷ settled_as (ball 7 20) 502
          ∷ entry (ball 7 25) 2 (some 777) none
          ∷ settled_as (ball 7 30) 503
          ∷ settled_as (ball 8 10) 600
          ∷ []);
    }

abbrev pub NamesakeWaits : Type 0
NamesakeWaits = played endless namesake ≡ stated namesake

-- and on bytes: whoever sends the story's calls as their records, to a picture that was fresh, gets back what it states. The first delivery,
-- each time: pupil 7, number 10, record 501 (`F5 01`); the enrolment waits behind 1; the commit.
abbrev pub first_ball : List ℕ
first_ball = 20 ∷ 0 ∷ 7 ∷ 0 ∷ 1 ∷ 0 ∷ 1 ∷ 0 ∷ 10 ∷ 0 ∷ 0 ∷ 0 ∷ 7 ∷ 0 ∷ 0 ∷ 0 ∷ 245 ∷ 1 ∷ 0 ∷ 0 ∷ []

abbrev pub namesake_scored : Scored
namesake_scored =
    scored
    namesake
    (writes 9 first_ball
    ∷ writes 13 (20 ∷ 0 ∷ 7 ∷ 0 ∷ 2 ∷ 0 ∷ 3 ∷ 0 ∷ 0 ∷ 0 ∷ 0 ∷ 0 ∷ 0 ∷ 0 ∷ 0 ∷ 0 ∷ 1 ∷ 0 ∷ 0 ∷ 0 ∷ [])
    ∷ writes 14 first_ball
    ∷ writes 18 (20 ∷ 0 ∷ 7 ∷ 0 ∷ 1 ∷ 0 ∷ 0 ∷ 0 ∷ zeros ++ (20 ∷ 0 ∷ 7 ∷ 0 ∷ 2 ∷ 0 ∷ 0 ∷ 0 ∷ zeros))
    ∷ [])

abbrev pub NamesakeOnBytes : Type 0
NamesakeOnBytes = (as' : List Sent) (bs : List Back) (p d : List ℕ) → Bowled namesake as' bs p d → Holds namesake_scored as' bs p d
