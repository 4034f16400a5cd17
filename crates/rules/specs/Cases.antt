-- Document 01, "Overs to bowl at it": the starred cases, what the four ways to lose a wicket would spoil, and who is turned away, as one
-- table; and a short one with few locks and pages.
-- Each case is played from a fresh index, call by call. It says for each call exactly what is answered, in order, and then who is left
-- waiting at what, which locks are held, and every entry with its owner, now and before. Transaction 16 settles the keys that a case
-- starts with. The claim `AllHold` is proved in proofs/Table.antt. Assumes nothing.
use Rattle.std.specs.Prelude.{ℕ, ◌≡◌, List, [], ◌∷◌, ◌++◌, map, length}
use Rattle.std.proofs.Math.Option.{Option, none, some}
use Rattle.limits.specs.Limits.{locks_most}
use Rattle.rules.specs.Kinds.{Paging, Entry, Mode, S, X, Name, on, end, Lock, read, insert, delete, Request, begin, commit, rollback, ask, Call, Queued, State}
use Rattle.rules.specs.Locks.{in_use, wanted}
use Rattle.rules.specs.Runs.{Says, done, found, nothing, waiting, runs_already, runs_not, waits_already, is_present, locks_short, pages_short, circle, Answer}
use Rattle.rules.specs.Desk.{fresh, after, session}
use Rattle.rules.specs.Document.{limited, document, room_for}

-- one call and what it is answered; none is number 12
pub record Over : Type 0 where
  pub bowled : Call ℕ ℕ
  pub answered : Option (List (Answer ℕ ℕ))

pub record Waiter : Type 0 where
  pub asker : ℕ
  pub name : Name ℕ

-- where things stand
pub record Scene : Type 0 where
  pub waiters : List Waiter
  pub locks : List (Lock ℕ)
  pub entries : List (Entry ℕ ℕ)

pub record Case : Type 0 where
  pub overs : List Over
  pub scene : Scene

-- the words in which cases are written
abbrev pub over : ℕ → Request ℕ ℕ → List (Answer ℕ ℕ) → Over
over t r as' = record { bowled = record { asker = t; request = r }; answered = some as' }

abbrev pub refused12 : ℕ → Request ℕ ℕ → Over
refused12 t r = record { bowled = record { asker = t; request = r }; answered = none }

abbrev pub to : ℕ → Says ℕ ℕ → Answer ℕ ℕ
to t m = record { asker = t; says = m }

-- "3: still queued", and who is in the way
abbrev pub behind : ℕ → Says ℕ ℕ
behind u = waiting (some u)

abbrev pub only : ℕ → Says ℕ ℕ → List (Answer ℕ ℕ)
only t m = to t m ∷ []

abbrev pub begins : ℕ → Over
begins t = over t begin (only t done)

abbrev pub reads : ℕ → ℕ → ℕ → List (Answer ℕ ℕ) → Over
reads t lo hi as' = over t (ask (read lo hi)) as'

abbrev pub inserts : ℕ → ℕ → ℕ → List (Answer ℕ ℕ) → Over
inserts t k r as' = over t (ask (insert k r)) as'

abbrev pub deletes : ℕ → ℕ → List (Answer ℕ ℕ) → Over
deletes t k as' = over t (ask (delete k)) as'

-- transaction 16 settles the keys, in this order, each with its record
pub record Row : Type 0 where
  pub key : ℕ
  pub rec : ℕ

abbrev pub row : ℕ → ℕ → Row
row k r = record { key = k; rec = r }

abbrev pub settling : List Row → List Over
settling rs =
    begins 16 ∷ (map (λ (x : Row). inserts 16 x.key x.rec (only 16 done)) rs ++ (over 16 commit (only 16 done) ∷ []))

abbrev pub waits : ℕ → Name ℕ → Waiter
waits t n = record { asker = t; name = n }

abbrev pub lock : Mode → Name ℕ → ℕ → Lock ℕ
lock m n t = record { name = n; holder = t; mode = m }

abbrev pub settled_as : ℕ → ℕ → Entry ℕ ℕ
settled_as k r = record { key = k; owner = 0; now = some r; before = some r }

abbrev pub entry : ℕ → ℕ → Option ℕ → Option ℕ → Entry ℕ ℕ
entry k t n b = record { key = k; owner = t; now = n; before = b }

abbrev pub left : List Waiter → List (Lock ℕ) → List (Entry ℕ ℕ) → Scene
left ws ls es = record { waiters = ws; locks = ls; entries = es }

-- "Fresh; 1 begins, inserts 100 with record 7; 2 begins, reads 50..150: 3. Then 1 commits."
unfoldable pub reader_waits : Case
reader_waits =
    record {
      overs =
          begins 1
          ∷ inserts 1 100 7 (only 1 done)
          ∷ begins 2
          ∷ reads 2 50 150 (only 2 (behind 1))
          ∷ over 1 commit (to 1 done ∷ to 2 (found 100 (some 7)) ∷ [])
          ∷ [];
      scene = left [] (lock S (on 100) 2 ∷ []) (settled_as 100 7 ∷ []);
    }

-- "Settled 10, 20; 1 reads 12..18: 2. 2 inserts 15: 3. 1 reads again: 2. 1 commits: 0 to 1, 0 to 2."
unfoldable pub nothing_stays_nothing : Case
nothing_stays_nothing =
    record {
      overs =
          settling (row 10 1 ∷ row 20 2 ∷ [])
          ++ (begins 1
          ∷ begins 2
          ∷ reads 1 12 18 (only 1 nothing)
          ∷ inserts 2 15 5 (only 2 (behind 1))
          ∷ reads 1 12 18 (only 1 nothing)
          ∷ over 1 commit (to 1 done ∷ to 2 done ∷ [])
          ∷ []);
      scene = left [] (lock X (on 15) 2 ∷ []) (settled_as 10 1 ∷ entry 15 2 (some 5) none ∷ settled_as 20 2 ∷ []);
    }

-- "Settled 10, 20; 1 and 2 read 12..18; 1 inserts 15: 3; 2 inserts 16: 19; 2 rolls back: 0 to 2, 0 to 1."
unfoldable pub two_readers : Case
two_readers =
    record {
      overs =
          settling (row 10 1 ∷ row 20 2 ∷ [])
          ++ (begins 1
          ∷ begins 2
          ∷ reads 1 12 18 (only 1 nothing)
          ∷ reads 2 12 18 (only 2 nothing)
          ∷ inserts 1 15 5 (only 1 (behind 2))
          ∷ inserts 2 16 6 (only 2 circle)
          ∷ over 2 rollback (to 2 done ∷ to 1 done ∷ [])
          ∷ []);
      scene =
          left [] (lock S (on 20) 1 ∷ lock X (on 15) 1 ∷ []) (settled_as 10 1 ∷ entry 15 1 (some 5) none ∷ settled_as 20 2 ∷ []);
    }

-- "Settled 10, 20, 30, 50. 1 deletes 20; 2 reads 50..50; 3 reads 30..30; 2 inserts 15: 3; 3 deletes 50: 3. 1 commits: 0 to 1, 19 to 3;
-- 2 still waits, now at 30."
unfoldable pub circle_at_commit : Case
circle_at_commit =
    record {
      overs =
          settling (row 10 1 ∷ row 20 2 ∷ row 30 3 ∷ row 50 5 ∷ [])
          ++ (begins 1
          ∷ begins 2
          ∷ begins 3
          ∷ deletes 1 20 (only 1 done)
          ∷ reads 2 50 50 (only 2 (found 50 (some 5)))
          ∷ reads 3 30 30 (only 3 (found 30 (some 3)))
          ∷ inserts 2 15 6 (only 2 (behind 1))
          ∷ deletes 3 50 (only 3 (behind 2))
          ∷ over 1 commit (to 1 done ∷ to 3 circle ∷ [])
          ∷ []);
      scene =
          left
          (waits 2 (on 30) ∷ [])
          (lock S (on 50) 2 ∷ lock S (on 30) 3 ∷ [])
          (settled_as 10 1 ∷ settled_as 30 3 ∷ settled_as 50 5 ∷ []);
    }

-- "1 deletes 20 (settled) and inserts it with record 9; rollback gives the old record."
unfoldable pub ghost_comes_back : Case
ghost_comes_back =
    record {
      overs =
          settling (row 20 4 ∷ [])
          ++ (begins 1
          ∷ deletes 1 20 (only 1 done)
          ∷ inserts 1 20 9 (only 1 done)
          ∷ reads 1 20 20 (only 1 (found 20 (some 9)))
          ∷ over 1 rollback (only 1 done)
          ∷ begins 1
          ∷ reads 1 20 20 (only 1 (found 20 (some 4)))
          ∷ []);
      scene = left [] (lock S (on 20) 1 ∷ []) (settled_as 20 4 ∷ []);
    }

-- "Key 2^64-2 is taken, 2^64-1 is 12; read 5..4 is 12."
unfoldable pub last_key : Case
last_key =
    record {
      overs =
          begins 1
          ∷ inserts 1 18446744073709551614 3 (only 1 done)
          ∷ refused12 1 (ask (insert 18446744073709551615 3))
          ∷ refused12 1 (ask (delete 18446744073709551615))
          ∷ refused12 1 (ask (read 5 18446744073709551615))
          ∷ refused12 1 (ask (read 5 4))
          ∷ refused12 17 begin
          ∷ refused12 0 begin
          ∷ [];
      scene =
          left
          []
          (lock X (on 18446744073709551614) 1 ∷ [])
          (entry 18446744073709551614 1 (some 3) none ∷ []);
    }

-- "Empty index: read takes S on the end."
unfoldable pub empty_index : Case
empty_index =
    record {
      overs = begins 1 ∷ begins 2 ∷ reads 1 5 9 (only 1 nothing) ∷ inserts 2 7 1 (only 2 (behind 1)) ∷ [];
      scene = left (waits 2 end ∷ []) (lock S end 1 ∷ []) [];
    }

-- "Sole S holder deletes that key while another's delete of it waits: granted."
unfoldable pub sole_holder : Case
sole_holder =
    record {
      overs =
          settling (row 20 2 ∷ [])
          ++ (begins 1
          ∷ begins 2
          ∷ reads 1 20 20 (only 1 (found 20 (some 2)))
          ∷ deletes 2 20 (only 2 (behind 1))
          ∷ deletes 1 20 (only 1 done)
          ∷ []);
      scene = left (waits 2 (on 20) ∷ []) (lock X (on 20) 1 ∷ []) (entry 20 1 none (some 2) ∷ []);
    }

-- "Fixing a waiter's target when it arrives": a read waits at 20 behind 1, which then puts 15 below it and takes 20 away.
unfoldable pub target_moves : Case
target_moves =
    record {
      overs =
          settling (row 20 2 ∷ [])
          ++ (begins 1
          ∷ begins 2
          ∷ deletes 1 20 (only 1 done)
          ∷ reads 2 10 25 (only 2 (behind 1))
          ∷ inserts 1 15 8 (only 1 done)
          ∷ over 1 commit (to 1 done ∷ to 2 (found 15 (some 8)) ∷ [])
          ∷ []);
      scene = left [] (lock S (on 15) 2 ∷ []) (settled_as 15 8 ∷ []);
    }

-- "After each run the scan starts again at the oldest": the run of 1's insert moves 3's target away from 2's.
unfoldable pub joining_frees : Case
joining_frees =
    record {
      overs =
          settling (row 10 1 ∷ row 20 2 ∷ [])
          ++ (begins 1
          ∷ begins 2
          ∷ begins 3
          ∷ reads 1 20 20 (only 1 (found 20 (some 2)))
          ∷ inserts 2 12 7 (only 2 (behind 1))
          ∷ deletes 3 17 (only 3 (behind 2))
          ∷ inserts 1 15 5 (to 1 done ∷ to 3 nothing ∷ [])
          ∷ []);
      scene =
          left
          (waits 2 (on 15) ∷ [])
          (lock S (on 20) 1 ∷ lock X (on 15) 1 ∷ lock S (on 20) 3 ∷ [])
          (settled_as 10 1 ∷ entry 15 1 (some 5) none ∷ settled_as 20 2 ∷ []);
    }

-- "16: insert: key present; S lock": what was said of the key stays true until the asker ends.
unfoldable pub present_stays_present : Case
present_stays_present =
    record {
      overs =
          settling (row 20 2 ∷ [])
          ++ (begins 1
          ∷ begins 2
          ∷ inserts 1 20 9 (only 1 (is_present 20 (some 2)))
          ∷ deletes 2 20 (only 2 (behind 1))
          ∷ inserts 1 20 9 (only 1 (is_present 20 (some 2)))
          ∷ over 1 commit (to 1 done ∷ to 2 done ∷ [])
          ∷ []);
      scene = left [] (lock X (on 20) 2 ∷ []) (entry 20 2 none (some 2) ∷ []);
    }

-- "16: insert: key present; its key and record; S lock": another reads it at once.
unfoldable pub present_takes_s : Case
present_takes_s =
    record {
      overs =
          settling (row 300 70000 ∷ [])
          ++ (begins 1
          ∷ begins 2
          ∷ inserts 1 300 9 (only 1 (is_present 300 (some 70000)))
          ∷ reads 2 300 300 (only 2 (found 300 (some 70000)))
          ∷ []);
      scene = left [] (lock S (on 300) 1 ∷ lock S (on 300) 2 ∷ []) (settled_as 300 70000 ∷ []);
    }

-- "13: begin of a running transaction"; "14: any other request of one not running"; "15: anything but rollback while waiting"; each
-- "answer only".
unfoldable pub turned_away : Case
turned_away =
    record {
      overs =
          settling (row 20 2 ∷ [])
          ++ (reads 1 20 20 (only 1 runs_not)
          ∷ inserts 1 15 5 (only 1 runs_not)
          ∷ deletes 1 20 (only 1 runs_not)
          ∷ over 1 commit (only 1 runs_not)
          ∷ over 1 rollback (only 1 runs_not)
          ∷ begins 1
          ∷ over 1 begin (only 1 runs_already)
          ∷ begins 2
          ∷ reads 1 20 20 (only 1 (found 20 (some 2)))
          ∷ deletes 2 20 (only 2 (behind 1))
          ∷ reads 2 30 40 (only 2 waits_already)
          ∷ inserts 2 30 3 (only 2 waits_already)
          ∷ deletes 2 30 (only 2 waits_already)
          ∷ over 2 commit (only 2 waits_already)
          ∷ over 2 begin (only 2 runs_already)
          ∷ []);
      scene = left (waits 2 (on 20) ∷ []) (lock S (on 20) 1 ∷ []) (settled_as 20 2 ∷ []);
    }

-- "Rollback of a waiting transaction drops its queued request without an answer": 3 has waited behind it, and the commit of 1, at whose
-- lock it waited, answers nobody else.
unfoldable pub rollback_drops : Case
rollback_drops =
    record {
      overs =
          settling (row 20 2 ∷ [])
          ++ (begins 1
          ∷ begins 2
          ∷ begins 3
          ∷ reads 1 20 20 (only 1 (found 20 (some 2)))
          ∷ deletes 2 20 (only 2 (behind 1))
          ∷ reads 3 20 20 (only 3 (behind 2))
          ∷ over 2 rollback (to 2 done ∷ to 3 (found 20 (some 2)) ∷ [])
          ∷ over 2 rollback (only 2 runs_not)
          ∷ over 1 commit (only 1 done)
          ∷ []);
      scene = left [] (lock S (on 20) 3 ∷ []) (settled_as 20 2 ∷ []);
    }

-- "if some queued request isn't blocked, the oldest such runs and leaves the queue": two that one end frees, the older first, whoever
-- asks.
unfoldable pub freed_together : Case
freed_together =
    record {
      overs =
          settling (row 20 2 ∷ [])
          ++ (begins 1
          ∷ begins 2
          ∷ begins 3
          ∷ deletes 1 20 (only 1 done)
          ∷ reads 3 20 20 (only 3 (behind 1))
          ∷ reads 2 10 25 (only 2 (behind 1))
          ∷ over 1 rollback (to 1 done ∷ to 3 (found 20 (some 2)) ∷ to 2 (found 20 (some 2)) ∷ [])
          ∷ []);
      scene = left [] (lock S (on 20) 3 ∷ lock S (on 20) 2 ∷ []) (settled_as 20 2 ∷ []);
    }

-- "or if T holds no lock on it and U has an earlier waiting request with the same target and a conflicting mode": of two that conflict the
-- older runs, and the newer waits behind it.
unfoldable pub older_first : Case
older_first =
    record {
      overs =
          settling (row 20 2 ∷ [])
          ++ (begins 1
          ∷ begins 2
          ∷ begins 3
          ∷ reads 1 20 20 (only 1 (found 20 (some 2)))
          ∷ deletes 3 20 (only 3 (behind 1))
          ∷ reads 2 20 20 (only 2 (behind 3))
          ∷ over 1 commit (to 1 done ∷ to 3 done ∷ [])
          ∷ []);
      scene = left (waits 2 (on 20) ∷ []) (lock X (on 20) 3 ∷ []) (entry 20 3 none (some 2) ∷ []);
    }

-- Document 02, [4]: "the lowest-numbered transaction that blocks it": of three who hold it the second to come; and of holders and one who
-- waits, that one.
unfoldable pub lowest_named : Case
lowest_named =
    record {
      overs =
          settling (row 20 2 ∷ [])
          ++ (begins 1
          ∷ begins 2
          ∷ begins 3
          ∷ begins 4
          ∷ begins 5
          ∷ reads 3 20 20 (only 3 (found 20 (some 2)))
          ∷ reads 2 20 20 (only 2 (found 20 (some 2)))
          ∷ reads 4 20 20 (only 4 (found 20 (some 2)))
          ∷ deletes 1 20 (only 1 (behind 2))
          ∷ inserts 5 15 5 (only 5 (behind 1))
          ∷ []);
      scene =
          left
          (waits 1 (on 20) ∷ waits 5 (on 20) ∷ [])
          (lock S (on 20) 3 ∷ lock S (on 20) 2 ∷ lock S (on 20) 4 ∷ [])
          (settled_as 20 2 ∷ []);
    }

-- Document 02, [14]: "of the queued requests on a circle, the one whose transaction holds the fewest locks is answered 19": the older loses.
unfoldable pub lighter_gives_way : Case
lighter_gives_way =
    record {
      overs =
          settling (row 10 1 ∷ row 20 2 ∷ row 30 3 ∷ row 40 4 ∷ [])
          ++ (begins 1
          ∷ begins 2
          ∷ reads 1 10 10 (only 1 (found 10 (some 1)))
          ∷ reads 2 20 20 (only 2 (found 20 (some 2)))
          ∷ reads 2 30 30 (only 2 (found 30 (some 3)))
          ∷ reads 2 40 40 (only 2 (found 40 (some 4)))
          ∷ deletes 1 20 (only 1 (behind 2))
          ∷ deletes 2 10 (to 1 circle ∷ to 2 (behind 1) ∷ [])
          ∷ []);
      scene =
          left
          (waits 2 (on 10) ∷ [])
          (lock S (on 10) 1 ∷ lock S (on 20) 2 ∷ lock S (on 30) 2 ∷ lock S (on 40) 2 ∷ [])
          (settled_as 10 1 ∷ settled_as 20 2 ∷ settled_as 30 3 ∷ settled_as 40 4 ∷ []);
    }

-- Document 02, [4]: "as it stands at rest", and not when the request joins. 2 joins with 1 and 3 in its way, and all three are on circles. 1 holds
-- nothing and gives way, then 3, which holds less than 2; 2 is told of 3. 4 holds nothing either, but waits on no circle, and waits on.
unfoldable pub named_at_rest : Case
named_at_rest =
    record {
      overs =
          settling (row 10 1 ∷ row 20 2 ∷ row 30 3 ∷ [])
          ++ (begins 1
          ∷ begins 2
          ∷ begins 3
          ∷ begins 4
          ∷ reads 2 20 20 (only 2 (found 20 (some 2)))
          ∷ reads 2 30 30 (only 2 (found 30 (some 3)))
          ∷ reads 3 10 10 (only 3 (found 10 (some 1)))
          ∷ deletes 3 30 (only 3 (behind 2))
          ∷ deletes 1 10 (only 1 (behind 3))
          ∷ deletes 4 20 (only 4 (behind 2))
          ∷ deletes 2 10 (to 1 circle ∷ to 3 circle ∷ to 2 (behind 3) ∷ [])
          ∷ []);
      scene =
          left
          (waits 4 (on 20) ∷ waits 2 (on 10) ∷ [])
          (lock S (on 20) 2 ∷ lock S (on 30) 2 ∷ lock S (on 10) 3 ∷ [])
          (settled_as 10 1 ∷ settled_as 20 2 ∷ settled_as 30 3 ∷ []);
    }

unfoldable pub cases : List Case
cases =
    reader_waits
    ∷ nothing_stays_nothing
    ∷ two_readers
    ∷ circle_at_commit
    ∷ ghost_comes_back
    ∷ last_key
    ∷ empty_index
    ∷ sole_holder
    ∷ target_moves
    ∷ joining_frees
    ∷ present_stays_present
    ∷ present_takes_s
    ∷ turned_away
    ∷ rollback_drops
    ∷ freed_together
    ∷ older_first
    ∷ lowest_named
    ∷ lighter_gives_way
    ∷ named_at_rest
    ∷ []

-- ---- with two locks, and pages that take two keys: what is said when they run short
-- "17: a new lock is needed and all 256 are in use: leaves the queue"; "In a run, 17 comes before every other number": 1, 2, 16, 0 or 18,
-- and 2 again. "X replaces S in its slot", and a lock that is held already needs none.
unfoldable pub locks_in_use : Case
locks_in_use =
    record {
      overs =
          settling (row 10 1 ∷ row 20 2 ∷ [])
          ++ (begins 1
          ∷ begins 2
          ∷ reads 1 20 20 (only 1 (found 20 (some 2)))
          ∷ reads 2 10 10 (only 2 (found 10 (some 1)))
          ∷ reads 1 10 10 (only 1 locks_short)
          ∷ reads 1 5 7 (only 1 locks_short)
          ∷ inserts 1 10 9 (only 1 locks_short)
          ∷ inserts 1 30 3 (only 1 locks_short)
          ∷ deletes 1 30 (only 1 locks_short)
          ∷ deletes 1 20 (only 1 done)
          ∷ reads 2 10 10 (only 2 (found 10 (some 1)))
          ∷ []);
      scene =
          left
          []
          (lock X (on 20) 1 ∷ lock S (on 10) 2 ∷ [])
          (settled_as 10 1 ∷ entry 20 1 none (some 2) ∷ []);
    }

-- "18: insert of a missing key, pages short: leaves the queue"; "With 17, 18 or 19 no lock is taken; the transaction lives on and keeps
-- what it has": both slots are there for its other keys. "An insert over one's own ghost needs no page".
unfoldable pub pages_full : Case
pages_full =
    record {
      overs =
          settling (row 10 1 ∷ row 20 2 ∷ [])
          ++ (begins 1
          ∷ inserts 1 30 3 (only 1 pages_short)
          ∷ deletes 1 20 (only 1 done)
          ∷ inserts 1 20 9 (only 1 done)
          ∷ inserts 1 30 3 (only 1 pages_short)
          ∷ reads 1 10 10 (only 1 (found 10 (some 1)))
          ∷ []);
      scene =
          left
          []
          (lock X (on 20) 1 ∷ lock S (on 10) 1 ∷ [])
          (settled_as 10 1 ∷ entry 20 1 (some 9) (some 2) ∷ []);
    }

-- "Delete 778, commit; 779 then fits": a ghost has its room until its owner commits.
unfoldable pub room_again : Case
room_again =
    record {
      overs =
          settling (row 10 1 ∷ row 20 2 ∷ [])
          ++ (begins 1
          ∷ deletes 1 20 (only 1 done)
          ∷ inserts 1 30 3 (only 1 pages_short)
          ∷ over 1 commit (only 1 done)
          ∷ begins 1
          ∷ inserts 1 30 3 (only 1 done)
          ∷ []);
      scene = left [] (lock X (on 30) 1 ∷ []) (settled_as 10 1 ∷ entry 30 1 (some 3) none ∷ []);
    }

unfoldable pub tight : List Case
tight = locks_in_use ∷ pages_full ∷ room_again ∷ []

-- what the rule book says of a case: its answers, and where things stand afterwards
pub record Outcome : Type 0 where
  pub answers : List (Option (List (Answer ℕ ℕ)))
  pub scene : Scene

-- whatever keeps the pages
module _ (P : Paging ℕ) where
  abbrev pub scene_of : State ℕ ℕ P.Pages → Scene
  scene_of s =
      record {
        waiters = map (λ (q : Queued ℕ ℕ). record { asker = q.asker; name = (wanted (document P) s.entries q).name }) s.queue;
        locks = in_use s.slots;
        entries = s.entries;
      }

  -- with so many locks, and with as many as document 01 has
  unfoldable pub played_with : ℕ → Case → Outcome
  played_with slots c =
      let calls = map (λ (o : Over). o.bowled) c.overs in
      let book = limited slots P in
      record { answers = session book (fresh book) calls; scene = scene_of (after book (fresh book) calls) }

  abbrev pub played : Case → Outcome
  played c = played_with locks_most c

unfoldable pub stated : Case → Outcome
stated c = record { answers = map (λ (o : Over). o.answered) c.overs; scene = c.scene }

-- the one claim
pub record AllHold (P : Paging ℕ) : Type 0 where
  pub how_many : length cases ≡ 19
  pub hold : map (played P) cases ≡ map stated cases
  -- with two locks, and pages that take two keys
  pub how_many_tight : length tight ≡ 3
  pub hold_tight : map (played_with (room_for 2) 2) tight ≡ map stated tight
