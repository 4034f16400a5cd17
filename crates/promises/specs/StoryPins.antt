-- The words of demand 3, each on one short story: what it says there, so that a reader sees that each means what it should. The story is
-- played by the rule book of document 01, on pages that never run short. Assumes nothing.
use Rattle.std.specs.Prelude.{ℕ, ◌≡◌, Bool, true, false, not, List, [], ◌∷◌, ◌++◌, map}
use Rattle.std.proofs.Math.Option.{none, some}
use Rattle.lists.specs.Lists.{keep, all}
use Rattle.rules.specs.Kinds.{Book, Entry, read, insert, delete, Request, begin, commit, ask, Call}
use Rattle.rules.specs.Runs.{Says, done, found, nothing, waiting, waits_already, is_present}
use Rattle.rules.specs.Desk.{fresh, after}
use Rattle.rules.specs.Document.{document, endless}
use Rattle.rules.specs.Cases.{entry}
use Rattle.promises.specs.Story.{Deed, story, Range, told, within, ends}
use Rattle.promises.specs.Demand3.{now_at, changes, own_change, KnowsOf, leaves_alone}

abbrev pub plain : Book
plain = document endless

-- ---- the story, as it is sent
abbrev pub sends : ℕ → Request ℕ ℕ → Call ℕ ℕ
sends t r = record { asker = t; request = r }

-- 16 settles 20 with record 2; 1 is told about 20 (16), 15 (2), 10..20 (1) and 30..40 (2)
abbrev pub opening : List (Call ℕ ℕ)
opening =
    sends 16 begin
    ∷ sends 16 (ask (insert 20 2))
    ∷ sends 16 commit
    ∷ sends 1 begin
    ∷ sends 1 (ask (insert 20 9))
    ∷ sends 1 (ask (delete 15))
    ∷ sends 1 (ask (read 10 30))
    ∷ sends 1 (ask (read 30 40))
    ∷ []

-- 2 would delete 20, and has to wait; its commit is turned away (15), and so is a read with lo above hi (12: it has no answer). 1 inserts 50,
-- and reads 30..40 again
abbrev pub middle : List (Call ℕ ℕ)
middle =
    sends 2 begin
    ∷ sends 2 (ask (delete 20))
    ∷ sends 2 commit
    ∷ sends 2 (ask (read 40 30))
    ∷ sends 1 (ask (insert 50 5))
    ∷ sends 1 (ask (read 30 40))
    ∷ []

-- 1 commits, and 2's delete runs
abbrev pub close : List (Call ℕ ℕ)
close = sends 1 commit ∷ []

-- ---- and as it went: who, what it had asked, what it was told, the index before and after
abbrev pub deed : ℕ → Request ℕ ℕ → Says ℕ ℕ → List (Entry ℕ ℕ) → List (Entry ℕ ℕ) → Deed plain
deed t r m es es' = record { actor = t; request = r; says = m; before = es; after = es' }

-- 20 as 16 inserts it, and settled; with 1's 50 beside it, and that settled; 20 as 2's ghost
abbrev pub made : List (Entry ℕ ℕ)
made = entry 20 16 (some 2) none ∷ []

abbrev pub one : List (Entry ℕ ℕ)
one = entry 20 0 (some 2) (some 2) ∷ []

abbrev pub two : List (Entry ℕ ℕ)
two = entry 20 0 (some 2) (some 2) ∷ entry 50 1 (some 5) none ∷ []

abbrev pub both : List (Entry ℕ ℕ)
both = entry 20 0 (some 2) (some 2) ∷ entry 50 0 (some 5) (some 5) ∷ []

abbrev pub gone : List (Entry ℕ ℕ)
gone = entry 20 2 none (some 2) ∷ entry 50 0 (some 5) (some 5) ∷ []

-- 1's read of 30..40, and the same again
abbrev pub once : Deed plain
once = deed 1 (ask (read 30 40)) nothing one one

abbrev pub twice : Deed plain
twice = deed 1 (ask (read 30 40)) nothing two two

-- up to the first, between the two, and after the second
abbrev pub before : List (Deed plain)
before =
    deed 16 begin done [] []
    ∷ deed 16 (ask (insert 20 2)) done [] made
    ∷ deed 16 commit done made one
    ∷ deed 1 begin done one one
    ∷ deed 1 (ask (insert 20 9)) (is_present 20 (some 2)) one one
    ∷ deed 1 (ask (delete 15)) nothing one one
    ∷ deed 1 (ask (read 10 30)) (found 20 (some 2)) one one
    ∷ []

abbrev pub between : List (Deed plain)
between =
    deed 2 begin done one one
    ∷ deed 2 (ask (delete 20)) (waiting (some 1)) one one
    ∷ deed 2 commit waits_already one one
    ∷ deed 1 (ask (insert 50 5)) done one two
    ∷ []

abbrev pub afterwards : List (Deed plain)
afterwards = deed 1 commit done two both ∷ deed 2 (ask (delete 20)) done both gone ∷ []

abbrev pub deeds : List (Deed plain)
deeds = before ++ (once ∷ between ++ (twice ∷ afterwards))

-- which of them a word picks out
unfoldable pub those : (Deed plain → Bool) → List (Deed plain)
those p = keep p deeds

abbrev pub from : ℕ → ℕ → Range plain
from lo hi = record { low = lo; high = hi }

pub record Pins : Type 0 where
  pub goes : story plain (opening ++ middle ++ close) ≡ deeds
  -- told about: 20 (16), 15 (2 to a delete), 10 to the key found (1), 30..40 (2 to a read, twice); of nothing else
  pub told : map (λ d. told plain d.request d.says) deeds
      ≡ none ∷ none ∷ none ∷ none
      ∷ some (from 20 20) ∷ some (from 15 15) ∷ some (from 10 20) ∷ some (from 30 40)
      ∷ none ∷ none ∷ none ∷ none
      ∷ some (from 30 40) ∷ none ∷ none ∷ []
  -- a range has both its ends
  pub within : map (within plain (from 10 20)) (9 ∷ 10 ∷ 15 ∷ 20 ∷ 21 ∷ []) ≡ false ∷ true ∷ true ∷ true ∷ false ∷ []
  -- presence and record now: of an own insert, and of a ghost
  pub now : map (now_at plain two) (15 ∷ 20 ∷ 50 ∷ []) ≡ none ∷ some 2 ∷ some 5 ∷ []
  pub now_gone : map (now_at plain gone) (15 ∷ 20 ∷ 50 ∷ []) ≡ none ∷ none ∷ some 5 ∷ []
  -- 1 ends by its commit; 2 has not ended: its commit was turned away
  pub ends1 : those (ends plain 1) ≡ deed 1 commit done two both ∷ []
  pub ends2 : those (ends plain 2) ≡ []
  -- requests that would change a key from 10 to 40: not 50, and no read
  pub changes : those (λ d. changes plain (from 10 40) d.request)
      ≡ deed 16 (ask (insert 20 2)) done [] made
      ∷ deed 1 (ask (insert 20 9)) (is_present 20 (some 2)) one one
      ∷ deed 1 (ask (delete 15)) nothing one one
      ∷ deed 2 (ask (delete 20)) (waiting (some 1)) one one
      ∷ deed 2 (ask (delete 20)) done both gone
      ∷ []
  -- and those that did: 1 changed none from 10 to 40, for it was told 16 and 2; up to 50 it changed one
  pub own1 : those (own_change plain 1 (from 10 40)) ≡ []
  pub own1far : those (own_change plain 1 (from 10 50)) ≡ deed 1 (ask (insert 50 5)) done one two ∷ []
  pub own2 : those (own_change plain 2 (from 10 40)) ≡ deed 2 (ask (delete 20)) done both gone ∷ []
  -- what does not leave 50 alone for 1, and what not 20
  pub fifty : those (λ d. not (leaves_alone plain 1 50 d)) ≡ deed 1 (ask (insert 50 5)) done one two ∷ deed 1 commit done two both ∷ []
  pub twenty : those (λ d. not (leaves_alone plain 1 20 d)) ≡ deed 1 commit done two both ∷ []
  -- 1 knows of 20 when it has read, and leaves it alone until it has read again: 20 is then as it was
  pub knows : KnowsOf plain 1 20 (story plain opening)
  pub goes_on : story plain (opening ++ middle) ≡ story plain opening ++ (between ++ (twice ∷ []))
  pub quiet : all (leaves_alone plain 1 20) (between ++ (twice ∷ [])) ≡ true
  pub same : now_at plain (after plain (fresh plain) (opening ++ middle)).entries 20 ≡ now_at plain (after plain (fresh plain) opening).entries 20
  -- between the two it has not ended and changed nothing from 30 to 40: it gets the same again
  pub runs_on : all (λ d. not (ends plain 1 d)) between ≡ true
  pub untouched : all (λ d. not (own_change plain 1 (from 30 40) d)) between ≡ true
  pub again : twice.says ≡ once.says
