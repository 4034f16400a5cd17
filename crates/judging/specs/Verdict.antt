-- The tests that the code makes of a picture, in the order in which it makes them. They are not for readers: what they come to is shown in
-- ../proofs. Assumes nothing.
use Rattle.std.specs.Prelude.{ℕ, ◌-◌, Bool, ◌&&◌, List}
use Rattle.rows.specs.PageHead.{root_of, height_of}
use Rattle.index.specs.Pictures.{page_at}
use Rattle.judging_pages.specs.Walks.{pages_ok}
use Rattle.judging_desk.specs.DeskChecks.{desk_ok}
use Rattle.judging_locks.specs.LockChecks.{locks_ok}

unfoldable pub whole_ok : List ℕ → List ℕ → Bool
whole_ok s d = (pages_ok s && desk_ok d) && locks_ok (height_of (page_at s 0) - 1) s d (root_of (page_at s 0))
