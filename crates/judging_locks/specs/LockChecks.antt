-- The tests that the code makes of the locks, in the order in which it makes them. They are not for readers: what they
-- come to is shown in ../proofs. Assumes nothing.
use Rattle.std.specs.Prelude.{ℕ, zero, suc, ◌≤◌, ◌≡◌, Bool, true, false, ◌&&◌, ◌||◌, List, eqb, length}
use Rattle.std.proofs.Math.Option.{Option, none, some}
use Rattle.limits.specs.Limits.{pages_size}
use Rattle.lists.specs.Lists.{all, any, pairs}
use Rattle.numbers.specs.Numbers.{Bytes}
use Rattle.rules.specs.Kinds.{Lock, Entry, Name, on, end}
use Rattle.rules.specs.Good.{is_x, together}
use Rattle.locks.specs.SlotLayout.{name_in, slots_of}
use Rattle.locks.specs.SlotMoves.{is_slot_of}
use Rattle.pages.specs.PageLayout.{entries_of, children_of}
use Rattle.index.specs.Pictures.{page_at}
use Rattle.judging_pages.specs.Walks.{span_of, tree_ok}
use Rattle.states.specs.States.{book}

-- ---- locks against one another, and against the entries
abbrev pub slot_together : Option (Lock ℕ) → Option (Lock ℕ) → Bool
slot_together none x = true
slot_together (some k) none = true
slot_together (some k) (some l) = together book k l

abbrev pub slot_has_x : Option (Lock ℕ) → Bool
slot_has_x none = false
slot_has_x (some l) = is_x l.mode

-- a slot with t's X on key k
abbrev pub slot_holds : ℕ → ℕ → Option (Lock ℕ) → Bool
slot_holds t k x = is_slot_of t (name_in k) x && slot_has_x x

unfoldable pub entry_held : List ℕ → Entry ℕ ℕ → Bool
entry_held d e = eqb e.owner 0 || any (slot_holds e.owner e.key) (slots_of d)

abbrev pub has_key : ℕ → Entry ℕ ℕ → Bool
has_key k e = eqb e.key k

-- the search for a key, and the test of every entry's owner, page by page
unfoldable pub find_at : ℕ → List ℕ → ℕ → ℕ → Bool
find_at zero s k q = any (has_key k) (entries_of (page_at s q))
find_at (suc n) s k q = any (λ c. find_at n s k c.page) (children_of (page_at s q))

unfoldable pub owners_at : ℕ → List ℕ → List ℕ → ℕ → Bool
owners_at zero s d q = all (entry_held d) (entries_of (page_at s q))
owners_at (suc n) s d q = all (λ c. owners_at n s d c.page) (children_of (page_at s q))

abbrev pub named : ℕ → List ℕ → ℕ → Name ℕ → Bool
named n s q end = true
named n s q (on k) = find_at n s k q

abbrev pub slot_named : ℕ → List ℕ → ℕ → Option (Lock ℕ) → Bool
slot_named n s q none = true
slot_named n s q (some l) = named n s q l.name

-- a tree of pages that are in order
pub record Fine (n : ℕ) (s : List ℕ) (q : ℕ) : Type 0 where
  pub least : ℕ
  pub low : ℕ
  pub high : ℕ
  pub one : 1 ≤ least
  pub bytes : Bytes s
  pub size : length s ≡ pages_size
  pub ok : tree_ok n least s (span_of q low high) ≡ true

-- all of it
unfoldable pub locks_ok : ℕ → List ℕ → List ℕ → ℕ → Bool
locks_ok n s d q = (pairs slot_together (slots_of d) && all (slot_named n s q) (slots_of d)) && owners_at n s d q
