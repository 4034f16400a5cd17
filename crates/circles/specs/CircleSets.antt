-- Sets of transactions as words, a bit for each; and who waits behind whom as a row of such sets, one for each transaction.
-- (Document 01, "Working the queue"; rules/specs/Queue has the same of lists.) Assumes nothing.
use Rattle.std.specs.Prelude.{ℕ, zero, suc, ◌≡◌, Bool, false, ◌&&◌, List, eqb, get_or}
use Rattle.lists.specs.Lists.{member, any}
use Rattle.sets.specs.Sets.{word_has}
use Rattle.rules.specs.Kinds.{Book}
use Rattle.rules.specs.Queue.{Wait}

-- whether transaction t is in a set. Transactions count from 1 and a word's numbers from 0, so that 64 transactions fit; nobody is transaction 0.
unfoldable pub has : ℕ → ℕ → Bool
has m zero = false
has m (suc t) = word_has m t

-- a set has just the members of a list
pub record SetOf (m : ℕ) (us : List ℕ) : Type 0 where
  pub just : (t : ℕ) → has m t ≡ member t us

-- a wait is a link from t to u: it is t's request, and u is one of those that it waits behind
abbrev pub is_link : (B : Book) → ℕ → ℕ → Wait B → Bool
is_link B t u w = eqb w.request.asker t && member u w.behind

-- a row of sets, one at each transaction's number: whom its queued request waits behind; empty for one that has none
pub record RowOf (B : Book) (row : List ℕ) (ws : List (Wait B)) : Type 0 where
  pub just : (t u : ℕ) → has (get_or row t 0) u ≡ any (is_link B t u) ws
