-- Tables that a desk has room for: as many slots and marks as there are, no more queued than fit, numbers within their widths. Every good
-- state of the rule book whose values come from bytes is so. Assumes nothing.
use Rattle.std.specs.Prelude.{ℕ, suc, ◌≤◌, ◌<◌, ◌≡◌, true, not, List, eqb, length, get_or}
use Rattle.std.proofs.Math.Option.{Option}
use Rattle.limits.specs.Limits.{transactions_most, locks_most}
use Rattle.lists.specs.Lists.{In, pairs}
use Rattle.rules.specs.Kinds.{Ask, read, insert, delete, Queued, Mark, idle, Lock, Name, on, end}
use Rattle.rules.specs.Locks.{in_use}
use Rattle.rules.specs.Document.{end_mark}

abbrev pub NameFits : Name ℕ → Type 0
NameFits (on k) = k < end_mark
NameFits end = Unit {0}

abbrev pub AskFits : Ask ℕ ℕ → Type 0
AskFits (read lo hi) = (lo < end_mark) × (hi < end_mark)
AskFits (insert k r) = (k < end_mark) × (r < 4294967296)
AskFits (delete k) = k < end_mark

pub record LockFits (l : Lock ℕ) : Type 0 where
  pub name : NameFits l.name
  pub some : 1 ≤ l.holder
  pub most : l.holder ≤ transactions_most

pub record QueuedFits (q : Queued ℕ ℕ) : Type 0 where
  pub some : 1 ≤ q.asker
  pub most : q.asker ≤ transactions_most
  pub asks : AskFits q.asks

pub record Fitting (ls : List (Option (Lock ℕ))) (qs : List (Queued ℕ ℕ)) (ms : List Mark) : Type 0 where
  pub slots : length ls ≡ locks_most
  pub locks : (l : Lock ℕ) → In l (in_use ls) → LockFits l
  pub few : length qs ≤ transactions_most
  pub queued : (q : Queued ℕ ℕ) → In q qs → QueuedFits q
  pub askers : pairs (λ p q. not (eqb p.asker q.asker)) qs ≡ true
  pub marks : length ms ≡ suc transactions_most
  pub nobody : get_or ms 0 idle ≡ idle
