-- The tables of a good state fit a desk, where the records that its requests name are within their width, as those read from bytes are.
-- By the invariants: locks on keys or the end held by running transactions, legal requests of running ones, no asker twice. Assumes nothing.
use Prim.Native.Nat.{ℕ, ◌+◌, ◌≤◌, ◌<◌}
use mathlib.Core.Path.{◌≡◌, refl, subst}
use mathlib.Core.Bool.{Bool, true, false, cond, ◌&&◌, true≢false}
use mathlib.Core.List.{List}
use native.Mathlib.Omega.{arith}
use borrow.Author.Tests.{ltb-true}
use lib.Dec.{eqb, ltb}
use lib.ListN.{length, get_or}
use Rattle.limits.specs.Limits.{key_size, transactions_most}
use Rattle.lists.specs.Lists.{In, all, pairs}
use Rattle.lists.proofs.Tests.{and_left, and_right}
use Rattle.lists.proofs.Elements.{all_in, any_in, tab_in}
use Rattle.lists.proofs.Finite.{no_more}
use Rattle.lists.proofs.Tables.{length_tab}
use Rattle.numbers.specs.Numbers.{number_at, fields_at, Bytes}
use Rattle.numbers.proofs.Numbers.{number_below}
use Rattle.rules.specs.Kinds.{Ask, read, insert, delete, Queued, Mark, idle, running, Lock, Name, on, end, Paging}
use Rattle.rules.specs.Entries.{same, at_most}
use Rattle.rules.specs.Locks.{in_use}
use Rattle.rules.specs.Queue.{St, everyone}
use Rattle.rules.specs.Desk.{is_running, runs, legal_ask}
use Rattle.rules.specs.Good.{below, ascending, is_name, lock_stands, queue_stands, Good}
use Rattle.rules.specs.Document.{document, end_mark}
use Rattle.rules.proofs.Orders.{numbers_ordered}
use Rattle.rules.proofs.KeyTests.{same_equal}
use Rattle.rules.proofs.Waits.{transaction_low, transaction_high, in_everyone, runs_known, queued_runs}
use Rattle.queue.specs.QueueLayout.{record_place, record_at, ask_in, ask_at, in_place, queued, queued_at, queue_of, marks_of}
use Rattle.locks.specs.SlotLayout.{slots_of}
use Rattle.states.specs.States.{book, state_of}
use Rattle.states.specs.Fitting.{NameFits, AskFits, LockFits, QueuedFits, Fitting}

-- the record that a request names is within its width
abbrev pub RecordFits : Ask ℕ ℕ → Type 0
RecordFits (read lo hi) = Unit {0}
RecordFits (insert k r) = r < 4294967296
RecordFits (delete k) = Unit {0}

idle_is : (m : Mark) → is_running m ≡ false → m ≡ idle
idle_is idle e = refl
idle_is running e = absurd (true≢false e)

module _ (P : Paging ℕ) (s : St (document P)) (good : Good (document P) s) where
  known : (t : ℕ) → runs (document P) s t ≡ true → (1 ≤ t) × (t ≤ transactions_most)
  known t h =
      let k = runs_known (document P) s good t h in
      (transaction_low (document P) t k, transaction_high (document P) t k)

  -- a key with an entry is below the end
  name_good : (n : Name ℕ) → is_name (document P) s.entries n ≡ true → NameFits n
  unfolding ascending
  name_good (on k) h =
      let w = any_in (λ e. same (document P) e.key k) s.entries h in
      let legal = and_right (pairs (below (document P)) s.entries) (all (λ e. ltb e.key end_mark) s.entries) good.keys in
      let low = ltb-true w.0.key end_mark (all_in (λ e. ltb e.key end_mark) s.entries w.0 legal w.1) in
      let e : w.0.key ≡ k = same_equal (document P) numbers_ordered w.0.key k w.2 in
      omega arith
  name_good end h = tt

  lock_good : (l : Lock ℕ) → In l (in_use s.slots) → LockFits l
  unfolding lock_stands
  lock_good l i =
      let stands = all_in (lock_stands (document P) s) (in_use s.slots) l good.names i in
      let who = known l.holder (and_left (runs (document P) s l.holder) (is_name (document P) s.entries l.name) stands) in
      record {
        name = name_good l.name (and_right (runs (document P) s l.holder) (is_name (document P) s.entries l.name) stands);
        some = who.0;
        most = who.1;
      }

  ask_good : (a : Ask ℕ ℕ) → legal_ask (document P) a ≡ true → RecordFits a → AskFits a
  unfolding legal_ask
  ask_good (read lo hi) h f =
      let both = and_left (ltb lo end_mark && ltb hi end_mark) (at_most (document P) lo hi) h in
      (ltb-true lo end_mark (and_left (ltb lo end_mark) (ltb hi end_mark) both), ltb-true hi end_mark (and_right (ltb lo end_mark) (ltb hi end_mark) both))
  ask_good (insert k r) h f = (ltb-true k end_mark h, f)
  ask_good (delete k) h f = ltb-true k end_mark h

  module _ (records : (q : Queued ℕ ℕ) → In q s.queue → RecordFits q.asks) where
    queued_good : (q : Queued ℕ ℕ) → In q s.queue → QueuedFits q
    unfolding queue_stands
    queued_good q i =
        let who = known q.asker (queued_runs (document P) s good q i) in
        let legal = and_right (runs (document P) s q.asker) (legal_ask (document P) q.asks) (all_in (queue_stands (document P) s) s.queue q good.queued i) in
        record { some = who.0; most = who.1; asks = ask_good q.asks legal (records q i) }

    few_good : length s.queue ≤ transactions_most
    few_good =
        let few = no_more (λ q. q.asker) s.queue (everyone (document P)) good.askers
        (λ q i. in_everyone (document P) q.asker (runs_known (document P) s good q.asker (queued_runs (document P) s good q i))) in
        omega (arith, length_tab transactions_most 1 (λ t. t))

    pub good_fits : Fitting s.slots s.queue s.marks
    good_fits =
        record {
          slots = good.slots;
          locks = lock_good;
          few = few_good;
          queued = queued_good;
          askers = good.askers;
          marks = good.marks;
          nobody = idle_is (get_or s.marks 0 idle) good.nobody;
        }

-- ---- a request read from bytes names a record of four bytes
record_small : (d : List ℕ) (t : ℕ) → Bytes d → RecordFits (ask_at d t)
unfolding record_at fields_at ask_in
record_small d t h = go (eqb (number_at 2 d (record_place t + 2)) 4) (eqb (number_at 2 d (record_place t + 2)) 5)
  where
    lo : ℕ
    lo = number_at key_size d (record_place t + 2 + 2 + 4)

    hi : ℕ
    hi = number_at key_size d (record_place t + 2 + 2 + 4 + key_size)

    r : ℕ
    r = number_at 4 d (record_place t + 2 + 2)

    go : (x y : Bool) → RecordFits (cond x (read lo hi) (cond y (insert lo r) (delete lo)))
    go true y = tt
    go false true = number_below 4 d (record_place t + 2 + 2) h
    go false false = tt

pub good_fitting : (p d : List ℕ) → Good book (state_of p d) → Bytes d → Fitting (slots_of d) (queue_of d) (marks_of d)
unfolding state_of queue_of queued_at
good_fitting p d good h =
    good_fits book.paging (state_of p d) good
    (λ q i. let w = tab_in (queued d) 0 (queued_at d) q i in subst (λ q. RecordFits q.asks) w.3 (record_small d (in_place d w.0) h))
