-- Desks that one might be sold instead, each of which the promise shuts out (document 01, "What a signature on the scorecard means": "These
-- idle versions have to be shut out"). A desk is here any way at all to answer a call, and keeps the promise where it does so on bytes. Each idle
-- one is idle in reads, inserts and deletes, or in an end, alone: whatever else it does rightly does not save it. Assumes nothing.
use Rattle.std.specs.Prelude.{ℕ, ◌+◌, ◌*◌, ◌≤◌, ◌<◌, ◌≡◌, false, List, [], length}
use Rattle.std.proofs.Math.Option.{some}
use Rattle.limits.specs.Limits.{answer_size}
use Rattle.numbers.specs.Numbers.{Bytes, number_at}
use Rattle.rules.specs.Kinds.{Ask, Request, ask, Call}
use Rattle.requests.specs.RequestRecord.{heard}
use Rattle.locks.specs.SlotLayout.{slots_of}
use Rattle.queue.specs.QueueLayout.{queue_of}
use Rattle.states.specs.Whole.{Whole}
use Rattle.calls.specs.Promise.{Lent, BytesIn, Served, wrong_sizes, returned, step_of}

pub record Left : Type 0 where
  pub lent : Lent
  pub result : ℕ

-- of any request and whatever is lent
abbrev pub Way : Type 0
Way = List ℕ → Lent → Left

pub record Keeps (f : Way) : Type 0 where
  pub each : (q : List ℕ) (x : Lent) → Bytes q → BytesIn x → Served q x (f q x).lent (f q x).result

-- a call in bytes, without cause for 10, 11 or 12
pub record Sound (q : List ℕ) (x : Lent) (c : Call ℕ ℕ) : Type 0 where
  pub request : Bytes q
  pub lent : BytesIn x
  pub sizes : wrong_sizes x ≡ false
  pub whole : Whole x.pages x.desk
  pub heard : heard q ≡ some c

-- what a call tells t: the number that it returns, or one that stands in an answer to t among the bytes that it says it wrote
pub data Tells (y : Left) (t n : ℕ) : Type 0 where
  returns : 10 ≤ n → y.result ≡ returned n 0 → Tells y t n
  answers : (i : ℕ) → answer_size * i < y.result → y.result < returned 1 0 → number_at 2 y.lent.answers (answer_size * i + 4) ≡ t
      → number_at 2 y.lent.answers (answer_size * i + 6) ≡ n → Tells y t n

-- "a desk that refuses everything": every read, insert and delete gets one of 10 to 19
pub record RefusesAll (f : Way) : Type 0 where
  pub refuses : (q : List ℕ) (x : Lent) (c : Call ℕ ℕ) (a : Ask ℕ ℕ) → Sound q x c → c.request ≡ ask a
      → (n : ℕ) × (10 ≤ n) × (n ≤ 19) × Tells (f q x) c.asker n

-- "one that always says 'waits' or 'done'", or anything else: every read, insert and delete gets the same number
pub record AlwaysSays (n : ℕ) (f : Way) : Type 0 where
  pub always : (q : List ℕ) (x : Lent) (c : Call ℕ ℕ) (a : Ask ℕ ℕ) → Sound q x c → c.request ≡ ask a → Tells (f q x) c.asker n

-- "one that alters nothing": no read, insert or delete alters more than the running marks
pub record AltersNothing (f : Way) : Type 0 where
  pub pages : (q : List ℕ) (x : Lent) (c : Call ℕ ℕ) (a : Ask ℕ ℕ) → Sound q x c → c.request ≡ ask a → (f q x).lent.pages ≡ x.pages
  pub slots : (q : List ℕ) (x : Lent) (c : Call ℕ ℕ) (a : Ask ℕ ℕ) → Sound q x c → c.request ≡ ask a → slots_of (f q x).lent.desk ≡ slots_of x.desk
  pub queue : (q : List ℕ) (x : Lent) (c : Call ℕ ℕ) (a : Ask ℕ ℕ) → Sound q x c → c.request ≡ ask a → queue_of (f q x).lent.desk ≡ queue_of x.desk

-- "one that answers the first queued request and drops the others": after an end of this kind there are its own answer and at most one more,
-- and nobody is queued any longer
pub record AnswersFirst (r : Request ℕ ℕ) (f : Way) : Type 0 where
  pub first : (q : List ℕ) (x : Lent) (c : Call ℕ ℕ) → Sound q x c → c.request ≡ r → (f q x).result ≤ returned 0 40
  pub drops : (q : List ℕ) (x : Lent) (c : Call ℕ ℕ) → Sound q x c → c.request ≡ r → queue_of (f q x).lent.desk ≡ []

-- "one that makes up the answer count": once, at least, it returns another number of bytes than twenty for each answer
pub record MakesUp (f : Way) : Type 0 where
  pub request : List ℕ
  pub lent : Lent
  pub call : Call ℕ ℕ
  pub sound : Sound request lent call
  pub made_up : (f request lent).result ≡ returned 0 (answer_size * length (step_of call lent).answers) → ⊥
