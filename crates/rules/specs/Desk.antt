-- Document 01, "What the desk says": one request with its answers in their order, and a run of requests from a fresh index.
-- Assumes nothing.
use Rattle.std.specs.Prelude.{ℕ, suc, Bool, true, false, cond, ◌&&◌, List, [], ◌∷◌, ◌++◌, eqb, leb, get_or, set, replicate}
use Rattle.std.proofs.Math.Option.{Option, none, some}
use Rattle.lists.specs.Lists.{any}
use Rattle.rules.specs.Kinds.{Book, Ask, read, insert, delete, Request, begin, commit, rollback, ask, Call, Mark, idle, running}
use Rattle.rules.specs.Entries.{at_most, committed, rolled_back, settled, taken_out}
use Rattle.rules.specs.Locks.{released}
use Rattle.rules.specs.Queue.{St, blocker_of, leave}
use Rattle.rules.specs.Runs.{done, waiting, runs_already, runs_not, waits_already, Answer, Sy, En, Worked, worked}

abbrev pub is_running : Mark → Bool
is_running running = true
is_running idle = false

module _ (B : Book) where
  abbrev pub An : Type 0
  An = Answer B.Key B.Rec

  abbrev pub runs : St B → ℕ → Bool
  runs s t = is_running (get_or s.marks t idle)

  abbrev pub waits_now : St B → ℕ → Bool
  waits_now s t = any (λ q. eqb q.asker t) s.queue

  abbrev pub says : ℕ → Sy B → An
  says t m = record { asker = t; says = m }

  -- "13: begin of a running transaction"; "14: any other request of one not running"; "15: anything but rollback while waiting"
  abbrev pub unless_runs : Bool → Option (Sy B) → Option (Sy B)
  unless_runs true m = m
  unless_runs false m = some runs_not

  abbrev pub if_so : Bool → Sy B → Option (Sy B)
  if_so true m = some m
  if_so false m = none

  unfoldable pub refusal : St B → ℕ → Request B.Key B.Rec → Option (Sy B)
  refusal s t begin = if_so (runs s t) runs_already
  refusal s t commit = unless_runs (runs s t) (if_so (waits_now s t) waits_already)
  refusal s t rollback = unless_runs (runs s t) none
  refusal s t (ask a) = unless_runs (runs s t) (if_so (waits_now s t) waits_already)

  unfoldable pub begun : St B → ℕ → St B
  begun s t =
      record
      { entries = s.entries; pages = s.pages; slots = s.slots; queue = s.queue; marks = set s.marks t running }

  -- the end of t: its entries settled, its locks released, its queued request, if it has one, dropped without an answer
  unfoldable pub ended : (En B → En B) → St B → ℕ → St B
  ended f s t =
      record {
        entries = settled f t s.entries;
        pages = B.paging.shrunk s.pages (taken_out f t s.entries);
        slots = released B t s.slots;
        queue = leave B t s.queue;
        marks = set s.marks t idle;
      }

  -- "A read, insert or delete that passes checks 10 to 15 joins the end of the queue."
  unfoldable pub joined : St B → ℕ → Ask B.Key B.Rec → St B
  joined s t a =
      record {
        entries = s.entries;
        pages = s.pages;
        slots = s.slots;
        queue = s.queue ++ (record { asker = t; asks = a } ∷ []);
        marks = s.marks;
      }

  -- "Begin, commit and rollback act first, answer first, and then the queue is worked."
  abbrev pub after_done : ℕ → Worked B → Worked B
  after_done t w = record { state = w.state; answers = says t done ∷ w.answers }

  -- "If the new request is still queued at rest, its answer 3 comes last." It names who is in the way, "as it stands at rest".
  abbrev pub waiting_at : St B → ℕ → An
  waiting_at s t = says t (waiting (blocker_of B s t))

  abbrev pub waiting_last : ℕ → Worked B → Worked B
  waiting_last t w =
      record { state = w.state; answers = w.answers ++ cond (waits_now w.state t) (waiting_at w.state t ∷ []) [] }

  unfoldable pub acts : St B → ℕ → Request B.Key B.Rec → Worked B
  acts s t begin = after_done t (worked B (begun s t))
  acts s t commit = after_done t (worked B (ended committed s t))
  acts s t rollback = after_done t (worked B (ended rolled_back s t))
  acts s t (ask a) = waiting_last t (worked B (joined s t a))

  -- "Answers 13 to 15 don't work the queue."
  abbrev pub unless : St B → ℕ → Worked B → Option (Sy B) → Worked B
  unless s t w (some m) = record { state = s; answers = says t m ∷ [] }
  unless s t w none = w

  unfoldable pub step : St B → ℕ → Request B.Key B.Rec → Worked B
  step s t r = unless s t (acts s t r) (refusal s t r)

  -- Number 12 as far as it is about values: "a transaction outside 1..16, the end as key, lo or hi, or lo above hi"
  abbrev pub is_transaction : ℕ → Bool
  is_transaction t = leb 1 t && leb t B.transactions

  unfoldable pub legal_ask : Ask B.Key B.Rec → Bool
  legal_ask (read lo hi) = (B.legal lo && B.legal hi) && at_most B lo hi
  legal_ask (insert k r) = B.legal k
  legal_ask (delete k) = B.legal k

  unfoldable pub legal_request : Request B.Key B.Rec → Bool
  legal_request begin = true
  legal_request commit = true
  legal_request rollback = true
  legal_request (ask a) = legal_ask a

  abbrev pub Cl : Type 0
  Cl = Call B.Key B.Rec

  -- a call: none is number 12, nothing changed
  abbrev pub legal_call : Cl → Bool
  legal_call c = is_transaction c.asker && legal_request c.request

  unfoldable pub call : St B → Cl → Option (Worked B)
  call s c = cond (legal_call c) (some (step s c.asker c.request)) none

  abbrev pub state_after : St B → Option (Worked B) → St B
  state_after s none = s
  state_after s (some w) = w.state

  abbrev pub answers_of : Option (Worked B) → Option (List An)
  answers_of none = none
  answers_of (some w) = some w.answers

  -- "Fresh": no entry, no lock, nobody runs or waits
  unfoldable pub fresh : St B
  fresh =
      record {
        entries = [];
        pages = B.paging.bare;
        slots = replicate B.locks none;
        queue = [];
        marks = replicate (suc B.transactions) idle;
      }

  -- calls one after the other: where they lead, and what each was answered (none: 12)
  unfoldable pub after : St B → List Cl → St B
  after s [] = s
  after s (c ∷ cs) = after (state_after s (call s c)) cs

  unfoldable pub session : St B → List Cl → List (Option (List An))
  session s [] = []
  session s (c ∷ cs) = let w = call s c in answers_of w ∷ session (state_after s w) cs
