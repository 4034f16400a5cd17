-- Document 01, "Working the queue": who waits behind whom, the oldest request that isn't blocked, circles. Assumes nothing.
use Rattle.std.specs.Prelude.{ℕ, zero, suc, ◌-◌, Bool, not, ◌&&◌, ◌||◌, List, [], ◌∷◌, ◌++◌, map, eqb}
use Rattle.std.proofs.Math.Option.{Option, none, some}
use Rattle.lists.specs.Lists.{any, keep, first, lightest, lowest, times, member, tab}
use Rattle.rules.specs.Kinds.{Book, State, Queued}
use Rattle.rules.specs.Entries.{Entries, is_there}
use Rattle.rules.specs.Locks.{Slots, in_use, blockers}

module _ (B : Book) where
  abbrev pub St : Type 0
  St = State B.Key B.Rec B.paging.Pages

  abbrev pub Q : Type 0
  Q = Queued B.Key B.Rec

  -- a queued request with all who block it
  pub record Wait : Type 0 where
    pub request : Q
    pub behind : List ℕ

  unfoldable pub waits_from : Entries B → Slots B → List Q → List Q → List Wait
  waits_from es ls ahead [] = []
  waits_from es ls ahead (q ∷ qs) =
      record { request = q; behind = blockers B es ls ahead q } ∷ waits_from es ls (ahead ++ (q ∷ [])) qs

  unfoldable pub waits : St → List Wait
  waits s = waits_from s.entries s.slots [] s.queue

  -- Document 02, [4]: "The question whether a request is blocked shall answer with the lowest-numbered transaction that blocks it, or none."
  abbrev pub blocker : Wait → Option ℕ
  blocker w = lowest w.behind

  -- the same of t's queued request; none, too, where it has none
  abbrev pub blocker_in : Option Wait → Option ℕ
  blocker_in none = none
  blocker_in (some w) = blocker w

  unfoldable pub blocker_of : St → ℕ → Option ℕ
  blocker_of s t = blocker_in (first (λ w. eqb w.request.asker t) (waits s))

  abbrev pub is_free : Wait → Bool
  is_free w = not (is_there (blocker w))

  -- "if some queued request isn't blocked, the oldest such"
  unfoldable pub oldest : St → Option Wait
  oldest s = first is_free (waits s)

  -- Circles go by everyone who blocks. From a set of transactions, one link further: those of the set, and whom one of them waits behind.
  abbrev pub everyone : List ℕ
  everyone = tab B.transactions 1 (λ t. t)

  abbrev pub linked : List Wait → List ℕ → ℕ → Bool
  linked ws us u = any (λ w. member w.request.asker us && member u w.behind) ws

  unfoldable pub further : List Wait → List ℕ → List ℕ
  further ws us = keep (λ u. member u us || linked ws us u) everyone

  -- "A wait chain is followed with the number of links left falling"
  unfoldable pub reached : ℕ → List Wait → List ℕ → List ℕ
  reached zero ws us = us
  reached (suc links) ws us = reached links ws (further ws us)

  -- "from 15": one fewer than there are transactions
  abbrev pub links_most : ℕ
  links_most = B.transactions - 1

  -- a request lies on a circle if its chain comes back to it: its own link, and at most so many more
  unfoldable pub on_circle : List Wait → Wait → Bool
  on_circle ws w = member w.request.asker (reached links_most ws w.behind)

  -- Document 02, [14]: how many locks a transaction holds, whatever their mode, the end's among them
  unfoldable pub locks_held : Slots B → ℕ → ℕ
  locks_held ls t = times t (map (λ l. l.holder) (in_use ls))

  abbrev pub weight : St → Wait → ℕ
  weight s w = locks_held s.slots w.request.asker

  -- "of the queued requests on a circle, the one whose transaction holds the fewest locks is answered 19; of equals, the newest"
  unfoldable pub yields : St → Option Wait
  yields s = let ws = waits s in lightest (on_circle ws) (weight s) ws

  -- the queue when t's request has left it
  unfoldable pub leave : ℕ → List Q → List Q
  leave t qs = keep (λ q. not (eqb q.asker t)) qs
