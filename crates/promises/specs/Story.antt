-- What happened, in order: each answer with the request that it answers, and the index before and after. The answers are those that the
-- calls were given (`Faithful`, below), and nothing changes between them (`Seamless`). What a transaction had asked is the latest call that it
-- sent and was not turned away; what it was told, and since when, is read from the answers: from calls and answers, and from no table.
-- (Document 01, "What a signature on the scorecard means": "by the rule book's answers since each begin, not by the tables".) Assumes nothing.
use Rattle.std.specs.Prelude.{ℕ, zero, suc, ◌≡◌, Bool, true, false, cond, ◌&&◌, List, [], ◌∷◌, ◌++◌, map, eqb, length}
use Rattle.std.proofs.Math.Option.{Option, none, some}
use Rattle.lists.specs.Lists.{join}
use Rattle.rules.specs.Kinds.{Book, Ask, read, insert, delete, Request, begin, commit, rollback, ask}
use Rattle.rules.specs.Entries.{Entries, at_most, committed, rolled_back}
use Rattle.rules.specs.Queue.{St, blocker_of}
use Rattle.rules.specs.Runs.{done, found, nothing, waiting, runs_already, runs_not, waits_already, is_present, locks_short, pages_short, circle, Sy, Turn, turn, worked}
use Rattle.rules.specs.Desk.{An, Cl, refusal, begun, ended, joined, waits_now, legal_call, call, state_after, answers_of, fresh, session}

module _ (B : Book) where
  -- one answer: who got it, what it had asked, what it was told, and the entries before and after
  pub record Deed : Type 0 where
    pub actor : ℕ
    pub request : Request B.Key B.Rec
    pub says : Sy B
    pub before : Entries B
    pub after : Entries B

  -- what each transaction has asked, as far as it is known from the calls that were sent
  abbrev pub Asked : Type 0
  Asked = ℕ → Request B.Key B.Rec

  abbrev pub nothing_asked : Asked
  nothing_asked t = begin

  -- a call that is answered 13, 14 or 15, or is 12, was turned away: what its sender had asked before still stands
  abbrev pub is_turned_away : Sy B → Bool
  is_turned_away done = false
  is_turned_away (found k r) = false
  is_turned_away nothing = false
  is_turned_away (waiting u) = false
  is_turned_away runs_already = true
  is_turned_away runs_not = true
  is_turned_away waits_already = true
  is_turned_away (is_present k r) = false
  is_turned_away locks_short = false
  is_turned_away pages_short = false
  is_turned_away circle = false

  abbrev pub turned_away : Option (List (An B)) → Bool
  turned_away none = true
  turned_away (some []) = false
  turned_away (some (a ∷ as')) = is_turned_away a.says

  -- what is known when a call was sent and answered so
  abbrev pub asked_then : Asked → Cl B → Option (List (An B)) → Asked
  asked_then f c o u = cond (turned_away o) (f u) (cond (eqb u c.asker) c.request (f u))

  -- the turns of the queue
  abbrev pub turn_deed : Asked → St B → Turn B → Deed
  turn_deed f s o =
      record {
        actor = o.answer.asker;
        request = f o.answer.asker;
        says = o.answer.says;
        before = s.entries;
        after = o.state.entries;
      }

  abbrev pub and_on : Asked → St B → (St B → List Deed) → Option (Turn B) → List Deed
  and_on f s more none = []
  and_on f s more (some o) = turn_deed f s o ∷ more o.state

  unfoldable pub turn_deeds : Asked → ℕ → St B → List Deed
  turn_deeds f zero s = []
  turn_deeds f (suc n) s = and_on f s (turn_deeds f n) (turn B s)

  abbrev pub queue_deeds : Asked → St B → List Deed
  queue_deeds f s = turn_deeds f (length s.queue) s

  -- begin, commit and rollback: done, and then the queue
  abbrev pub done_deeds : Asked → St B → ℕ → Request B.Key B.Rec → St B → List Deed
  done_deeds f s t r s' =
      record { actor = t; request = r; says = done; before = s.entries; after = s'.entries } ∷ queue_deeds f s'

  -- an answer that changes no entry
  abbrev pub idle_deed : Entries B → ℕ → Request B.Key B.Rec → Sy B → Deed
  idle_deed es t r m = record { actor = t; request = r; says = m; before = es; after = es }

  abbrev pub last_deed : St B → ℕ → Ask B.Key B.Rec → List Deed
  last_deed s t a = cond (waits_now B s t) (idle_deed s.entries t (ask a) (waiting (blocker_of B s t)) ∷ []) []

  unfoldable pub act_deeds : Asked → St B → ℕ → Request B.Key B.Rec → List Deed
  act_deeds f s t begin = done_deeds f s t begin (begun B s t)
  act_deeds f s t commit = done_deeds f s t commit (ended B committed s t)
  act_deeds f s t rollback = done_deeds f s t rollback (ended B rolled_back s t)
  act_deeds f s t (ask a) = queue_deeds f (joined B s t a) ++ last_deed (worked B (joined B s t a)).state t a

  abbrev pub deeds_unless : Asked → St B → ℕ → Request B.Key B.Rec → Option (Sy B) → List Deed
  deeds_unless f s t r none = act_deeds f s t r
  deeds_unless f s t r (some m) = idle_deed s.entries t r m ∷ []

  -- the deeds of a call; a call that is 12 has none
  unfoldable pub call_deeds : Asked → St B → Cl B → List Deed
  call_deeds f s c = cond (legal_call B c) (deeds_unless f s c.asker c.request (refusal B s c.asker c.request)) []

  unfoldable pub story_from : Asked → St B → List (Cl B) → List Deed
  story_from f s [] = []
  story_from f s (c ∷ cs) =
      let w = call B s c in
      let g = asked_then f c (answers_of B w) in
      call_deeds g s c ++ story_from g (state_after B s w) cs

  -- the story of a run of calls from a fresh index
  abbrev pub story : List (Cl B) → List Deed
  story cs = story_from nothing_asked (fresh B) cs

  -- the deeds are the answers that the calls were given, in their order, and no others
  abbrev pub answer_of : Deed → An B
  answer_of d = record { asker = d.actor; says = d.says }

  abbrev pub given : Option (List (An B)) → List (An B)
  given none = []
  given (some as') = as'

  abbrev pub Faithful : List (Cl B) → Type 0
  Faithful cs = map answer_of (story cs) ≡ join given (session B (fresh B) cs)

  -- and nothing changes between them: each begins where the one before it ended, the first at es, and the last ends at es'
  abbrev pub Seamless : Entries B → List Deed → Entries B → Type 0
  Seamless es [] es' = es ≡ es'
  Seamless es (d ∷ ds) es' = (d.before ≡ es) × Seamless d.after ds es'

  -- "Told about: lo to the key found (1), lo..hi (2 to a read), the key (2 to a delete, 16)."
  pub record Range : Type 0 where
    pub low : B.Key
    pub high : B.Key

  abbrev pub range : B.Key → B.Key → Option Range
  range lo hi = some (record { low = lo; high = hi })

  abbrev pub told_read : B.Key → B.Key → Sy B → Option Range
  told_read lo hi done = none
  told_read lo hi (found k r) = range lo k
  told_read lo hi nothing = range lo hi
  told_read lo hi (waiting u) = none
  told_read lo hi runs_already = none
  told_read lo hi runs_not = none
  told_read lo hi waits_already = none
  told_read lo hi (is_present k r) = none
  told_read lo hi locks_short = none
  told_read lo hi pages_short = none
  told_read lo hi circle = none

  abbrev pub told_key : B.Key → Sy B → Option Range
  told_key k done = none
  told_key k (found j r) = none
  told_key k nothing = range k k
  told_key k (waiting u) = none
  told_key k runs_already = none
  told_key k runs_not = none
  told_key k waits_already = none
  told_key k (is_present j r) = range k k
  told_key k locks_short = none
  told_key k pages_short = none
  told_key k circle = none

  unfoldable pub told : Request B.Key B.Rec → Sy B → Option Range
  told begin m = none
  told commit m = none
  told rollback m = none
  told (ask (read lo hi)) m = told_read lo hi m
  told (ask (insert k r)) m = told_key k m
  told (ask (delete k)) m = told_key k m

  abbrev pub within : Range → B.Key → Bool
  within g x = at_most B g.low x && at_most B x g.high

  -- "Changed: presence or record now." A key that is not there, or is a ghost, has none.
  abbrev pub is_done : Sy B → Bool
  is_done done = true
  is_done (found k r) = false
  is_done nothing = false
  is_done (waiting u) = false
  is_done runs_already = false
  is_done runs_not = false
  is_done waits_already = false
  is_done (is_present k r) = false
  is_done locks_short = false
  is_done pages_short = false
  is_done circle = false

  abbrev pub is_end : Request B.Key B.Rec → Bool
  is_end begin = false
  is_end commit = true
  is_end rollback = true
  is_end (ask a) = false

  -- the deed by which t ends
  abbrev pub ends : ℕ → Deed → Bool
  ends t d = (eqb d.actor t && is_end d.request) && is_done d.says
