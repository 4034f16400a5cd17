-- A story with the states between: each deed is a move of the desk (`Acts`), and a story is moves in a row, with requests that join in
-- between (`Tells`). Along the story's definition; what is queued is what its asker had asked (`Known`), so that is a turn's request.
-- Assumes nothing.
use Prim.Native.Nat.{ℕ, zero, suc}
use mathlib.Core.Path.{◌≡◌, refl, sym, ap, subst, ◌∙◌}
use mathlib.Core.Logic.{◌⊎◌, inl, inr}
use mathlib.Core.Bool.{Bool, true, false, cond, true≢false}
use mathlib.Core.List.{List, [], ◌∷◌, ◌++◌, append_assoc}
use mathlib.Core.Option.{Option, none, some}
use lib.Dec.{eqb}
use lib.ListN.{length}
use borrow.Author.Tests.{eq-eqb}
use Rattle.lists.specs.Lists.{In}
use Rattle.lists.proofs.Tests.{and_left, and_right, never}
use Rattle.lists.proofs.Elements.{any_in, none_any, append_in}
use Rattle.rules.specs.Kinds.{Book, Ordered, Ask, Request, begin, commit, rollback, ask}
use Rattle.rules.specs.Entries.{committed, rolled_back}
use Rattle.rules.specs.Queue.{St, Q, Wait, waits, blocker_of, oldest, yields}
use Rattle.rules.specs.Runs.{done, waiting, runs_already, waits_already, circle, Sy, unmoved, run, left, Turn, refused, served, turn, onward, turns, Worked, worked, AtRest}
use Rattle.rules.specs.Desk.{Cl, runs, waits_now, if_so, unless_runs, refusal, begun, ended, joined, acts, unless, step, is_transaction, legal_ask, legal_request, legal_call, call, state_after, answers_of, fresh, after}
use Rattle.rules.specs.Good.{Good}
use Rattle.rules.proofs.Keeps.{Kept, Anyone, anyone_may, call_keeps}
use Rattle.rules.proofs.Rest.{worked_rests}
use Rattle.rules.proofs.Waits.{oldest_waits, oldest_free, yields_waits}
use Rattle.rules.proofs.Did.{waits_in}
use Rattle.rules.proofs.GoodKept.{good_kept, fresh_good, after_good}
use Rattle.promises.specs.Story.{Deed, Asked, nothing_asked, asked_then, turn_deed, and_on, turn_deeds, queue_deeds, idle_deed, last_deed, act_deeds, deeds_unless, call_deeds, story_from, story, Seamless, ends}
use Rattle.promises.proofs.AskedThen.{Known, turn_shrinks, queue_shrinks, known_worked, known_begun, known_ended, known_joined, refusal_turns, acts_stand}

module _ (B : Book) where
  abbrev pub deed_of : St B → ℕ → Request B.Key B.Rec → Sy B → St B → Deed B
  deed_of s t r m z = record { actor = t; request = r; says = m; before = s.entries; after = z.entries }

  -- the deed by which one state becomes the next
  pub data Acts (s : St B) : Deed B → St B → Type 0 where
    begins : (t : ℕ) → is_transaction B t ≡ true → runs B s t ≡ false → Acts s (deed_of s t begin done (begun B s t)) (begun B s t)
    commits : (t : ℕ) → is_transaction B t ≡ true → runs B s t ≡ true → waits_now B s t ≡ false
        → Acts s (deed_of s t commit done (ended B committed s t)) (ended B committed s t)
    rolls_back : (t : ℕ) → is_transaction B t ≡ true → runs B s t ≡ true
        → Acts s (deed_of s t rollback done (ended B rolled_back s t)) (ended B rolled_back s t)
    -- a queued request runs that nothing blocks
    goes : (w : Wait B) → In w (waits B s) → w.behind ≡ []
        → Acts s (deed_of s w.request.asker (ask w.request.asks) (run B s w.request).says (left B s w.request (run B s w.request)).state)
        (left B s w.request (run B s w.request)).state
    -- 19: only where everyone is blocked
    gives_way : (w : Wait B) → In w (waits B s) → oldest B s ≡ none
        → Acts s (deed_of s w.request.asker (ask w.request.asks) circle (left B s w.request (unmoved B s circle)).state)
        (left B s w.request (unmoved B s circle)).state
    -- 13, 14, 15
    refuses : (t : ℕ) (r : Request B.Key B.Rec) (m : Sy B) → refusal B s t r ≡ some m → Acts s (deed_of s t r m s) s
    -- 3: only at rest, and it names whom the question then names
    queues : (q : Q B) → In q s.queue → AtRest B s → Acts s (deed_of s q.asker (ask q.asks) (waiting (blocker_of B s q.asker)) s) s

  -- what the moves keep, a deed keeps, unless it is the end of one that may not end
  pub acts_keep : (Ends : ℕ → Type 0) (P : St B → Type 0) → Kept B Ends P → (s : St B) (d : Deed B) (z : St B) → Acts s d z
      → ((u : ℕ) → ends B u d ≡ true → Ends u) → P s → P z
  acts_keep Ends P K s d z (begins t h r) f p = K.begins s t h r p
  acts_keep Ends P K s d z (commits t h r w) f p = K.commits s t (f t (rw (eq-eqb t t refl))) h r w p
  acts_keep Ends P K s d z (rolls_back t h r) f p = K.rolls_back s t (f t (rw (eq-eqb t t refl))) h r p
  acts_keep Ends P K s d z (goes w i n) f p = K.goes s w i n p
  acts_keep Ends P K s d z (gives_way w i n) f p = K.gives_way s w i p
  acts_keep Ends P K s d z (refuses t r m e) f p = p
  acts_keep Ends P K s d z (queues q i e) f p = p

  -- deeds in a row, with requests that join in between
  pub data Tells : St B → List (Deed B) → St B → Type 0 where
    silent : {s : St B} → Tells s [] s
    joins : {s : St B} {ds : List (Deed B)} {z : St B} (t : ℕ) (a : Ask B.Key B.Rec) → runs B s t ≡ true → waits_now B s t ≡ false → legal_ask B a ≡ true
        → Tells (joined B s t a) ds z → Tells s ds z
    tells : {s : St B} {d : Deed B} {u : St B} {ds : List (Deed B)} {z : St B} → Acts s d u → Tells u ds z → Tells s (d ∷ ds) z

  -- what a request that joins keeps, and each deed, all keep
  pub tells_keep : (P : St B → Type 0) (Ok : Deed B → Type 0)
      → ((s : St B) (t : ℕ) (a : Ask B.Key B.Rec) → runs B s t ≡ true → waits_now B s t ≡ false → legal_ask B a ≡ true → P s → P (joined B s t a))
      → ((s : St B) (d : Deed B) (z : St B) → Acts s d z → Ok d → P s → P z)
      → {s : St B} {ds : List (Deed B)} {z : St B} → Tells s ds z → ((d : Deed B) → In d ds → Ok d) → P s → P z
  tells_keep P Ok J K silent f p = p
  tells_keep P Ok J K (joins {s = s} t a r w l y) f p = tells_keep P Ok J K y f (J s t a r w l p)
  tells_keep P Ok J K (tells {s = s} {d = d} {u = u} e y) f p = tells_keep P Ok J K y (λ c i. f c (inr i)) (K s d u e (f d (inl refl)) p)

  tells_append : {s : St B} {xs : List (Deed B)} {u : St B} {ys : List (Deed B)} {z : St B} → Tells s xs u → Tells u ys z → Tells s (xs ++ ys) z
  tells_append silent v = v
  tells_append (joins t a r w l y) v = joins t a r w l (tells_append y v)
  tells_append (tells e y) v = tells e (tells_append y v)

  -- nothing changes between
  pub acts_entries : (s : St B) (d : Deed B) (z : St B) → Acts s d z → (d.before ≡ s.entries) × (d.after ≡ z.entries)
  acts_entries s d z (begins t h r) = (refl, refl)
  acts_entries s d z (commits t h r w) = (refl, refl)
  acts_entries s d z (rolls_back t h r) = (refl, refl)
  acts_entries s d z (goes w i n) = (refl, refl)
  acts_entries s d z (gives_way w i n) = (refl, refl)
  acts_entries s d z (refuses t r m e) = (refl, refl)
  acts_entries s d z (queues q i e) = (refl, refl)

  tells_seamless : {s : St B} {ds : List (Deed B)} {z : St B} → Tells s ds z → Seamless B s.entries ds z.entries
  unfolding joined
  tells_seamless silent = refl
  tells_seamless (joins t a r w l y) = tells_seamless y
  tells_seamless (tells {s = s} {d = d} {u = u} a y) = let e = acts_entries s d u a in (e.0, rw e.1 (tells_seamless y))

  -- one deed of a story: the states before and after it, and the stories up to it and from it on
  pub record At (s : St B) (xs : List (Deed B)) (d : Deed B) (ys : List (Deed B)) (z : St B) : Type 0 where
    pub before : St B
    pub after : St B
    pub earlier : Tells s xs before
    pub acts : Acts before d after
    pub later : Tells after ys z

  pub tells_at : {s : St B} {ds : List (Deed B)} {z : St B} → Tells s ds z → (xs : List (Deed B)) (d : Deed B) (ys : List (Deed B))
      → ds ≡ xs ++ (d ∷ ys) → At s xs d ys z
  tells_at silent [] d ys e = never (cc)
  tells_at silent (x ∷ xs) d ys e = never (cc)
  tells_at (joins t a r w l y) xs d ys e =
      let v = tells_at y xs d ys e in
      record { before = v.before; after = v.after; earlier = joins t a r w l v.earlier; acts = v.acts; later = v.later }
  tells_at (tells {d = c} {ds = cs} a y) [] d ys e =
      let p : c ≡ d = cc in
      let q : cs ≡ ys = cc in
      record { before = _; after = _; earlier = silent; acts = rw p at a; later = rw q at y }
  tells_at (tells {d = c} {ds = cs} a y) (x ∷ xs) d ys e =
      let p : c ≡ x = cc in
      let v = tells_at y xs d ys (cc) in
      record { before = v.before; after = v.after; earlier = tells (rw p at a) v.earlier; acts = v.acts; later = v.later }

  -- what is known after a call, and after calls
  abbrev as_now : Asked B → St B → Cl B → Asked B
  as_now f s c = asked_then B f c (answers_of B (call B s c))

  unfoldable pub asked_after : Asked B → St B → List (Cl B) → Asked B
  asked_after f s [] = f
  asked_after f s (c ∷ cs) = asked_after (as_now f s c) (state_after B s (call B s c)) cs

  -- the story goes on where it was
  pub after_on : (s : St B) (cs more : List (Cl B)) → after B s (cs ++ more) ≡ after B (after B s cs) more
  unfolding after
  after_on s [] more = refl
  after_on s (c ∷ cs) more = after_on (state_after B s (call B s c)) cs more

  story_on : (f : Asked B) (s : St B) (cs more : List (Cl B))
      → story_from B f s (cs ++ more) ≡ story_from B f s cs ++ story_from B (asked_after f s cs) (after B s cs) more
  unfolding story_from after asked_after
  story_on f s [] more = refl
  story_on f s (c ∷ cs) more =
      ap (λ (ds : List (Deed B)). call_deeds B (as_now f s c) s c ++ ds) (story_on (as_now f s c) (state_after B s (call B s c)) cs more)
      ∙ sym (append_assoc (call_deeds B (as_now f s c) s c) _ _)

  -- the story is told: a turn
  module _ (L : Ordered B.Key B.compare) where
    turn_acts : (f : Asked B) (s : St B) (o : Turn B) → Known B f s → turn B s ≡ some o → Acts s (turn_deed B f s o) o.state
    unfolding turn oldest yields
    turn_acts f s o k e = by_oldest (oldest B s) refl e
      where
        -- the deed as the story has it
        as_told : (w : Wait B) (m : Sy B) (z : St B) → In w (waits B s) → Acts s (deed_of s w.request.asker (ask w.request.asks) m z) z
            → Acts s (deed_of s w.request.asker (f w.request.asker) m z) z
        as_told w m z i = subst (λ (r : Request B.Key B.Rec). Acts s (deed_of s w.request.asker r m z) z) (sym (k w.request (waits_in B s w i)))

        by_yields : (w : Option (Wait B)) → yields B s ≡ w → oldest B s ≡ none → refused B s w ≡ some o → Acts s (turn_deed B f s o) o.state
        by_yields none q n e = never (cc)
        by_yields (some w) q n e =
            let z : left B s w.request (unmoved B s circle) ≡ o = cc in
            let i = yields_waits B s w q in
            subst (λ (u : Turn B). Acts s (turn_deed B f s u) u.state) z (as_told w circle _ i (gives_way w i n))

        by_oldest : (w : Option (Wait B)) → oldest B s ≡ w → served B s w ≡ some o → Acts s (turn_deed B f s o) o.state
        by_oldest none q e = by_yields (yields B s) refl q e
        by_oldest (some w) q e =
            let z : left B s w.request (run B s w.request) ≡ o = cc in
            let i = oldest_waits B s w q in
            subst (λ (u : Turn B). Acts s (turn_deed B f s u) u.state) z (as_told w (run B s w.request).says _ i (goes w i (oldest_free B s w q)))

    pub good_after : (s : St B) (d : Deed B) (z : St B) → Acts s d z → Good B s → Good B z
    good_after s d z a = acts_keep (Anyone B) (Good B) (good_kept B L) s d z a (λ u e. tt)

    turns_tell : (f : Asked B) (n : ℕ) (s : St B) → Good B s → Known B f s → Tells s (turn_deeds B f n s) (turns B n s).state
    unfolding turn_deeds turns
    turns_tell f zero s g k = silent
    turns_tell f (suc n) s g k = go (turn B s) refl (turns_tell f n)
      where
        go : (o : Option (Turn B)) → turn B s ≡ o → ((u : St B) → Good B u → Known B f u → Tells u (turn_deeds B f n u) (turns B n u).state)
            → Tells s (and_on B f s (turn_deeds B f n) o) (onward B s (turns B n) o).state
        go none e h = silent
        go (some o) e h =
            let a = turn_acts f s o k e in
            tells a (h o.state (good_after s _ o.state a g) (λ q i. k q (turn_shrinks B s o e q i)))

    queue_tells : (f : Asked B) (s : St B) → Good B s → Known B f s → Tells s (queue_deeds B f s) (worked B s).state
    unfolding worked
    queue_tells f s g k = turns_tell f (length s.queue) s g k

    -- begin, commit and rollback, and then the queue
    done_tells : (f : Asked B) (s : St B) (d : Deed B) (z : St B) → Acts s d z → Good B s → Known B f z → Tells s (d ∷ queue_deeds B f z) (worked B z).state
    done_tells f s d z a g k = tells a (queue_tells f z (good_after s d z a g) k)

    -- a request that is still queued when the queue is worked is the one that joined
    still_queued : (s : St B) (t : ℕ) (a : Ask B.Key B.Rec) → waits_now B s t ≡ false → waits_now B (worked B (joined B s t a)).state t ≡ true
        → In (record { asker = t; asks = a }) (worked B (joined B s t a)).state.queue
    unfolding joined
    still_queued s t a n h =
        let w = any_in (λ q. eqb q.asker t) (worked B (joined B s t a)).state.queue h in
        go w.0 w.1 w.2 (append_in s.queue _ w.0 (queue_shrinks B (joined B s t a) w.0 w.1))
      where
        mine : Q B
        mine = record { asker = t; asks = a }

        go : (q : Q B) → In q (worked B (joined B s t a)).state.queue → eqb q.asker t ≡ true → In q s.queue ⊎ In q (mine ∷ [])
            → In mine (worked B (joined B s t a)).state.queue
        go q j e (inl i) = absurd (true≢false (sym e ∙ none_any (λ p. eqb p.asker t) s.queue q n i))
        go q j e (inr (inl z)) = rw (sym z) at j
        go q j e (inr (inr x)) = absurd x

    ask_tells : (f : Asked B) (s : St B) (t : ℕ) (a : Ask B.Key B.Rec) → Good B s → Known B f (joined B s t a) → runs B s t ≡ true
        → waits_now B s t ≡ false → legal_ask B a ≡ true
        → Tells s (queue_deeds B f (joined B s t a) ++ last_deed B (worked B (joined B s t a)).state t a) (worked B (joined B s t a)).state
    ask_tells f s t a g k r n l =
        joins t a r n l (tells_append (queue_tells f u ((good_kept B L).joins s t a r n l g) k) (go (waits_now B (worked B u).state t) refl))
      where
        u : St B
        u = joined B s t a

        go : (b : Bool) → waits_now B (worked B u).state t ≡ b
            → Tells (worked B u).state (cond b (idle_deed B (worked B u).state.entries t (ask a) (waiting (blocker_of B (worked B u).state t)) ∷ []) []) (worked B u).state
        go true h = tells (queues (record { asker = t; asks = a }) (still_queued s t a n h) (worked_rests B u)) silent
        go false h = silent

    -- who may act
    may_begin : (b : Bool) → if_so B b runs_already ≡ none → b ≡ false
    may_begin true h = never (cc)
    may_begin false h = refl

    may_ask : (b c : Bool) → unless_runs B b (if_so B c waits_already) ≡ none → (b ≡ true) × (c ≡ false)
    may_ask true true h = never (cc)
    may_ask true false h = (refl, refl)
    may_ask false c h = never (cc)

    may_rollback : (b : Bool) → unless_runs B b none ≡ none → b ≡ true
    may_rollback true h = refl
    may_rollback false h = never (cc)

    -- t's request acts, and g is what is known when it was sent
    acts_tell : (f g : Asked B) (s : St B) (t : ℕ) (r : Request B.Key B.Rec) → ((u : ℕ) → g u ≡ cond (eqb u t) r (f u))
        → is_transaction B t ≡ true → legal_request B r ≡ true → Good B s → Known B f s → refusal B s t r ≡ none
        → Tells s (act_deeds B g s t r) (acts B s t r).state × Known B g (acts B s t r).state
    unfolding act_deeds acts refusal legal_request
    acts_tell f g s t begin n h l w k e =
        let m = may_begin (runs B s t) e in
        let y = known_begun B f g s t n m w k in
        (done_tells g s _ (begun B s t) (begins t h m) w y, known_worked B g (begun B s t) y)
    acts_tell f g s t commit n h l w k e =
        let m = may_ask (runs B s t) (waits_now B s t) e in
        let y = known_ended B f g committed s t commit n k in
        (done_tells g s _ (ended B committed s t) (commits t h m.0 m.1) w y, known_worked B g (ended B committed s t) y)
    acts_tell f g s t rollback n h l w k e =
        let y = known_ended B f g rolled_back s t rollback n k in
        (done_tells g s _ (ended B rolled_back s t) (rolls_back t h (may_rollback (runs B s t) e)) w y, known_worked B g (ended B rolled_back s t) y)
    acts_tell f g s t (ask a) n h l w k e =
        let m = may_ask (runs B s t) (waits_now B s t) e in
        let y = known_joined B f g s t a n m.1 k in
        (ask_tells g s t a w y m.0 m.1 l, known_worked B g (joined B s t a) y)

    call_tells : (f : Asked B) (s : St B) (c : Cl B) → Good B s → Known B f s
        → Tells s (call_deeds B (as_now f s c) s c) (state_after B s (call B s c)) × Known B (as_now f s c) (state_after B s (call B s c))
    unfolding call_deeds call step
    call_tells f s c w k = go (legal_call B c) refl (refusal B s c.asker c.request) refl
      where
        t : ℕ
        t = c.asker

        r : Request B.Key B.Rec
        r = c.request

        then : Bool → Option (Sy B) → Option (Worked B)
        then b o = cond b (some (unless B s t (acts B s t r) o)) none

        go : (b : Bool) → legal_call B c ≡ b → (o : Option (Sy B)) → refusal B s t r ≡ o
            → Tells s (cond b (deeds_unless B (asked_then B f c (answers_of B (then b o))) s t r o) []) (state_after B s (then b o))
            × Known B (asked_then B f c (answers_of B (then b o))) (state_after B s (then b o))
        go true l none e =
            acts_tell f _ s t r (λ u. rw (acts_stand B s t r)) (and_left _ _ l) (and_right (is_transaction B t) _ l) w k e
        go true l (some m) e =
            (tells (refuses t r m e) silent, λ q i. let h = refusal_turns B s t r m e in rw h (k q i))
        go false l o e = (silent, k)

    calls_tell : (f : Asked B) (s : St B) (cs : List (Cl B)) → Good B s → Known B f s
        → Tells s (story_from B f s cs) (after B s cs) × Known B (asked_after f s cs) (after B s cs)
    unfolding story_from after asked_after
    calls_tell f s [] g k = (silent, k)
    calls_tell f s (c ∷ cs) g k =
        let one = call_tells f s c g k in
        let more = calls_tell (as_now f s c) (state_after B s (call B s c)) cs
        (call_keeps B (Anyone B) (Good B) (good_kept B L) s c (anyone_may B c.asker c.request) g) one.1 in
        (tells_append one.0 more.0, more.1)

    -- the story of a run of calls, from fresh to where they lead
    told_from_fresh : (cs : List (Cl B))
        → Tells (fresh B) (story B cs) (after B (fresh B) cs) × Known B (asked_after (nothing_asked B) (fresh B) cs) (after B (fresh B) cs)
    unfolding fresh
    told_from_fresh cs = calls_tell (nothing_asked B) (fresh B) cs (fresh_good B L) (λ q i. absurd i)

    pub story_tells : (cs : List (Cl B)) → Tells (fresh B) (story B cs) (after B (fresh B) cs)
    story_tells cs = (told_from_fresh cs).0

    -- what more calls add to it, from where the first led to
    abbrev pub more_deeds : List (Cl B) → List (Cl B) → List (Deed B)
    more_deeds cs more = story_from B (asked_after (nothing_asked B) (fresh B) cs) (after B (fresh B) cs) more

    pub story_more : (cs more : List (Cl B)) → story B (cs ++ more) ≡ story B cs ++ more_deeds cs more
    story_more cs more = story_on (nothing_asked B) (fresh B) cs more

    pub more_tells : (cs more : List (Cl B)) → Tells (after B (fresh B) cs) (more_deeds cs more) (after B (fresh B) (cs ++ more))
    more_tells cs more = subst (Tells (after B (fresh B) cs) (more_deeds cs more)) (sym (after_on (fresh B) cs more))
        (calls_tell (asked_after (nothing_asked B) (fresh B) cs) (after B (fresh B) cs) more (after_good B L cs) (told_from_fresh cs).1).0

    pub seamless : (cs : List (Cl B)) → Seamless B (fresh B).entries (story B cs) (after B (fresh B) cs).entries
    seamless cs = tells_seamless (story_tells cs)

    pub good_at : {xs ys : List (Deed B)} {d : Deed B} {z : St B} → (v : At (fresh B) xs d ys z) → Good B v.before
    good_at v = tells_keep (Good B) (λ d. Unit {0}) (good_kept B L).joins (λ s d z c o. good_after s d z c) v.earlier (λ d i. tt) (fresh_good B L)

    -- a deed of the story, and a later one: the states at each, and the deeds between
    pub record Later (a : Deed B) (ys : List (Deed B)) (m : Deed B) : Type 0 where
      pub before : St B
      pub after : St B
      pub good : Good B before
      pub acts : Acts before a after
      pub until : St B
      pub between : Tells after ys until
      pub then : St B
      pub follows : Acts until m then

    pub story_later : (cs : List (Cl B)) (xs ys zs : List (Deed B)) (a m : Deed B) → story B cs ≡ xs ++ (a ∷ ys ++ (m ∷ zs)) → Later a ys m
    story_later cs xs ys zs a m e =
        let v = tells_at (story_tells cs) xs a (ys ++ (m ∷ zs)) e in
        let w = tells_at v.later ys m zs refl in
        record {
          before = v.before;
          after = v.after;
          good = good_at v;
          acts = v.acts;
          until = w.before;
          between = w.earlier;
          then = w.after;
          follows = w.acts;
        }
