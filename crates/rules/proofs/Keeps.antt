-- One principle for every invariant: what the moves of the desk keep, a turn, a worked queue, a call and a run of calls keep.
-- A move is a begin, a request that joins, a commit, a rollback, a run that nothing blocks, or a refusal on a circle; the last two are
-- those of a turn, and enough for a worked queue. Assumes nothing.
use Prim.Native.Nat.{ℕ, zero, suc}
use mathlib.Core.Path.{◌≡◌, refl, subst}
use mathlib.Core.Logic.{inl, inr}
use mathlib.Core.Bool.{Bool, true, false, cond}
use mathlib.Core.List.{List, [], ◌∷◌}
use mathlib.Core.Option.{Option, none, some}
use lib.ListN.{length}
use Rattle.lists.specs.Lists.{In}
use Rattle.lists.proofs.Tests.{and_left, and_right, never}
use Rattle.rules.specs.Kinds.{Book, Ask, Request, begin, commit, rollback, ask}
use Rattle.rules.specs.Entries.{committed, rolled_back}
use Rattle.rules.specs.Queue.{St, Wait, waits, oldest, yields}
use Rattle.rules.specs.Runs.{runs_already, waits_already, circle, run, unmoved, left, Turn, refused, served, turn, onward, turns, worked}
use Rattle.rules.specs.Desk.{runs, waits_now, refusal, unless_runs, if_so, begun, ended, joined, acts, unless, step, is_transaction, legal_ask, legal_request, Cl, legal_call, call, state_after, after}
use Rattle.rules.proofs.Waits.{oldest_waits, oldest_free, yields_waits}

module _ (B : Book) where
  -- P is kept by the two moves of a turn
  pub record TurnsKept (P : St B → Type 0) : Type 0 where
    pub goes : (s : St B) (w : Wait B) → In w (waits B s) → w.behind ≡ [] → P s → P (left B s w.request (run B s w.request)).state
    pub gives_way : (s : St B) (w : Wait B) → In w (waits B s) → P s → P (left B s w.request (unmoved B s circle)).state

  -- P is kept by every move; of the ends, by those of the transactions that Ends names
  pub record Kept (Ends : ℕ → Type 0) (P : St B → Type 0) : Type 0 where
    pub begins : (s : St B) (t : ℕ) → is_transaction B t ≡ true → runs B s t ≡ false → P s → P (begun B s t)
    pub joins : (s : St B) (t : ℕ) (a : Ask B.Key B.Rec) → runs B s t ≡ true → waits_now B s t ≡ false → legal_ask B a ≡ true
        → P s → P (joined B s t a)
    pub commits : (s : St B) (t : ℕ) → Ends t → is_transaction B t ≡ true → runs B s t ≡ true → waits_now B s t ≡ false → P s → P (ended B committed s t)
    pub rolls_back : (s : St B) (t : ℕ) → Ends t → is_transaction B t ≡ true → runs B s t ≡ true → P s → P (ended B rolled_back s t)
    pub goes : (s : St B) (w : Wait B) → In w (waits B s) → w.behind ≡ [] → P s → P (left B s w.request (run B s w.request)).state
    pub gives_way : (s : St B) (w : Wait B) → In w (waits B s) → P s → P (left B s w.request (unmoved B s circle)).state

  pub kept_turns : (Ends : ℕ → Type 0) (P : St B → Type 0) → Kept Ends P → TurnsKept P
  kept_turns Ends P K = record { goes = K.goes; gives_way = K.gives_way }

  -- a request that is no end, or the end of one that Ends names
  abbrev pub MayEnd : (ℕ → Type 0) → ℕ → Request B.Key B.Rec → Type 0
  MayEnd Ends t begin = Unit {0}
  MayEnd Ends t commit = Ends t
  MayEnd Ends t rollback = Ends t
  MayEnd Ends t (ask a) = Unit {0}

  -- no end left out
  abbrev pub Anyone : ℕ → Type 0
  Anyone t = Unit {0}

  pub anyone_may : (t : ℕ) (r : Request B.Key B.Rec) → MayEnd Anyone t r
  anyone_may t begin = tt
  anyone_may t commit = tt
  anyone_may t rollback = tt
  anyone_may t (ask a) = tt

  module _ (P : St B → Type 0) (K : TurnsKept P) where
    pub turn_keeps : (s : St B) (o : Turn B) → turn B s ≡ some o → P s → P o.state
    unfolding turn oldest yields
    turn_keeps s o e p = by_oldest (oldest B s) refl e
      where
        by_yields : (w : Option (Wait B)) → yields B s ≡ w → refused B s w ≡ some o → P o.state
        by_yields none q e = never (cc)
        by_yields (some w) q e =
            let z : left B s w.request (unmoved B s circle) ≡ o = cc in
            subst (λ (u : Turn B). P u.state) z (K.gives_way s w (yields_waits B s w q) p)

        by_oldest : (w : Option (Wait B)) → oldest B s ≡ w → served B s w ≡ some o → P o.state
        by_oldest none q e = by_yields (yields B s) refl e
        by_oldest (some w) q e =
            let z : left B s w.request (run B s w.request) ≡ o = cc in
            subst (λ (u : Turn B). P u.state) z (K.goes s w (oldest_waits B s w q) (oldest_free B s w q) p)

    pub turns_keep : (n : ℕ) (s : St B) → P s → P (turns B n s).state
    unfolding turns
    turns_keep zero s p = p
    turns_keep (suc n) s p = go (turn B s) refl (turns_keep n)
      where
        go : (o : Option (Turn B)) → turn B s ≡ o → ((u : St B) → P u → P (turns B n u).state) → P (onward B s (turns B n) o).state
        go none e f = p
        go (some o) e f = f o.state (turn_keeps s o e p)

    pub worked_keeps : (s : St B) → P s → P (worked B s).state
    unfolding worked
    worked_keeps s p = turns_keep (length s.queue) s p

  module _ (Ends : ℕ → Type 0) (P : St B → Type 0) (K : Kept Ends P) where
    rests : (s : St B) → P s → P (worked B s).state
    rests = worked_keeps P (kept_turns Ends P K)

    pub step_keeps : (s : St B) (t : ℕ) (r : Request B.Key B.Rec) → is_transaction B t ≡ true → legal_request B r ≡ true → MayEnd Ends t r
        → P s → P (step B s t r).state
    unfolding step refusal acts legal_request
    step_keeps s t begin h l m p = go (runs B s t) refl
      where
        go : (b : Bool) → runs B s t ≡ b → P (unless B s t (acts B s t begin) (if_so B b runs_already)).state
        go true e = p
        go false e = rests (begun B s t) (K.begins s t h e p)
    step_keeps s t commit h l m p = go (runs B s t) (waits_now B s t) refl refl
      where
        go : (b c : Bool) → runs B s t ≡ b → waits_now B s t ≡ c → P (unless B s t (acts B s t commit) (unless_runs B b (if_so B c waits_already))).state
        go true true e q = p
        go true false e q = rests (ended B committed s t) (K.commits s t m h e q p)
        go false c e q = p
    step_keeps s t rollback h l m p = go (runs B s t) refl
      where
        go : (b : Bool) → runs B s t ≡ b → P (unless B s t (acts B s t rollback) (unless_runs B b none)).state
        go true e = rests (ended B rolled_back s t) (K.rolls_back s t m h e p)
        go false e = p
    step_keeps s t (ask a) h l m p = go (runs B s t) (waits_now B s t) refl refl
      where
        go : (b c : Bool) → runs B s t ≡ b → waits_now B s t ≡ c → P (unless B s t (acts B s t (ask a)) (unless_runs B b (if_so B c waits_already))).state
        go true true e q = p
        go true false e q = rests (joined B s t a) (K.joins s t a e q l p)
        go false c e q = p

    pub call_keeps : (s : St B) (c : Cl B) → MayEnd Ends c.asker c.request → P s → P (state_after B s (call B s c))
    unfolding call
    call_keeps s c m p = go (legal_call B c) refl
      where
        go : (b : Bool) → legal_call B c ≡ b → P (state_after B s (cond b (some (step B s c.asker c.request)) none))
        go true e = step_keeps s c.asker c.request (and_left _ _ e) (and_right (is_transaction B c.asker) _ e) m p
        go false e = p

    pub after_keeps : (s : St B) (cs : List (Cl B)) → ((c : Cl B) → In c cs → MayEnd Ends c.asker c.request) → P s → P (after B s cs)
    unfolding after
    after_keeps s [] m p = p
    after_keeps s (c ∷ cs) m p = after_keeps (state_after B s (call B s c)) cs (λ d i. m d (inr i)) (call_keeps s c (m c (inl refl)) p)
