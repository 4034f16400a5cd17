-- Demand 2 in its own words, proved of every call on a good state: the one theorem is `demand2`. 13 to 15 by the cases of the request, and never
-- said by a worked queue; the rest is how the queue is worked (Working) and what a run says (Causes). Assumes nothing.
use Prim.Native.Nat.{ℕ}
use mathlib.Core.Path.{◌≡◌, refl, sym, ap, subst}
use mathlib.Core.Logic.{◌≢◌, ◌⊎◌, inl, inr}
use mathlib.Core.Bool.{Bool, true, false}
use mathlib.Core.List.{List, [], ◌∷◌}
use mathlib.Core.Option.{Option, none, some}
use Rattle.lists.specs.Lists.{In}
use Rattle.lists.proofs.Tests.{fails, never}
use Rattle.lists.proofs.Elements.{append_in}
use Rattle.rules.specs.Kinds.{Book, Ordered, Request, begin, commit, rollback, ask}
use Rattle.rules.specs.Entries.{committed, rolled_back}
use Rattle.rules.specs.Queue.{St}
use Rattle.rules.specs.Runs.{done, found, nothing, waiting, runs_already, runs_not, waits_already, is_present, locks_short, pages_short, circle, Sy, Worked, worked}
use Rattle.rules.specs.Desk.{An, runs, waits_now, says, unless_runs, if_so, refusal, begun, ended, joined, acts, unless, step, is_transaction, legal_request}
use Rattle.rules.specs.Good.{Good}
use Rattle.rules.proofs.Rest.{worked_rests}
use Rattle.rules.proofs.GoodKept.{good_kept}
use Rattle.promises.specs.Demand2.{Works, rests, ran, gave_way, only_says, SaidLast, nothing_more, waits_behind, Acts, Demand2}
use Rattle.promises.proofs.Working.{worked_good, works}
use Rattle.promises.proofs.LastSaid.{last, said_last}

module _ (B : Book) where
  -- ---- 13 to 15: why a request is refused at once
  module _ (s : St B) (t : ℕ) where
    abbrev pub Why : Request B.Key B.Rec → Sy B → Type 0
    Why r runs_already = (r ≡ begin) × (runs B s t ≡ true)
    Why r runs_not = (r ≢ begin) × (runs B s t ≡ false)
    Why r waits_already = (r ≢ begin) × (r ≢ rollback) × (runs B s t ≡ true) × (waits_now B s t ≡ true)
    Why r done = ⊥
    Why r (found k o) = ⊥
    Why r nothing = ⊥
    Why r (waiting u) = ⊥
    Why r (is_present k o) = ⊥
    Why r locks_short = ⊥
    Why r pages_short = ⊥
    Why r circle = ⊥

    is_why : (r : Request B.Key B.Rec) (x m : Sy B) → some x ≡ some m → Why r x → Why r m
    is_why r x m e w = let z : x ≡ m = cc in subst (Why r) z w

    pub why : (r : Request B.Key B.Rec) (m : Sy B) → refusal B s t r ≡ some m → Why r m
    unfolding refusal
    why begin m h = go (runs B s t) refl h
      where
        go : (b : Bool) → runs B s t ≡ b → if_so B b runs_already ≡ some m → Why begin m
        go true e h = is_why begin runs_already m h (refl, e)
        go false e h = never (cc)
    why rollback m h = go (runs B s t) refl h
      where
        go : (b : Bool) → runs B s t ≡ b → unless_runs B b none ≡ some m → Why rollback m
        go true e h = never (cc)
        go false e h = is_why rollback runs_not m h (λ z. never (cc), e)
    why commit m h = go (runs B s t) (waits_now B s t) refl refl h
      where
        go : (b c : Bool) → runs B s t ≡ b → waits_now B s t ≡ c → unless_runs B b (if_so B c waits_already) ≡ some m → Why commit m
        go true true e q h = is_why commit waits_already m h (λ z. never (cc), λ z. never (cc), e, q)
        go true false e q h = never (cc)
        go false c e q h = is_why commit runs_not m h (λ z. never (cc), e)
    why (ask a) m h = go (runs B s t) (waits_now B s t) refl refl h
      where
        go : (b c : Bool) → runs B s t ≡ b → waits_now B s t ≡ c → unless_runs B b (if_so B c waits_already) ≡ some m → Why (ask a) m
        go true true e q h = is_why (ask a) waits_already m h (λ z. never (cc), λ z. never (cc), e, q)
        go true false e q h = never (cc)
        go false c e q h = is_why (ask a) runs_not m h (λ z. never (cc), e)

    -- and that it is, where there is a reason
    already : (r : Request B.Key B.Rec) → r ≡ begin → runs B s t ≡ true → refusal B s t r ≡ some runs_already
    unfolding refusal
    already r e h = rw (e, h)

    not_running : (r : Request B.Key B.Rec) → r ≢ begin → runs B s t ≡ false → refusal B s t r ≡ some runs_not
    unfolding refusal
    not_running begin n h = absurd (n refl)
    not_running commit n h = rw h
    not_running rollback n h = rw h
    not_running (ask a) n h = rw h

    while_waiting : (r : Request B.Key B.Rec) → r ≢ begin → r ≢ rollback → runs B s t ≡ true → waits_now B s t ≡ true
        → refusal B s t r ≡ some waits_already
    unfolding refusal
    while_waiting begin n m h k = absurd (n refl)
    while_waiting commit n m h k = rw (h, k)
    while_waiting rollback n m h k = absurd (m refl)
    while_waiting (ask a) n m h k = rw (h, k)

    -- what it means that there is none
    abbrev pub Unrefused : Request B.Key B.Rec → Type 0
    Unrefused r = (r ≡ begin → runs B s t ≡ false) × (r ≢ begin → runs B s t ≡ true) × (r ≢ begin → r ≢ rollback → waits_now B s t ≡ false)

    not_refused : (r : Request B.Key B.Rec) → Unrefused r → refusal B s t r ≡ none
    unfolding refusal
    not_refused begin f = rw (f.0 refl)
    not_refused commit f = rw (f.1 (λ z. never (cc)), f.2 (λ z. never (cc)) (λ z. never (cc)))
    not_refused rollback f = rw (f.1 (λ z. never (cc)))
    not_refused (ask a) f = rw (f.1 (λ z. never (cc)), f.2 (λ z. never (cc)) (λ z. never (cc)))

    pub unrefused : (r : Request B.Key B.Rec) → refusal B s t r ≡ none → Unrefused r
    unrefused r e = (
      λ z. fails (runs B s t) (λ q. let v = already r z q in never (cc)),
      λ z. not_false_is (runs B s t) (λ q. let v = not_running r z q in never (cc)),
      λ z y. fails (waits_now B s t) (λ q. by_running z y q (runs B s t) refl),
    )
      where
        not_false_is : (b : Bool) → (b ≡ false → ⊥) → b ≡ true
        not_false_is true f = refl
        not_false_is false f = absurd (f refl)

        by_running : r ≢ begin → r ≢ rollback → waits_now B s t ≡ true → (b : Bool) → runs B s t ≡ b → ⊥
        by_running z y q true k = let v = while_waiting r z y k q in never (cc)
        by_running z y q false k = let v = not_running r z k in never (cc)

    pub says_only : (r : Request B.Key B.Rec) (m : Sy B) → refusal B s t r ≡ some m → step B s t r ≡ only_says B s t m
    unfolding step
    says_only r m e = ap (unless B s t (acts B s t r)) e

    pub goes_on_lem : (r : Request B.Key B.Rec) → refusal B s t r ≡ none → step B s t r ≡ acts B s t r
    unfolding step
    goes_on_lem r e = ap (unless B s t (acts B s t r)) e

  -- ---- a worked queue says none of 13 to 15
  abbrev Later : Sy B → Type 0
  Later runs_already = ⊥
  Later runs_not = ⊥
  Later waits_already = ⊥
  Later done = Unit {0}
  Later (found k o) = Unit {0}
  Later nothing = Unit {0}
  Later (waiting u) = Unit {0}
  Later (is_present k o) = Unit {0}
  Later locks_short = Unit {0}
  Later pages_short = Unit {0}
  Later circle = Unit {0}

  later : (m : Sy B) → m ≢ runs_already → m ≢ runs_not → m ≢ waits_already → Later m
  later runs_already a b c = a refl
  later runs_not a b c = b refl
  later waits_already a b c = c refl
  later done a b c = tt
  later (found k o) a b c = tt
  later nothing a b c = tt
  later (waiting u) a b c = tt
  later (is_present k o) a b c = tt
  later locks_short a b c = tt
  later pages_short a b c = tt
  later circle a b c = tt

  abbrev AllLater : List (An B) → Type 0
  AllLater as' = (a : An B) → In a as' → Later a.says

  one_more : (x : An B) (as' : List (An B)) → Later x.says → AllLater as' → AllLater (x ∷ as')
  one_more x as' l f a (inl e) = subst (λ (y : An B). Later y.says) e l
  one_more x as' l f a (inr i) = f a i

  works_later : {s z : St B} {as' : List (An B)} → Works B s as' z → AllLater as'
  works_later (rests h) = λ a i. absurd i
  works_later (ran {as' = bs} w m h r k) = one_more _ bs (later m.says r.never.1 r.never.2 r.never.3) (works_later k)
  works_later (gave_way {as' = bs} w h k) = one_more _ bs tt (works_later k)

  last_later : (s : St B) (t : ℕ) (says : List (An B)) → SaidLast B s t says → AllLater says
  last_later s t says (nothing_more h) = λ a i. absurd i
  last_later s t says (waits_behind u l b f) = one_more _ [] tt (λ a i. absurd i)

  acted_later : (s : St B) (t : ℕ) (r : Request B.Key B.Rec) (w : Worked B) → Acts B s t r w → AllLater w.answers
  acted_later s t begin w h = let x = h.begins refl in subst AllLater (sym x.1) (one_more _ h.others tt (works_later x.0))
  acted_later s t commit w h = let x = h.commits refl in subst AllLater (sym x.1) (one_more _ h.others tt (works_later x.0))
  acted_later s t rollback w h = let x = h.rolls_back refl in subst AllLater (sym x.1) (one_more _ h.others tt (works_later x.0))
  acted_later s t (ask a) w h =
      let x = h.asks a refl in
      subst AllLater (sym x.3) (λ y i. go x.0 y (append_in h.others x.0 y i) (works_later x.1) (last_later w.state t x.0 x.2))
    where
      go : (says : List (An B)) (y : An B) → In y h.others ⊎ In y says → AllLater h.others → AllLater says → Later y.says
      go says y (inl i) f k = f y i
      go says y (inr i) f k = k y i

  -- ---- a call
  -- where the queue is worked from
  abbrev pub set_out : St B → ℕ → Request B.Key B.Rec → St B
  set_out s t begin = begun B s t
  set_out s t commit = ended B committed s t
  set_out s t rollback = ended B rolled_back s t
  set_out s t (ask a) = joined B s t a

  module _ (L : Ordered B.Key B.compare) (s : St B) (g : Good B s) (t : ℕ) (h : is_transaction B t ≡ true) where
    pub set_out_good : (r : Request B.Key B.Rec) → legal_request B r ≡ true → Unrefused s t r → Good B (set_out s t r)
    unfolding legal_request
    set_out_good begin l f = (good_kept B L).begins s t h (f.0 refl) g
    set_out_good commit l f = (good_kept B L).commits s t tt h (f.1 (λ z. never (cc))) (f.2 (λ z. never (cc)) (λ z. never (cc))) g
    set_out_good rollback l f = (good_kept B L).rolls_back s t tt h (f.1 (λ z. never (cc))) g
    set_out_good (ask a) l f = (good_kept B L).joins s t a (f.1 (λ z. never (cc))) (f.2 (λ z. never (cc)) (λ z. never (cc))) l g

    acted : (r : Request B.Key B.Rec) → Good B (set_out s t r) → Acts B s t r (acts B s t r)
    unfolding acts
    acted begin k = record {
      others = (worked B (begun B s t)).answers;
      begins = λ e. (works B L (begun B s t) k, refl);
      commits = λ e. never (cc);
      rolls_back = λ e. never (cc);
      asks = λ a e. never (cc);
    }
    acted commit k = record {
      others = (worked B (ended B committed s t)).answers;
      begins = λ e. never (cc);
      commits = λ e. (works B L (ended B committed s t) k, refl);
      rolls_back = λ e. never (cc);
      asks = λ a e. never (cc);
    }
    acted rollback k = record {
      others = (worked B (ended B rolled_back s t)).answers;
      begins = λ e. never (cc);
      commits = λ e. never (cc);
      rolls_back = λ e. (works B L (ended B rolled_back s t) k, refl);
      asks = λ a e. never (cc);
    }
    acted (ask a) k = record {
      others = (worked B (joined B s t a)).answers;
      begins = λ e. never (cc);
      commits = λ e. never (cc);
      rolls_back = λ e. never (cc);
      asks = λ x e.
          let z : a ≡ x = cc in
          rw (← z) (
            last B (worked B (joined B s t a)).state t,
            works B L (joined B s t a) k,
            said_last B (worked B (joined B s t a)).state t (worked_good B L (joined B s t a) k) (worked_rests B (joined B s t a)),
            refl,
          );
    }

    module _ (r : Request B.Key B.Rec) (l : legal_request B r ≡ true) where
      goes : Unrefused s t r → Acts B s t r (acts B s t r)
      goes f = acted r (set_out_good r l f)

      -- 13 to 15 are said by a refusal
      refused : (u : ℕ) (m : Sy B) → (Later m → ⊥) → In (says B u m) (step B s t r).answers → (u ≡ t) × Why s t r m
      unfolding step
      refused u m n i = go (refusal B s t r) refl i
        where
          go : (o : Option (Sy B)) → refusal B s t r ≡ o → In (says B u m) (unless B s t (acts B s t r) o).answers → (u ≡ t) × Why s t r m
          go (some x) e (inr x3) = elim x3 [ ]
          go none e i = absurd (n (acted_later s t r (acts B s t r) (goes (unrefused s t r e)) (says B u m) i))
          go (some x) e (inl q) =
              let v : x ≡ m = ap (λ (a : An B). a.says) q in
              (ap (λ (a : An B). a.asker) (sym q), subst (Why s t r) v (why s t r x e))

      demand2_of : Demand2 B s t r (step B s t r)
      demand2_of = record {
        thirteen = λ e k. says_only s t r runs_already (already s t r e k);
        fourteen = λ n k. says_only s t r runs_not (not_running s t r n k);
        fifteen = λ n m k q. says_only s t r waits_already (while_waiting s t r n m k q);
        thirteen_cause = λ u i. let x = refused u runs_already (λ z. z) i in (x.0, x.1.0, x.1.1);
        fourteen_cause = λ u i. let x = refused u runs_not (λ z. z) i in (x.0, x.1.0, x.1.1);
        fifteen_cause = λ u i. let x = refused u waits_already (λ z. z) i in (x.0, x.1.0, x.1.1, x.1.2, x.1.3);
        acts = λ b n w. rw (goes_on_lem s t r (not_refused s t r (b, n, w))) (goes (b, n, w));
      }

module _ (B : Book) (L : Ordered B.Key B.compare) where
  pub demand2 : (s : St B) → Good B s → (t : ℕ) (r : Request B.Key B.Rec) → is_transaction B t ≡ true → legal_request B r ≡ true
      → Demand2 B s t r (step B s t r)
  demand2 s g t r h l = demand2_of B L s g t h r l
