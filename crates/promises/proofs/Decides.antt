-- Demand 2 decides: whatever it holds of is the rule book's step, state and answers (`demand2_decides`), so no idle desk satisfies it. A run is told
-- by its causes, a turn by the oldest and the newest, and so on along the queue as it is worked. Assumes nothing.
use Prim.Native.Nat.{ℕ}
use mathlib.Core.Path.{◌≡◌, refl, sym, ap, ap₂, subst, ◌∙◌}
use mathlib.Core.Logic.{◌≢◌, ◌⊎◌, inl, inr}
use mathlib.Core.Bool.{Bool, true, false, not, true≢false, false≢true}
use mathlib.Core.List.{List, [], ◌∷◌, ◌++◌}
use mathlib.Core.Option.{Option, none, some, some-injective}
use Rattle.lists.specs.Lists.{all, In, first, is_nil}
use Rattle.lists.proofs.Tests.{fails, never, nil_is, first_past, first_hit}
use Rattle.lists.proofs.Elements.{all_in, in_all, in_right, first_in}
use Rattle.rules.specs.Kinds.{Book, Ordered, insert, delete, Request, begin, commit, rollback, ask}
use Rattle.rules.specs.Entries.{Entries, same, inserted, deleted, revived, put, changed}
use Rattle.rules.specs.Queue.{St, Q, Wait, waits, is_free, oldest, on_circle, yields}
use Rattle.rules.specs.Runs.{done, found, nothing, waiting, runs_already, runs_not, waits_already, is_present, locks_short, pages_short, circle, Sy, En, Ran, unmoved, run, Turn, left, refused, served, turn, Worked, worked, AtRest}
use Rattle.rules.specs.Desk.{An, refusal, joined, after_done, waiting_last, acts, step, is_transaction, legal_request}
use Rattle.rules.specs.Good.{Good}
use Rattle.rules.proofs.KeyTests.{same_itself}
use Rattle.rules.proofs.Waits.{free_nil, oldest_waits, yields_is, none_yields, yields_waits, same_wait}
use Rattle.rules.proofs.Rest.{worked_turn, worked_done, worked_rests}
use Rattle.rules.proofs.Chains.{found_is_circle, circle_is_found}
use Rattle.rules.proofs.GoodKept.{good_kept}
use Rattle.promises.specs.Demand2.{LocksShort, Does, puts_in, brings_back, takes_away, RunsRightly, MayRun, MustGiveWay, Rests, Works, rests, ran, gave_way, only_says, Acts, Demand2}
use Rattle.promises.proofs.Causes.{runs_rightly}
use Rattle.promises.proofs.Working.{worked_good}
use Rattle.promises.proofs.LastSaid.{last_once}
use Rattle.promises.proofs.Demand2.{Why, why, unrefused, says_only, goes_on_lem, set_out, set_out_good}

module _ (B : Book) (L : Ordered B.Key B.compare) where
  -- ---- a run
  -- a key that is missing has no entry
  no_entry : {A : Type 0} (es : Entries B) (e : En B) → In e es → all (λ x. not (same B x.key e.key)) es ≡ true → A
  no_entry es e i h = absurd (false≢true (ap not (sym (same_itself B L e.key)) ∙ all_in (λ x. not (same B x.key e.key)) es e h i))

  does_once : (s : St B) (q : Q B) (es es' : Entries B) (ps ps' : B.paging.Pages) → Does B s q es ps → Does B s q es' ps' → (es ≡ es') × (ps ≡ ps')
  does_once s q es es' ps ps' (puts_in k r a m f) (puts_in k' r' a' m' f') =
      let z : insert k r ≡ insert k' r' = sym a ∙ a' in
      let x : k ≡ k' = cc in
      let y : r ≡ r' = cc in
      (ap₂ (λ v u. put B (inserted q.asker v u) s.entries) x y, ap (B.paging.grown s.pages) x)
  does_once s q es es' ps ps' (puts_in k r a m f) (brings_back e r' a' i o z) =
      let y : insert k r ≡ insert e.key r' = sym a ∙ a' in
      let x : k ≡ e.key = cc in
      no_entry s.entries e i (rw x at m)
  does_once s q es es' ps ps' (puts_in k r a m f) (takes_away k' was a' z) = let y : insert k r ≡ delete k' = sym a ∙ a' in never (cc)
  does_once s q es es' ps ps' (brings_back e r a i o z) (puts_in k' r' a' m' f') =
      let y : insert k' r' ≡ insert e.key r = sym a' ∙ a in
      let x : k' ≡ e.key = cc in
      no_entry s.entries e i (rw x at m')
  does_once s q es es' ps ps' (brings_back e r a i o z) (brings_back e' r' a' i' o' z') =
      let y : insert e.key r ≡ insert e'.key r' = sym a ∙ a' in
      let x : e.key ≡ e'.key = cc in
      let v : r ≡ r' = cc in
      (ap₂ (λ k u. changed B k (revived q.asker u) s.entries) x v, refl)
  does_once s q es es' ps ps' (brings_back e r a i o z) (takes_away k was a' z') = let y : insert e.key r ≡ delete k = sym a ∙ a' in never (cc)
  does_once s q es es' ps ps' (takes_away k was a z) (puts_in k' r' a' m' f') = let y : insert k' r' ≡ delete k = sym a' ∙ a in never (cc)
  does_once s q es es' ps ps' (takes_away k was a z) (brings_back e r a' i o z') = let y : insert e.key r ≡ delete k = sym a' ∙ a in never (cc)
  does_once s q es es' ps ps' (takes_away k was a z) (takes_away k' was' a' z') =
      let y : delete k ≡ delete k' = sym a ∙ a' in
      let x : k ≡ k' = cc in
      (ap (λ v. changed B v (deleted q.asker) s.entries) x, refl)

  -- two right runs of one request are the same
  module _ (s : St B) (q : Q B) (m n : Ran B) (a : RunsRightly B s q m) (b : RunsRightly B s q n) where
    same_number : n.says ≡ m.says
    same_number = go m.says refl
      where
        free : (x : Sy B) → m.says ≡ x → x ≢ locks_short → LocksShort B s q → ⊥
        free x e f c = f (sym e ∙ a.seventeen c)

        go : (x : Sy B) → m.says ≡ x → n.says ≡ x
        go done e = b.zero (free done e (λ z. never (cc))) m.entries m.pages (a.zero_cause e)
        go (found k o) e =
            let c = a.one_cause k o e in
            b.one (free (found k o) e (λ z. never (cc))) k c.0 c.2 ∙ ap (found k) (sym c.1)
        go nothing e = b.two (free nothing e (λ z. never (cc))) (a.two_cause e)
        go (waiting u) e = absurd (a.never.0 u e)
        go runs_already e = absurd (a.never.1 e)
        go runs_not e = absurd (a.never.2 e)
        go waits_already e = absurd (a.never.3 e)
        go (is_present k o) e =
            let c = a.sixteen_cause k o e in
            b.sixteen (free (is_present k o) e (λ z. never (cc))) k c.0 c.2 ∙ ap (is_present k) (sym c.1)
        go locks_short e = b.seventeen (a.seventeen_cause e)
        go pages_short e = b.eighteen (free pages_short e (λ z. never (cc))) (a.eighteen_cause e)
        go circle e = absurd (a.never.4 e)

    -- and so is all else, whether it is refused, or done, or neither
    refused_same : (m.says ≡ locks_short) ⊎ (m.says ≡ pages_short) → n ≡ m
    refused_same r = b.queue_alone (also r) ∙ ap (unmoved B s) same_number ∙ sym (a.queue_alone r)
      where
        also : (m.says ≡ locks_short) ⊎ (m.says ≡ pages_short) → (n.says ≡ locks_short) ⊎ (n.says ≡ pages_short)
        also (inl e) = inl (same_number ∙ e)
        also (inr e) = inr (same_number ∙ e)

    alike : n.entries ≡ m.entries → n.pages ≡ m.pages → n.slots ≡ m.slots → n ≡ m
    alike e p l = λ i. record { says = same_number i; entries = e i; pages = p i; slots = l i }

    locked_same : m.says ≢ locks_short → m.says ≢ pages_short → (n.entries ≡ m.entries) × (n.pages ≡ m.pages) → n ≡ m
    locked_same f h w =
        alike w.0 w.1
        (some-injective n.slots m.slots
        (sym (b.takes_lock (λ z. f (sym same_number ∙ z)) (λ z. h (sym same_number ∙ z))) ∙ a.takes_lock f h))

    pub one_run : n ≡ m
    one_run = go m.says refl
      where
        -- but with 0 nothing else is changed
        looked : (x : Sy B) → m.says ≡ x → x ≢ done → x ≢ locks_short → x ≢ pages_short → n ≡ m
        looked x e d f h =
            let u = a.lock_alone (λ z. d (sym e ∙ z)) in
            let v = b.lock_alone (λ z. d (sym e ∙ sym same_number ∙ z)) in
            locked_same (λ z. f (sym e ∙ z)) (λ z. h (sym e ∙ z)) (v.0 ∙ sym u.0, v.1 ∙ sym u.1)

        go : (x : Sy B) → m.says ≡ x → n ≡ m
        go done e =
            locked_same (λ z. let y : done ≡ locks_short = sym e ∙ z in never (cc)) (λ z. let y : done ≡ pages_short = sym e ∙ z in never (cc))
            (does_once s q n.entries m.entries n.pages m.pages (b.zero_cause (same_number ∙ e)) (a.zero_cause e))
        go (found k o) e = looked (found k o) e (λ z. never (cc)) (λ z. never (cc)) (λ z. never (cc))
        go nothing e = looked nothing e (λ z. never (cc)) (λ z. never (cc)) (λ z. never (cc))
        go (waiting u) e = looked (waiting u) e (λ z. never (cc)) (λ z. never (cc)) (λ z. never (cc))
        go runs_already e = looked runs_already e (λ z. never (cc)) (λ z. never (cc)) (λ z. never (cc))
        go runs_not e = looked runs_not e (λ z. never (cc)) (λ z. never (cc)) (λ z. never (cc))
        go waits_already e = looked waits_already e (λ z. never (cc)) (λ z. never (cc)) (λ z. never (cc))
        go (is_present k o) e = looked (is_present k o) e (λ z. never (cc)) (λ z. never (cc)) (λ z. never (cc))
        go circle e = looked circle e (λ z. never (cc)) (λ z. never (cc)) (λ z. never (cc))
        go locks_short e = refused_same (inl e)
        go pages_short e = refused_same (inr e)

-- ---- where none passes a test
module _ {A : Type 0} where
  none_passes : (p : A → Bool) (xs : List A) → ((x : A) → In x xs → p x ≡ false) → first p xs ≡ none
  none_passes p xs f = go (first p xs) refl
    where
      go : (o : Option A) → first p xs ≡ o → o ≡ none
      go none e = refl
      go (some x) e = let w = first_in p xs x e in absurd (true≢false (sym w.1 ∙ f x w.0))

module _ (B : Book) where
  -- ---- a turn
  not_free : (w : Wait B) → w.behind ≢ [] → is_free B w ≡ false
  not_free w n = free_nil w.behind ∙ fails (is_nil w.behind) (λ e. n (nil_is w.behind e))

  oldest_is : (s : St B) (w : Wait B) → MayRun B s w → oldest B s ≡ some w
  unfolding oldest
  oldest_is s w h =
      ap (first (is_free B)) h.place
      ∙ first_past (is_free B) h.ahead (w ∷ h.after) (in_all (λ v. not (is_free B v)) h.ahead (λ v i. ap not (not_free v (h.oldest v i))))
      ∙ first_hit (is_free B) w h.after (free_nil w.behind ∙ ap is_nil h.free)

  oldest_none_is : (s : St B) → ((v : Wait B) → In v (waits B s) → v.behind ≢ []) → oldest B s ≡ none
  unfolding oldest
  oldest_none_is s f = none_passes (is_free B) (waits B s) (λ v i. not_free v (f v i))

  yields_then : (s : St B) → Good B s → (w : Wait B) → MustGiveWay B s w → yields B s ≡ some w
  yields_then s g w h =
      yields_is B s w
      (record {
        ahead = h.ahead;
        after = h.after;
        place = h.place;
        passes = found_here;
        fewest = λ v i e. h.fewest v i (found_is_circle B s v i e);
        last = λ v i e. h.newest v i (found_is_circle B s v (stands v (inr i)) e);
      })
    where
      stands : (v : Wait B) → In v (w ∷ h.after) → In v (waits B s)
      stands v i = rw h.place (in_right h.ahead (w ∷ h.after) v i)

      found_here : on_circle B (waits B s) w ≡ true
      found_here =
          let b = h.on_circle.chain.0 in
          let z = same_wait B s g b.wait w b.queued (stands w (inl refl)) b.asker in
          rw z at (circle_is_found B s g w.request.asker h.on_circle)

  nobody_yields : (s : St B) → Rests B s → yields B s ≡ none
  nobody_yields s h =
      none_yields B s (λ v i. fails (on_circle B (waits B s) v) (λ e. h.no_circle v.request.asker (found_is_circle B s v i e)))

  rest_is : (s : St B) → Rests B s → AtRest B s
  unfolding turn
  rest_is s h = ap (served B s) (oldest_none_is s h.nobody) ∙ ap (refused B s) (nobody_yields s h)

  module _ (L : Ordered B.Key B.compare) where
    -- ---- the queue as it is worked
    abbrev SoWorked : St B → List (An B) → St B → Type 0
    SoWorked s as' z = ◌≡◌ {A = Worked B} (record { state = z; answers = as' }) (worked B s)

    onward_same : (s : St B) (o : Turn B) (as' : List (An B)) (z : St B) → turn B s ≡ some o → SoWorked o.state as' z
        → SoWorked s (o.answer ∷ as') z
    onward_same s o as' z e k = ap (λ (w : Worked B). record { state = w.state; answers = o.answer ∷ w.answers }) k ∙ sym (worked_turn B s o e)

    pub works_once : {s z : St B} {as' : List (An B)} → Works B s as' z → Good B s → SoWorked s as' z
    unfolding turn
    works_once {s} (rests h) g = sym (worked_done B s (rest_is s h))
    works_once {s} (ran {as' = as'} {z = z} w m h r k) g =
        let i : In w (waits B s) = oldest_waits B s w (oldest_is s w h) in
        let e = one_run B L s w.request (run B s w.request) m (runs_rightly B L s w i h.free g) r in
        let k' : Good B (left B s w.request m).state = rw e ((good_kept B L).goes s w i h.free g) in
        onward_same s (left B s w.request m) as' z (ap (served B s) (oldest_is s w h) ∙ (rw e)) (works_once k k')
    works_once {s} (gave_way {as' = as'} {z = z} w h k) g =
        let i : In w (waits B s) = yields_waits B s w (yields_then s g w h) in
        onward_same s (left B s w.request (unmoved B s circle)) as' z
        (ap (served B s) (oldest_none_is s h.nobody) ∙ ap (refused B s) (yields_then s g w h)) (works_once k ((good_kept B L).gives_way s w i g))

    -- ---- a call
    acted_once : (s : St B) (t : ℕ) (r : Request B.Key B.Rec) (w : Worked B) → Good B (set_out B s t r) → Acts B s t r w → w ≡ acts B s t r
    unfolding acts
    acted_once s t begin w k h =
        let x = h.begins refl in (λ i. record { state = w.state; answers = x.1 i }) ∙ ap (after_done B t) (works_once x.0 k)
    acted_once s t commit w k h =
        let x = h.commits refl in (λ i. record { state = w.state; answers = x.1 i }) ∙ ap (after_done B t) (works_once x.0 k)
    acted_once s t rollback w k h =
        let x = h.rolls_back refl in (λ i. record { state = w.state; answers = x.1 i }) ∙ ap (after_done B t) (works_once x.0 k)
    acted_once s t (ask a) w k h =
        let x = h.asks a refl in
        let e = works_once x.1 k in
        let g : Good B w.state = subst (Good B) (ap (λ (y : Worked B). y.state) (sym e)) (worked_good B L (joined B s t a) k) in
        let r : AtRest B w.state = subst (AtRest B) (ap (λ (y : Worked B). y.state) (sym e)) (worked_rests B (joined B s t a)) in
        (λ i. record { state = w.state; answers = (x.3 ∙ ap (λ (as' : List (An B)). h.others ++ as') (last_once B w.state t g r x.0 x.2)) i })
        ∙ ap (waiting_last B t) e

    pub demand2_decides : (s : St B) → Good B s → (t : ℕ) (r : Request B.Key B.Rec) → is_transaction B t ≡ true → legal_request B r ≡ true
        → (w : Worked B) → Demand2 B s t r w → w ≡ step B s t r
    demand2_decides s g t r h l w d = go (refusal B s t r) refl
      where
        by_why : (m : Sy B) → Why B s t r m → w ≡ only_says B s t m
        by_why runs_already y = d.thirteen y.0 y.1
        by_why runs_not y = d.fourteen y.0 y.1
        by_why waits_already y = d.fifteen y.0 y.1 y.2 y.3
        by_why done y = absurd y
        by_why (found k o) y = absurd y
        by_why nothing y = absurd y
        by_why (waiting u) y = absurd y
        by_why (is_present k o) y = absurd y
        by_why locks_short y = absurd y
        by_why pages_short y = absurd y
        by_why circle y = absurd y

        go : (o : Option (Sy B)) → refusal B s t r ≡ o → w ≡ step B s t r
        go (some m) e = by_why m (why B s t r m e) ∙ sym (says_only B s t r m e)
        go none e =
            let f = unrefused B s t r e in
            acted_once s t r w (set_out_good B L s g t h r l f) (d.acts f.0 f.1 f.2) ∙ sym (goes_on_lem B s t r e)
