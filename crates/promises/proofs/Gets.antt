-- Who asks something gets a given answer (`Gets`) where it runs, nothing blocks it and its run says so: then whatever deed answers it says
-- that, but for 15. A deed is a run, or a refusal, or a wait at rest, and the last two are ruled out. Assumes nothing.
use Prim.Native.Nat.{ℕ}
use mathlib.Core.Path.{◌≡◌, sym, ap, ap₂, ◌∙◌}
use mathlib.Core.Bool.{Bool, true, false, true≢false}
use mathlib.Core.List.{[]}
use mathlib.Core.Option.{none, some, some-injective}
use Rattle.lists.specs.Lists.{In, is_nil}
use Rattle.lists.proofs.Tests.{never}
use Rattle.rules.specs.Kinds.{Book, Ordered, Name, Ask, ask}
use Rattle.rules.specs.Locks.{holds}
use Rattle.rules.specs.Queue.{St, Q, Wait, waits, oldest}
use Rattle.rules.specs.Runs.{waits_already, Sy, run}
use Rattle.rules.specs.Desk.{runs, waits_now, if_so, refusal}
use Rattle.rules.specs.Good.{Good}
use Rattle.rules.proofs.LockTable.{holds_held}
use Rattle.rules.proofs.Unblocked.{good_sound}
use Rattle.rules.proofs.Waits.{wait_of, oldest_none}
use Rattle.rules.proofs.Chains.{rest_choices}
use Rattle.promises.specs.Story.{Deed}
use Rattle.promises.proofs.Deeds.{Acts, begins, commits, rolls_back, goes, gives_way, refuses, queues}

module _ (B : Book) where
  -- who asks a in s gets m: it runs, nothing blocks it, and the run says so
  pub record Gets (t : ℕ) (a : Ask B.Key B.Rec) (m : Sy B) (s : St B) : Type 0 where
    pub runs : runs B s t ≡ true
    pub free : (w : Wait B) → In w (waits B s) → w.request ≡ record { asker = t; asks = a } → w.behind ≡ []
    pub says : (run B s (record { asker = t; asks = a })).says ≡ m

  pub is_asked : (t : ℕ) (a : Ask B.Key B.Rec) (q : Q B) → q.asker ≡ t → ask q.asks ≡ ask a → q ≡ record { asker = t; asks = a }
  is_asked t a q n e = let z : q.asks ≡ a = cc in ap₂ (λ (u : ℕ) (b : Ask B.Key B.Rec). record { asker = u; asks = b }) n z

  module _ (t : ℕ) (a : Ask B.Key B.Rec) (m : Sy B) (s : St B) (v : Gets t a m s) where
    not_queued : oldest B s ≡ none → (w : Wait B) → In w (waits B s) → w.request ≡ record { asker = t; asks = a } → ⊥
    not_queued n w i e = true≢false (sym (ap is_nil (v.free w i e)) ∙ oldest_none B s w n i)

    pub gets_it : (d : Deed B) (z : St B) → Acts B s d z → d.actor ≡ t → d.request ≡ ask a → (d.says ≡ waits_already → ⊥) → d.says ≡ m
    unfolding refusal
    gets_it d z (begins u i r) n e f = never (cc)
    gets_it d z (commits u i r y) n e f = never (cc)
    gets_it d z (rolls_back u i r) n e f = never (cc)
    gets_it d z (goes w i y) n e f = ap (λ (q : Q B). (run B s q).says) (is_asked t a w.request n e) ∙ v.says
    gets_it d z (gives_way w i y) n e f = absurd (not_queued y w i (is_asked t a w.request n e))
    gets_it d z (refuses u r x c) n e f = absurd (go (waits_now B s t) (rw (n, e, v.runs) at c))
      where
        go : (b : Bool) → if_so B b waits_already ≡ some x → ⊥
        go true c = f (some-injective x waits_already (sym c))
        go false c = never (cc)
    gets_it d z (queues q i c) n e f = let w = wait_of B s q i in absurd (not_queued (rest_choices B s c).0 w.0 w.1 (w.2 ∙ is_asked t a q n e))

module _ (B : Book) (L : Ordered B.Key B.compare) where
  pub holder_runs : (s : St B) → Good B s → (t : ℕ) (n : Name B.Key) → holds B s.slots t n ≡ true → runs B s t ≡ true
  holder_runs s g t n h =
      let k = holds_held B L s.slots t n h in
      rw k.holder at ((good_sound B L s g).names k.lock k.stands).0
