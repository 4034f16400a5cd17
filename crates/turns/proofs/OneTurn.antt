-- One turn of the queue on a whole picture is the rule book's. The place that is found has the rule book's choice; a queued request has one
-- wait, since nobody is queued twice, so nobody blocks the oldest that was chosen. Assumes nothing.
use Prim.Native.Nat.{ℕ, ◌≤◌, ◌<◌}
use Rattle.std.specs.Prelude as Code
use mathlib.Core.Path.{◌≡◌, refl, sym, ap, ap₂, subst, ◌∙◌}
use mathlib.Core.List.{List}
use mathlib.Core.Option.{Option, none, some, none-ne-some, some-injective}
use Rattle.limits.specs.Limits.{transactions_most}
use Rattle.lists.specs.Lists.{In, tab}
use Rattle.rules.specs.Kinds.{Queued}
use Rattle.rules.specs.Locks.{blockers}
use Rattle.rules.specs.Queue.{Wait, waits, oldest, yields}
use Rattle.rules.specs.Runs.{circle, unmoved, run, left, refused, served, turn}
use Rattle.rules.proofs.Waits.{oldest_waits, oldest_free, same_wait}
use Rattle.answers.specs.declared.Answer.{Answer}
use Rattle.answers.specs.declared.Says.TheVariants.{Circle}
use Rattle.queue.specs.QueueLayout.{queued, in_place, queued_at}
use Rattle.locks.specs.SlotLayout.{slots_of}
use Rattle.queue.specs.QueueMoves.{queue_left}
use Rattle.index.specs.Pictures.{entries_in}
use Rattle.states.specs.States.{book, state_of}
use Rattle.states.specs.Whole.{Whole, Says}
use Rattle.waits.proofs.QueueKnown.{asker_high}
use Rattle.waits.specs.declared.Next.{Next}
use Rattle.waits.specs.Choices.{request_at, request_of, Chosen, LightestAt, Known, place_in, KnownIn, OldestIs}
use Rattle.waits.specs.Blocks.{Rows}
use Rattle.runs.specs.RunsAt as A
use Rattle.states.proofs.PlacesWait.{place_waits}
use Rattle.states.proofs.MovesSay.{way_says}
use Rattle.turns.specs.Working.{way_at, GaveWay, Turns}

-- ---- what a choice found at its place is
module _ (d : List ℕ) (c : Option (Wait book)) (r : Code.Option ℕ) (h : Chosen d c r) where
  chosen_is : (q : ℕ) → r ≡ Code.Some q → (v : Wait book) × (c ≡ some v) × (v.request ≡ queued_at d q)
  chosen_is q e = go c refl (subst (λ x. request_at d x ≡ request_of c) e h.request)
    where
      go : (o : Option (Wait book)) → c ≡ o → some (queued_at d q) ≡ request_of o → (v : Wait book) × (c ≡ some v) × (v.request ≡ queued_at d q)
      go none m k = absurd (none-ne-some (queued_at d q) (sym k))
      go (some v) m k = (v, m, sym (some-injective (queued_at d q) v.request k))

  chosen_none : r ≡ Code.None → c ≡ none
  chosen_none e = go c refl (subst (λ x. request_at d x ≡ request_of c) e h.request)
    where
      go : (o : Option (Wait book)) → c ≡ o → none ≡ request_of o → c ≡ none
      go none m k = m
      go (some v) m k = absurd (none-ne-some v.request k)

module _ (p d : List ℕ) (w : Whole p d) where
  -- ---- the one wait of the request at a place
  one_wait : (q : ℕ) → q < queued d → (v : Wait book) → In v (waits book (state_of p d)) → v.request ≡ queued_at d q
      → v.behind ≡ blockers book (entries_in p) (slots_of d) (tab q 0 (queued_at d)) (queued_at d q)
  one_wait q h v i e =
      ap (λ (x : Wait book). x.behind)
      (same_wait book (state_of p d) w.values v _ i (place_waits p d q h) (ap (λ (x : Queued ℕ ℕ). x.asker) e))

  -- ---- the oldest that isn't blocked
  module _ (r : Code.Option Next) (h : OldestIs p d r) where
    module _ (x : Next) (e : r ≡ Code.Some x) where
      pub next_known : Known p d x
      next_known = subst (KnownIn p d) e h.known

      picked : (v : Wait book) × (oldest book (state_of p d) ≡ some v) × (v.request ≡ queued_at d x.place)
      picked = chosen_is d (oldest book (state_of p d)) (place_in r) h.chosen x.place (ap place_in e)

      pub next_clear : A.Clear p d x.place
      next_clear =
          let v = picked in
          let l = next_known.inside in
          record {
            inside = l;
            nobody =
                sym (one_wait x.place l v.0 (oldest_waits book (state_of p d) v.0 v.1) v.2)
                ∙ oldest_free book (state_of p d) v.0 v.1;
          }

      pub turned_ran : (p' d' : List ℕ) (a : Answer) → A.Ran p d p' d' x.place a → (row : List ℕ) → Turns p d p' d' row (Code.Some a)
      unfolding turn A.ran_at
      turned_ran p' d' a ran row =
          let s = state_of p d in
          let v = picked in
          record {
            whole = ran.says.whole;
            turned =
                ap (served book s) v.1
                ∙ ap (λ y. some (left book s y (run book s y))) v.2
                ∙ ap₂ (λ y z. some (record { state = y; answer = z })) (sym ran.says.state) (sym ran.answer);
            still = tt;
            rows = tt;
          }

  -- ---- none of them; the one on a circle that gives way
  module _ (nobody : oldest book (state_of p d) ≡ none) (l : Code.Option ℕ) (k : LightestAt p d l) where
    blocked : turn book (state_of p d) ≡ refused book (state_of p d) (yields book (state_of p d))
    unfolding turn
    blocked = ap (served book (state_of p d)) nobody

    pub turned_way : (q : ℕ) → l ≡ Code.Some q → (d' : List ℕ) (a : Answer) → GaveWay p d d' q a → (row : List ℕ) → Turns p d p d' row (Code.Some a)
    unfolding way_at
    turned_way q e d' a gave row =
        let s = state_of p d in
        let v = chosen_is d (yields book s) l k q e in
        record {
          whole = gave.says.whole;
          turned =
              blocked
              ∙ ap (refused book s) v.1
              ∙ ap (λ x. some (left book s x (unmoved book s circle))) v.2
              ∙ ap₂ (λ x y. some (record { state = x; answer = y })) (sym gave.says.state) (sym gave.answer);
          still = tt;
          rows = tt;
        }

    pub turned_rest : l ≡ Code.None → (row : List ℕ) → Rows p d row → Turns p d p d row Code.None
    turned_rest e row r =
        record {
          whole = w;
          turned = blocked ∙ ap (refused book (state_of p d)) (chosen_none d (yields book (state_of p d)) l k e);
          still = refl;
          rows = r;
        }

  -- ---- a request that gives way
  pub place_high : (q : ℕ) → q < queued d → in_place d q ≤ transactions_most
  place_high q h = asker_high p d w q h (in_place d q) refl

  module _ (q : ℕ) (h : q < queued d) (t : ℕ) (e : t ≡ in_place d q) where
    pub gave_way : (d' : List ℕ) → d' ≡ queue_left d q → GaveWay p d d' q (record { asker = t; says = Circle })
    unfolding way_at queued_at
    gave_way d' k =
        record {
          says = subst (λ x. Says p x (way_at p d q).state) (sym k) (way_says p d w q h);
          answer = ap (λ u. record { asker = u; says = circle }) e;
        }
