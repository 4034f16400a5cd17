-- The oldest request that nobody blocks, as the code looks for it: a place is passed where somebody blocks its request, who is the lowest of
-- those collected, and chosen where nobody does. Whoever blocks runs, and is a transaction. Assumes nothing.
use Prim.Native.Nat.{ℕ, ◌+◌, ◌≤◌, ◌<◌}
use Rattle.std.specs.Prelude as Code
use Rattle.circles.specs.declared.Blocker.{Blocker}
use Rattle.circles.specs.declared.Blocker.TheVariants as CV
use mathlib.Core.Path.{◌≡◌, refl, sym, ap, ap₂, subst, ◌∙◌}
use mathlib.Core.Bool.{cond, not}
use mathlib.Core.List.{List}
use mathlib.Core.Option.{some}
use native.Mathlib.Omega.{arith}
use Rattle.limits.specs.Limits.{transactions_most, locks_most}
use Rattle.lists.specs.Lists.{In, lowest}
use Rattle.rules.specs.Entries.{is_there}
use Rattle.rules.specs.Locks as K
use Rattle.rules.specs.Queue.{oldest}
use Rattle.rules.proofs.Waits.{transaction_low, transaction_high, runs_known, blocker_runs}
use Rattle.queue.specs.QueueLayout.{queued, queued_at}
use Rattle.locks.specs.SlotMoves.{held_in}
use Rattle.states.specs.States.{book, state_of}
use Rattle.states.specs.Whole.{Whole}
use Rattle.circles.specs.CircleSets.{SetOf}
use Rattle.circles.specs.InTheWay.{book_blocker, NextIn}
use Rattle.circles.proofs.Nexts.{lowest_next}
use Rattle.waits.specs.declared.Want.{Want}
use Rattle.waits.specs.declared.Looked.{Looked}
use Rattle.waits.specs.declared.Collected.{Collected}
use Rattle.waits.specs.declared.Next.{Next}
use Rattle.waits.specs.Choices.{book_want, OldestIs}
use Rattle.waits.specs.Blocks.{blockers_at, RowTo, RowsIn, RunsAt, TurnAt}
use Rattle.waits.specs.Notes.{Noted, LookedAt}
use Rattle.waits.specs.Slots.{Scanned}
use Rattle.waits.proofs.Queue.{wait_at, oldest_from, oldest_start, oldest_next, oldest_end}
use Rattle.waits.proofs.BlockerSets.{scanned_own, scanned_free}
use Rattle.waits.proofs.WaitRows.{wait_in, rows_end}

module _ (p d : List ℕ) (w : Whole p d) where
  -- whoever blocks the request at a place is a transaction
  blockers_known : (q : ℕ) → q < queued d → (u : ℕ) → In u (blockers_at p d q) → (1 ≤ u) × (u < transactions_most + 1)
  blockers_known q h u i =
      let k = runs_known book (state_of p d) w.values u (blocker_runs book (state_of p d) w.values (wait_at p d q) (wait_in p d q h) u i).0 in
      (transaction_low book u k, omega (arith, transaction_high book u k))

  -- the question whether the request at a place is blocked, as the code answers it
  pub blocker_at : (q m : ℕ) (b : Blocker) → q < queued d → SetOf m (blockers_at p d q) → NextIn m 1 (transactions_most + 1) b
      → book_blocker b ≡ lowest (blockers_at p d q)
  blocker_at q m b h s x = lowest_next m (transactions_most + 1) (blockers_at p d q) b s (blockers_known q h) x

  -- ---- the turn of the request at a place, by who is in its way
  module _ (q m : ℕ) (b : Blocker) (h : q < queued d) (s : SetOf m (blockers_at p d q)) (x : NextIn m 1 (transactions_most + 1) b) where
    pub turn_blocked : (u : ℕ) → b ≡ CV.By u → TurnAt p d q Code.None
    turn_blocked u f = ap is_there (sym (blocker_at q m b h s x) ∙ ap book_blocker f)

    pub turn_free : (ws : List Want) (g : Looked) (c : Collected) → b ≡ CV.Nobody → LookedAt p d ws q g
        → Scanned d g.want.asker (book_want g.want) locks_most c
        → TurnAt p d q (Code.Some (record { place = q; target = g.target; own = c.own; free = c.free }))
    unfolding K.wanted queued_at
    turn_free ws g c f k z =
        record {
          place = refl;
          nobody = sym (blocker_at q m b h s x) ∙ ap book_blocker f;
          known = record {
            inside = h;
            target = k.target;
            own =
                scanned_own d g.want.asker (book_want g.want) c z
                ∙ ap₂ (held_in d) k.want.asker (ap (λ (v : K.Want book). v.name) k.want.want ∙ ap (K.named book) (sym k.target));
            free = scanned_free d g.want.asker (book_want g.want) c z;
          };
        }

module _ (p d : List ℕ) where
  -- ---- the search, which has come to a place: nobody before it runs, the wants of those before it are noted, and the row has all who block them
  pub record Seeking (ws : List Want) (row : List ℕ) (turn : Code.Option Next) (q : ℕ) : Type 0 where
    pub nobody : turn ≡ Code.None
    pub left : oldest book (state_of p d) ≡ oldest_from p d q
    pub noted : Noted p d ws q
    pub blockers : RowTo p d row q

  pub seek_start : (ws : List Want) (row : List ℕ) → Noted p d ws 0 → RowTo p d row 0 → Seeking ws row Code.None 0
  seek_start ws row k r = record { nobody = refl; left = oldest_start p d; noted = k; blockers = r }

  module _ (ws : List Want) (row : List ℕ) (before : Code.Option Next) (q : ℕ) (i : Seeking ws row before q) where
    pub seek_left : q ≡ queued d → OldestIs p d before
    seek_left e =
        subst (OldestIs p d) (sym i.nobody)
        (record { chosen = rw (i.left, oldest_end p d q (omega (arith, e))) (record { inside = tt; request = refl }); known = tt })

    pub seek_rows : q ≡ queued d → RowsIn p d row before
    seek_rows e = subst (RowsIn p d row) (sym i.nobody) (rows_end p d row q e i.blockers)

    module _ (h : q < queued d) (turn : Code.Option Next) (t : TurnAt p d q turn) where
      pub seek_on : (ws' : List Want) (g : Looked) (row' : List ℕ) → LookedAt p d ws' q g → RowTo p d row' (q + 1) → turn ≡ Code.None → Seeking ws' row' turn (q + 1)
      seek_on ws' g row' k r f =
          record {
            nobody = f;
            left =
                i.left
                ∙ oldest_next p d q h
                ∙ ap (λ y. cond (not y) (some (wait_at p d q)) (oldest_from p d (q + 1))) (subst (TurnAt p d q) f t);
            noted = k.noted;
            blockers = r;
          }

      pub seek_chosen : (x : Next) → turn ≡ Code.Some x → OldestIs p d turn
      seek_chosen x f =
          let r : RunsAt p d q x = subst (TurnAt p d q) f t in
          let picked : oldest book (state_of p d) ≡ some (wait_at p d q) =
          i.left ∙ oldest_next p d q h ∙ ap (λ y. cond (not (is_there y)) (some (wait_at p d q)) (oldest_from p d (q + 1))) r.nobody in
          subst (OldestIs p d) (sym f)
          (record {
            chosen = rw picked (record { inside = r.known.inside; request = ap (λ j. some (queued_at d j)) r.place });
            known = r.known;
          })
