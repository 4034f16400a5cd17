-- The request that gives way, place by place: the lightest of those on a circle that stand before a place, with the one at that place.
-- Assumes nothing.
use Prim.Native.Nat.{ℕ, zero, suc, ◌+◌, ◌≤◌, ◌<◌}
use Rattle.std.specs.Prelude as Code
use mathlib.Core.Path.{◌≡◌, refl, sym, ap, subst, ◌∙◌}
use mathlib.Core.Bool.{Bool, true, false, cond}
use mathlib.Core.List.{List}
use mathlib.Core.Option.{Option, none, some}
use native.Mathlib.Omega.{arith}
use borrow.Author.Tests.{le-leb, lt-leb}
use lib.ListN.{length, get_or}
use denote.Ref.{Bor}
use denote.Param.Members.{Mut}
use Rattle.std.specs.declared.ops.Range.{Range}
use Rattle.std.specs.Fn.{CalledAt}
use Rattle.std.specs.Iterator.{FindsItem}
use Rattle.std.specs.Option.{MatchOption, unwrap_or}
use Rattle.std.proofs.iter.Yields.{nat_range_steps}
use Rattle.std.proofs.lemmas.Iterator.{first_from_Range}
use Rattle.limits.specs.Limits.{transactions_most, locks_most}
use Rattle.lists.specs.Lists.{lightest, tab}
use Rattle.lists.proofs.Lightest.{newer, lightest_last}
use Rattle.rules.specs.Queue.{Wait, waits_from, waits, on_circle, locks_held, weight, yields}
use Rattle.queue.specs.QueueLayout.{queued, in_place, queued_at}
use Rattle.locks.specs.SlotLayout.{slots_of}
use Rattle.states.specs.States.{book, state_of}
use Rattle.states.specs.Whole.{Whole}
use Rattle.circles.specs.Search.{circle_on}
use Rattle.circles.proofs.WaitsKnown.{waits_known}
use Rattle.circles.proofs.Links.{circle_is}
use Rattle.waits.specs.declared.Yielding.{Yielding}
use Rattle.waits.specs.Choices.{Chosen, LightestAt}
use Rattle.waits.specs.Blocks.{ahead, waits_to, Rows}
use Rattle.waits.specs.Weights.{CountedTo, lightest_to, held_by, BestTo, nobody_yet, NobodyTo}
use Rattle.waits.proofs.QueueKnown.{whole_order}
use Rattle.waits.proofs.Queue.{wait_at}
use Rattle.waits.proofs.WaitRows.{waits_next, waits_all, wait_in}

module _ (p d : List ℕ) where
  abbrev on : Wait book → Bool
  on = on_circle book (waits book (state_of p d))

  abbrev held : Wait book → ℕ
  held = weight book (state_of p d)

  as_best : (q : ℕ) (y : Yielding) (o : Option (Wait book)) → lightest_to p d q ≡ o → Chosen d o y.place → y.held ≡ held_by p d o → BestTo p d q y
  as_best q y o e c h = record { chosen = subst (λ x. Chosen d x y.place) (sym e) c; held = h ∙ ap (held_by p d) (sym e) }

  pub nobody_start : NobodyTo p d 0
  unfolding lightest_to waits_to waits_from ahead tab lightest
  nobody_start = record { inside = omega arith; nobody = record { chosen = record { inside = tt; request = refl }; held = refl } }

  pub best_end : (n q : ℕ) (y : Yielding) → BestTo p d q y → n ≡ queued d → q ≤ n → n ≤ q → LightestAt p d y.place
  unfolding lightest_to yields
  best_end n q y b e l h =
      let z : q ≡ queued d = omega arith in
      subst (λ c. Chosen d c y.place) (ap (lightest_to p d) z ∙ ap (lightest on held) (waits_all p d)) b.chosen

  -- where none is found
  pub nobody_gives_way : (n : ℕ) → n ≡ queued d → NobodyTo p d n → LightestAt p d Code.None
  nobody_gives_way n e z = best_end n n nobody_yet z.nobody e (omega arith) (omega arith)

  pub looked_under : (q : ℕ) → Whole p d → q < queued d → q < transactions_most
  looked_under q k h = omega (arith, (whole_order p d k).few)

  module _ (q : ℕ) (k : Whole p d) (h : q < queued d) (t : ℕ) (a : t ≡ in_place d q) where
    pub looked_low : 1 ≤ t
    looked_low = omega (arith, (whole_order p d k).from q h)

    pub looked_high : (row : List ℕ) → Rows p d row → t < length row
    looked_high row r = omega (arith, (whole_order p d k).to q h, r.long)

    pub looked_counted : t < transactions_most + 1
    looked_counted = omega (arith, (whole_order p d k).to q h)

  module _ (q : ℕ) (k : Whole p d) (h : q < queued d) (row : List ℕ) (r : Rows p d row) where
    module _ (y : Yielding) (best : BestTo p d q y) (b : Bool) (c : b ≡ circle_on row (in_place d q)) where
      circle : on (wait_at p d q) ≡ b
      unfolding queued_at
      circle =
          sym (circle_is book row (waits book (state_of p d)) (waits_known book (state_of p d) k.values) r.long r.links (wait_at p d q) (wait_in p d q h))
          ∙ sym c

      next : lightest_to p d (q + 1) ≡ cond b (newer on held (wait_at p d q) (lightest_to p d q)) (lightest_to p d q)
      unfolding lightest_to
      next =
          ap (lightest on held) (waits_next p d q)
          ∙ lightest_last on held (waits_to p d q) (wait_at p d q)
          ∙ ap (λ x. cond x (newer on held (wait_at p d q) (lightest on held (waits_to p d q))) (lightest on held (waits_to p d q))) circle

      pub best_past : b ≡ false → BestTo p d (q + 1) y
      best_past f =
          as_best (q + 1) y (lightest_to p d q)
          (next ∙ ap (λ x. cond x (newer on held (wait_at p d q) (lightest_to p d q)) (lightest_to p d q)) f) best.chosen best.held

      module _ (counts : List ℕ) (n : CountedTo d counts locks_most) (t : ℕ) (a : t ≡ in_place d q) (m : ℕ) (e : m ≡ get_or counts t 0) (f : b ≡ true) where
        weighs : m ≡ held (wait_at p d q)
        unfolding queued_at state_of slots_of
        weighs =
            e
            ∙ n.held t (omega (arith, (whole_order p d k).from q h)) (omega (arith, (whole_order p d k).to q h))
            ∙ ap (locks_held book (slots_of d)) a

        weighed : lightest_to p d (q + 1) ≡ newer on held (wait_at p d q) (lightest_to p d q)
        weighed = next ∙ ap (λ x. cond x (newer on held (wait_at p d q) (lightest_to p d q)) (lightest_to p d q)) f

        -- one before it is lighter
        pub best_kept : y.held < m → BestTo p d (q + 1) y
        best_kept l = go (lightest_to p d q) refl
          where
            go : (o : Option (Wait book)) → lightest_to p d q ≡ o → BestTo p d (q + 1) y
            go none u = absurd (omega (arith, best.held ∙ ap (held_by p d) u, e, n.most t))
            go (some w) u =
                let than : held w < held (wait_at p d q) = omega (arith, best.held ∙ ap (held_by p d) u, weighs) in
                as_best (q + 1) y (some w)
                (weighed ∙ ap (newer on held (wait_at p d q)) u ∙ ap (λ l. cond l (some (wait_at p d q)) (some w)) (lt-leb (held (wait_at p d q)) (held w) than))
                (subst (λ c. Chosen d c y.place) u best.chosen) (best.held ∙ ap (held_by p d) u)

        -- none before it is, or none lies on a circle
        pub best_here : m ≤ y.held → BestTo p d (q + 1) (record { place = Code.Some q; held = m })
        best_here l =
            as_best (q + 1) (record { place = Code.Some q; held = m }) (some (wait_at p d q)) (weighed ∙ go (lightest_to p d q) refl) (record { inside = h; request = refl }) weighs
          where
            go : (o : Option (Wait book)) → lightest_to p d q ≡ o → newer on held (wait_at p d q) o ≡ some (wait_at p d q)
            go none u = refl
            go (some w) u =
                let than : held (wait_at p d q) ≤ held w = omega (arith, best.held ∙ ap (held_by p d) u, weighs) in
                ap (λ l. cond l (some (wait_at p d q)) (some w)) (le-leb (held (wait_at p d q)) (held w) than)

  -- where a search through the places asks of each whether it lies on a circle
  module _ (row : List ℕ) (k : Whole p d) (r : Rows p d row) where
    nobody_before : (n : ℕ) → n ≤ queued d → ((i : ℕ) → i < n → circle_on row (in_place d i) ≡ false) → NobodyTo p d n
    nobody_before zero h f = nobody_start
    nobody_before (suc n) h f =
        let m : n < queued d = omega arith in
        let e : n + 1 ≡ suc n = omega arith in
        let z = nobody_before n (omega arith) (λ i l. f i (omega arith)) in
        subst (NobodyTo p d) e
        (record { inside = omega arith; nobody = best_past n k m row r nobody_yet z.nobody (circle_on row (in_place d n)) refl (f n (omega arith)) })

    abbrev Passed : ℕ → ℕ → Type 0
    Passed a q = (i : ℕ) → a ≤ i → i < q → circle_on row (in_place d i) ≡ false

    -- `find`, where each call answers so: none before the place that it answers lies on a circle, and none at all where it answers nothing
    module _ {F : Type 0} {g : Mut F (Bor ℕ × Unit {0}) Bool} {s : Range ℕ} (u : Range ℕ) {f : F} (o : Code.Option ℕ) (b : s.start ≡ 0) (e : s.end ≡ queued d)
        (ran : FindsItem nat_range_steps g s f o u) (calls : (x : ℕ) (h : F) → CalledAt g f x false h → (h ≡ f) × (circle_on row (in_place d x) ≡ false)) where
      found : NobodyTo p d (unwrap_or o s.end)
      found = go o (first_from_Range s u f o (λ x. Unit {0}) (λ x. circle_on row (in_place d x) ≡ false) ran (λ x h c. tt) calls)
        where
          go : (r : Code.Option ℕ) → MatchOption r (Passed s.start s.end) (λ q. (s.start ≤ q) × (q < s.end) × Unit {0} × Passed s.start q) → NobodyTo p d (unwrap_or r s.end)
          go Code.None l = nobody_before s.end (omega arith) (λ i h. l i (omega arith) h)
          go (Code.Some q) l = nobody_before q (omega (arith, l.1)) (λ i h. l.3 i (omega arith) h)

      pub none_found : (r : Code.Option ℕ) → o ≡ Code.None → r ≡ Code.None → LightestAt p d r
      none_found r z y = rw y (nobody_gives_way s.end e (subst (λ r. NobodyTo p d (unwrap_or r s.end)) z found))

      pub one_found : (q : ℕ) → o ≡ Code.Some q → NobodyTo p d q
      one_found q z = subst (λ r. NobodyTo p d (unwrap_or r s.end)) z found
