-- Sets and rows as the desk collects them: a blocker at a time into a set, a queued request at a time into the row.
-- A request's set goes to a place that no earlier one has, so that it adds its own link and no other. Assumes nothing.
use Prim.Native.Nat.{ℕ, ◌≤◌, ◌<◌}
use mathlib.Core.Path.{◌≡◌, refl, sym, ap, ◌∙◌}
use mathlib.Core.Bool.{Bool, true, false, ◌&&◌, ◌||◌, or-false}
use mathlib.Core.List.{List, [], ◌∷◌, ◌++◌, append_assoc, append-nil}
use borrow.Author.Tests.{eqb-true, eqb-false, not-true}
use lib.Dec.{eqb}
use lib.ListN.{length, get_or, set, replicate}
use lib.Seq.{get_or-set_same, get_or-set_other}
use Rattle.lists.specs.Lists.{In, all, any, member, pairs}
use Rattle.lists.proofs.Tests.{and_left, fails, any_append, all_head, all_weaker, all_map}
use Rattle.lists.proofs.Elements.{all_in, any_in}
use Rattle.lists.proofs.Pairs.{pairs_apart}
use Rattle.lists.proofs.Places.{get_d_alike}
use Rattle.rules.specs.Kinds.{Book}
use Rattle.rules.specs.Entries.{Entries}
use Rattle.rules.specs.Locks.{Slots, blockers}
use Rattle.rules.specs.Queue.{Q, Wait, waits_from}
use Rattle.rules.specs.Good.{other_asker}
use Rattle.circles.specs.CircleSets.{has, SetOf, is_link, RowOf}
use Rattle.circles.specs.Search.{with_one}
use Rattle.circles.proofs.Bits.{has_none, has_with}
use Rattle.rules.proofs.Waits.{requests}

-- ---- a set
pub set_none : SetOf 0 []
unfolding any
set_none = record { just = has_none }

pub with_last : (m t : ℕ) (us : List ℕ) → 1 ≤ t → SetOf m us → SetOf (with_one m t) (us ++ (t ∷ []))
unfolding any
with_last m t us h s =
    record {
      just = λ u.
          has_with m t u h
          ∙ ap (λ b. b || eqb t u) (s.just u)
          ∙ ap (λ b. member u us || b) (sym (or-false (eqb t u)))
          ∙ sym (any_append (λ v. eqb v u) us (t ∷ []));
    }

-- ---- a row
module _ (B : Book) where
  pub row_none : (n : ℕ) → RowOf B (replicate n 0) []
  unfolding any
  row_none n = record { just = λ t u. ap (λ m. has m u) (get_d_alike n t 0) ∙ has_none u }

  pub row_last : (row : List ℕ) (ws : List (Wait B)) (w : Wait B) (m : ℕ) → w.request.asker < length row
      → all (λ v. other_asker B v.request w.request) ws ≡ true
      → SetOf m w.behind → RowOf B row ws → RowOf B (set row w.request.asker m) (ws ++ (w ∷ []))
  unfolding any
  row_last row ws w m h d s r = record { just = λ t u. by t u (eqb a t) refl ∙ sym (whole t u) }
    where
      a : ℕ
      a = w.request.asker

      whole : (t u : ℕ) → any (is_link B t u) (ws ++ (w ∷ [])) ≡ (any (is_link B t u) ws || (eqb a t && member u w.behind))
      whole t u = any_append (is_link B t u) ws (w ∷ []) ∙ ap (λ b. any (is_link B t u) ws || b) (or-false (is_link B t u w))

      nobody : (t u : ℕ) → a ≡ t → any (is_link B t u) ws ≡ false
      nobody t u q = fails (any (is_link B t u) ws) (λ e. go (any_in (is_link B t u) ws e))
        where
          go : (v : Wait B) × In v ws × (is_link B t u v ≡ true) → ⊥
          go v =
              let b = v.0.request.asker in
              eqb-false b a (not-true (eqb b a) (all_in (λ x. other_asker B x.request w.request) ws v.0 d v.1))
              (eqb-true b t (and_left (eqb b t) (member u v.0.behind) v.2) ∙ sym q)

      by : (t u : ℕ) (b : Bool) → eqb a t ≡ b → has (get_or (set row a m) t 0) u ≡ (any (is_link B t u) ws || (b && member u w.behind))
      by t u true e =
          let q : a ≡ t = eqb-true a t e in
          let own : get_or (set row a m) t 0 ≡ m = ap (λ k. get_or (set row a m) k 0) (sym q) ∙ get_or-set_same row a m 0 h in
          ap (λ x. has x u) own ∙ s.just u ∙ sym (ap (λ b. b || member u w.behind) (nobody t u q))
      by t u false e =
          ap (λ x. has x u) (get_or-set_other row a t m 0 (λ q. eqb-false a t e (sym q))) ∙ r.just t u ∙ sym (or-false (any (is_link B t u) ws))

  -- the queue in its order: those that are done are ahead of the next
  waits_last : (es : Entries B) (ls : Slots B) (ahead qs : List (Q B)) (q : Q B)
      → waits_from B es ls ahead (qs ++ (q ∷ [])) ≡ waits_from B es ls ahead qs ++ (record { request = q; behind = blockers B es ls (ahead ++ qs) q } ∷ [])
  unfolding waits_from
  waits_last es ls ahead [] q = rw append-nil
  waits_last es ls ahead (p ∷ qs) q =
      ap (λ ws. record { request = p; behind = blockers B es ls ahead p } ∷ ws)
      (waits_last es ls (ahead ++ (p ∷ [])) qs q
      ∙ ap (λ ps. waits_from B es ls (ahead ++ (p ∷ [])) qs ++ (record { request = q; behind = blockers B es ls ps q } ∷ [])) (append_assoc ahead (p ∷ []) qs))

  pub row_queued : (es : Entries B) (ls : Slots B) (qs : List (Q B)) (q : Q B) (rest : List (Q B)) (row : List ℕ) (m : ℕ)
      → pairs (other_asker B) (qs ++ (q ∷ rest)) ≡ true → q.asker < length row → SetOf m (blockers B es ls qs q)
      → RowOf B row (waits_from B es ls [] qs) → RowOf B (set row q.asker m) (waits_from B es ls [] (qs ++ (q ∷ [])))
  row_queued es ls qs q rest row m d h s r =
      rw (waits_last es ls [] qs q)
      (row_last row (waits_from B es ls [] qs) (record { request = q; behind = blockers B es ls qs q }) m h others s r)
    where
      others : all (λ v. other_asker B v.request q) (waits_from B es ls [] qs) ≡ true
      others =
          sym (all_map (λ p. other_asker B p q) (λ w. w.request) (waits_from B es ls [] qs))
          ∙ ap (all (λ p. other_asker B p q)) (requests B es ls [] qs)
          ∙ all_weaker (λ p. all (other_asker B p) (q ∷ rest)) (λ p. other_asker B p q) (λ p. all_head (other_asker B p) q rest) qs
          (pairs_apart (other_asker B) qs (q ∷ rest) d).across
