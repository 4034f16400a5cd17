-- An end that settles the entries under the X locks of its transaction, slot by slot: whatever the transaction still owns stands under a lock
-- in a slot not yet passed, and settling all would give what it gave at first. After the last slot nothing is left to settle.
-- Assumes nothing.
use Prim.Native.Nat.{ℕ, ◌+◌, ◌≤◌, ◌<◌}
use Rattle.std.specs.Prelude as Code
use Rattle.std.specs.Bool.{then_some}
use Rattle.std.specs.Option.{MatchOption}
use mathlib.Core.Path.{◌≡◌, refl, sym, ap, subst, ◌∙◌}
use mathlib.Core.Logic.{◌≢◌, inl, inr, ⊎_elim}
use mathlib.Core.Bool.{Bool, true, false, cond, ◌&&◌}
use mathlib.Core.List.{List, [], ◌∷◌}
use mathlib.Core.Option.{Option, none, some}
use native.Mathlib.Omega.{arith}
use lib.Dec.{eqb}
use borrow.Author.Tests.{eq-eqb}
use Rattle.limits.specs.Limits.{locks_most}
use Rattle.lists.specs.Lists.{In}
use Rattle.lists.proofs.Elements.{tab_in}
use Rattle.lists.proofs.Tests.{and_both}
use Rattle.rules.specs.Kinds.{on, S, X, Lock}
use Rattle.rules.specs.Locks.{in_use, conflict}
use Rattle.rules.proofs.Orders.{numbers_ordered}
use Rattle.rules.proofs.LockTable.{Held, x_conflicts}
use Rattle.rules.proofs.Unblocked.{good_sound}
use Rattle.trees.specs.Trees.{Index, flat}
use Rattle.locks.specs.declared.Lock as L
use Rattle.locks.specs.SlotLayout.{name_number, slot_at, slots_of, book_mode, book_slot}
use Rattle.locks.proofs.LockValues.{name_back}
use Rattle.index.specs.Pictures.{Item, index_of, entries_in, WholePages}
use Rattle.index.specs.Changes.{settled_in, settled_at, Becomes}
use Rattle.settling.proofs.KeysSettled.{settled_after, owned_still, settled_none}
use Rattle.states.specs.States.{book, state_of}
use Rattle.states.specs.Whole.{Whole}
use Rattle.ends.specs.Endings.{exclusive, settled_under}

-- ---- a slot
pub lock_kept : {P : L.Lock → Bool → Type 0} (t : ℕ) (x : Option (Lock ℕ)) (s r : Code.Option L.Lock) → book_slot s ≡ x
    → MatchOption s (r ≡ Code.None) (λ l. (b : Bool) × P l b × (r ≡ then_some b l))
    → ((l : L.Lock) (b : Bool) → P l b → b ≡ (eqb l.holder t && conflict (book_mode l.mode) S)) → book_slot r ≡ exclusive t x
lock_kept t x Code.None r e m says = ap book_slot m ∙ ap (exclusive t) e
lock_kept t x (Code.Some l) r e (b, p, z) says = ap book_slot z ∙ go b ∙ ap (λ b. cond b (book_slot (Code.Some l)) none) (says l b p) ∙ ap (exclusive t) e
  where
    go : (b : Bool) → book_slot (then_some b l) ≡ cond b (book_slot (Code.Some l)) none
    go true = refl
    go false = refl

-- ---- what it settles
module _ (commits : Bool) (t : ℕ) (x : Option (Lock ℕ)) (s : Code.Option L.Lock) (e : book_slot s ≡ x) (p : List ℕ) where
  pub under_none : s ≡ Code.None → WholePages p → Becomes p (settled_under commits t x (index_of p))
  under_none h w = record { whole = w; index = ap (λ y. settled_under commits t y (index_of p)) (sym (ap book_slot h) ∙ e) }

  pub under_one : (l : L.Lock) → s ≡ Code.Some l → (p' : List ℕ) → Becomes p' (settled_at commits t l.name.0 (index_of p))
      → Becomes p' (settled_under commits t x (index_of p))
  under_one l h p' b =
      record {
        whole = b.whole;
        index = b.index ∙ ap (λ k. settled_at commits t k (index_of p)) (sym (name_back l.name.0))
            ∙ ap (λ y. settled_under commits t y (index_of p)) (sym (ap book_slot h) ∙ e);
      }

-- ---- the lock of an entry that t owns
abbrev IsOn : ℕ → Option (Lock ℕ) → Type 0
IsOn k none = ⊥
IsOn k (some l) = l.name ≡ on k

in_use_lem : (ls : List (Option (Lock ℕ))) (l : Lock ℕ) → In l (in_use ls) → In (some l) ls
unfolding in_use
in_use_lem [] l i = absurd i
in_use_lem (none ∷ ls) l i = inr (in_use_lem ls l i)
in_use_lem (some k ∷ ls) l (inl e) = inl (ap some e)
in_use_lem (some k ∷ ls) l (inr i) = inr (in_use_lem ls l i)

pub record Ahead (d : List ℕ) (t i k : ℕ) : Type 0 where
  pub slot : ℕ
  pub ahead : i ≤ slot
  pub inside : slot < locks_most
  pub there : IsOn k (exclusive t (slot_at d slot))

held_ahead : (d : List ℕ) (t k : ℕ) → Held book (slots_of d) t (on k) X → Ahead d t 0 k
unfolding slots_of
held_ahead d t k h =
    let w = tab_in locks_most 0 (slot_at d) (some h.lock) (in_use_lem (slots_of d) h.lock h.stands) in
    let c = and_both _ _ (eq-eqb h.lock.holder t h.holder) (x_conflicts h.lock.mode S h.strong) in
    record {
      slot = w.0;
      ahead = w.1;
      inside = w.2;
      there = subst (λ x. IsOn k (exclusive t x)) (sym w.3) (subst (λ b. IsOn k (cond b (some h.lock) none)) (sym c) h.name);
    }

same_entries : (p p' : List ℕ) → index_of p' ≡ index_of p → entries_in p' ≡ entries_in p
unfolding entries_in
same_entries p p' e = ap (λ (x : Index ℕ Item). flat ℕ Item x.level x.tree) e

-- ---- slot by slot
pub record Onward (commits : Bool) (t : ℕ) (d p₀ p : List ℕ) (i : ℕ) : Type 0 where
  pub whole : WholePages p
  pub same : settled_in commits t (index_of p) ≡ settled_in commits t (index_of p₀)
  pub owned : (e : Item) → In e (entries_in p) → e.owner ≡ t → Ahead d t i e.key

module _ (commits : Bool) (t : ℕ) (low : 1 ≤ t) (d p₀ : List ℕ) where
  pub onward_first : Whole p₀ d → Onward commits t d p₀ p₀ 0
  unfolding state_of
  onward_first w =
      record {
        whole = w.pages;
        same = refl;
        owned = λ e i o.
            ⊎_elim (λ z. absurd (omega arith))
            (λ h. held_ahead d t e.key (subst (λ u. Held book (slots_of d) u (on e.key) X) o h.1))
            ((good_sound book numbers_ordered (state_of p₀ d) w.values).owners e i);
      }

  module _ (p : List ℕ) (i : ℕ) (o : Onward commits t d p₀ p i) where
    pub onward_next : (p' : List ℕ) → Becomes p' (settled_under commits t (exclusive t (slot_at d i)) (index_of p)) → Onward commits t d p₀ p' (i + 1)
    onward_next p' b = go (exclusive t (slot_at d i)) refl b
      where
        later : (e : Item) → Ahead d t i e.key → (IsOn e.key (exclusive t (slot_at d i)) → ⊥) → Ahead d t (i + 1) e.key
        later e a n =
            let other : a.slot ≢ i = λ z. n (subst (λ j. IsOn e.key (exclusive t (slot_at d j))) z a.there) in
            record {
              slot = a.slot;
              ahead = omega (arith, a.ahead);
              inside = a.inside;
              there = a.there;
            }

        go : (x : Option (Lock ℕ)) → exclusive t (slot_at d i) ≡ x → Becomes p' (settled_under commits t x (index_of p)) → Onward commits t d p₀ p' (i + 1)
        go none h b =
            record {
              whole = b.whole;
              same = ap (settled_in commits t) b.index ∙ o.same;
              owned = λ e j q. later e (o.owned e (subst (In e) (same_entries p p' b.index) j) q) (subst (IsOn e.key) h);
            }
        go (some l) h b =
            record {
              whole = b.whole;
              same = ap (settled_in commits t) b.index ∙ settled_after commits t low (name_number l.name) (index_of p) ∙ o.same;
              owned = λ e j q.
                  let w = owned_still commits t low (name_number l.name) p p' b e j q in
                  later e (o.owned e w.0 q) (λ z. w.1 (sym (ap name_number (subst (IsOn e.key) h z))));
            }

    pub onward_last : locks_most ≤ i → Becomes p (settled_in commits t (index_of p₀))
    onward_last h =
        record {
          whole = o.whole;
          index = sym (settled_none commits t low p (λ e j q. let a = o.owned e j q in omega (arith, a.ahead, a.inside))) ∙ o.same;
        }
