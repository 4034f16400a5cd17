-- Entries and locks that fit together (W1 to W4), and that each thing a run or an end does to them keeps them so. The invariants are
-- said of each lock and each entry, so that the laws of the table and of the index apply. Assumes nothing.
use Prim.Native.Nat.{ℕ}
use mathlib.Core.Path.{◌≡◌, refl, sym, ap, subst, ◌∙◌}
use mathlib.Core.Logic.{◌⊎◌, inl, inr, ⊎_elim}
use mathlib.Core.Bool.{Bool, true, false, true≢false}
use lib.Dec.{eqb}
use lib.ListN.{length}
use borrow.Author.Tests.{eqb-true, eqb-false}
use Rattle.lists.specs.Lists.{pairs, In}
use Rattle.rules.specs.Kinds.{Book, Ordered, Mode, X, Name, on, end}
use Rattle.rules.specs.Entries.{Entries, same, inserted, committed, rolled_back, settled, put, changed}
use Rattle.rules.specs.Locks.{Slots, in_use, released}
use Rattle.rules.specs.Runs.{En}
use Rattle.rules.specs.Good.{Lk, ascending, is_name, together, Settled}
use Rattle.rules.proofs.KeyTests.{same_equal, same_itself}
use Rattle.rules.proofs.Index.{settled_in, settled_other, put_in, in_put, changed_in, in_name, name_in, name_put, name_changed, ascending_changed, ascending_settled, ascending_put}
use Rattle.rules.proofs.LockTable.{Held, Clear, alone, Took, took_length, took_in, held_kept, held_took, took_together, released_length, released_in, held_released, released_together}

-- what an end makes of an entry of its transaction's
pub record Settles (B : Book) (f : En B → En B) : Type 0 where
  pub key : (e : En B) → (f e).key ≡ e.key
  pub owner : (e : En B) → (f e).owner ≡ 0
  pub equal : (e : En B) → (f e).now ≡ (f e).before

pub committed_settles : (B : Book) → Settles B committed
committed_settles B = record { key = λ e. refl; owner = λ e. refl; equal = λ e. refl }

pub rolled_back_settles : (B : Book) → Settles B rolled_back
rolled_back_settles B = record { key = λ e. refl; owner = λ e. refl; equal = λ e. refl }

-- what a run makes of the entry that it changes
pub record Changes (B : Book) (t : ℕ) (f : En B → En B) : Type 0 where
  pub key : (e : En B) → (f e).key ≡ e.key
  pub owner : (e : En B) → (f e).owner ≡ t

module _ (B : Book) where
  -- the entry is nobody's, or its owner runs and holds X on it
  abbrev pub OwnerHolds : (ℕ → Bool) → Slots B → En B → Type 0
  OwnerHolds r ls e = (e.owner ≡ 0) ⊎ ((r e.owner ≡ true) × Held B ls e.owner (on e.key) X)

  -- r says who runs
  pub record Sound (r : ℕ → Bool) (es : Entries B) (ls : Slots B) : Type 0 where
    pub slots : length ls ≡ B.locks
    pub keys : ascending B es ≡ true
    pub names : (l : Lk B) → In l (in_use ls) → (r l.holder ≡ true) × (is_name B es l.name ≡ true)
    pub modes : pairs (together B) (in_use ls) ≡ true
    pub owners : (e : En B) → In e es → OwnerHolds r ls e
    pub settled : (e : En B) → In e es → e.owner ≡ 0 → Settled B e

  -- more may run
  pub sound_more : (r r' : ℕ → Bool) (es : Entries B) (ls : Slots B) → ((u : ℕ) → r u ≡ true → r' u ≡ true) → Sound r es ls → Sound r' es ls
  sound_more r r' es ls f h = record {
    slots = h.slots;
    keys = h.keys;
    modes = h.modes;
    settled = h.settled;
    names = λ l i. let w = h.names l i in (f l.holder w.0, w.1);
    owners = λ e i. ⊎_elim inl (λ w. inr (f e.owner w.0, w.1)) (h.owners e i);
  }

  -- the owner of an entry that has one
  pub owner_holds_lem : (r : ℕ → Bool) (ls : Slots B) (e : En B) → OwnerHolds r ls e → (e.owner ≡ 0 → ⊥) → Held B ls e.owner (on e.key) X
  owner_holds_lem r ls e (inl z) n = absurd (n z)
  owner_holds_lem r ls e (inr w) n = w.1

  module _ (L : Ordered B.Key B.compare) where
    -- a lock taken on an entry or the end, where nobody else holds against it
    pub sound_taken : (r : ℕ → Bool) (es : Entries B) (ls ls' : Slots B) (t : ℕ) (n : Name B.Key) (m : Mode) → r t ≡ true → is_name B es n ≡ true
        → Clear B ls t n m → Took B ls ls' t n m → Sound r es ls → Sound r es ls'
    sound_taken r es ls ls' t n m g k c e h = record {
      slots = took_length B ls ls' t n m e ∙ h.slots;
      keys = h.keys;
      settled = h.settled;
      names = λ l i. ⊎_elim (h.names l) (λ w. (rw w.0 g, rw w.1 k)) (took_in B L ls ls' t n m e l i);
      modes = took_together B L ls ls' t n m c e h.modes;
      owners = λ x i. ⊎_elim inl (λ w. inr (w.0, held_kept B ls ls' t n m e x.owner (on x.key) X w.1)) (h.owners x i);
    }

    -- an entry changed whose key t holds in X
    pub sound_changed : (r : ℕ → Bool) (es : Entries B) (ls : Slots B) (t : ℕ) (k : B.Key) (f : En B → En B) → r t ≡ true → (t ≡ 0 → ⊥) → Changes B t f
        → Held B ls t (on k) X → Sound r es ls → Sound r (changed B k f es) ls
    sound_changed r es ls t k f g z c x h = record {
      slots = h.slots;
      modes = h.modes;
      keys = ascending_changed B k f es c.key h.keys;
      names = λ l i. let w = h.names l i in (w.0, name_changed B L k f es l.name c.key w.1);
      owners = λ y i. ⊎_elim (h.owners y) own (changed_in B k f es y i);
      settled = λ y i o. ⊎_elim (λ j. h.settled y j o) (λ w. absurd (z (sym (c.owner w.0) ∙ ap (λ (e : En B). e.owner) w.3 ∙ o))) (changed_in B k f es y i);
    }
      where
        own : {y : En B} → ((e : En B) × In e es × (same B e.key k ≡ true) × (f e ≡ y)) → OwnerHolds r ls y
        own w = subst (OwnerHolds r ls) w.3 (inr (rw (c.owner w.0) g, rw (c.owner w.0, c.key w.0, same_equal B L w.0.key k w.2) x))

    -- a missing key put in, with X on it
    pub sound_put : (r : ℕ → Bool) (es : Entries B) (ls ls' : Slots B) (t : ℕ) (k : B.Key) (v : B.Rec) → r t ≡ true → (t ≡ 0 → ⊥) → B.legal k ≡ true
        → ((e : En B) → In e es → same B e.key k ≡ false) → Took B ls ls' t (on k) X → Sound r es ls → Sound r (put B (inserted t k v) es) ls'
    sound_put r es ls ls' t k v g z l m e h = record {
      slots = took_length B ls ls' t (on k) X e ∙ h.slots;
      keys = ascending_put B L new es m l h.keys;
      names = λ x i. ⊎_elim (λ j. let w = h.names x j in (w.0, name_put B L new es x.name w.1))
          (λ w. (rw w.0 g, rw w.1 (in_name B (put B new es) new k (in_put B new es new (inl refl)) (same_itself B L k)))) (took_in B L ls ls' t (on k) X e x i);
      modes = took_together B L ls ls' t (on k) X free e h.modes;
      owners = λ y i. ⊎_elim (λ q. subst (OwnerHolds r ls') q (inr (g, held_took B L ls ls' t (on k) X e)))
          (λ j. ⊎_elim inl (λ w. inr (w.0, held_kept B ls ls' t (on k) X e y.owner (on y.key) X w.1)) (h.owners y j)) (put_in B new es y i);
      settled = λ y i o. ⊎_elim (λ q. absurd (z (ap (λ (e : En B). e.owner) q ∙ o))) (λ j. h.settled y j o) (put_in B new es y i);
    }
      where
        new : En B
        new = inserted t k v

        free : Clear B ls t (on k) X
        free x i q c =
            let w = name_in B L es k (rw q at (h.names x i).1) in
            absurd (true≢false (sym (same_itself B L k) ∙ (rw w.2 at (m w.0 w.1))))

    -- the end of t
    pub sound_ended : (r r' : ℕ → Bool) (es : Entries B) (ls : Slots B) (t : ℕ) (f : En B → En B) → (t ≡ 0 → ⊥) → Settles B f
        → ((u : ℕ) → (u ≡ t → ⊥) → r u ≡ true → r' u ≡ true) → Sound r es ls → Sound r' (settled f t es) (released B t ls)
    sound_ended r r' es ls t f z c g h = record {
      slots = released_length B t ls ∙ h.slots;
      keys = ascending_settled B f t es c.key h.keys;
      names = λ l i. let w = released_in B t ls l i in let n = h.names l w.0 in (g l.holder w.1 n.0, still l w.0 w.1 l.name refl n.1);
      modes = released_together B t ls h.modes;
      owners = λ y i. ⊎_elim (λ w. others y (eqb-false y.owner t w.1) (h.owners y w.0))
          (λ w. inl (ap (λ (e : En B). e.owner) (sym w.4) ∙ c.owner w.0)) (settled_in f t es y i);
      settled = λ y i o. ⊎_elim (λ w. h.settled y w.0 o)
          (λ w. subst (Settled B) w.4 (record { is_there = w.3; equal = c.equal w.0 })) (settled_in f t es y i);
    }
      where
        others : (y : En B) → (y.owner ≡ t → ⊥) → OwnerHolds r ls y → OwnerHolds r' (released B t ls) y
        others y o (inl q) = inl q
        others y o (inr w) = inr (g y.owner o w.0, held_released B t ls y.owner (on y.key) X o w.1)

        -- an entry that another holds isn't t's, and so stays
        still : (l : Lk B) → In l (in_use ls) → (l.holder ≡ t → ⊥) → (n : Name B.Key) → l.name ≡ n → is_name B es n ≡ true → is_name B (settled f t es) n ≡ true
        still l i o end q k = refl
        still l i o (on x) q k = let w = name_in B L es x k in go w.0 w.1 w.2 (eqb w.0.owner t) refl
          where
            go : (e : En B) → In e es → e.key ≡ x → (b : Bool) → eqb e.owner t ≡ b → is_name B (settled f t es) (on x) ≡ true
            go e j y true a =
                let d : e.owner ≡ t = eqb-true e.owner t a in
                let m : Held B ls e.owner (on e.key) X = owner_holds_lem r ls e (h.owners e j) (λ v. z (sym d ∙ v)) in
                absurd (o (alone B L ls e.owner (on e.key) h.modes m l i (q ∙ ap on (sym y)) ∙ d))
            go e j y false a = in_name B (settled f t es) e x (settled_other f t es e j a) (rw y (same_itself B L x))
