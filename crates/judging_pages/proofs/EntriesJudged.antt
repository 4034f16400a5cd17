-- An entry and a child by their fields: the tests say exactly that writing undoes reading, and that what has no owner is settled.
-- By the cases of the presence, of which there are four. Assumes nothing.
use mathlib.Core.Path.{◌≡◌, refl, sym, ap, ap₂}
use mathlib.Core.Bool.{Bool, true, false, not, ◌&&◌, ◌||◌, false≢true}
use mathlib.Core.List.{List, [], ◌∷◌}
use mathlib.Core.Option.{none, some}
use Prim.Native.Nat.{ℕ, zero, suc, ◌+◌, ◌*◌, ◌/◌, ◌%◌, ◌<◌, ◌^◌}
use native.Mathlib.Omega.{arith}
use borrow.Author.Tests.{eqb-true, eq-eqb, ltb-true}
use lib.Dec.{eqb, ltb, lit<}
use lib.ListN.{get_or}
use Rattle.limits.specs.Limits.{key_size}
use Rattle.lists.proofs.Tests.{both, and_both}
use Rattle.numbers.specs.Numbers.{Fits}
use Rattle.rules.specs.Kinds.{Entry}
use Rattle.rules.specs.Entries.{present}
use Rattle.pages.specs.PageLayout.{entry_widths, if_bit, bit, entry_in, entry_fields, child_widths, child_in, child_fields}
use Rattle.pages.proofs.EntryRows.{bit_small, or_small}
use Rattle.judging_pages.specs.PageChecks.{entry_ok, fillers_ok}

abbrev pub plain_ok : List ℕ → Bool
plain_ok vs =
    (ltb (get_or vs 4 0) 4 && (eqb (get_or vs 4 0 % 2) 1 || eqb (get_or vs 1 0) 0)) && (eqb (get_or vs 4 0 / 2) 1 || eqb (get_or vs 2 0) 0)

abbrev pub settled_ok : List ℕ → Bool
settled_ok vs = not (eqb (get_or vs 3 0) 0) || (eqb (get_or vs 4 0) 3 && eqb (get_or vs 1 0) (get_or vs 2 0))

pub entry_both : (vs : List ℕ) → entry_ok vs ≡ true → (plain_ok vs ≡ true) × (settled_ok vs ≡ true)
unfolding entry_ok
entry_both vs h = both (plain_ok vs) (settled_ok vs) h

pub both_entry : (vs : List ℕ) → plain_ok vs ≡ true → settled_ok vs ≡ true → entry_ok vs ≡ true
unfolding entry_ok
both_entry vs h g = and_both (plain_ok vs) (settled_ok vs) h g

-- what has no owner is present, with now and before equal
pub record Rests (e : Entry ℕ ℕ) : Type 0 where
  pub is_there : present e ≡ true
  pub equal : e.now ≡ e.before

module _ (k n b o : ℕ) where
  abbrev fives : ℕ → List ℕ
  fives t = k ∷ n ∷ b ∷ o ∷ t ∷ []

  under_four : (t : ℕ) → plain_ok (fives t) ≡ true → t < 4
  under_four t h =
      ltb-true t 4 (both (ltb t 4) (eqb (t % 2) 1 || eqb n 0) (both (ltb t 4 && (eqb (t % 2) 1 || eqb n 0)) (eqb (t / 2) 1 || eqb b 0) h).0).0

  pub plain_back : (t : ℕ) → plain_ok (fives t) ≡ true → entry_fields (entry_in (fives t)) ≡ fives t
  unfolding entry_fields entry_in
  plain_back zero h =
      let e = both (eqb n 0) (eqb b 0) h in
      ap₂ (λ x y. k ∷ x ∷ y ∷ o ∷ 0 ∷ []) (sym (eqb-true n 0 e.0)) (sym (eqb-true b 0 e.1))
  plain_back (suc zero) h = ap (λ y. k ∷ n ∷ y ∷ o ∷ 1 ∷ []) (sym (eqb-true b 0 h))
  plain_back (suc (suc zero)) h = ap (λ x. k ∷ x ∷ b ∷ o ∷ 2 ∷ []) (sym (eqb-true n 0 (both (eqb n 0) true h).0))
  plain_back (suc (suc (suc zero))) h = refl
  plain_back (suc (suc (suc (suc t)))) h = absurd (let l = under_four (suc (suc (suc (suc t)))) h in omega arith)

  four : (t : ℕ) → entry_fields (entry_in (fives t)) ≡ fives t → t < 4
  unfolding entry_fields entry_in
  four t e =
      let q : bit (if_bit t n) + 2 * bit (if_bit (t / 2) b) ≡ t = ap (λ vs. get_or vs 4 0) e in
      omega (arith, bit_small (if_bit t n), bit_small (if_bit (t / 2) b))

  pub back_plain : (t : ℕ) → entry_fields (entry_in (fives t)) ≡ fives t → plain_ok (fives t) ≡ true
  unfolding entry_fields entry_in
  back_plain zero e =
      and_both (eqb n 0) (eqb b 0) (eq-eqb n 0 (sym (ap (λ vs. get_or vs 1 0) e))) (eq-eqb b 0 (sym (ap (λ vs. get_or vs 2 0) e)))
  back_plain (suc zero) e = eq-eqb b 0 (sym (ap (λ vs. get_or vs 2 0) e))
  back_plain (suc (suc zero)) e = and_both (eqb n 0) true (eq-eqb n 0 (sym (ap (λ vs. get_or vs 1 0) e))) refl
  back_plain (suc (suc (suc zero))) e = refl
  back_plain (suc (suc (suc (suc t)))) e = absurd (let l = four (suc (suc (suc (suc t)))) e in omega arith)

  pub fields_rests : (t : ℕ) → plain_ok (fives t) ≡ true → settled_ok (fives t) ≡ true → o ≡ 0 → Rests (entry_in (fives t))
  unfolding entry_in
  fields_rests t h g q = go (eqb o 0) (eq-eqb o 0 q) g
    where
      go : (c : Bool) → c ≡ true → (not c || (eqb t 3 && eqb n b)) ≡ true → Rests (entry_in (fives t))
      go true r s =
          let e = both (eqb t 3) (eqb n b) s in
          let a : t ≡ 3 = eqb-true t 3 e.0 in
          let d : n ≡ b = eqb-true n b e.1 in
          rw a (record { is_there = refl; equal = ap some d })
      go false r s = absurd (false≢true r)

  pub rests_fields : (t : ℕ) → plain_ok (fives t) ≡ true → (o ≡ 0 → Rests (entry_in (fives t))) → settled_ok (fives t) ≡ true
  unfolding entry_in
  rests_fields t h g = go (eqb o 0) refl
    where
      three : (t : ℕ) → plain_ok (fives t) ≡ true → Rests (entry_in (fives t)) → (eqb t 3 && eqb n b) ≡ true
      three zero h r = absurd (false≢true r.is_there)
      three (suc zero) h r = absurd (let z : ◌≡◌ {A = ℕ} 0 1 = (let q : some n ≡ none = r.equal in cc) in omega arith)
      three (suc (suc zero)) h r = absurd (false≢true r.is_there)
      three (suc (suc (suc zero))) h r = eq-eqb n b (let q : some n ≡ some b = r.equal in cc)
      three (suc (suc (suc (suc t)))) h r = absurd (let l = under_four (suc (suc (suc (suc t)))) h in omega arith)

      go : (c : Bool) → eqb o 0 ≡ c → (not c || (eqb t 3 && eqb n b)) ≡ true
      go false q = refl
      go true q = three t h (g (eqb-true o 0 q))

  pub entry_fits_lem : (t : ℕ) → k < 256 ^ key_size → n < 256 ^ 4 → b < 256 ^ 4 → o < 256 ^ 2 → Fits entry_widths (entry_fields (entry_in (fives t)))
  unfolding entry_fields entry_in
  entry_fits_lem t hk hn hb ho = (
    hk,
    (
      or_small (eqb (t % 2) 1) n (256 ^ 4) hn,
      (
        or_small (eqb (t / 2 % 2) 1) b (256 ^ 4) hb,
        (
          ho,
          (omega (arith, bit_small (if_bit t n), bit_small (if_bit (t / 2) b)), tt),
        ),
      ),
    ),
  )

-- ---- children
module _ (l q f g : ℕ) where
  abbrev fours : List ℕ
  fours = l ∷ q ∷ f ∷ g ∷ []

  pub child_back : fillers_ok fours ≡ true → child_fields (child_in fours) ≡ fours
  unfolding fillers_ok child_fields child_in
  child_back h =
      let e = both (eqb f 0) (eqb g 0) h in
      ap₂ (λ x y. l ∷ q ∷ x ∷ y ∷ []) (sym (eqb-true f 0 e.0)) (sym (eqb-true g 0 e.1))

  pub back_child : child_fields (child_in fours) ≡ fours → fillers_ok fours ≡ true
  unfolding fillers_ok child_fields child_in
  back_child e =
      and_both (eqb f 0) (eqb g 0) (eq-eqb f 0 (sym (ap (λ vs. get_or vs 2 0) e))) (eq-eqb g 0 (sym (ap (λ vs. get_or vs 3 0) e)))

  pub child_fits : l < 256 ^ key_size → q < 256 ^ 2 → Fits child_widths (child_fields (child_in fours))
  unfolding child_fields child_in
  child_fits hl hq = (hl, (hq, (lit< tt, (lit< tt, tt))))
