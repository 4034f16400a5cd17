-- The order of keys and the names of locks as tests: what passing and failing them says. From the five laws of the order, by the three
-- answers that a comparison gives. Assumes nothing.
use Prim.Native.Nat.{Ordering}
use mathlib.Core.Path.{◌≡◌, refl, sym, ap, ◌∙◌}
use mathlib.Core.Bool.{true, false, true≢false, false≢true}
use lib.Dec.{is_le, compare_is_eq}
use Rattle.rules.specs.Kinds.{Book, Ordered, Name, on, end}
use Rattle.rules.specs.Entries.{at_most, same}
use Rattle.rules.specs.Locks.{same_name}

module _ (B : Book) (L : Ordered B.Key B.compare) where
  pub same_equal : (a b : B.Key) → same B a b ≡ true → a ≡ b
  same_equal a b h = go (B.compare a b) refl h
    where
      go : (o : Ordering) → B.compare a b ≡ o → compare_is_eq o ≡ true → a ≡ b
      go Ordering.lt e h = absurd (false≢true h)
      go Ordering.eq e h = L.equal a b e
      go Ordering.gt e h = absurd (false≢true h)

  pub same_itself : (a : B.Key) → same B a a ≡ true
  same_itself a = ap compare_is_eq (L.itself a)

  pub at_most_itself : (a : B.Key) → at_most B a a ≡ true
  at_most_itself a = ap is_le (L.itself a)

  pub at_most_equal : (a b : B.Key) → at_most B a b ≡ true → at_most B b a ≡ true → a ≡ b
  at_most_equal a b h k = go (B.compare a b) refl h
    where
      go : (o : Ordering) → B.compare a b ≡ o → is_le o ≡ true → a ≡ b
      go Ordering.lt e h = absurd (false≢true (sym (ap is_le (L.below a b e)) ∙ k))
      go Ordering.eq e h = L.equal a b e
      go Ordering.gt e h = absurd (false≢true h)

  pub at_most_other : (a b : B.Key) → at_most B b a ≡ false → at_most B a b ≡ true
  at_most_other a b h = go (B.compare b a) refl h
    where
      go : (o : Ordering) → B.compare b a ≡ o → is_le o ≡ false → at_most B a b ≡ true
      go Ordering.lt e h = absurd (true≢false h)
      go Ordering.eq e h = absurd (true≢false h)
      go Ordering.gt e h = ap is_le (L.above b a e)

  pub at_most_along : (a b c : B.Key) → at_most B a b ≡ true → at_most B b c ≡ true → at_most B a c ≡ true
  at_most_along a b c h k = go (B.compare a b) (B.compare b c) refl refl h k
    where
      go : (o q : Ordering) → B.compare a b ≡ o → B.compare b c ≡ q → is_le o ≡ true → is_le q ≡ true → at_most B a c ≡ true
      go Ordering.lt Ordering.lt d e h k = ap is_le (L.along a b c d e)
      go Ordering.lt Ordering.eq d e h k = rw (L.equal b c e) at (ap is_le d)
      go Ordering.lt Ordering.gt d e h k = absurd (false≢true k)
      go Ordering.eq q d e h k = rw (L.equal a b d) (ap is_le e ∙ k)
      go Ordering.gt q d e h k = absurd (false≢true h)

  pub name_equal : (m n : Name B.Key) → same_name B m n ≡ true → m ≡ n
  name_equal (on a) (on b) h = ap on (same_equal a b h)
  name_equal (on a) end h = absurd (false≢true h)
  name_equal end (on b) h = absurd (false≢true h)
  name_equal end end h = refl

  pub name_itself : (n : Name B.Key) → same_name B n n ≡ true
  name_itself (on a) = same_itself a
  name_itself end = refl
