-- The rule book of document 01: keys of 64 bits below the end, records of 32 bits as numbers, its transactions and its locks.
-- Assumes nothing.
use Prim.Native.Nat.{ℕ, suc, ◌-◌, compare}
use Rattle.std.specs.Prelude.{true, ltb, length}
use Rattle.limits.specs.Limits.{transactions_most, locks_most}
use Rattle.rules.specs.Kinds.{Book, Paging}

-- "2^64-1 names the end of the index and is never a key"
abbrev pub end_mark : ℕ
end_mark = 18446744073709551615

-- the same with so many locks, and the document's own
abbrev pub limited : ℕ → Paging ℕ → Book
limited slots pages =
    record {
      Key = ℕ;
      Rec = ℕ;
      compare = compare;
      legal = λ k. ltb k end_mark;
      transactions = transactions_most;
      locks = slots;
      paging = pages;
    }

abbrev pub document : Paging ℕ → Book
document pages = limited locks_most pages

-- Pages that never run short, for what is said of locks and waits alone.
abbrev pub endless : {K : Type 0} → Paging K
endless = record { Pages = Unit {0}; bare = tt; fits = λ p k. true; grown = λ p k. p; shrunk = λ p ks. p }

-- Pages that take so many keys and no more, for what is said of pages run short.
abbrev pub room_for : {K : Type 0} → ℕ → Paging K
room_for n =
    record { Pages = ℕ; bare = 0; fits = λ p k. ltb p n; grown = λ p k. suc p; shrunk = λ p ks. p - length ks }
