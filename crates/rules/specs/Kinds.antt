-- The kinds of things that the rule book speaks of, and the one record of what it leaves open: keys and their order, records, how many
-- transactions and locks there are, and what the pages have to say. Assumes nothing.
use Prim.Native.Nat.{ℕ, Ordering}
use Rattle.std.specs.Prelude.{◌≡◌, Bool, List}
use Rattle.std.proofs.Math.Option.{Option}

-- Document 01, "Keys and entries". Owner 0 is nobody: the entry is settled. An absent record is `none`.
pub record Entry (K R : Type 0) : Type 0 where
  pub key : K
  pub owner : ℕ
  pub now : Option R
  pub before : Option R

-- Document 01, "Locks": "Modes S and X".
pub data Mode : Type 0 where
  S X : Mode

-- "A lock names an entry's key or the end": the end is no key.
pub data Name (K : Type 0) : Type 0 where
  on : K → Name K
  end : Name K

pub record Lock (K : Type 0) : Type 0 where
  pub name : Name K
  pub holder : ℕ
  pub mode : Mode

-- What joins the queue, and what acts at once.
pub data Ask (K R : Type 0) : Type 0 where
  read : K → K → Ask K R
  insert : K → R → Ask K R
  delete : K → Ask K R

pub data Request (K R : Type 0) : Type 0 where
  begin commit rollback : Request K R
  ask : Ask K R → Request K R

-- A request with the transaction that makes it.
pub record Call (K R : Type 0) : Type 0 where
  pub asker : ℕ
  pub request : Request K R

pub record Queued (K R : Type 0) : Type 0 where
  pub asker : ℕ
  pub asks : Ask K R

-- Whether a transaction runs. One that runs and has a request in the queue is waiting.
pub data Mark : Type 0 where
  idle running : Mark

-- Where things stand. The slots are as many as there may be locks, each free or a lock; the marks stand at the transactions' numbers,
-- and number 0, nobody, never runs.
pub record State (K R P : Type 0) : Type 0 where
  pub entries : List (Entry K R)
  pub pages : P
  pub slots : List (Option (Lock K))
  pub queue : List (Queued K R)
  pub marks : List Mark

-- What the rules ask of the pages: does a missing key still fit; what become of them when a key is put in, and when keys are taken out.
pub record Paging (K : Type 0) : Type 1 where
  pub Pages : Type 0
  pub bare : Pages
  pub fits : Pages → K → Bool
  pub grown : Pages → K → Pages
  pub shrunk : Pages → List K → Pages

-- What the rule book leaves open. `legal` says which keys a request may name (document 01, number 12).
pub record Book : Type 1 where
  pub Key : Type 0
  pub Rec : Type 0
  pub compare : Key → Key → Ordering
  pub legal : Key → Bool
  pub transactions : ℕ
  pub locks : ℕ
  pub paging : Paging Key

-- The laws of an order of keys. Only proofs take them.
pub record Ordered (K : Type 0) (compare : K → K → Ordering) : Type 0 where
  pub equal : (a b : K) → compare a b ≡ Ordering.eq → a ≡ b
  pub itself : (a : K) → compare a a ≡ Ordering.eq
  pub below : (a b : K) → compare a b ≡ Ordering.lt → compare b a ≡ Ordering.gt
  pub above : (a b : K) → compare a b ≡ Ordering.gt → compare b a ≡ Ordering.lt
  pub along : (a b c : K) → compare a b ≡ Ordering.lt → compare b c ≡ Ordering.lt → compare a c ≡ Ordering.lt
