-- Demand 1 as one statement: for any bytes of any lengths in the four slices, what comes back, and which bytes may have changed. "Each
-- refusal has its number, and says exactly which bytes have changed": none. Assumes nothing.
use Rattle.std.specs.Prelude.{ℕ, ◌+◌, ◌≤◌, ◌<◌, ◌≡◌, ◌≢◌, true, false, List, length, get_or, drop}
use Rattle.std.proofs.Math.Option.{none}
use Rattle.limits.specs.Limits.{answer_size, space_least}
use Rattle.requests.specs.RequestRecord.{heard}
use Rattle.states.specs.Whole.{Whole}
use Rattle.calls.specs.Promise.{Lent, wrong_sizes, returned}

-- a call with request q, lent x, that left y and returned r
pub record Demand1 (q : List ℕ) (x y : Lent) (r : ℕ) : Type 0 where
  -- 10, 11 and 12 are returned when their cause holds
  pub ten : wrong_sizes x ≡ true → r ≡ returned 10 0
  pub eleven : wrong_sizes x ≡ false → (Whole x.pages x.desk → ⊥) → r ≡ returned 11 0
  pub twelve : wrong_sizes x ≡ false → Whole x.pages x.desk → heard q ≡ none → r ≡ returned 12 0
  -- and at no other time
  pub ten_cause : r ≡ returned 10 0 → wrong_sizes x ≡ true
  pub eleven_cause : r ≡ returned 11 0 → (wrong_sizes x ≡ false) × (Whole x.pages x.desk → ⊥)
  pub twelve_cause : r ≡ returned 12 0 → (wrong_sizes x ≡ false) × Whole x.pages x.desk × (heard q ≡ none)
  -- where none of them holds, the request is answered
  pub answered : wrong_sizes x ≡ false → Whole x.pages x.desk → (heard q ≡ none → ⊥) → r < 4294967296
  -- a refusal changes nothing
  pub refused : 4294967296 ≤ r → y ≡ x
  -- otherwise r is the number of answer bytes, and those beyond keep their values
  pub most : r < 4294967296 → r ≤ space_least
  pub beyond : r < 4294967296 → drop r y.answers ≡ drop r x.answers
  -- the picture stays whole, and everything keeps its length
  pub whole : wrong_sizes x ≡ false → Whole x.pages x.desk → Whole y.pages y.desk
  pub pages : length y.pages ≡ length x.pages
  pub desk : length y.desk ≡ length x.desk
  pub answers : length y.answers ≡ length x.answers

-- What it shuts out, line by line: outcomes of a call, none of which keeps it. A field that said less would let one of them pass.
pub record ShutsOut (q : List ℕ) (x y : Lent) : Type 0 where
  -- a cause, and not its number
  pub not10 : (r : ℕ) → wrong_sizes x ≡ true → r ≢ returned 10 0 → Demand1 q x y r → ⊥
  pub not11 : (r : ℕ) → wrong_sizes x ≡ false → (Whole x.pages x.desk → ⊥) → r ≢ returned 11 0 → Demand1 q x y r → ⊥
  pub not12 : (r : ℕ) → wrong_sizes x ≡ false → Whole x.pages x.desk → heard q ≡ none → r ≢ returned 12 0 → Demand1 q x y r → ⊥
  -- a number, and not its cause
  pub only10 : wrong_sizes x ≡ false → Demand1 q x y (returned 10 0) → ⊥
  pub only11 : Whole x.pages x.desk → Demand1 q x y (returned 11 0) → ⊥
  pub small11 : wrong_sizes x ≡ true → Demand1 q x y (returned 11 0) → ⊥
  pub only12 : (heard q ≡ none → ⊥) → Demand1 q x y (returned 12 0) → ⊥
  pub small12 : wrong_sizes x ≡ true → Demand1 q x y (returned 12 0) → ⊥
  pub broken12 : (Whole x.pages x.desk → ⊥) → Demand1 q x y (returned 12 0) → ⊥
  -- no cause, and some number all the same
  pub other : (r : ℕ) → wrong_sizes x ≡ false → Whole x.pages x.desk → (heard q ≡ none → ⊥) → returned 1 0 ≤ r → Demand1 q x y r → ⊥
  -- a refusal that changed something
  pub touched : (r : ℕ) → returned 1 0 ≤ r → y ≢ x → Demand1 q x y r → ⊥
  -- more than sixteen answers; a byte changed behind the answers; a picture spoilt; a buffer that grew or shrank
  pub seventeen : Demand1 q x y (space_least + answer_size) → ⊥
  pub behind : (r i : ℕ) → r < returned 1 0 → get_or (drop r y.answers) i 0 ≢ get_or (drop r x.answers) i 0 → Demand1 q x y r → ⊥
  pub spoilt : (r : ℕ) → wrong_sizes x ≡ false → Whole x.pages x.desk → (Whole y.pages y.desk → ⊥) → Demand1 q x y r → ⊥
  pub pages : (r : ℕ) → length y.pages ≢ length x.pages → Demand1 q x y r → ⊥
  pub desk : (r : ℕ) → length y.desk ≢ length x.desk → Demand1 q x y r → ⊥
  pub answers : (r : ℕ) → length y.answers ≢ length x.answers → Demand1 q x y r → ⊥
