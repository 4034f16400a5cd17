-- Document 01, "Locks": modes, the lock table, the target of a request, and who blocks it. Assumes nothing.
use Rattle.std.specs.Prelude.{ℕ, Bool, true, false, cond, not, ◌&&◌, ◌||◌, List, [], ◌∷◌, ◌++◌, map, eqb}
use Rattle.std.proofs.Math.Option.{Option, none, some}
use Rattle.lists.specs.Lists.{any, keep, first}
use Rattle.rules.specs.Kinds.{Book, Entry, Mode, S, X, Name, on, end, Lock, Ask, read, insert, delete, Queued}
use Rattle.rules.specs.Entries.{Entries, at_most, same, ghost}

-- "S goes with S, everything else conflicts."
abbrev pub conflict : Mode → Mode → Bool
conflict S S = false
conflict S X = true
conflict X S = true
conflict X X = true

-- "X replaces S in its slot and is never weakened."
abbrev pub stronger : Mode → Mode → Mode
stronger S m = m
stronger X m = X

-- the locks that stand in the slots, in their order
unfoldable pub in_use : {K : Type 0} → List (Option (Lock K)) → List (Lock K)
in_use [] = []
in_use (none ∷ ls) = in_use ls
in_use (some l ∷ ls) = l ∷ in_use ls

module _ (B : Book) where
  abbrev pub Slots : Type 0
  Slots = List (Option (Lock B.Key))

  abbrev pub same_name : Name B.Key → Name B.Key → Bool
  same_name (on a) (on b) = same B a b
  same_name (on a) end = false
  same_name end (on b) = false
  same_name end end = true

  -- t's lock on a name
  abbrev pub is_of : ℕ → Name B.Key → Lock B.Key → Bool
  is_of t n l = eqb l.holder t && same_name l.name n

  abbrev pub holds : Slots → ℕ → Name B.Key → Bool
  holds ls t n = any (is_of t n) (in_use ls)

  -- "A transaction has at most one lock per name; X replaces S in its slot": the slot of t's lock on n, strengthened
  abbrev pub raised : ℕ → Name B.Key → Mode → Option (Lock B.Key) → Option (Lock B.Key)
  raised t n m none = none
  raised t n m (some l) =
      some (cond (is_of t n l) (record { name = l.name; holder = l.holder; mode = stronger l.mode m }) l)

  -- "A new lock takes the lowest free slot"; none where all are in use
  abbrev pub behind : Option (Lock B.Key) → Option Slots → Option Slots
  behind x none = none
  behind x (some ls) = some (x ∷ ls)

  unfoldable pub added : Lock B.Key → Slots → Option Slots
  added l [] = none
  added l (none ∷ ls) = some (some l ∷ ls)
  added l (some x ∷ ls) = behind (some x) (added l ls)

  -- the table when t has taken n in mode m; none where "a new lock is needed and all are in use"
  unfoldable pub taken : Slots → ℕ → Name B.Key → Mode → Option Slots
  taken ls t n m =
      cond (holds ls t n) (some (map (raised t n m) ls)) (added (record { name = n; holder = t; mode = m }) ls)

  -- "Locks last until the transaction ends": the table without t's locks
  abbrev pub freed : ℕ → Option (Lock B.Key) → Option (Lock B.Key)
  freed t none = none
  freed t (some l) = cond (eqb l.holder t) none (some l)

  unfoldable pub released : ℕ → Slots → Slots
  released t ls = map (freed t) ls

  -- The target: "read lo..hi: first entry at or above lo that is above hi or isn't the asker's own ghost, else the end";
  -- "insert k: first entry at or above k, else the end"; "delete k: the same". The end is `none`.
  abbrev pub counts : ℕ → B.Key → B.Key → Entry B.Key B.Rec → Bool
  counts t lo hi e = at_most B lo e.key && (not (at_most B e.key hi) || not (eqb e.owner t && ghost e))

  unfoldable pub target : Entries B → ℕ → Ask B.Key B.Rec → Option (Entry B.Key B.Rec)
  target es t (read lo hi) = first (counts t lo hi) es
  target es t (insert k r) = first (λ e. at_most B k e.key) es
  target es t (delete k) = first (λ e. at_most B k e.key) es

  abbrev pub named : Option (Entry B.Key B.Rec) → Name B.Key
  named none = end
  named (some e) = on e.key

  -- the target if it is k
  abbrev pub itself : B.Key → Option (Entry B.Key B.Rec) → Option (Entry B.Key B.Rec)
  itself k none = none
  itself k (some e) = cond (same B e.key k) (some e) none

  -- "insert k: S if it is k, otherwise X for the instant only"; "delete k: X if it is k, otherwise S"
  abbrev pub mode_if : Mode → Mode → Option (Entry B.Key B.Rec) → Mode
  mode_if m n (some e) = m
  mode_if m n none = n

  unfoldable pub mode : Ask B.Key B.Rec → Option (Entry B.Key B.Rec) → Mode
  mode (read lo hi) x = S
  mode (insert k r) x = mode_if S X (itself k x)
  mode (delete k) x = mode_if X S (itself k x)

  -- what a request wants, "worked out afresh from the index each time it is needed"
  pub record Want : Type 0 where
    pub name : Name B.Key
    pub mode : Mode

  unfoldable pub wanted : Entries B → Queued B.Key B.Rec → Want
  wanted es q =
      let x = target es q.asker q.asks in record { name = named x; mode = mode q.asks x }

  -- "T is blocked by another U if U holds the target in a conflicting mode;"
  unfoldable pub holders : Slots → ℕ → Want → List ℕ
  holders ls t w =
      map (λ l. l.holder)
      (keep (λ l. not (eqb l.holder t) && (same_name l.name w.name && conflict l.mode w.mode)) (in_use ls))

  -- "or if T holds no lock on it and U has an earlier waiting request with the same target and a conflicting mode."
  abbrev pub clash : Want → Want → Bool
  clash v w = same_name v.name w.name && conflict v.mode w.mode

  unfoldable pub earlier : Entries B → List (Queued B.Key B.Rec) → ℕ → Want → List ℕ
  earlier es ahead t w = map (λ q. q.asker) (keep (λ q. not (eqb q.asker t) && clash (wanted es q) w) ahead)

  -- all who block a request; those ahead of it in the queue are the earlier ones
  unfoldable pub blockers : Entries B → Slots → List (Queued B.Key B.Rec) → Queued B.Key B.Rec → List ℕ
  blockers es ls ahead q =
      let w = wanted es q in
      holders ls q.asker w ++ cond (holds ls q.asker w.name) [] (earlier es ahead q.asker w)
