-- Demand 3, of any run of calls from a fresh index, in the words of the demand. Assumes nothing.
use Rattle.std.specs.Prelude.{ℕ, ◌≡◌, Bool, true, false, not, ◌&&◌, List, ◌∷◌, ◌++◌, eqb}
use Rattle.std.proofs.Math.Option.{Option, none, some}
use Rattle.lists.specs.Lists.{first, all, In}
use Rattle.rules.specs.Kinds.{Book, read, insert, delete, Request, begin, commit, rollback, ask, Lock}
use Rattle.rules.specs.Entries.{Entries, same}
use Rattle.rules.specs.Locks.{in_use, same_name, conflict}
use Rattle.rules.specs.Runs.{En, waits_already}
use Rattle.rules.specs.Desk.{Cl, fresh, after}
use Rattle.rules.specs.Chains.{ChainsEnd}
use Rattle.promises.specs.Story.{Deed, story, Faithful, Seamless, Range, told, within, ends, is_done}

module _ (B : Book) where
  -- presence and record of a key now
  abbrev pub now_in : Option (En B) → Option B.Rec
  now_in none = none
  now_in (some e) = e.now

  unfoldable pub now_at : Entries B → B.Key → Option B.Rec
  now_at es x = now_in (first (λ e. same B e.key x) es)

  -- "no two transactions hold conflicting locks"
  pub record NoConflict (cs : List (Cl B)) : Type 0 where
    pub apart : (k l : Lock B.Key)
        → In k (in_use (after B (fresh B) cs).slots) → In l (in_use (after B (fresh B) cs).slots)
        → (k.holder ≡ l.holder → ⊥) → same_name B k.name l.name ≡ true → conflict k.mode l.mode ≡ false

  -- "no key inside a range that a running transaction was told about has been changed by another since that answer": of an answer a that
  -- told t about a range, and a later deed m of another while t has not ended, m leaves presence and record of every key of the range
  pub record NothingChanged (cs : List (Cl B)) : Type 0 where
    pub unchanged : (xs ys zs : List (Deed B)) (a m : Deed B) (g : Range B) (x : B.Key)
        → story B cs ≡ xs ++ (a ∷ ys ++ (m ∷ zs))
        → told B a.request a.says ≡ some g → within B g x ≡ true
        → all (λ d. not (ends B a.actor d)) ys ≡ true
        → (m.actor ≡ a.actor → ⊥)
        → now_at m.after x ≡ now_at m.before x

  -- whether a deed is t's own change of a key of a range
  abbrev pub changes : Range B → Request B.Key B.Rec → Bool
  changes g (ask (insert k r)) = within B g k
  changes g (ask (delete k)) = within B g k
  changes g (ask (read k l)) = false
  changes g begin = false
  changes g commit = false
  changes g rollback = false

  abbrev pub own_change : ℕ → Range B → Deed B → Bool
  own_change t g d = (eqb d.actor t && is_done B d.says) && changes g d.request

  -- what a coach would ask: a running transaction that repeats what it asked and was told about, a read (1 or 2), a delete (2) or an insert
  -- (16), and has itself changed nothing that it was told about, gets the same answer. (15 apart, which it gets where it asks while it waits.)
  pub record SameAgain (cs : List (Cl B)) : Type 0 where
    pub again : (xs ys zs : List (Deed B)) (a m : Deed B) (g : Range B)
        → story B cs ≡ xs ++ (a ∷ ys ++ (m ∷ zs))
        → told B a.request a.says ≡ some g
        → m.actor ≡ a.actor → m.request ≡ a.request → (m.says ≡ waits_already → ⊥)
        → all (λ d. not (ends B a.actor d)) ys ≡ true
        → all (λ d. not (own_change a.actor g d)) ys ≡ true
        → m.says ≡ a.says

  -- what a board would ask: then and now. t knows of x where an answer of the story told it about a range with x in it, and it has not ended
  -- since;
  pub record KnowsOf (t : ℕ) (x : B.Key) (ds : List (Deed B)) : Type 0 where
    pub earlier : List (Deed B)
    pub answer : Deed B
    pub since : List (Deed B)
    pub parts : ds ≡ earlier ++ (answer ∷ since)
    pub actor : answer.actor ≡ t
    pub range : Range B
    pub told : told B answer.request answer.says ≡ some range
    pub inside : within B range x ≡ true
    pub runs_on : all (λ d. not (ends B t d)) since ≡ true

  -- and while it neither ends nor changes x itself, presence and record of x now are those of then: of two moments of a run, the first after
  -- the calls cs, the second when `more` came after them; ds is what was answered in between
  abbrev pub leaves_alone : ℕ → B.Key → Deed B → Bool
  leaves_alone t x d = not (ends B t d) && not (own_change t (record { low = x; high = x }) d)

  pub record ThenAndNow (cs more : List (Cl B)) : Type 0 where
    pub same : (ds : List (Deed B)) (t : ℕ) (x : B.Key)
        → story B (cs ++ more) ≡ story B cs ++ ds
        → KnowsOf t x (story B cs)
        → all (leaves_alone t x) ds ≡ true
        → now_at (after B (fresh B) (cs ++ more)).entries x ≡ now_at (after B (fresh B) cs).entries x
    -- the story goes on where it was: there is such a ds
    pub goes_on : (ds : List (Deed B)) × (story B (cs ++ more) ≡ story B cs ++ ds)

  -- demand 3, whole; and the story that it goes by is the answers that were given, with nothing changed in between
  pub record Demand3 (cs : List (Cl B)) : Type 0 where
    pub answers : Faithful B cs
    pub seamless : Seamless B (fresh B).entries (story B cs) (after B (fresh B) cs).entries
    pub locks : NoConflict cs
    pub ranges : NothingChanged cs
    pub again : SameAgain cs
    pub chains : ChainsEnd B (after B (fresh B) cs)
