-- What holds between calls, whatever was asked: the invariants, each by name. (Document 01, "Whole", as far as it is about values.)
-- Assumes nothing.
use Rattle.std.specs.Prelude.{ℕ, suc, ◌≡◌, Bool, true, false, not, ◌&&◌, ◌||◌, eqb, length}
use Rattle.lists.specs.Lists.{all, any, pairs, In}
use Rattle.rules.specs.Kinds.{Book, Mode, S, X, Name, on, end, Lock}
use Rattle.rules.specs.Entries.{Entries, at_most, same, present}
use Rattle.rules.specs.Locks.{Slots, in_use, conflict, same_name, is_of}
use Rattle.rules.specs.Queue.{St, Q}
use Rattle.rules.specs.Runs.{En}
use Rattle.rules.specs.Desk.{runs, legal_ask}

abbrev pub is_x : Mode → Bool
is_x S = false
is_x X = true

module _ (B : Book) where
  abbrev pub Lk : Type 0
  Lk = Lock B.Key

  -- "keys .. strictly ascending", "none of them the end"
  abbrev pub below : En B → En B → Bool
  below a b = not (at_most B b.key a.key)

  unfoldable pub ascending : Entries B → Bool
  ascending es = pairs below es && all (λ e. B.legal e.key) es

  -- W1: "locks only on entries or the end, held by running transactions"
  abbrev pub is_name : Entries B → Name B.Key → Bool
  is_name es (on k) = any (λ e. same B e.key k) es
  is_name es end = true

  unfoldable pub lock_stands : St B → Lk → Bool
  lock_stands s l = runs B s l.holder && is_name s.entries l.name

  -- W2: "compatible, one per holder and name": of two locks on one name the holders differ and the modes go together
  unfoldable pub together : Lk → Lk → Bool
  together k l =
      not (same_name B k.name l.name) || (not (eqb k.holder l.holder) && not (conflict k.mode l.mode))

  -- W3: "owners running and holding X on their entry"
  abbrev pub holds_x : Slots B → ℕ → Name B.Key → Bool
  holds_x ls t n = any (λ l. is_of B t n l && is_x l.mode) (in_use ls)

  unfoldable pub owner_holds : St B → En B → Bool
  owner_holds s e = eqb e.owner 0 || (runs B s e.owner && holds_x s.slots e.owner (on e.key))

  -- Q: "queue without repeats, exactly the waiting ones, each legal by 12": who waits is who is queued, and runs
  unfoldable pub queue_stands : St B → Q B → Bool
  queue_stands s q = runs B s q.asker && legal_ask B q.asks

  abbrev pub other_asker : Q B → Q B → Bool
  other_asker p q = not (eqb p.asker q.asker)

  -- W4: "Owner 0 means settled: present, with now and before equal."
  pub record Settled (e : En B) : Type 0 where
    pub is_there : present e ≡ true
    pub equal : e.now ≡ e.before

  pub record Good (s : St B) : Type 0 where
    pub slots : length s.slots ≡ B.locks
    pub marks : length s.marks ≡ suc B.transactions
    pub nobody : runs B s 0 ≡ false
    pub keys : ascending s.entries ≡ true
    pub names : all (lock_stands s) (in_use s.slots) ≡ true
    pub modes : pairs together (in_use s.slots) ≡ true
    pub owners : all (owner_holds s) s.entries ≡ true
    pub settled : (e : En B) → In e s.entries → e.owner ≡ 0 → Settled e
    pub queued : all (queue_stands s) s.queue ≡ true
    pub askers : pairs other_asker s.queue ≡ true
