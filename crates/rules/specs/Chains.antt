-- Demand 3, chains of waits: "nobody waits in a circle, and following whom one waits behind reaches, within fifteen links, a running
-- transaction that isn't waiting". Fifteen is `links_most`, one fewer than there are transactions. Assumes nothing.
use Rattle.std.specs.Prelude.{ℕ, zero, suc, ◌≤◌, ◌≡◌, ◌≢◌, ◌⊎◌, true, false, not, List, [], ◌∷◌, eqb, length}
use Rattle.std.proofs.Math.Option.{Option, none, some}
use Rattle.lists.specs.Lists.{In, pairs}
use Rattle.rules.specs.Kinds.{Book}
use Rattle.rules.specs.Queue.{St, Wait, waits, blocker_of, links_most}
use Rattle.rules.specs.Desk.{runs, waits_now}

module _ (B : Book) where
  -- t waits behind u: t has a request in the queue, and u blocks it
  pub record Behind (s : St B) (t u : ℕ) : Type 0 where
    pub wait : Wait B
    pub queued : In wait (waits B s)
    pub asker : wait.request.asker ≡ t
    pub blocker : In u wait.behind

  -- a chain of waits: t waits behind the first of the list, that one behind the second, and so on, a link for each
  abbrev pub Chain : St B → ℕ → List ℕ → Type 0
  Chain s t [] = Unit {0}
  Chain s t (u ∷ us) = Behind s t u × Chain s u us

  -- the one at which a chain from t ends
  abbrev pub end_of : ℕ → List ℕ → ℕ
  end_of t [] = t
  end_of t (u ∷ us) = end_of u us

  -- a circle: a chain of one link or more that comes back to where it began
  pub record Circle (s : St B) (t : ℕ) : Type 0 where
    pub next : ℕ
    pub others : List ℕ
    pub chain : Chain s t (next ∷ others)
    pub back : end_of next others ≡ t

  -- "a running transaction that isn't waiting"
  pub record Free (s : St B) (t : ℕ) : Type 0 where
    pub it_runs : runs B s t ≡ true
    pub it_waits_not : waits_now B s t ≡ false

  -- following whom one waits behind reaches a free one within so many links, whichever blocker is taken at each
  abbrev pub ReachesFree : St B → ℕ → ℕ → Type 0
  ReachesFree s zero t = Free s t
  ReachesFree s (suc links) t =
      Free s t ⊎ (((u : ℕ) × Behind s t u) × ((u : ℕ) → Behind s t u → ReachesFree s links u))

  -- Document 02, [4]: u is the one whom t is told of: t waits behind it, it is somebody, and nobody whom t waits behind has a lower number
  pub record Named (s : St B) (t u : ℕ) : Type 0 where
    pub told : blocker_of B s t ≡ some u
    pub blocks : Behind s t u
    pub somebody : 1 ≤ u
    pub lowest : (v : ℕ) → Behind s t v → u ≤ v

  -- following the named ones alone, so many links; one who waits for nobody stays
  abbrev pub or_self : ℕ → Option ℕ → ℕ
  or_self t none = t
  or_self t (some u) = u

  unfoldable pub followed : St B → ℕ → ℕ → ℕ
  followed s zero t = t
  followed s (suc links) t = followed s links (or_self t (blocker_of B s t))

  -- what is promised of a desk at rest
  pub record ChainsEnd (s : St B) : Type 0 where
    -- who waits, waits behind someone, and only behind others that run
    pub someone : (t : ℕ) → waits_now B s t ≡ true → (u : ℕ) × Behind s t u
    pub another : (t u : ℕ) → Behind s t u → (runs B s u ≡ true) × (u ≢ t)
    -- "nobody waits in a circle"
    pub no_circle : (t : ℕ) → Circle s t → ⊥
    -- so a chain has nobody twice, and at most so many links
    pub nobody_twice : (t : ℕ) (us : List ℕ) → Chain s t us → pairs (λ u v. not (eqb u v)) (t ∷ us) ≡ true
    pub links : (t : ℕ) (us : List ℕ) → Chain s t us → length us ≤ links_most B
    -- "following whom one waits behind reaches, within fifteen links, a running transaction that isn't waiting"
    pub free : (t : ℕ) → runs B s t ≡ true → ReachesFree s (links_most B) t
    -- who waits is told of one; and following those alone leads, within as many links, to such a one too
    pub named : (t : ℕ) → waits_now B s t ≡ true → (u : ℕ) × Named s t u
    pub named_free : (t : ℕ) → runs B s t ≡ true → Free s (followed s (links_most B) t)
