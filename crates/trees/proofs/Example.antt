-- Document 01, "Overs to bowl at it": "One transaction inserts 1..24: one leaf. 25: separator 14, used 4." By computation.
-- Assumes nothing.
use Prim.Native.Nat.{ℕ, compare}
use mathlib.Core.Path.{◌≡◌, refl}
use mathlib.Core.List.{List, [], ◌∷◌}
use Rattle.lists.specs.Lists as L
use Rattle.trees.specs.Trees.{document_sizes, Index}
use Rattle.trees.specs.Growth as G
use Rattle.trees.specs.Shapes.{bare}

-- the keys put in one after the other
unfoldable pub inserted : List ℕ → Index ℕ ℕ → Index ℕ ℕ
inserted [] x = x
inserted (k ∷ ks) x = inserted ks (G.with_item compare (λ j. j) 0 document_sizes k x)

pub one_leaf : inserted (L.tab 24 1 (λ k. k)) bare ≡ record { level = 0; used = 2; tree = record { number = 1; holds = L.tab 24 1 (λ k. k) } }
unfolding inserted L.insert_before L.tab G.widened G.grown G.rooted G.with_item
one_leaf = refl

pub divided_leaf : inserted (L.tab 25 1 (λ k. k)) bare
    ≡ record {
      level = 1;
      used = 4;
      tree = record {
        number = 3;
        holds = record { low = 0; tree = record { number = 1; holds = L.tab 13 1 (λ k. k) } }
            ∷ record { low = 14; tree = record { number = 2; holds = L.tab 12 14 (λ k. k) } } ∷ [];
      };
    }
unfolding inserted L.insert_before L.tab G.widened G.grown G.rooted G.with_item
divided_leaf = refl
