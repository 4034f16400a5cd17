-- `index::search::seek` meets its contract. The loop's invariant: what is sought is what the children from i on have first.
-- The level falls with each call. Assumes nothing.
use Prim.Native.Nat.{ℕ}
use mathlib.Core.Path.{◌≡◌}
use Rattle.lists.specs.Lists.{first}
use Rattle.trees.specs.Trees.{flat}
use Rattle.index.specs.Pictures.{Item, tree_of}
use Rattle.index.specs.Searches.{seeks}
use Rattle.index.proofs.SearchTurns.{found_from}
use Rattle.index.proofs.search.+seek.Given as goal

abbrev pub invariant-loop-i : goal.invariant-loop-i
invariant-loop-i l = first (seeks l.w) (flat ℕ Item l.level (tree_of l.level l.pages l.pg)) ≡ found_from l.level l.pages l.pg l.w l.n l.i

abbrev pub decreases-seek : goal.decreases-seek
decreases-seek l = l.level
