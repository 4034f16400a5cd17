-- `pages::inner::child_for` meets its contract. The invariant: the separators at 1 to i are at most the key. Assumes nothing.
use Prim.Native.Nat.{◌<◌}
use Rattle.pages.proofs.PageSearches.{ChildFrom}
use Rattle.pages.proofs.inner.child_for.Given as goal

abbrev pub invariant-loop-i : goal.invariant-loop-i
invariant-loop-i l = (l.i < l.n) × ChildFrom l.p l.key.0 l.n l.i
