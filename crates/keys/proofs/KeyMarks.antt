-- The marks of a key: what lies from the lowest to the highest is below the end.
-- A number is at most the highest where its successor is at most the end.
use Prim.Native.Nat.{ℕ}
use mathlib.Core.Path.{◌≡◌, sym, ap, ◌∙◌}
use mathlib.Core.Bool.{◌&&◌}
use lib.Dec.{leb, ltb, leb-zero, leb-suc-suc}
use Rattle.rules.specs.Document.{end_mark}

pub key_range : (k : ℕ) → (leb 0 k && leb k 18446744073709551614) ≡ ltb k end_mark
key_range k = ap (λ b. b && leb k 18446744073709551614) (leb-zero k) ∙ sym (leb-suc-suc k 18446744073709551614)
