-- A record written on its own, into zeros: its length, its bytes, and what is read of it.
-- By the laws of records. Assumes nothing.
use Prim.Native.Nat.{ℕ}
use mathlib.Core.Path.{◌≡◌, ◌∙◌}
use mathlib.Core.List.{List}
use native.Mathlib.Omega.{arith}
use lib.ListN.{length, replicate, length-replicate}
use Rattle.numbers.specs.Numbers.{width_of, fields_at, Fits, Bytes}
use Rattle.numbers.proofs.Agree.{Agree}
use Rattle.numbers.proofs.Fields.{fields_at_ext, length_put_fields, fields_same}
use Rattle.numbers.proofs.BytesKept.{bytes_put_fields, bytes_zeros}
use Rattle.states.specs.States.{written}

-- ---- a record on its own
module _ (ws vs : List ℕ) where
  pub length_written : length (written ws vs) ≡ width_of ws
  length_written = length_put_fields ws (replicate (width_of ws) 0) 0 vs ∙ length-replicate (width_of ws) 0

  pub bytes_written : Bytes (written ws vs)
  bytes_written = bytes_put_fields ws (replicate (width_of ws) 0) 0 vs (bytes_zeros (width_of ws))

  -- bytes that are those of a record written are its fields
  pub fields_written : Fits ws vs → {s : List ℕ} {at : ℕ} → Agree (width_of ws) s at (written ws vs) 0 → fields_at ws s at ≡ vs
  fields_written f g =
      fields_at_ext ws g ∙ fields_same ws (replicate (width_of ws) 0) 0 vs f (omega (arith, length-replicate {A = ℕ} (width_of ws) 0))
