-- The fresh desk: zeros with a head are the desk of free slots, an empty queue and no one running.
-- It says so number by number: behind the head every number is zero. Assumes nothing.
use Prim.Native.Nat.{ℕ, zero, suc, ◌+◌, ◌≤◌, ◌<◌}
use mathlib.Core.Path.{◌≡◌, refl, sym, ap, subst, ◌∙◌}
use mathlib.Core.List.{List, [], ◌∷◌}
use mathlib.Core.Option.{Option, none}
use native.Mathlib.Omega.{arith}
use lib.Dec.{lit<, lit≤}
use lib.ListN.{length, get_or, replicate, length-replicate, get_or-replicate}
use Rattle.limits.specs.Limits.{transactions_most, locks_most, desk_head_size, desk_size}
use Rattle.lists.specs.Lists.{In, pairs, first}
use Rattle.numbers.specs.Numbers.{width_of, fields_at, put_fields}
use Rattle.numbers.proofs.Agree.{Agree, Touches}
use Rattle.numbers.proofs.Numbers.{number_at_ext, number_none, number_apart}
use Rattle.numbers.proofs.Fields.{length_put_fields, touches_put_fields, fields_same, fields_apart, fields_zero}
use Rattle.numbers.proofs.BytesKept.{bytes_put_fields}
use Rattle.rules.specs.Kinds.{Lock, Mark, idle}
use Rattle.rules.specs.Locks.{in_use}
use Rattle.queue.specs.QueueLayout.{head_widths, queue_place, record_widths, record_place, record_at}
use Rattle.locks.specs.SlotLayout.{lock_widths, lock_place, slot_fields}
use Rattle.states.specs.States.{mark_number, desk_with}
use Rattle.states.specs.Fitting.{Fitting}
use Rattle.states.proofs.DeskSays.{head_fields, record_fields, Says}
use Rattle.states.proofs.DeskBytes.{desk_is}

abbrev pub free : List (Option (Lock ℕ))
free = replicate locks_most none

abbrev pub quiet : List Mark
quiet = replicate (suc transactions_most) idle

none_used : (n : ℕ) → in_use {K = ℕ} (replicate n none) ≡ []
unfolding in_use
none_used zero = refl
none_used (suc n) = none_used n

pub fresh_fits : Fitting free [] quiet
unfolding pairs
fresh_fits =
    record {
      slots = length-replicate {A = Option (Lock ℕ)} locks_most none;
      locks = λ l i. absurd (subst (λ ks. In l ks) (none_used locks_most) i);
      few = lit≤ tt;
      queued = λ q i. absurd i;
      askers = refl;
      marks = length-replicate {A = Mark} (suc transactions_most) idle;
      nobody = refl;
    }

-- a head written into zeros
module _ (z : List ℕ) (size : length z ≡ desk_size) (zeros : (k : ℕ) → get_or z k 0 ≡ 0) where
  abbrev pub fresh : List ℕ
  fresh = put_fields head_widths z 0 (head_fields 0)

  touched : Touches 0 desk_head_size z fresh
  unfolding width_of
  touched = touches_put_fields head_widths z 0 (head_fields 0)

  zero_at : (n at : ℕ) → Agree n z at [] 0
  zero_at n at = record { byte = λ k h. zeros (at + k) }

  behind : (ws : List ℕ) (at : ℕ) → desk_head_size ≤ at → fields_at ws fresh at ≡ replicate (length ws) 0
  behind ws at h = fields_apart ws at touched (omega arith) ∙ fields_zero ws (zero_at (width_of ws) at)

  record_is : (t : ℕ) → 1 ≤ t → t ≤ transactions_most → record_at fresh t ≡ record_fields [] quiet t
  unfolding record_at first
  record_is t low high =
      behind record_widths (record_place t) (omega arith)
      ∙ ap (λ m. mark_number m ∷ 0 ∷ 0 ∷ 0 ∷ 0 ∷ 0 ∷ []) (sym (get_or-replicate (suc transactions_most) t idle idle (omega arith)))

  row_is : (i : ℕ) → i < locks_most → fields_at lock_widths fresh (lock_place i) ≡ slot_fields (get_or free i none)
  unfolding slot_fields
  row_is i h = behind lock_widths (lock_place i) (omega arith) ∙ ap slot_fields (sym (get_or-replicate locks_most i none none h))

  fresh_says : Says fresh free [] quiet
  unfolding width_of
  fresh_says =
      record {
        len = length_put_fields head_widths z 0 (head_fields 0) ∙ size;
        bytes = bytes_put_fields head_widths z 0 (head_fields 0) (record { below = λ i. omega (arith, zeros i) });
        head = fields_same head_widths z 0 (head_fields 0) (lit< tt, (lit< tt, (lit< tt, (lit< tt, (lit< tt, (lit< tt, (lit< tt, tt))))))) (omega arith);
        places = λ i h. number_apart 2 (queue_place i) touched (omega arith) ∙ number_at_ext 2 (zero_at 2 (queue_place i)) ∙ number_none 2 0;
        records = record_is;
        rows = row_is;
      }

  pub fresh_desk_lem : fresh ≡ desk_with free [] quiet
  fresh_desk_lem = desk_is free [] quiet fresh_fits.slots fresh_fits.few fresh fresh_says
