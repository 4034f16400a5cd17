-- A call sent as its record, with just enough space, is bytes; so every case can be bowled: there is a run of its calls from a fresh picture, and
-- the table's claim says something of each. Assumes nothing.
use Prim.Native.Nat.{ℕ}
use mathlib.Core.Path.{◌≡◌, refl, subst}
use mathlib.Core.Bool.{true, not}
use mathlib.Core.List.{List, ◌∷◌, map, map-map}
use lib.ListN.{replicate}
use Rattle.limits.specs.Limits.{space_least}
use Rattle.lists.specs.Lists.{In}
use Rattle.lists.proofs.Elements.{in_all, map_in}
use Rattle.numbers.specs.Numbers.{Bytes, width_of}
use Rattle.numbers.proofs.BytesKept.{bytes_zeros, bytes_put_fields}
use Rattle.rules.specs.Kinds.{Call}
use Rattle.rules.specs.Cases.{Over, Case}
use Rattle.requests.specs.RequestRecord as W
use Rattle.calls.specs.Promise.{short_space}
use Rattle.calls.specs.Calls.{Sent, Back, BytesSent}
use Rattle.calls.proofs.SomeOutcome.{some_run}
use Rattle.cases.specs.Overs as O

abbrev pub space : List ℕ
space = replicate space_least 0

abbrev pub sent : Call ℕ ℕ → Sent
sent c = record { request = O.request_record c; space = space }

pub sent_bytes : (c : Call ℕ ℕ) → Bytes (O.request_record c)
unfolding O.request_record
sent_bytes c =
    let r = c.request in
    let form = W.form_of (O.kind_of r) in
    bytes_put_fields form (replicate (width_of form) 0) 0 (width_of form ∷ O.kind_of r ∷ c.asker ∷ 0 ∷ O.follows_head r) (bytes_zeros (width_of form))

-- ---- a case's calls
abbrev over_sent : Over → Sent
over_sent o = sent o.bowled

sent_in : (os : List Over) (a : Sent) → In a (map over_sent os) → (o : Over) × (over_sent o ≡ a)
sent_in os a i = let w = map_in over_sent os a i in (w.0, w.2)

bytes_sent : (os : List Over) → BytesSent (map over_sent os)
bytes_sent os =
    record {
      requests = λ a i. let w = sent_in os a i in subst (λ (b : Sent). Bytes b.request) w.1 (sent_bytes w.0.bowled);
      spaces = λ a i. let w = sent_in os a i in subst (λ (b : Sent). Bytes b.space) w.1 (bytes_zeros space_least);
    }

pub record Playable (c : Case) : Type 0 where
  pub sends : List Sent
  pub backs : List Back
  pub pages : List ℕ
  pub desk : List ℕ
  pub bowled : O.Bowled c sends backs pages desk

pub playable : (c : Case) → Playable c
playable c =
    let os = c.overs in
    let l = some_run (map over_sent os) (bytes_sent os) in
    record {
      sends = map over_sent os;
      backs = l.backs;
      pages = l.pages;
      desk = l.desk;
      bowled =
          record {
            records = map-map (λ (a : Sent). a.request) over_sent os;
            room = in_all _ (map over_sent os) (λ a i. let w = sent_in os a i in subst (λ (b : Sent). not (short_space b.space) ≡ true) w.1 refl);
            run = l.run;
          };
    }
