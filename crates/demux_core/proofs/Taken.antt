-- One record more of those that a receiver has taken.
use Rattle.std.proofs.Common.{◌≡◌, ℕ, ◌-◌, List, [], ◌∷◌, ◌++◌, length, drop, false, refl, ap, sym, ◌∙◌, subst, arith, Option}
use Rattle.wire_spec.specs.Causes.{Rose, raised}
use Rattle.ts_spec.specs.Recording.{Record}
use Rattle.plan_spec.specs.Plan.{PlanFields}
use Rattle.reception_spec.specs.Delivered.{told_pairs, pairs_of_record}
use Rattle.reception_law.proofs.DeliveredPairs.{pairs_more}
use Rattle.outlet_spec.specs.Pairs.{Delivers, DeliversFront}
use Rattle.outlet_spec.proofs.Pairs.{delivers_then, front_then}
use Rattle.demux_core.specs.Receiving.{ReceiverState, HasReceived}
use Rattle.demux_core.specs.Taking.{TookRecords, StoppedInRecord}

module _ (start mid now : ReceiverState) (old mids new : List (ℕ × List ℕ) → Type 0) (faults mid_faults now_faults : ℕ) (records : List Record) (r : Record)
    (took : TookRecords start mid old mids faults mid_faults records)
    (received : (plan : PlanFields) (given : List Record) → HasReceived false plan given mid → HasReceived false plan (given ++ r ∷ []) now) where
  pub took_record : ((plan : PlanFields) (given : List Record) → HasReceived false plan given mid → Delivers mids new (pairs_of_record plan (given ++ r ∷ []) (length given)))
      → now_faults ≡ mid_faults → TookRecords start now old new faults now_faults (records ++ r ∷ [])
  took_record written kept = λ plan fresh.
      let so_far = took plan fresh in
      record {
        received = received plan records so_far.received;
        delivers = subst (λ (pairs : List (ℕ × List ℕ)). Delivers old new pairs) (sym (pairs_more plan records r))
            (delivers_then old mids new (told_pairs plan records) (pairs_of_record plan (records ++ r ∷ []) (length records)) so_far.delivers (written plan records so_far.received));
        outlet_faults = kept ∙ so_far.outlet_faults;
      }

  pub stopped_in_record : (refused : ℕ → List ℕ → Type 0)
      → ((plan : PlanFields) (given : List Record) → HasReceived false plan given mid → DeliversFront mids new refused (pairs_of_record plan (given ++ r ∷ []) (length given)))
      → Rose mid_faults now_faults → StoppedInRecord start now old new refused faults now_faults (records ++ r ∷ [])
  stopped_in_record refused failed rose = λ plan fresh.
      let so_far = took plan fresh in
      let stop = failed plan records so_far.received in
      record {
        received = received plan records so_far.received;
        stops = front_then old mids new refused (told_pairs plan records) (pairs_of_record plan (records ++ r ∷ []) (length records)) (told_pairs plan (records ++ r ∷ []))
            (pairs_more plan records r) so_far.delivers stop;
        before = records;
        last = r;
        records_are = refl;
        front = stop.front;
        late = refl;
        gives = stop.pairs_are;
        rose = rose ∙ ap (λ (n : ℕ). raised n 1) so_far.outlet_faults;
      }

-- A slice of 188 bytes is a packet.

pub whole_packet : (bytes packet : List ℕ) → length bytes ≡ 188 → packet ≡ drop (length bytes - 188) bytes → packet ≡ bytes
whole_packet bytes packet size is = let none : length bytes - 188 ≡ 0 = omega (arith, size) in is ∙ ap (λ (n : ℕ). drop n bytes) none

pub took_whole : (start now : ReceiverState) (old new : List (ℕ × List ℕ) → Type 0) (faults now_faults : ℕ) (records : List Record) (moment : Option ℕ) (packet bytes : List ℕ) → packet ≡ bytes
    → TookRecords start now old new faults now_faults (records ++ record { moment = moment; bytes = packet } ∷ [])
    → TookRecords start now old new faults now_faults (records ++ record { moment = moment; bytes = bytes } ∷ [])
took_whole start now old new faults now_faults records moment packet bytes same took =
    subst (λ (b : List ℕ). TookRecords start now old new faults now_faults (records ++ record { moment = moment; bytes = b } ∷ [])) same took

pub stopped_whole : (start now : ReceiverState) (old new : List (ℕ × List ℕ) → Type 0) (refused : ℕ → List ℕ → Type 0) (faults now_faults : ℕ) (records : List Record) (moment : Option ℕ)
    (packet bytes : List ℕ) → packet ≡ bytes
    → StoppedInRecord start now old new refused faults now_faults (records ++ record { moment = moment; bytes = packet } ∷ [])
    → StoppedInRecord start now old new refused faults now_faults (records ++ record { moment = moment; bytes = bytes } ∷ [])
stopped_whole start now old new refused faults now_faults records moment packet bytes same stopped =
    subst (λ (b : List ℕ). StoppedInRecord start now old new refused faults now_faults (records ++ record { moment = moment; bytes = b } ∷ [])) same stopped
