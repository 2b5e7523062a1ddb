-- The packets of a part that go out in rotation, and those that go out in bursts.
use Rattle.std.proofs.Common.{◌≡◌, ℕ, zero, suc, ◌<◌, Bool, true, false, cond, get_or, List, [], ◌∷◌, length, refl, ap, ap₂, ◌∙◌, arith}
use Rattle.std.specs.Prelude.{slice_index_or, is_some}
use Rattle.ts_spec.specs.Packet.{PacketFields}
use Rattle.plan_spec.specs.Plan.{KindFields, mpe, kinds, sliced_of}
use Rattle.stream_spec.specs.Parts.{PartFields, service_packets, packet_counts, turn_count, turn_counts}
use Rattle.stream_spec.specs.Services.{kind_at}
use Rattle.stream_law.proofs.Carrying.{same_length, length-packets_from}
use Rattle.ts_mux.specs.Services.{in_rotation, rotation}

-- they are so many
counts_of : (all : List KindFields) (lists : List (List PacketFields)) → packet_counts (in_rotation all lists) ≡ turn_counts all lists
counts_of [] lists = refl
counts_of (kind ∷ all) [] = refl
counts_of (kind ∷ all) (list ∷ lists) = ap₂ (λ (n : ℕ) (ns : List ℕ). n ∷ ns) (by_kind (is_some (sliced_of kind))) (counts_of all lists)
  where
    by_kind : (is : Bool) → length (cond is [] list) ≡ turn_count is list
    by_kind true = refl
    by_kind false = refl

pub length-in_rotation : (all : List KindFields) (lists : List (List PacketFields)) → length all ≡ length lists → length (in_rotation all lists) ≡ length lists
length-in_rotation [] [] same = refl
length-in_rotation [] (list ∷ lists) same = absurd (omega (arith, same))
length-in_rotation (kind ∷ all) [] same = absurd (omega (arith, same))
length-in_rotation (kind ∷ all) (list ∷ lists) same = ap suc (length-in_rotation all lists (omega (arith, same)))

-- those of one service
pub rotation_at : (all : List KindFields) (lists : List (List PacketFields)) (k : ℕ) → length all ≡ length lists
    → slice_index_or (in_rotation all lists) k [] ≡ cond (is_some (sliced_of (get_or all k (mpe 0)))) [] (slice_index_or lists k [])
rotation_at [] [] k same = refl
rotation_at [] (list ∷ lists) k same = absurd (omega (arith, same))
rotation_at (kind ∷ all) [] k same = absurd (omega (arith, same))
rotation_at (kind ∷ all) (list ∷ lists) zero same = refl
rotation_at (kind ∷ all) (list ∷ lists) (suc k) same = rotation_at all lists k (omega (arith, same))

module _ (part : PartFields) where
  pub counts_are : packet_counts (rotation part) ≡ turn_counts (kinds part.plan) (service_packets part)
  counts_are = counts_of (kinds part.plan) (service_packets part)

  pub length-rotation : length (rotation part) ≡ length part.plan.services
  length-rotation =
      length-in_rotation (kinds part.plan) (service_packets part) (same_length part)
      ∙ length-packets_from part.packets_before part.schedules part.datagrams 0 part.plan.services

  -- a service that has some in rotation has them all there
  pub all_in_rotation : (k : ℕ) → 0 < length (slice_index_or (rotation part) k []) → slice_index_or (rotation part) k [] ≡ slice_index_or (service_packets part) k []
  all_in_rotation k some = at ∙ by_kind (is_some (sliced_of (kind_at part.plan k))) (omega (arith, some, ap (λ (ps : List PacketFields). length ps) at))
    where
      at : slice_index_or (rotation part) k [] ≡ cond (is_some (sliced_of (kind_at part.plan k))) [] (slice_index_or (service_packets part) k [])
      at = rotation_at (kinds part.plan) (service_packets part) k (same_length part)

      by_kind : (is : Bool) → 0 < length (cond is [] (slice_index_or (service_packets part) k [])) → cond is [] (slice_index_or (service_packets part) k []) ≡ slice_index_or (service_packets part) k []
      by_kind true none = absurd (omega (arith, none))
      by_kind false some2 = refl
