-- Without time slicing all services go in rotation through the slots that the INT leaves.
use Rattle.std.proofs.Common.{◌≡◌, ℕ, zero, suc, ◌+◌, ◌/◌, ◌%◌, Bool, cond, List, [], ◌∷◌, length, refl, ap, ap₂, ◌∙◌, arith, Option, Some, None}
use Rattle.std.specs.Prelude.{is_some}
use Rattle.std.specs.List.{filter_map, cons_option}
use Rattle.std.specs.Option.{option_or, unwrap_or}
use Rattle.ts_spec.specs.Packet.{PacketFields}
use Rattle.slice_spec.specs.Windows.{OwnedWindow, owner_of}
use Rattle.plan_spec.specs.Plan.{KindFields, kinds, SlicedFields, sliced_of, sliced}
use Rattle.plan_spec.specs.Signalling.{table_packets}
use Rattle.stream_spec.specs.Slots.{Slot, Turns, next_service, served, turns_at, slot_of_service, slot_at, kept_for_table}
use Rattle.stream_spec.specs.Windows.{owned, windows_from, of_owner}
use Rattle.stream_spec.specs.Parts.{PartFields, service_packets, packet_counts, turn_count, turn_counts, sizes_in, kept_in, slot_in}
use Rattle.stream_law.specs.Words.{carried_in}
use Rattle.stream_law.proofs.Carrying.{same_length}

-- what is kept alike carries alike
module _ (kept other : ℕ → Option Slot) (packets : List ℕ) (same : (s : ℕ) → kept s ≡ other s) where
  turns_same : (s : ℕ) → turns_at kept packets s ≡ turns_at other packets s
  unfolding turns_at
  turns_same zero = refl
  turns_same (suc s) =
      ap₂ (λ (is : Bool) (t : Turns). cond is t (served t (next_service packets t))) (ap (λ (o : Option Slot). is_some o) (same s)) (turns_same s)

  pub slot_same : (s : ℕ) → slot_at kept packets s ≡ slot_at other packets s
  slot_same s = ap₂ (λ (o : Option Slot) (t : Turns). unwrap_or o (slot_of_service t (next_service packets t))) (same s) (turns_same s)

or_none : (o : Option Slot) → option_or o None ≡ o
or_none None = refl
or_none (Some slot) = refl

no_windows : (k : ℕ) (all : List KindFields) → filter_map sliced_of all ≡ [] → windows_from k all ≡ []
no_windows k [] none = refl
no_windows k (kind ∷ all) none = by_window (sliced_of kind) none (no_windows (k + 1) all)
  where
    by_window : (window : Option SlicedFields) → cons_option window (filter_map sliced_of all) ≡ [] → (filter_map sliced_of all ≡ [] → windows_from (k + 1) all ≡ [])
        → cons_option (owned k window) (windows_from (k + 1) all) ≡ []
    by_window None others later = later others
    by_window (Some fields) others later = absurd (cc (others))

all_turns : (all : List KindFields) (services : List (List PacketFields)) → filter_map sliced_of all ≡ [] → length all ≡ length services
    → turn_counts all services ≡ packet_counts services
all_turns [] [] none same = refl
all_turns [] (packets ∷ services) none same = absurd (omega (arith, same))
all_turns (kind ∷ all) [] none same = absurd (omega (arith, same))
all_turns (kind ∷ all) (packets ∷ services) none same = by_window (sliced_of kind) none (λ others. all_turns all services others (omega (arith, same)))
  where
    by_window : (window : Option SlicedFields) → cons_option window (filter_map sliced_of all) ≡ [] → (filter_map sliced_of all ≡ [] → turn_counts all services ≡ packet_counts services)
        → turn_count (is_some window) packets ∷ turn_counts all services ≡ length packets ∷ packet_counts services
    by_window None others later = ap (λ (l : List ℕ). length packets ∷ l) (later others)
    by_window (Some fields) others later = absurd (cc (others))

module _ (part : PartFields) (none : sliced part.plan ≡ []) where
  kept_same : (s : ℕ) → kept_in part s ≡ kept_for_table part.plan.cycle (table_packets part.plan) s
  kept_same s =
      ap (λ (windows : List OwnedWindow). option_or (kept_for_table part.plan.cycle (table_packets part.plan) s)
      (of_owner (sizes_in part) (s / part.plan.cycle) (owner_of windows (s % part.plan.cycle)))) (no_windows 0 (kinds part.plan) none)
      ∙ or_none (kept_for_table part.plan.cycle (table_packets part.plan) s)

  pub by_turns : (s : ℕ) → slot_in part s ≡ carried_in part.plan.cycle (table_packets part.plan) (packet_counts (service_packets part)) s
  by_turns s =
      slot_same (kept_in part) (kept_for_table part.plan.cycle (table_packets part.plan)) (turn_counts (kinds part.plan) (service_packets part)) kept_same s
      ∙ ap (λ (counts : List ℕ). carried_in part.plan.cycle (table_packets part.plan) counts s)
      (all_turns (kinds part.plan) (service_packets part) none (same_length part))
