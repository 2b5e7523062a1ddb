-- From slot to slot: how far the services are, and what each slot carries.
use Rattle.std.proofs.Common.{◌≡◌, ℕ, zero, suc, ◌+◌, ◌-◌, ◌/◌, ◌%◌, ◌<◌, ◌≤◌, Bool, true, false, cond, ltb, List, [], ◌∷◌, length, drop, set, refl, sym, ap, ap₂, ◌∙◌, arith, add-one, length-drop, subst, Option, Some, None}
use Rattle.std.specs.Prelude.{find, slice_index, slice_index_or}
use Rattle.std.specs.Option.{unwrap_or, option_or}
use Rattle.std.proofs.lemmas.List.{length-map, length-set}
use Rattle.ts_spec.specs.Packet.{PacketFields, null_packet}
use Rattle.ts_spec.specs.Packetized.{packet_at}
use Rattle.plan_spec.specs.Plan.{PlanFields, kinds, SlicedFields, sliced_of}
use Rattle.plan_spec.specs.Signalling.{table_packets}
use Rattle.plan_spec.specs.Valid.{is_plan}
use Rattle.plan_spec.specs.Wholes.{is_whole_plan}
use Rattle.slice_spec.specs.Windows.{AreApart, owner_of}
use Rattle.stream_spec.specs.Services.{kind_at}
use Rattle.stream_spec.specs.Slots.{Slot, of_table, of_service, asked, Turns, has_left, next_service, served, slot_of_service}
use Rattle.stream_spec.specs.Windows.{windows_of, sliced_at}
use Rattle.stream_spec.specs.Parts.{PartFields, service_packets, written, packet_in, packet_counts, turn_counts, sizes_in, kept_in, slot_in}
use Rattle.stream_spec.proofs.Over.{turns_kept, turns_served}
use Rattle.stream_law.proofs.Turns.{IsWithin, within_at}
use Rattle.stream_law.proofs.Next.{has_turn, true_ltb, false_ltb}
use Rattle.stream_law.proofs.Carrying.{count_of}
use Rattle.slice_law.proofs.PlanOwners.{plan_apart, owner_is}
use Rattle.ts_mux.specs.Services.{Serving, Bursts, bursts_of, has_packets, turn_of, TakesTurn, left_of, AreAt, rotation, opened_by, with_opened, burst_of, GivesBurst}
use Rattle.ts_mux.specs.IntPackets.{IsTableAt, packet_of_table}
use Rattle.ts_mux.specs.declared.int_packets.IntPackets.{IntPackets}
use Rattle.ts_mux.proofs.Signalled.{part_accepted, early_is, signalling_passes}
use Rattle.ts_mux.proofs.Windowed.{known_there}
use Rattle.ts_mux.proofs.Rotation.{counts_are, all_in_rotation}
use Rattle.ts_mux.proofs.Bursting.{drop_first}
use Rattle.ts_mux.proofs.OverWindows.{early_stays, closed_there, Rests, rests_there, Gives, gives_there}
use Rattle.ts_mux.specs.Slots.{turns_in, is_early, StandBefore, ServicesAt, TakesSlot}

-- What is left of services.

pub length-left_of : (services : List (List PacketFields)) (sent : List ℕ) → length (left_of services sent) ≡ length services
length-left_of [] sent = refl
length-left_of (packets ∷ services) [] = refl
length-left_of (packets ∷ services) (n ∷ sent) = ap suc (length-left_of services sent)

drop_none : (n : ℕ) → ◌≡◌ {A = List PacketFields} [] (drop n [])
drop_none zero = refl
drop_none (suc n) = refl

pub left_at : (services : List (List PacketFields)) (sent : List ℕ) (k : ℕ) → length sent ≡ length services → slice_index_or (left_of services sent) k [] ≡ drop (slice_index sent k) (slice_index_or services k [])
left_at [] [] k size = drop_none (slice_index [] k)
left_at [] (n ∷ sent) k size = absurd (omega (arith, size))
left_at (packets ∷ services) [] k size = absurd (omega (arith, size))
left_at (packets ∷ services) (n ∷ sent) zero size = refl
left_at (packets ∷ services) (n ∷ sent) (suc k) size = left_at services sent k (omega (arith, size))

set_left : (services : List (List PacketFields)) (sent : List ℕ) (k : ℕ) (rest : List PacketFields) → length sent ≡ length services → k < length services
    → rest ≡ drop (slice_index sent k + 1) (slice_index_or services k []) → set (left_of services sent) k rest ≡ left_of services (set sent k (slice_index sent k + 1))
set_left [] sent k rest size less is = absurd (omega (arith, less))
set_left (packets ∷ services) [] k rest size less is = absurd (omega (arith, size))
set_left (packets ∷ services) (n ∷ sent) zero rest size less is = ap (λ (ps : List PacketFields). ps ∷ left_of services sent) is
set_left (packets ∷ services) (n ∷ sent) (suc k) rest size less is =
    ap (λ (t : List (List PacketFields)). drop n packets ∷ t) (set_left services sent k rest (omega (arith, size)) (omega (arith, less)) is)

first_dropped : (packets : List PacketFields) (n : ℕ) (packet : PacketFields) (rest : List PacketFields) → drop n packets ≡ packet ∷ rest → (packet_at packets n ≡ packet) × (drop (n + 1) packets ≡ rest)
first_dropped packets n packet rest e = let it = drop_first packets n packet rest e in (it.0, ap (λ (m : ℕ). drop m packets) (add-one n) ∙ it.1)

-- The turn.

same_find : (p q : ℕ → Bool) → ((k : ℕ) → p k ≡ q k) → (xs : List ℕ) → find p xs ≡ find q xs
same_find p q same [] = refl
same_find p q same (x ∷ xs) = ap₂ (λ (b : Bool) (o : Option ℕ). cond b (Some x) o) (same x) (same_find p q same xs)

module _ (services : List (List PacketFields)) (turns : Turns) (within : IsWithin (packet_counts services) turns) (serving : Serving) (at : AreAt services turns serving) where
  sized : length turns.sent ≡ length services
  sized = omega (arith, within.size, length-map services (λ (packets : List PacketFields). length packets))

  has_same : (k : ℕ) → has_packets serving.turns k ≡ has_left (packet_counts services) turns.sent k
  has_same k = compared (slice_index turns.sent k) (slice_index (packet_counts services) k) (slice_index (packet_counts serving.turns) k) counts
    where
      counts : slice_index (packet_counts serving.turns) k ≡ slice_index (packet_counts services) k - slice_index turns.sent k
      counts = count_of serving.turns k ∙ ap (λ (ps : List (List PacketFields)). length (slice_index_or ps k [])) at.packets ∙ ap (λ (ps : List PacketFields). length ps) (left_at services turns.sent k sized)
          ∙ length-drop (slice_index turns.sent k) (slice_index_or services k []) ∙ ap (λ (n : ℕ). n - slice_index turns.sent k) (sym (count_of services k))

      compared : (a b n : ℕ) → n ≡ b - a → ltb 0 n ≡ ltb a b
      compared a b n e = by_test (ltb a b) refl
        where
          by_test : (less : Bool) → ltb a b ≡ less → ltb 0 n ≡ less
          by_test true is = let le : a < b = true_ltb a b is in grind (arith, le, e)
          by_test false is = let le : b ≤ a = false_ltb a b is in grind (arith, le, e)

  pub same_turn : turn_of serving ≡ next_service (packet_counts services) turns
  same_turn =
      let size : length (packet_counts serving.turns) ≡ length (packet_counts services)
      = length-map serving.turns (λ (packets : List PacketFields). length packets) ∙ ap (λ (ps : List (List PacketFields)). length ps) at.packets ∙ length-left_of services turns.sent
      ∙ sym (length-map services (λ (packets : List PacketFields). length packets)) in
      same_find (has_packets serving.turns) (has_left (packet_counts services) turns.sent) has_same (asked (length (packet_counts serving.turns)) serving.first)
      ∙ ap₂ (λ (n first : ℕ). find (has_left (packet_counts services) turns.sent) (asked n first)) size at.first

  -- one service gave a packet
  pub turn_served : (new : Serving) (bytes : List ℕ) (took : TakesTurn serving new bytes)
      → (next_service (packet_counts services) turns ≡ Some took.service) × AreAt services (served turns (Some took.service)) new
      × (bytes ≡ written (packet_at (slice_index_or services took.service []) (slice_index turns.sent took.service)))
  turn_served new bytes took = (
    turn,
    record {
      packets = ap (λ (s : Serving). s.turns) took.after ∙ ap (λ (ps : List (List PacketFields)). set ps took.service took.rest) at.packets
          ∙ set_left services turns.sent took.service took.rest sized below (sym parts.1);
      first = ap (λ (s : Serving). s.first) took.after;
    },
    took.bytes_are ∙ ap written (sym parts.0),
  )
    where
      turn : next_service (packet_counts services) turns ≡ Some took.service
      turn = sym same_turn ∙ took.turn

      below : took.service < length services
      below = omega (arith, (has_turn (packet_counts services) turns took.service within.first turn).1, length-map services (λ (packets : List PacketFields). length packets))

      parts : (packet_at (slice_index_or services took.service []) (slice_index turns.sent took.service) ≡ took.packet) × (drop (slice_index turns.sent took.service + 1) (slice_index_or services took.service []) ≡ took.rest)
      parts = first_dropped (slice_index_or services took.service []) (slice_index turns.sent took.service) took.packet took.rest
          (sym (left_at services turns.sent took.service sized) ∙ ap (λ (ps : List (List PacketFields)). slice_index_or ps took.service []) (sym at.packets) ∙ took.next)

-- The slots.

module _ (part : PartFields) (accepted : is_plan part.plan ≡ true)
    (fits : (k : ℕ) (fields : SlicedFields) → sliced_of (kind_at part.plan k) ≡ Some fields → (c : ℕ) → slice_index (sizes_in part k) c ≤ fields.length) (slot : ℕ) where
  abbrev services : List (List PacketFields)
  services = rotation part

  abbrev early_here : Bool
  early_here = is_early part.plan.cycle (table_packets part.plan) slot

  abbrev counts : List ℕ
  counts = turn_counts (kinds part.plan) (service_packets part)

  abbrev off : ℕ
  off = slot % part.plan.cycle

  abbrev turns : Turns
  turns = turns_in part slot

  -- a slot carries these bytes, and the services stand before the next
  pub record Steps (serving : Serving) (bytes : List ℕ) : Type 0 where
    pub bytes_are : bytes ≡ packet_in part (slot / part.plan.cycle) (slot_in part slot)
    pub after : ServicesAt part (slot + 1) serving

  pub within_here : IsWithin (packet_counts services) turns
  within_here = subst (λ (ns : List ℕ). IsWithin ns turns) (sym (counts_are part)) (within_at (kept_in part) counts slot)

  kept_early : early_here ≡ true → kept_in part slot ≡ Some (of_table off)
  kept_early e = ap (λ (b : Bool). option_or (cond b (Some (of_table off)) None) (sliced_at part.plan.cycle (windows_of part.plan) (sizes_in part) slot)) e

  -- of a kept slot
  turns_stay : (it : Slot) → kept_in part slot ≡ Some it → turns_in part (slot + 1) ≡ turns
  turns_stay it is = ap (turns_in part) (add-one slot) ∙ turns_kept (kept_in part) counts slot it is

  carries_kept : (it : Slot) → kept_in part slot ≡ Some it → slot_in part slot ≡ it
  carries_kept it is = ap (λ (o : Option Slot). unwrap_or o (slot_of_service turns (next_service counts turns))) is

  -- and of one that isn't
  turns_go_on : kept_in part slot ≡ None → turns_in part (slot + 1) ≡ served turns (next_service counts turns)
  turns_go_on is = ap (turns_in part) (add-one slot) ∙ turns_served (kept_in part) counts slot is

  carries_turn : kept_in part slot ≡ None → slot_in part slot ≡ slot_of_service turns (next_service counts turns)
  carries_turn is = ap (λ (o : Option Slot). unwrap_or o (slot_of_service turns (next_service counts turns))) is

  pub turn_is : (serving : Serving) → AreAt services turns serving → turn_of serving ≡ next_service counts turns
  turn_is serving at = same_turn services turns within_here serving at ∙ ap (λ (ns : List ℕ). next_service ns turns) (counts_are part)

  -- a slot of the INT
  pub early_taken : (serving : Serving) (bytes : List ℕ) → early_here ≡ true → ServicesAt part slot serving → bytes ≡ packet_of_table part slot → Steps serving bytes
  early_taken serving bytes early at bytes_are = record {
    bytes_are = bytes_are ∙ sym (ap (packet_in part (slot / part.plan.cycle)) (carries_kept (of_table off) (kept_early early)));
    after = record {
      turns = subst (λ (t : Turns). AreAt services t serving) (sym (turns_stay (of_table off) (kept_early early))) at.turns;
      bursts = λ k. at.bursts k ∙ sym (early_stays part accepted fits slot early k);
      count = at.count;
      shapes = at.shapes;
      windows = at.windows;
    };
  }

  -- what has to hold where a window opens
  module _ (old : Serving) (at : ServicesAt part slot old) where
    pub windows_apart : AreApart old.windows
    windows_apart = subst AreApart (sym at.windows) (plan_apart part.plan accepted)

    pub known_owner : (k n : ℕ) → owner_of old.windows off ≡ Some (k, n) → k < length old.bursts
    known_owner k n e =
        let own = owner_is part.plan accepted off k n (ap (λ ws. owner_of ws off) (sym at.windows) ∙ e) in
        omega (arith, at.count, known_there part.plan accepted k own.0 own.1)

    pub closed_owner : (k : ℕ) → owner_of old.windows off ≡ Some (k, zero) → (bursts_of old.bursts k).under_way ≡ 0
    closed_owner k e =
        let own = owner_is part.plan accepted off k zero (ap (λ ws. owner_of ws off) (sym at.windows) ∙ e) in
        closed_there part accepted fits slot k own.0 own.1 old.bursts (at.bursts k) own.2

    length-opened : (o : Option (ℕ × ℕ)) → length (opened_by o old.bursts) ≡ length old.bursts
    length-opened None = refl
    length-opened (Some (j, zero)) = length-set old.bursts j _
    length-opened (Some (j, suc n)) = refl

    opened_is : opened_by (owner_of old.windows off) old.bursts ≡ opened_by (owner_of (windows_of part.plan) off) old.bursts
    opened_is = ap (λ ws. opened_by (owner_of ws off) old.bursts) at.windows

    module _ (late : early_here ≡ false) where
      abbrev mid : Serving
      mid = with_opened off old

      rests_so : burst_of off mid ≡ None → Rests part accepted fits slot late old.bursts at.count at.bursts
      rests_so none = rests_there part accepted fits slot late old.bursts at.count at.bursts
          (sym (ap (λ ws. burst_of off (record old { windows = ws; bursts = opened_by (owner_of ws off) old.bursts })) at.windows) ∙ none)

      -- a slot of the service whose turn it is
      pub late_taken : burst_of off mid ≡ None → (new : Serving) (bytes : List ℕ) → TakesTurn mid new bytes → Steps new bytes
      late_taken none new bytes took = record {
        bytes_are = it.2 ∙ ap (λ (ps : List PacketFields). written (packet_at ps (slice_index turns.sent took.service))) (all_in_rotation part took.service some)
            ∙ sym (ap (packet_in part (slot / part.plan.cycle)) (carries_turn rests.kept ∙ ap (λ (o : Option ℕ). slot_of_service turns o) next));
        after = record {
          turns = subst (λ (t : Turns). AreAt services t new) (sym (turns_go_on rests.kept ∙ ap (λ (o : Option ℕ). served turns o) next)) it.1;
          bursts = λ k. ap (λ (s : Serving). bursts_of s.bursts k) took.after ∙ ap (λ (bs : List Bursts). bursts_of bs k) opened_is ∙ rests.after k;
          count = ap (λ (s : Serving). length s.bursts) took.after ∙ length-opened (owner_of old.windows off) ∙ at.count;
          shapes = ap (λ (s : Serving). s.shapes) took.after ∙ at.shapes;
          windows = ap (λ (s : Serving). s.windows) took.after ∙ at.windows;
        };
      }
        where
          rests : Rests part accepted fits slot late old.bursts at.count at.bursts
          rests = rests_so none

          at_mid : AreAt services turns mid
          at_mid = record { packets = at.turns.packets; first = at.turns.first }

          it : (next_service (packet_counts services) turns ≡ Some took.service) × AreAt services (served turns (Some took.service)) new
              × (bytes ≡ written (packet_at (slice_index_or services took.service []) (slice_index turns.sent took.service)))
          it = turn_served services turns within_here mid at_mid new bytes took

          next : next_service counts turns ≡ Some took.service
          next = ap (λ (ns : List ℕ). next_service ns turns) (sym (counts_are part)) ∙ it.0

          some : 0 < length (slice_index_or services took.service [])
          some = omega (arith, (has_turn (packet_counts services) turns took.service within_here.first it.0).0, count_of services took.service)

      -- a slot that is none's
      pub idle_taken : burst_of off mid ≡ None → (bytes : List ℕ) → turn_of mid ≡ None → bytes ≡ null_packet → Steps mid bytes
      idle_taken none bytes no_turn bytes_are = record {
        bytes_are = bytes_are ∙ sym (ap (packet_in part (slot / part.plan.cycle)) (carries_turn rests.kept ∙ ap (λ (o : Option ℕ). slot_of_service turns o) next));
        after = record {
          turns = subst (λ (t : Turns). AreAt services t mid) (sym (turns_go_on rests.kept ∙ ap (λ (o : Option ℕ). served turns o) next)) at_mid;
          bursts = λ k. ap (λ (bs : List Bursts). bursts_of bs k) opened_is ∙ rests.after k;
          count = length-opened (owner_of old.windows off) ∙ at.count;
          shapes = at.shapes;
          windows = at.windows;
        };
      }
        where
          rests : Rests part accepted fits slot late old.bursts at.count at.bursts
          rests = rests_so none

          at_mid : AreAt services turns mid
          at_mid = record { packets = at.turns.packets; first = at.turns.first }

          next : next_service counts turns ≡ None
          next = sym (turn_is mid at_mid) ∙ no_turn

      -- a slot of a burst
      pub burst_taken : (k : ℕ) → burst_of off mid ≡ Some k → (new : Serving) (bytes : List ℕ) → GivesBurst mid new k bytes → Steps new bytes
      burst_taken k is new bytes gave = record {
        bytes_are = gave.bytes_are ∙ ap written (sym gives.packet_is) ∙ sym (ap (packet_in part (slot / part.plan.cycle)) (carries_kept (of_service k gives.number) gives.kept));
        after = record {
          turns = subst (λ (t : Turns). AreAt services t new) (sym (turns_stay (of_service k gives.number) gives.kept))
              (record { packets = ap (λ (s : Serving). s.turns) gave.after ∙ at.turns.packets; first = ap (λ (s : Serving). s.first) gave.after ∙ at.turns.first });
          bursts = λ i. ap (λ (s : Serving). bursts_of s.bursts i) gave.after
              ∙ ap (λ (bs : List Bursts). bursts_of (set bs k (record { packets = gave.rest; under_way = gave.under_way; sizes = (bursts_of bs k).sizes })) i) opened_is
              ∙ gives.after_is i;
          count = ap (λ (s : Serving). length s.bursts) gave.after ∙ length-set mid.bursts k _ ∙ length-opened (owner_of old.windows off) ∙ at.count;
          shapes = ap (λ (s : Serving). s.shapes) gave.after ∙ at.shapes;
          windows = ap (λ (s : Serving). s.windows) gave.after ∙ at.windows;
        };
      }
        where
          gives : Gives part accepted fits slot late old.bursts at.count at.bursts k gave.packet
              (set (opened_by (owner_of (windows_of part.plan) off) old.bursts) k
              (record { packets = gave.rest; under_way = gave.under_way; sizes = (bursts_of (opened_by (owner_of (windows_of part.plan) off) old.bursts) k).sizes }))
          gives = gives_there part accepted fits slot late old.bursts at.count at.bursts k
              (sym (ap (λ ws. burst_of off (record old { windows = ws; bursts = opened_by (owner_of ws off) old.bursts })) at.windows) ∙ is)
              gave.packet gave.rest gave.under_way
              (ap (λ (bs : List Bursts). (bursts_of bs k).packets) (sym opened_is) ∙ gave.next)
              (ap (λ (bs : List Bursts). (bursts_of bs k).under_way) (sym opened_is) ∙ gave.left)

-- the services and the INT stand before the next slot
pub slot_taken : (plan : PlanFields) (part : PartFields) (slot of_stream : ℕ) (old new : Serving) (table after : IntPackets) (bytes : List ℕ)
    → StandBefore plan part slot of_stream old table → IsTableAt part (slot + 1) after
    → (bytes ≡ packet_in part (slot / part.plan.cycle) (slot_in part slot)) → ServicesAt part (slot + 1) new → TakesSlot plan part slot of_stream new after bytes
slot_taken plan part slot of_stream old new table after bytes stand at bytes_are services = record {
  bytes_are = bytes_are;
  after = record { of_plan = stand.of_plan; place = omega (arith, stand.place); table = at; services = services };
}

-- a slot of the stream that is none of the INT's is none in its part, and leaves the INT as it is
module _ (plan : PlanFields) (whole : is_whole_plan plan ≡ true) (part : PartFields) (slot of_stream : ℕ) (serving : Serving) (table : IntPackets)
    (stand : StandBefore plan part slot of_stream serving table) where
  pub early_so : (early : Bool) → is_early plan.cycle table.count of_stream ≡ early → is_early part.plan.cycle (table_packets part.plan) slot ≡ early
  early_so early e = sym (early_is plan whole part stand.of_plan slot of_stream table.count stand.place stand.table.count) ∙ e

  pub table_passes : is_early plan.cycle table.count of_stream ≡ false → IsTableAt part (slot + 1) table
  table_passes late = record {
    count = stand.table.count;
    packets = signalling_passes part (part_accepted plan whole part stand.of_plan) slot table.packets stand.table.packets (early_so false late);
  }
