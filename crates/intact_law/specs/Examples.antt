-- A small recording with an error that no CRC-32 shows: of four SNDUs, each in a packet, two arrived intact.
use Rattle.std.specs.Prelude.{◌≡◌, ℕ, List, [], ◌∷◌, flat_map}
use Rattle.ts_spec.specs.Packet.{null_packet}
use Rattle.ts_spec.specs.Packetized.{unit_at}
use Rattle.ts_spec.specs.Recording.{Record, m2ts, records_of}
use Rattle.channel_spec.specs.Channel.{Channel}
use Rattle.channel_law.specs.Examples.{small_datagram, small_sndu, small_units, small_begin, small_packet, small_sent}
use Rattle.plan_spec.specs.Plan.{PlanFields}
use Rattle.plan_spec.specs.Changes.{pids_in}
use Rattle.stream_spec.specs.Services.{IsPidOf}
use Rattle.reception_spec.specs.Spans.{span_of}
use Rattle.reception_spec.specs.Delivered.{delivered_of}
use Rattle.reception_spec.specs.Examples.{small_plan}
use Rattle.loss_law.specs.Loss.{CarriesFor}
use Rattle.loss_law.specs.Spans.{IsRecordedFor}
use Rattle.intact_law.specs.Intact.{AreIntact, CarriesUnitsFor, own_on}

-- one service of SNDUs, on PID 256
abbrev pub m2ts_plan : PlanFields
m2ts_plan = record small_plan { recording = m2ts }

-- the second packet is dropped; the third is damaged so that its CRC-32 is right again, with an Identification that was not sent
abbrev pub altered_sndu : List ℕ
altered_sndu = small_sndu 9 (0x4B ∷ 0x58 ∷ 0x4F ∷ 0x1A ∷ [])

abbrev pub altered_recording : List Record
altered_recording = records_of m2ts (
    (0x3F ∷ 0xFF ∷ 0xFF ∷ 0xF0 ∷ small_packet 5 (unit_at small_units 0))
    ∷ (0 ∷ 0 ∷ 0 ∷ 8 ∷ null_packet)
    ∷ (0 ∷ 0 ∷ 0 ∷ 12 ∷ small_packet 7 altered_sndu)
    ∷ (0 ∷ 0 ∷ 0 ∷ 16 ∷ small_packet 8 (unit_at small_units 3))
    ∷ [])

-- The premises of the law on intact units hold. The first and the fourth unit arrived intact, and their datagrams are delivered; between them stands one that was
-- not sent. The loss law is silent: whatever the stream carries, and whatever the channel is, it is not so recorded as that law asks
pub record SmallErrors : Type 0 where
  pub carries : CarriesUnitsFor m2ts_plan 0 small_sent (λ pid. small_units) (λ pid. small_begin)
  pub channel : Channel (pids_in m2ts_plan 0) small_sent altered_recording
  pub intact : (pid : ℕ) → IsPidOf m2ts_plan 0 pid
      → AreIntact channel (span_of m2ts_plan 0 pid altered_recording) pid small_units small_begin (0 ∷ 3 ∷ [])
  pub own : flat_map (λ pid. own_on m2ts_plan 0 pid small_units (0 ∷ 3 ∷ [])) (pids_in m2ts_plan 0) ≡ small_datagram 1 ∷ small_datagram 4 ∷ []
  pub delivered : delivered_of m2ts_plan 0 altered_recording ≡ small_datagram 1 ∷ small_datagram 9 ∷ small_datagram 4 ∷ []
  pub silent : (datagrams : ℕ → List (List ℕ)) (carries : CarriesFor m2ts_plan 0 small_sent datagrams)
      → IsRecordedFor m2ts_plan 0 small_sent datagrams carries altered_recording → ⊥
