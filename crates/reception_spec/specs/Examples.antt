-- Small receptions, to try the definitions on.
use Rattle.std.specs.Prelude.{ℕ, true, List, [], ◌∷◌, replicate, codes, None, Some}
use Rattle.ts_spec.specs.Packet.{null_packet}
use Rattle.ts_spec.specs.Recording.{plain, Record}
use Rattle.plan_spec.specs.Plan.{ule, ServiceFields, PlanFields}

-- a service of SNDUs on a PID, without filter
abbrev pub small_service : ℕ → ServiceFields
small_service pid = record {
  name = codes "ule";
  kind = ule pid true true;
  rules = [];
  urgent = [];
  filter = [];
  unicast = [];
  service_id = 1;
  component_tag = 0;
}

abbrev pub small_plan : PlanFields
small_plan = record {
  recording = plain;
  packet_rate = 10000;
  cycle = 20000;
  frame_bytes = None;
  table = None;
  services = small_service 0x100 ∷ [];
  version = 0;
  changes = [];
}

-- a null packet, one with an adaptation field alone, and one whose first byte is wrong
abbrev pub null_record : Record
null_record = record { moment = Some 0; bytes = null_packet }

abbrev pub field_record : Record
field_record = record { moment = Some 0; bytes = 0x47 ∷ 0x01 ∷ 0x00 ∷ 0x20 ∷ replicate 184 0xFF }

abbrev pub wrong_record : Record
wrong_record = record { moment = Some 0; bytes = 0x46 ∷ 0x01 ∷ 0x00 ∷ 0x10 ∷ replicate 184 0xFF }

-- and a packet without a moment
abbrev pub late_record : Record
late_record = record { moment = None; bytes = null_packet }

abbrev pub small_records : List Record
small_records = null_record ∷ field_record ∷ wrong_record ∷ late_record ∷ []
