-- A program of two streams, to try the definitions on.
use Rattle.std.specs.Prelude.{ℕ, List, [], ◌∷◌, Some, None}
use Rattle.ts_spec.specs.Recording.{plain}
use Rattle.plan_spec.specs.Plan.{ServiceFields, PlanFields, IntFields, ChangeFields, mpe}
use Rattle.psi_spec.specs.Pat.{PatFields}
use Rattle.psi_spec.specs.Pmt.{PmtFields}

abbrev pub small_pat : PatFields
small_pat = record { transport_stream_id = 4; programs = record { number = 10; pid = 8190 } ∷ [] }

abbrev pub small_pat_body : List ℕ
small_pat_body = 0x00 ∷ 0x04 ∷ 0xC1 ∷ 0 ∷ 0 ∷ 0x00 ∷ 0x0A ∷ 0xFF ∷ 0xFE ∷ []

abbrev pub small_pmt : PmtFields
small_pmt = record { number = 10; streams = record { pid = 512; tag = Some 1 } ∷ record { pid = 513; tag = Some 2 } ∷ [] }

abbrev pub small_pmt_body : List ℕ
small_pmt_body =
    0x00 ∷ 0x0A ∷ 0xC1 ∷ 0 ∷ 0 ∷ 0xFF ∷ 0xFF ∷ 0xF0 ∷ 0x00
    ∷ 0x80 ∷ 0xE2 ∷ 0x00 ∷ 0xF0 ∷ 0x03 ∷ 0x52 ∷ 0x01 ∷ 0x01
    ∷ 0x80 ∷ 0xE2 ∷ 0x01 ∷ 0xF0 ∷ 0x03 ∷ 0x52 ∷ 0x01 ∷ 0x02 ∷ []

-- the same with a descriptor of the program, one of another tag before the first component_tag, and a stream without descriptors
abbrev pub other_pmt_body : List ℕ
other_pmt_body =
    0x00 ∷ 0x0A ∷ 0xC3 ∷ 0 ∷ 0 ∷ 0xE1 ∷ 0x00 ∷ 0xF0 ∷ 0x03 ∷ 0x09 ∷ 0x01 ∷ 0x07
    ∷ 0x0D ∷ 0xE2 ∷ 0x00 ∷ 0xF0 ∷ 0x05 ∷ 0x66 ∷ 0x00 ∷ 0x52 ∷ 0x01 ∷ 0x01
    ∷ 0x0D ∷ 0xE2 ∷ 0x01 ∷ 0xF0 ∷ 0x00 ∷ []

-- two programs of one number, after one of number 0; two streams of one tag, after one without
abbrev pub double_pat : PatFields
double_pat = record {
  transport_stream_id = 4;
  programs = record { number = 0; pid = 16 } ∷ record { number = 10; pid = 100 } ∷ record { number = 10; pid = 101 } ∷ [];
}

abbrev pub double_pmt : PmtFields
double_pmt = record {
  number = 10;
  streams = record { pid = 511; tag = None } ∷ record { pid = 512; tag = Some 1 } ∷ record { pid = 513; tag = Some 1 } ∷ [];
}

-- three services of two programs and one of no program; one of them moves; the INT is on the first PID that a PMT could have
abbrev pub small_service : ℕ → ℕ → ℕ → ServiceFields
small_service pid service_id tag = record {
  name = [];
  kind = mpe pid;
  rules = [];
  urgent = [];
  filter = [];
  unicast = [];
  service_id = service_id;
  component_tag = tag;
}

abbrev pub small_int : IntFields
small_int = record { pid = 8190; platform_id = 1; network_id = 2; original_network_id = 3; transport_stream_id = 4 }

abbrev pub small_change : ChangeFields
small_change = record { at = 3; moved = record { service = 0; pid = 8189; rules = [] } ∷ [] }

abbrev pub small_plan : PlanFields
small_plan = record {
  recording = plain;
  packet_rate = 10000;
  cycle = 20000;
  frame_bytes = None;
  table = Some small_int;
  services = small_service 512 20 1 ∷ small_service 513 10 1 ∷ small_service 8187 20 2 ∷ small_service 515 0 1 ∷ [];
  version = 0;
  changes = small_change ∷ [];
}
