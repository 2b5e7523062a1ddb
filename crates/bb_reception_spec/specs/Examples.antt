-- A small plan of baseband frames and recordings of some, to try the definitions on.
use Rattle.std.specs.Prelude.{ℕ, true, List, [], ◌∷◌, ◌++◌, replicate, codes, Some, None}
use Rattle.wire_spec.specs.Examples.{small_ipv4}
use Rattle.addr_rules.specs.declared.filter.Label.TheVariants.{Broadcast}
use Rattle.ts_spec.specs.Recording.{plain}
use Rattle.plan_spec.specs.Plan.{gse, ServiceFields, PlanFields}
use Rattle.gse_spec.specs.Frame.{frame_bytes}
use Rattle.gse_spec.specs.Written.{complete_bytes, middle_bytes, end_bytes}
use Rattle.gse_spec.specs.Examples.{labelled_packet, whole_field}

-- a service on an ISI, with a filter
abbrev pub small_service : ℕ → List (List ℕ) → ServiceFields
small_service isi filter = record {
  name = codes "gse";
  kind = gse isi true;
  rules = [];
  urgent = [];
  filter = filter;
  unicast = [];
  service_id = 1;
  component_tag = 0;
}

-- two services, the second of which wants units of one address and those for all receivers
abbrev pub other_mac : List ℕ
other_mac = 2 ∷ 0 ∷ 0 ∷ 0 ∷ 0 ∷ 1 ∷ []

abbrev pub small_plan : PlanFields
small_plan = record {
  recording = plain;
  packet_rate = 10000;
  cycle = 20000;
  frame_bytes = Some 70;
  table = None;
  services = small_service 3 [] ∷ small_service 4 (other_mac ∷ []) ∷ [];
  version = 0;
  changes = [];
}

-- zeros; a frame of the second service, one of the first, one of neither
abbrev pub small_recording : List (List ℕ)
small_recording =
    replicate 70 0 ∷ frame_bytes 4 whole_field 70 ∷ frame_bytes 3 (labelled_packet ++ whole_field) 70 ∷ frame_bytes 5 whole_field 70 ∷ []

-- of the second service: a PDU that is no datagram, one with a datagram for another address, one for all receivers; a middle and
-- a last fragment without a first, and a packet that is cut
abbrev pub mixed_recording : List (List ℕ)
mixed_recording =
    frame_bytes 4 (complete_bytes 0x0806 (Some Broadcast) small_ipv4 ++ labelled_packet) 70
    ∷ frame_bytes 4 (whole_field ++ middle_bytes 7 (1 ∷ 2 ∷ []) ++ end_bytes 7 (3 ∷ 4 ∷ []) 5 ++ 0xEF ∷ 0xFF ∷ 8 ∷ 0 ∷ []) 70
    ∷ []
