-- A burst of one datagram goes out in one window.
use Rattle.std.proofs.Common.{◌≡◌, ℕ, ◌+◌, ◌*◌, ◌≤◌, true, false, ◌||◌, List, length, arith, Some}
use Rattle.section_spec.specs.Section.{section_form}
use Rattle.unit_stream.specs.Packing.{byte_count, packetized}
use Rattle.plan_spec.specs.Plan.{PlanFields, SlicedFields, sliced_of}
use Rattle.plan_spec.specs.Checks.{leaves_cycle, is_too_short, is_too_long}
use Rattle.plan_spec.specs.Signalling.{table_packets}
use Rattle.plan_spec.specs.Valid.{is_plan}
use Rattle.stream_spec.specs.Services.{kind_at}
use Rattle.slice_law.specs.Packets.{AreSome}
use Rattle.slice_law.proofs.Filling.{few_packets}
use Rattle.slice_law.proofs.Checks.{neither, not_below, no_wrong_window}

module _ (plan : PlanFields) (accepted : is_plan plan ≡ true) (k : ℕ) (fields : SlicedFields) (is : sliced_of (kind_at plan k) ≡ Some fields) where
  pub fits_window : (pid counter : ℕ) (units : List (List ℕ)) → AreSome units → byte_count units ≤ 4096 + fields.parity * (fields.rows + 16)
      → length (packetized section_form true pid counter units) ≤ fields.length
  fits_window pid counter units some le =
      let short : is_too_short fields ≡ false
      = (neither (is_too_short fields) (is_too_long plan fields) (neither (leaves_cycle (table_packets plan) plan fields) (is_too_short fields || is_too_long plan fields) (no_wrong_window plan accepted k fields is)).1).0 in
      let room : 4096 + fields.parity * (fields.rows + 16) ≤ fields.length * 183 = not_below (fields.length * 183) (4096 + fields.parity * (fields.rows + 16)) short in
      omega (arith, few_packets pid counter units some, le, room)
