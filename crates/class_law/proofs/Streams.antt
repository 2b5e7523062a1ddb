-- From what is packed to the frames of a plan's stream.
use Rattle.std.proofs.Common.{◌≡◌, ℕ, zero, suc, ◌+◌, ◌-◌, ◌≤◌, Bool, true, Some, List, [], ◌∷◌, ◌++◌, length, map, flat_map, refl, ap, ap₂, sym, subst, ◌∙◌, arith, All}
use Rattle.std.specs.Prelude.{slice_get}
use Rattle.std.proofs.lemmas.List.{append_assoc}
use Rattle.addr_rules.specs.declared.rules.Rule.{Rule}
use Rattle.plan_spec.specs.Plan.{gse, ServiceFields, PlanFields}
use Rattle.plan_spec.specs.Bytes.{IsMac, IsOfBytes, AreOfBytes}
use Rattle.plan_spec.specs.Changes.{plan_in, records_of_version}
use Rattle.plan_spec.specs.Wholes.{is_whole_plan}
use Rattle.plan_spec.specs.Offered.{Records, offered_in}
use Rattle.plan_law.proofs.Alone.{plan_alone}
use Rattle.plan_law.proofs.Versions.{first_is_zero}
use Rattle.gse_spec.specs.Frame.{FrameFields, frame_bytes, frame_fields}
use Rattle.gse_spec.specs.Packet.{GsePacket, Reading, packet, packets_in, packets_of}
use Rattle.gse_spec.specs.Written.{Writing, field_of}
use Rattle.gse_spec.specs.Reassembly.{Pdu}
use Rattle.gse_spec.specs.Classes.{is_urgent_pdu, ids_for}
use Rattle.gse_spec.specs.Sending.{pdu_for, frames_with, packets_for}
use Rattle.gse_law.specs.Classes.{first_one, first_packets, BeginInOrder}
use Rattle.gse_law.specs.Packed.{AreSendable, AllFramesFit}
use Rattle.gse_law.specs.Writable.{IsFrameRead}
use Rattle.gse_law.proofs.BegunPdus.{begin_in_order}
use Rattle.gse_law.proofs.PackedFrames.{packed_fits, sendable_fit}
use Rattle.gse_law.proofs.Offered.{offered_sendable}
use Rattle.gse_law.proofs.Written.{written_read}
use Rattle.gse_law.proofs.WrittenFrames.{frame_read}
use Rattle.bb_stream_spec.specs.Stream.{IsBasebandStream}
use Rattle.bb_stream_law.proofs.PlanChecks.{has_size}
use Rattle.bb_stream_law.proofs.Carrying.{own, offered_short}
use Rattle.class_law.specs.Yielding.{PacketOrEnd, a_packet, frame_end, packets_and_end, packets_and_ends, begun, YieldsToUrgent}
use Rattle.class_law.specs.Examples.{as_written}
use Rattle.class_law.proofs.Obeyed.{yields_to_urgent}
use Rattle.class_law.proofs.Packed.{packed_obeys}

-- What is written is read: what is read of frames are those of their packets.

read_back : (writings : List Writing) → flat_map packets_in (map (λ (w : Writing). packet w.packet) writings) ≡ map (λ (w : Writing). w.packet) writings
read_back [] = refl
read_back (w ∷ writings) = ap (λ (t : List GsePacket). w.packet ∷ t) (read_back writings)

as_items : (writings : List Writing) → map a_packet (map (λ (w : Writing). w.packet) writings) ≡ map (λ (w : Writing). a_packet w.packet) writings
as_items [] = refl
as_items (w ∷ writings) = ap (λ (t : List PacketOrEnd). a_packet w.packet ∷ t) (as_items writings)

abbrev items_read : List ℕ → List PacketOrEnd
items_read b = packets_and_end (packets_of (frame_fields b).field)

frames_read : (isi size room : ℕ) (frames : List (List Writing)) → size ≡ room + 10 → room ≤ 7264 → AllFramesFit room frames
    → flat_map items_read (frames_with isi size frames) ≡ as_written frames
frames_read isi size room [] size_is small fit = refl
frames_read isi size room (frame ∷ frames) size_is small fit =
    let read : IsFrameRead isi (field_of frame) size = frame_read isi (field_of frame) size (omega (arith, fit.0.1, small)) (omega (arith, fit.0.1, size_is)) in
    let front : items_read (frame_bytes isi (field_of frame) size) ≡ map (λ (w : Writing). a_packet w.packet) frame ++ frame_end ∷ [] =
    ap (λ (t : FrameFields). packets_and_end (packets_of t.field)) read.fields
    ∙ ap (λ (t : List Reading). packets_and_end (flat_map packets_in t)) (written_read frame fit.0.0)
    ∙ ap packets_and_end (read_back frame)
    ∙ ap (λ (t : List PacketOrEnd). t ++ frame_end ∷ []) (as_items frame) in
    ap₂ (λ (x y : List PacketOrEnd). x ++ y) front (frames_read isi size room frames size_is small fit.1)
    ∙ append_assoc (map (λ (w : Writing). a_packet w.packet) frame) (frame_end ∷ []) (as_written frames)

-- What begins.

begun_front : (frame : List Writing) (items : List PacketOrEnd) → begun (map (λ (w : Writing). a_packet w.packet) frame ++ frame_end ∷ items) ≡ flat_map (λ (w : Writing). first_one w.packet) frame ++ begun items
begun_front [] items = refl
begun_front (w ∷ frame) items =
    ap (λ (t : List GsePacket). first_one w.packet ++ t) (begun_front frame items)
    ∙ sym (append_assoc (first_one w.packet) (flat_map (λ (x : Writing). first_one x.packet) frame) (begun items))

pub begun_are : (frames : List (List Writing)) → begun (as_written frames) ≡ first_packets frames
begun_are [] = refl
begun_are (frame ∷ frames) =
    begun_front frame (as_written frames) ∙ ap (λ (t : List GsePacket). flat_map (λ (w : Writing). first_one w.packet) frame ++ t) (begun_are frames)

-- A service of a plan's stream.

module _ (plan : PlanFields) (whole : is_whole_plan plan ≡ true) (of_bytes : AreOfBytes plan) (gives : Records) (frames : List (List ℕ))
    (stream : IsBasebandStream plan (offered_in plan gives) frames) (k isi : ℕ) (address : Bool) (service : ServiceFields)
    (is : slice_get plan.services k ≡ Some service) (kind_is : service.kind ≡ gse isi address) where
  abbrev pdus : List Pdu
  pdus = map (pdu_for address service.unicast) (offered_in plan gives 0 k)

  size_fits : (300 ≤ stream.size) × (stream.size ≤ 7274)
  size_fits = has_size plan stream.size whole stream.size_is

  macs : All IsMac (map (λ (s : ServiceFields). s.unicast) plan.services)
  macs = (subst IsOfBytes (plan_alone plan (first_is_zero plan whole) stream.unchanged) (of_bytes 0 (omega arith))).unicast

  first_is : (x s : ServiceFields) → Some x ≡ Some s → x ≡ s
  first_is x s e = cc

  six_at : (ss : List ServiceFields) → All IsMac (map (λ (s : ServiceFields). s.unicast) ss) → (n : ℕ) (s : ServiceFields) → slice_get ss n ≡ Some s → length s.unicast ≡ 6
  six_at [] all n s e = absurd (cc)
  six_at (x ∷ ss) all zero s e =
      let same : x ≡ s = first_is x s e in
      ap (λ (t : ServiceFields). length t.unicast) (sym same) ∙ (all 0 [] (omega arith)).size
  six_at (x ∷ ss) all (suc n) s e = six_at ss (λ i d within. all (suc i) d (omega (arith, within))) n s e

  sendable : AreSendable pdus
  sendable =
      offered_sendable address service.unicast (offered_in plan gives 0 k) (λ _. six_at plan.services macs k service is)
      (offered_short (plan_in plan 0) (records_of_version plan 0 gives) k)

  items_are : packets_and_ends isi frames ≡ as_written (packets_for service.urgent stream.size pdus)
  items_are =
      ap (flat_map items_read) (own plan whole of_bytes gives frames stream k isi address service is kind_is)
      ∙ frames_read isi stream.size (stream.size - 10) (packets_for service.urgent stream.size pdus) (omega (arith, size_fits.0)) (omega (arith, size_fits.1))
      (packed_fits (is_urgent_pdu service.urgent) (ids_for service.urgent) (stream.size - 10) pdus sendable)

  order_of : (rules : List Rule) → BeginInOrder pdus (begun (as_written (packets_for rules stream.size pdus)))
  order_of rules =
      subst (BeginInOrder pdus) (sym (begun_are (packets_for rules stream.size pdus)))
      (begin_in_order (is_urgent_pdu rules) (ids_for rules) (stream.size - 10) (omega (arith, size_fits.0)) pdus (sendable_fit pdus sendable))

  pub begin_on : BeginInOrder pdus (begun (packets_and_ends isi frames))
  begin_on = subst (BeginInOrder pdus) (sym (ap begun items_are)) (order_of service.urgent)

  yields_by : (rules : List Rule) (rule : Rule) (others : List Rule) → rules ≡ rule ∷ others → YieldsToUrgent (is_urgent_pdu rules) pdus (as_written (packets_for rules stream.size pdus))
  yields_by [] rule others some = absurd (cc)
  yields_by (first ∷ rest) rule others some =
      let all = packed_obeys (is_urgent_pdu (first ∷ rest)) (stream.size - 10) pdus in
      yields_to_urgent (is_urgent_pdu (first ∷ rest)) pdus (as_written (packets_for (first ∷ rest) stream.size pdus)) (order_of (first ∷ rest)) all.0 all.1

  pub yields_on : (rule : Rule) (others : List Rule) → service.urgent ≡ rule ∷ others → YieldsToUrgent (is_urgent_pdu service.urgent) pdus (packets_and_ends isi frames)
  yields_on rule others some = subst (YieldsToUrgent (is_urgent_pdu service.urgent) pdus) (sym items_are) (yields_by service.urgent rule others some)
