-- A sliced service: its frames, its window and its times, as the code has them.
use Rattle.std.proofs.Common.{◌≡◌, ℕ, ◌+◌, ◌%◌, ◌^◌, ◌≤◌, Bool, true, false, List, length, refl, sym, ap, ap₂, ◌∙◌, arith, subst, Option, Some, None}
use Rattle.std.specs.Prelude.{is_some}
use Rattle.section_spec.specs.Mpe.{IsRows}
use Rattle.slice_spec.specs.Bursts.{IsSliceable}
use Rattle.plan_spec.specs.Plan.{KindFields, ule, mpe, fec, gse, SlicedFields, sliced_of}
use Rattle.plan_spec.specs.Changes.{with_pid}
use Rattle.stream_spec.specs.Units.{FrameSchedule, burst_sizes, datagrams_by_frame, packets_of_kind, units_of_frames}
use Rattle.section_spec.specs.Section.{section_form}
use Rattle.unit_stream.specs.Packing.{packetized}
use Rattle.fec_units.specs.Ends.{AreFrameEnds}
use Rattle.fec_units.specs.declared.frame_units.FrameUnits.{FrameUnits}
use Rattle.burst_packets.specs.Frames.{BeginsFrames, Frames as FramesLeft, units_in}
use Rattle.fec_units.specs.Bursts.{AreBurstEnds}
use Rattle.burst_packets.specs.Bursts.{Begins, kind_of, Bursts}
use Rattle.burst_packets.specs.Timing.{slicing_in, IsTimedBy}
use Rattle.burst_packets.specs.declared.bursts.Shape.{Shape}
use Rattle.burst_packets.specs.declared.timing.Timing.{Timing}
use Rattle.ts_spec.specs.Packet.{PacketFields}
use Rattle.stream_law.specs.Words.{is_single}
use Rattle.stream_law.proofs.KindPackets.{no_bursts as no_sizes_of}
use Rattle.ts_mux.specs.ServiceUnits.{HasFrames, AreOfBursts, AreOfFrames, AreUnitsFor}
use Rattle.ts_mux.specs.Services.{packets_in, behind_in, turns_in_service, bursts_in, shape_in, Bursts as OwnBursts, no_bursts, shape_of, FrameShape, is_sliced, HasTimes, AreTimesOf, GoesBy, BeginsService}
use Rattle.ts_mux.specs.declared.service_packets.Times.{Times}
use Rattle.ts_mux.specs.declared.service_units.ServiceUnits.{ServiceUnits}
use Rattle.ts_mux.specs.declared.service_units.ServiceUnits.TheVariants.{Frames as FrameUnitsOf}
use Rattle.ts_mux.specs.declared.service_packets.ServicePackets.{ServicePackets}
use Rattle.ts_mux.specs.declared.service_packets.ServicePackets.TheVariants.{Ule, Mpe, Fec, Sliced}

sliced_moved : (kind : KindFields) (pid : ℕ) → sliced_of (with_pid kind pid) ≡ sliced_of kind
sliced_moved (ule own address packing) pid = refl
sliced_moved (mpe own) pid = refl
sliced_moved (fec own rows parity None) pid = refl
sliced_moved (fec own rows parity (Some window)) pid = refl
sliced_moved (gse isi address) pid = refl

sizes_moved : (kind : KindFields) (pid : ℕ) (ds : List (List ℕ)) → burst_sizes (with_pid kind pid) ds ≡ burst_sizes kind ds
sizes_moved (ule own address packing) pid ds = refl
sizes_moved (mpe own) pid ds = refl
sizes_moved (fec own rows parity None) pid ds = refl
sizes_moved (fec own rows parity (Some window)) pid ds = refl
sizes_moved (gse isi address) pid ds = refl

shape_moved : (kind : KindFields) (pid : ℕ) → shape_of (with_pid kind pid) ≡ shape_of kind
shape_moved (ule own address packing) pid = refl
shape_moved (mpe own) pid = refl
shape_moved (fec own rows parity None) pid = refl
shape_moved (fec own rows parity (Some window)) pid = refl
shape_moved (gse isi address) pid = refl

abbrev pub framed : ℕ → ℕ → Bool → FrameShape
framed rows columns sliced = record { rows = rows; columns = columns; sliced = sliced }

pub same_frames : (a b c d : ℕ) (s t : Bool) → Some (framed a b s) ≡ Some (framed c d t) → (a ≡ c) × (b ≡ d)
same_frames a b c d s t e = (ap rows_in e, ap columns_in e)
  where
    rows_in : Option FrameShape → ℕ
    rows_in None = 0
    rows_in (Some it) = it.rows

    columns_in : Option FrameShape → ℕ
    columns_in None = 0
    columns_in (Some it) = it.columns

frames_moved : (kind : KindFields) (pid : ℕ) → HasFrames kind → HasFrames (with_pid kind pid)
frames_moved (ule own address packing) pid has = has
frames_moved (mpe own) pid has = has
frames_moved (fec own rows parity window) pid has = has
frames_moved (gse isi address) pid has = has

module _ (kind : KindFields) (shape : Shape) (timing : Timing) (same : (pid : ℕ) → with_pid kind pid ≡ kind_of shape timing pid) where
  abbrev shown_fields : SlicedFields
  shown_fields = record { rows = shape.rows; parity = shape.columns; start = timing.start; length = timing.length }

  shown : sliced_of kind ≡ Some shown_fields
  shown = sym (sliced_moved kind 0) ∙ ap sliced_of (same 0)

  pub rows_of : HasFrames kind → IsRows shape.rows × (1 ≤ shape.columns) × (shape.columns ≤ 64)
  rows_of has = subst HasFrames (same 0) (frames_moved kind 0 has)

  -- the buffer of a service stays as it was
  shape_is : shape_of kind ≡ Some (framed shape.rows shape.columns true)
  shape_is = sym (shape_moved kind 0) ∙ ap shape_of (same 0)

  pub shape_kept : (rows columns : ℕ) → Some (framed rows columns true) ≡ shape_of kind → (shape.rows ≡ rows) × (shape.columns ≡ columns)
  shape_kept rows columns is = same_frames shape.rows shape.columns rows columns true true (sym shape_is ∙ sym is)

  -- it is that of bursts
  pub burst_shape : (it : Option FrameShape) → it ≡ shape_of kind → is_sliced it ≡ true
  burst_shape it is = ap is_sliced (is ∙ shape_is)

  pub sliceable_of : (times : Times) → HasTimes kind times → AreTimesOf times timing → IsSliceable (slicing_in timing)
  sliceable_of times has are = rw (are.recording_is, are.rate_is, are.cycle_is) (has shown_fields shown)

  fields_same : (fields : SlicedFields) → sliced_of kind ≡ Some fields → shown_fields ≡ fields
  fields_same fields is = by_some shown_fields fields (sym shown ∙ is)
    where
      by_some : (a b : SlicedFields) → Some a ≡ Some b → a ≡ b
      by_some a b e = cc

  pub ends_of_bursts : (ds : List (List ℕ)) (ends : List ℕ) → AreOfBursts kind ds ends → AreBurstEnds shape.rows shape.columns timing.length ds ends
  ends_of_bursts ds ends are =
      subst (λ (f : SlicedFields). AreBurstEnds f.rows f.parity f.length ds ends) (sym (fields_same are.fields are.sliced)) are.ends_are

  pub begins_of : (times : Times) → AreTimesOf times timing → (unicast : List ℕ) → shape.unicast ≡ unicast → (pid counter : ℕ) (ds : List (List ℕ)) (units : ServiceUnits) (bursts : Bursts)
      → Begins shape timing pid counter ds bursts → BeginsService kind unicast pid counter ds units times (Sliced bursts)
  begins_of times are unicast unicast_is pid counter ds units bursts begins = record {
    packets_are = λ schedule of_units goes.
        begins.packets_are schedule (timed schedule (goes (ap (λ o. is_some o) shown)))
        ∙ ap₂ (λ (k : KindFields) (u : List ℕ). packets_of_kind k u counter schedule ds) (sym (same pid)) unicast_is;
    behind_is = begins.behind_is;
    shape_is = ap₂ (λ (r c : ℕ). Some (framed r c true)) begins.rows_are begins.columns_are ∙ sym shape_is;
    sizes_are = begins.sizes_are ∙ ap (λ (k : KindFields). burst_sizes k ds) (sym (same pid)) ∙ sizes_moved kind pid ds;
    none = begins.none;
    most = begins.most;
  }
    where
      timed : (schedule : FrameSchedule) → GoesBy times schedule → IsTimedBy timing schedule
      timed schedule by = rw (are.recording_is, are.rate_is, are.cycle_is, are.before_is, are.goes_on_is) (record {
        form_is = by.form_is;
        rate_is = by.rate_is;
        cycle_is = by.cycle_is;
        before_is = by.before_is;
        goes_on_is = by.goes_on_is;
      })

-- A service with frames and no time slicing.
module _ (kind : KindFields) (number : ℕ) (ds : List (List ℕ)) (units : FrameUnits) (first : ℕ) (are : AreOfFrames kind number ds units first)
    (shape : Shape) (same : (pid rows parity : ℕ) → kind ≡ fec pid rows parity None → (shape.rows ≡ rows) × (shape.columns ≡ parity)) where
  rows_is : shape.rows ≡ are.rows
  rows_is = (same are.pid are.rows are.parity are.kind_is).0

  columns_is : shape.columns ≡ are.parity
  columns_is = (same are.pid are.rows are.parity are.kind_is).1

  pub frame_rows : HasFrames kind → IsRows shape.rows × (1 ≤ shape.columns) × (shape.columns ≤ 64)
  frame_rows has =
      let it : IsRows are.rows × (1 ≤ are.parity) × (are.parity ≤ 64) = subst HasFrames are.kind_is has in
      (subst IsRows (sym rows_is) it.0, omega (arith, columns_is, it.1), omega (arith, columns_is, it.2))

  pub frame_ends : (ends : List ℕ) → ends ≡ units.ends.items → AreFrameEnds shape.rows shape.columns ds ends
  frame_ends ends is =
      subst (λ (r : ℕ). AreFrameEnds r shape.columns ds ends) (sym rows_is)
      (subst (λ (c : ℕ). AreFrameEnds are.rows c ds ends) (sym columns_is) (subst (AreFrameEnds are.rows are.parity ds) (sym is) are.ends_are))

  frame_shape : shape_of kind ≡ Some (framed shape.rows shape.columns false)
  frame_shape = ap shape_of are.kind_is ∙ sym (ap₂ (λ (r c : ℕ). Some (framed r c false)) rows_is columns_is)

  pub frame_kept : (rows columns : ℕ) → Some (framed rows columns false) ≡ shape_of kind → (shape.rows ≡ rows) × (shape.columns ≡ columns)
  frame_kept rows columns is = same_frames shape.rows shape.columns rows columns false false (sym frame_shape ∙ sym is)

  pub frame_packets : (unicast : List ℕ) → shape.unicast ≡ unicast → (pid counter : ℕ) (schedule : FrameSchedule) → first ≡ schedule.first
      → packetized section_form true pid counter (units_in shape first ds) ≡ packets_of_kind (with_pid kind pid) unicast counter schedule ds
  frame_packets unicast unicast_is pid counter schedule first_is =
      ap₂ (λ (r c : ℕ). packetized section_form true pid counter (units_of_frames r c shape.unicast first (datagrams_by_frame r ds))) rows_is columns_is
      ∙ ap₂ (λ (u : List ℕ) (n : ℕ). packetized section_form true pid counter (units_of_frames are.rows are.parity u n (datagrams_by_frame are.rows ds))) unicast_is first_is
      ∙ sym (ap (λ (k : KindFields). packets_of_kind (with_pid k pid) unicast counter schedule ds) are.kind_is)

  pub frames_begin : (unicast : List ℕ) → shape.unicast ≡ unicast → (pid counter : ℕ) (all : ServiceUnits) → all ≡ FrameUnitsOf units first → (times : Times) (frames : FramesLeft)
      → BeginsFrames shape first pid counter ds frames → BeginsService kind unicast pid counter ds all times (Fec frames)
  frames_begin unicast unicast_is pid counter all is times frames begins = record {
    packets_are = λ schedule of_units goes.
        begins.packets_are
        ∙ frame_packets unicast unicast_is pid counter schedule (subst (AreUnitsFor kind unicast schedule.first ds) is of_units).first_is;
    behind_is = begins.behind_is;
    shape_is = ap₂ (λ (r c : ℕ). Some (framed r c false)) begins.rows_are begins.columns_are ∙ sym frame_shape;
    sizes_are = sym (ap (λ (k : KindFields). burst_sizes k ds) are.kind_is);
    none = refl;
    most = begins.most;
  }

-- A service in rotation.

single_unsliced : (kind : KindFields) → is_single kind ≡ true → sliced_of kind ≡ None
single_unsliced (ule pid address packing) single = refl
single_unsliced (mpe pid) single = refl
single_unsliced (fec pid rows parity window) single = absurd (cc)
single_unsliced (gse isi address) single = absurd (cc)

single_shape : (kind : KindFields) → is_single kind ≡ true → shape_of kind ≡ None
single_shape (ule pid address packing) single = refl
single_shape (mpe pid) single = refl
single_shape (fec pid rows parity window) single = absurd (cc)
single_shape (gse isi address) single = absurd (cc)

packets_same : (it : ServicePackets) → shape_in it ≡ None → packets_in it ≡ turns_in_service it
packets_same (Ule coming) none = refl
packets_same (Mpe coming) none = refl
packets_same (Fec coming) none = absurd (cc)
packets_same (Sliced coming) none = absurd (cc)

pub single_begins : (kind : KindFields) (unicast : List ℕ) (pid counter : ℕ) (ds : List (List ℕ)) (units : ServiceUnits) (times : Times) (it : ServicePackets) → is_single kind ≡ true
    → ((schedule : FrameSchedule) → turns_in_service it ≡ packets_of_kind (with_pid kind pid) unicast counter schedule ds)
    → behind_in it ≡ (counter + length (turns_in_service it)) % 16 → length (turns_in_service it) ≤ 2 ^ 48 → bursts_in it ≡ no_bursts → shape_in it ≡ None
    → BeginsService kind unicast pid counter ds units times it
single_begins kind unicast pid counter ds units times it single written behind most bursts shape = record {
  packets_are = λ schedule are goes. same ∙ written schedule;
  behind_is = behind ∙ ap (λ (ps : List PacketFields). (counter + length ps) % 16) (sym same);
  shape_is = shape ∙ sym (single_shape kind single);
  sizes_are = ap (λ (b : OwnBursts). b.sizes) bursts ∙ sym (no_sizes_of kind ds (single_unsliced kind single));
  none = ap (λ (b : OwnBursts). b.under_way) bursts;
  most = omega (arith, most, ap (λ (ps : List PacketFields). length ps) same);
}
  where
    same : packets_in it ≡ turns_in_service it
    same = packets_same it shape
