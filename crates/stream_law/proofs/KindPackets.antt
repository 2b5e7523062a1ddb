-- The packets of a service: they are of its PID, and their counters go on.
use Rattle.std.proofs.Common.{◌≡◌, ℕ, ◌%◌, ◌<◌, ◌≤◌, true, List, [], length, Some, None, refl, sym, ap, ◌∙◌, arith}
use Rattle.std.specs.Prelude.{sum}
use Rattle.ts_spec.specs.Packetized.{packet_at}
use Rattle.ts_spec.specs.Sndu.{sndu_form}
use Rattle.section_spec.specs.Section.{section_form}
use Rattle.plan_spec.specs.Plan.{KindFields, ule, mpe, fec, gse, pid_of, SlicedFields, sliced_of}
use Rattle.unit_stream.specs.Packing.{packetized}
use Rattle.stream_spec.specs.Units.{FrameSchedule, datagrams_by_frame, units_of_frames, datagrams_by_burst, units_by_burst, burst_sizes, units_of_kind, packets_of_kind}
use Rattle.stream_law.proofs.Packets.{IsOn, packetized_on, GoOn, none_go_on, packetized_go_on, length-packetized}
use Rattle.stream_law.proofs.Apart.{apart_on, apart_go_on}
use Rattle.stream_law.proofs.Bursts.{length-bursts}

pub kind_on : (kind : KindFields) (unicast : List ℕ) (counter : ℕ) (schedule : FrameSchedule) (datagrams : List (List ℕ)) → counter ≤ 15
    → (n : ℕ) → n < length (packets_of_kind kind unicast counter schedule datagrams)
    → (pid : ℕ) × (pid_of kind ≡ Some pid) × IsOn pid (packet_at (packets_of_kind kind unicast counter schedule datagrams) n)
kind_on (ule pid address packing) unicast counter schedule datagrams le n less =
    (pid, refl, packetized_on sndu_form packing pid counter (units_of_kind (ule pid address packing) unicast schedule datagrams) le n less)
kind_on (mpe pid) unicast counter schedule datagrams le n less =
    (pid, refl, packetized_on section_form true pid counter (units_of_kind (mpe pid) unicast schedule datagrams) le n less)
kind_on (fec pid rows parity None) unicast counter schedule datagrams le n less =
    (pid, refl, packetized_on section_form true pid counter (units_of_kind (fec pid rows parity None) unicast schedule datagrams) le n less)
kind_on (fec pid rows parity (Some window)) unicast counter schedule datagrams le n less =
    (pid, refl, apart_on pid counter (units_by_burst rows parity unicast schedule window 0 (datagrams_by_burst rows parity window.length datagrams)) le n less)
kind_on (gse isi address) unicast counter schedule datagrams le n less = absurd (omega (arith, less))

-- Their number: neither the first counter nor what comes before the part changes it.

pub length-packets_of_kind : (kind : KindFields) (unicast : List ℕ) (counter counter2 : ℕ) (schedule schedule2 : FrameSchedule) (datagrams : List (List ℕ))
    → schedule.first ≡ schedule2.first
    → length (packets_of_kind kind unicast counter schedule datagrams) ≡ length (packets_of_kind kind unicast counter2 schedule2 datagrams)
length-packets_of_kind (ule pid address packing) unicast counter counter2 schedule schedule2 datagrams same =
    length-packetized sndu_form packing pid counter (units_of_kind (ule pid address packing) unicast schedule datagrams)
    ∙ sym (length-packetized sndu_form packing pid counter2 (units_of_kind (ule pid address packing) unicast schedule datagrams))
length-packets_of_kind (mpe pid) unicast counter counter2 schedule schedule2 datagrams same =
    length-packetized section_form true pid counter (units_of_kind (mpe pid) unicast schedule datagrams)
    ∙ sym (length-packetized section_form true pid counter2 (units_of_kind (mpe pid) unicast schedule datagrams))
length-packets_of_kind (fec pid rows parity None) unicast counter counter2 schedule schedule2 datagrams same =
    length-packetized section_form true pid counter (units_of_kind (fec pid rows parity None) unicast schedule datagrams)
    ∙ sym (length-packetized section_form true pid counter2 (units_of_kind (fec pid rows parity None) unicast schedule datagrams))
    ∙ ap (λ (n : ℕ). length (packetized section_form true pid counter2 (units_of_frames rows parity unicast n (datagrams_by_frame rows datagrams)))) same
length-packets_of_kind (fec pid rows parity (Some window)) unicast counter counter2 schedule schedule2 datagrams same =
    length-bursts rows parity unicast schedule window pid counter 0 (datagrams_by_burst rows parity window.length datagrams)
    ∙ sym (length-bursts rows parity unicast schedule2 window pid counter2 0 (datagrams_by_burst rows parity window.length datagrams))
length-packets_of_kind (gse isi address) unicast counter counter2 schedule schedule2 datagrams same = refl

-- a service has no more packets in bursts than it has in all
pub bursts_within : (kind : KindFields) (unicast : List ℕ) (counter : ℕ) (schedule : FrameSchedule) (datagrams : List (List ℕ))
    → sum (burst_sizes kind datagrams) ≤ length (packets_of_kind kind unicast counter schedule datagrams)
bursts_within (ule pid address packing) unicast counter schedule datagrams = omega arith
bursts_within (mpe pid) unicast counter schedule datagrams = omega arith
bursts_within (fec pid rows parity None) unicast counter schedule datagrams = omega arith
bursts_within (fec pid rows parity (Some window)) unicast counter schedule datagrams =
    omega (arith, length-bursts rows parity unicast schedule window pid counter 0 (datagrams_by_burst rows parity window.length datagrams))
bursts_within (gse isi address) unicast counter schedule datagrams = omega arith

-- a sliced service has them all in bursts
pub bursts_are_all : (kind : KindFields) (fields : SlicedFields) (unicast : List ℕ) (counter : ℕ) (schedule : FrameSchedule) (datagrams : List (List ℕ))
    → sliced_of kind ≡ Some fields → length (packets_of_kind kind unicast counter schedule datagrams) ≡ sum (burst_sizes kind datagrams)
bursts_are_all (ule pid address packing) fields unicast counter schedule datagrams is = absurd (cc)
bursts_are_all (mpe pid) fields unicast counter schedule datagrams is = absurd (cc)
bursts_are_all (fec pid rows parity None) fields unicast counter schedule datagrams is = absurd (cc)
bursts_are_all (fec pid rows parity (Some window)) fields unicast counter schedule datagrams is =
    length-bursts rows parity unicast schedule window pid counter 0 (datagrams_by_burst rows parity window.length datagrams)
bursts_are_all (gse isi address) fields unicast counter schedule datagrams is = absurd (cc)

-- and another has none
pub no_bursts : (kind : KindFields) (datagrams : List (List ℕ)) → sliced_of kind ≡ None → burst_sizes kind datagrams ≡ []
no_bursts (ule pid address packing) datagrams is = refl
no_bursts (mpe pid) datagrams is = refl
no_bursts (fec pid rows parity None) datagrams is = refl
no_bursts (fec pid rows parity (Some window)) datagrams is = absurd (cc)
no_bursts (gse isi address) datagrams is = refl

pub kind_go_on : (kind : KindFields) (unicast : List ℕ) (before : ℕ) (schedule : FrameSchedule) (datagrams : List (List ℕ))
    → GoOn before (packets_of_kind kind unicast (before % 16) schedule datagrams)
kind_go_on (ule pid address packing) unicast before schedule datagrams =
    packetized_go_on sndu_form packing pid before (units_of_kind (ule pid address packing) unicast schedule datagrams)
kind_go_on (mpe pid) unicast before schedule datagrams = packetized_go_on section_form true pid before (units_of_kind (mpe pid) unicast schedule datagrams)
kind_go_on (fec pid rows parity None) unicast before schedule datagrams =
    packetized_go_on section_form true pid before (units_of_kind (fec pid rows parity None) unicast schedule datagrams)
kind_go_on (fec pid rows parity (Some window)) unicast before schedule datagrams =
    apart_go_on pid before (units_by_burst rows parity unicast schedule window 0 (datagrams_by_burst rows parity window.length datagrams))
kind_go_on (gse isi address) unicast before schedule datagrams = none_go_on before
