-- The units that a sender makes of a service's datagrams, and the packets that carry them: SNDUs (RFC 4326), datagram_sections
-- (EN 301 192 clause 7), and the sections of MPE-FEC frames (clause 9), with and without time slicing.
use Rattle.std.specs.Prelude.{ℕ, ◌+◌, ◌-◌, ◌%◌, Bool, true, not, ◌&&◌, List, [], ◌∷◌, ◌++◌, length, take, map, flat_map, ◌==◌, nat_le, if◌then◌else◌, Some, None}
use Rattle.wire_spec.specs.Datagram.{ether_type_of}
use Rattle.ip_datagram.specs.Destination.{destination_of}
use Rattle.addr_rules.specs.Macs.{mac_of_address}
use Rattle.ts_spec.specs.Packet.{PacketFields}
use Rattle.ts_spec.specs.Packetized.{unit_at}
use Rattle.ts_spec.specs.Recording.{RecordingForm}
use Rattle.ts_spec.specs.Sndu.{sndu_form, sndu_bytes}
use Rattle.section_spec.specs.Section.{section_form}
use Rattle.section_spec.specs.Mpe.{mpe_to_write, mpe_bytes}
use Rattle.slice_spec.specs.Bursts.{Slicing, moment_in, delta_to_next}
use Rattle.fec_frame_spec.specs.Sender.{datagrams_in_frames, fits_table, frame_of, sections_to_send, section_unit}
use Rattle.unit_stream.specs.Packing.{packetized}
use Rattle.plan_spec.specs.Plan.{WindowFields, KindFields, ule, mpe, fec, gse, ServiceFields}

-- the address of the receivers that a datagram is for: that of its group, or the service's own (RFC 4326 section 4.5, EN 301 192 clause 7)
abbrev pub mac_for : List ℕ → List ℕ → List ℕ
mac_for unicast datagram = mac_of_address (destination_of datagram) unicast

-- the SNDU of a datagram, with an NPA address where the service has them (RFC 4326 section 4)
abbrev pub sndu_of : Bool → List ℕ → List ℕ → List ℕ
sndu_of address unicast datagram = sndu_bytes (if address then Some (mac_for unicast datagram) else None) (ether_type_of datagram) datagram

-- the datagram_section of a datagram (EN 301 192 clause 7)
abbrev pub section_of : List ℕ → List ℕ → List ℕ
section_of unicast datagram = mpe_bytes (mpe_to_write (mac_for unicast datagram) None datagram)

-- the unit that a datagram is sent in by itself, where the service's own receivers have this address; the other kinds have none
abbrev pub unit_of : KindFields → List ℕ → List ℕ → List ℕ
unit_of (ule pid address packing) unicast datagram = sndu_of address unicast datagram
unit_of (mpe pid) unicast datagram = section_of unicast datagram
unit_of (fec pid rows parity window) unicast datagram = []
unit_of (gse isi address) unicast datagram = []

-- Frames. The frames of a service are numbered from 0, over all parts of a stream and whatever its PID is. delta_t of their sections tells
-- when they go out: without time slicing by the number of the frame, with it by the time to the next burst.

-- when the frames of a service go out in one part of a stream: the number of the first of them; the form of the records, how many packets
-- go out in a second, and how many slots a cycle has; how many slots of the stream come before the part; and whether the service has frames
-- in a later part
pub record FrameSchedule : Type 0 where
  pub first : ℕ
  pub form : RecordingForm
  pub rate : ℕ
  pub cycle : ℕ
  pub slots_before : ℕ
  pub goes_on : Bool

-- the units of a frame with so many rows, of whose RS data table so many columns are sent: a section of each datagram, and then one of each column; section i
-- has delta_t delta i (EN 301 192 clause 9)
abbrev pub units_with_delta : ℕ → ℕ → List ℕ → (ℕ → ℕ) → List (List ℕ) → List (List ℕ)
units_with_delta rows columns unicast delta datagrams =
    map section_unit (sections_to_send rows (frame_of rows columns datagrams) (mac_for unicast) delta)

-- Without time slicing delta_t of a section is the number of its frame modulo 4096.

-- without time slicing, the datagrams of each frame: as many as its table has room for
abbrev pub datagrams_by_frame : ℕ → List (List ℕ) → List (List (List ℕ))
datagrams_by_frame rows datagrams = datagrams_in_frames (fits_table rows) datagrams

-- without time slicing, the units of the frame of this number, all with the number modulo 4,096 as delta_t (EN 301 192 clause 9)
abbrev pub units_of_frame : ℕ → ℕ → List ℕ → ℕ → List (List ℕ) → List (List ℕ)
units_of_frame rows columns unicast number datagrams = units_with_delta rows columns unicast (λ i. number % 4096) datagrams

-- those of frames one after another, of which the first has this number
abbrev pub units_of_frames : ℕ → ℕ → List ℕ → ℕ → List (List (List ℕ)) → List (List ℕ)
units_of_frames rows columns unicast number [] = []
units_of_frames rows columns unicast number (frame ∷ frames) =
    units_of_frame rows columns unicast number frame ++ units_of_frames rows columns unicast (number + 1) frames

-- With time slicing each frame is a burst: the first of a part goes out in the window of the part's first cycle, each other one in the window
-- of the next cycle. delta_t of a section is the time to the window after, in which a burst may be missing.

-- the sections of a burst, as far as their sizes tell how they are packetized: neither delta_t nor the address of the receivers changes these
abbrev pub sized_units : ℕ → ℕ → List (List ℕ) → List (List ℕ)
sized_units rows columns datagrams = units_with_delta rows columns [] (λ i. 0) datagrams

-- how many packets the burst of a frame has
abbrev pub burst_size : ℕ → ℕ → List (List ℕ) → ℕ
burst_size rows columns datagrams = length (packetized section_form true 0 0 (sized_units rows columns datagrams))

-- the packet of the burst, from 0, with the first byte of section i: the last one of the sections before it and of this byte
abbrev pub packet_of_section : ℕ → ℕ → List (List ℕ) → ℕ → ℕ
packet_of_section rows columns datagrams i =
    length (packetized section_form true 0 0 (take i (sized_units rows columns datagrams) ++ take 1 (unit_at (sized_units rows columns datagrams) i) ∷ [])) - 1

-- datagrams fit the application data table, and their burst fits a window of so many slots
abbrev pub fits_window : ℕ → ℕ → ℕ → List (List ℕ) → Bool
fits_window rows columns slots datagrams = fits_table rows datagrams && nat_le (burst_size rows columns datagrams) slots

-- with time slicing, the datagrams of each burst: as many as fit
abbrev pub datagrams_by_burst : ℕ → ℕ → ℕ → List (List ℕ) → List (List (List ℕ))
datagrams_by_burst rows columns slots datagrams = datagrams_in_frames (fits_window rows columns slots) datagrams

-- how the bursts of the part are sliced, in slots of the stream: each window comes later by as many as come before the part
abbrev pub slicing_in_part : FrameSchedule → WindowFields → Slicing
slicing_in_part schedule window = record {
  form = schedule.form;
  rate = schedule.rate;
  cycle = schedule.cycle;
  start = schedule.slots_before + window.start;
  length = window.length;
}

-- the moment of packet n of the burst in a cycle of the part, and the time from it to the window in the next cycle (EN 301 192 clause 9)
abbrev pub burst_moment : FrameSchedule → WindowFields → ℕ → ℕ → ℕ
burst_moment schedule window c n = moment_in (slicing_in_part schedule window) c n

abbrev pub delta_after : FrameSchedule → WindowFields → ℕ → ℕ → ℕ
delta_after schedule window c n = delta_to_next (slicing_in_part schedule window) c n

-- the units of the burst of a cycle: delta_t is the time to the window in the next cycle, and 0 in the last burst of all, which announces none (EN 301 192
-- clause 9)
abbrev pub units_of_burst : ℕ → ℕ → List ℕ → FrameSchedule → WindowFields → Bool → ℕ → List (List ℕ) → List (List ℕ)
units_of_burst rows columns unicast schedule window is_last c datagrams =
    units_with_delta rows columns unicast
    (λ i. if is_last then 0 else delta_after schedule window c (packet_of_section rows columns datagrams i)) datagrams

-- those of bursts one after another, from a cycle on
abbrev pub units_by_burst : ℕ → ℕ → List ℕ → FrameSchedule → WindowFields → ℕ → List (List (List ℕ)) → List (List (List ℕ))
units_by_burst rows columns unicast schedule window c [] = []
units_by_burst rows columns unicast schedule window c (frame ∷ frames) =
    units_of_burst rows columns unicast schedule window (not schedule.goes_on && (length frames == 0)) c frame
    ∷ units_by_burst rows columns unicast schedule window (c + 1) frames

-- the packets of lists of units, each list packetized by itself, with counters that go on
abbrev pub packetized_apart : ℕ → ℕ → List (List (List ℕ)) → List PacketFields
packetized_apart pid counter [] = []
packetized_apart pid counter (units ∷ others) =
    packetized section_form true pid counter units
    ++ packetized_apart pid ((counter + length (packetized section_form true pid counter units)) % 16) others

-- how many frames a service makes of its datagrams
abbrev pub frame_count : KindFields → List (List ℕ) → ℕ
frame_count (ule pid address packing) datagrams = 0
frame_count (mpe pid) datagrams = 0
frame_count (fec pid rows parity None) datagrams = length (datagrams_by_frame rows datagrams)
frame_count (fec pid rows parity (Some window)) datagrams = length (datagrams_by_burst rows parity window.length datagrams)
frame_count (gse isi address) datagrams = 0

-- how many packets its bursts have, one for each cycle from the first on; without time slicing there are none
abbrev pub burst_sizes : KindFields → List (List ℕ) → List ℕ
burst_sizes (ule pid address packing) datagrams = []
burst_sizes (mpe pid) datagrams = []
burst_sizes (fec pid rows parity None) datagrams = []
burst_sizes (fec pid rows parity (Some window)) datagrams = map (burst_size rows parity) (datagrams_by_burst rows parity window.length datagrams)
burst_sizes (gse isi address) datagrams = []

-- The units of a service's datagrams, in order: one of each datagram, or those of frames, which go out by a schedule.
abbrev pub units_of_kind : KindFields → List ℕ → FrameSchedule → List (List ℕ) → List (List ℕ)
units_of_kind (ule pid address packing) unicast schedule datagrams = map (sndu_of address unicast) datagrams
units_of_kind (mpe pid) unicast schedule datagrams = map (section_of unicast) datagrams
units_of_kind (fec pid rows parity None) unicast schedule datagrams =
    units_of_frames rows parity unicast schedule.first (datagrams_by_frame rows datagrams)
units_of_kind (fec pid rows parity (Some window)) unicast schedule datagrams =
    flat_map (λ (burst : List (List ℕ)). burst)
    (units_by_burst rows parity unicast schedule window 0 (datagrams_by_burst rows parity window.length datagrams))
units_of_kind (gse isi address) unicast schedule datagrams = []

-- the packets that carry them, with counters from one on: those of all units together, or of each burst by itself. Of GSE there are none
abbrev pub packets_of_kind : KindFields → List ℕ → ℕ → FrameSchedule → List (List ℕ) → List PacketFields
packets_of_kind (ule pid address packing) unicast counter schedule datagrams =
    packetized sndu_form packing pid counter (units_of_kind (ule pid address packing) unicast schedule datagrams)
packets_of_kind (mpe pid) unicast counter schedule datagrams =
    packetized section_form true pid counter (units_of_kind (mpe pid) unicast schedule datagrams)
packets_of_kind (fec pid rows parity None) unicast counter schedule datagrams =
    packetized section_form true pid counter (units_of_kind (fec pid rows parity None) unicast schedule datagrams)
packets_of_kind (fec pid rows parity (Some window)) unicast counter schedule datagrams =
    packetized_apart pid counter (units_by_burst rows parity unicast schedule window 0 (datagrams_by_burst rows parity window.length datagrams))
packets_of_kind (gse isi address) unicast counter schedule datagrams = []

abbrev pub packets_of : ServiceFields → ℕ → FrameSchedule → List (List ℕ) → List PacketFields
packets_of service counter schedule datagrams = packets_of_kind service.kind service.unicast counter schedule datagrams
