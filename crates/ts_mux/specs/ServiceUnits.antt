-- The units of a service in one part.
use Rattle.std.specs.Prelude.{◌≡◌, ℕ, ◌≤◌, true, List, length, Some, None}
use Rattle.section_spec.specs.Mpe.{IsRows}
use Rattle.plan_spec.specs.Plan.{KindFields, ule, mpe, fec, gse, SlicedFields, sliced_of}
use Rattle.plan_spec.specs.Signalling.{burst_duration}
use Rattle.stream_law.specs.Words.{is_single}
use Rattle.fec_units.specs.Ends.{AreFrameEnds}
use Rattle.fec_units.specs.Bursts.{AreBurstEnds}
use Rattle.fec_units.specs.declared.frame_units.FrameUnits.{FrameUnits}
use Rattle.ts_mux.specs.Units.{AreEndsOf}
use Rattle.ts_mux.specs.declared.service_units.ServiceUnits.{ServiceUnits}
use Rattle.ts_mux.specs.declared.service_units.ServiceUnits.TheVariants.{Ends, Frames, Bursts}

-- each datagram has a unit of its own, and they end here
pub record AreSingle (kind : KindFields) (unicast : List ℕ) (datagrams : List (List ℕ)) (ends : List ℕ) : Type 0 where
  pub single : is_single kind ≡ true
  pub ends_are : AreEndsOf kind unicast datagrams ends

-- the datagrams stand in frames without time slicing, of which the first has this number, and whose units end here
pub record AreOfFrames (kind : KindFields) (number : ℕ) (datagrams : List (List ℕ)) (units : FrameUnits) (first : ℕ) : Type 0 where
  pub pid : ℕ
  pub rows : ℕ
  pub parity : ℕ
  pub kind_is : kind ≡ fec pid rows parity None
  pub first_is : first ≡ number
  pub ends_are : AreFrameEnds rows parity datagrams units.ends.items

-- the datagrams stand in the bursts of a sliced service, which end here
pub record AreOfBursts (kind : KindFields) (datagrams : List (List ℕ)) (ends : List ℕ) : Type 0 where
  pub fields : SlicedFields
  pub sliced : sliced_of kind ≡ Some fields
  pub ends_are : AreBurstEnds fields.rows fields.parity fields.length datagrams ends

abbrev pub AreUnitsFor : KindFields → List ℕ → ℕ → List (List ℕ) → ServiceUnits → Type 0
AreUnitsFor kind unicast number datagrams (Ends ends) = AreSingle kind unicast datagrams ends.items
AreUnitsFor kind unicast number datagrams (Frames units first) = AreOfFrames kind number datagrams units first
AreUnitsFor kind unicast number datagrams (Bursts ends) = AreOfBursts kind datagrams ends.items

-- frames of this kind have rows and columns as there are
abbrev pub HasFrames : KindFields → Type 0
HasFrames (ule pid address packing) = Unit {0}
HasFrames (mpe pid) = Unit {0}
HasFrames (fec pid rows parity window) = IsRows rows × (1 ≤ parity) × (parity ≤ 64)
HasFrames (gse isi address) = Unit {0}

-- the bursts of a service of this kind are short enough for max_burst_duration
abbrev pub HasShortBursts : ℕ → KindFields → Type 0
HasShortBursts packet_rate kind = (fields : SlicedFields) → sliced_of kind ≡ Some fields → burst_duration packet_rate fields.length ≤ 255

-- how many frames they are of
abbrev pub frames_in : ServiceUnits → ℕ
frames_in (Ends ends) = 0
frames_in (Frames units first) = units.frames
frames_in (Bursts ends) = length ends.items
