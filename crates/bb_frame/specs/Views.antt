-- A frame of the code as its fields, and its fault as the refusal of the definitions.
use Rattle.gse_spec.specs.Frame.{FrameFields, FrameRefusal, wrong_crc, other_kind, wrong_length}
use Rattle.bb_frame.specs.declared.frame.Frame.{Frame}
use Rattle.bb_frame.specs.declared.frame.FrameFault.{FrameFault}
use Rattle.bb_frame.specs.declared.frame.FrameFault.TheVariants as fault

-- the fields of a frame
abbrev pub fields_in : Frame → FrameFields
fields_in frame = record { isi = frame.isi; field = frame.field.now }

-- the refusal that a fault names
abbrev pub refusal_in : FrameFault → FrameRefusal
refusal_in fault.Crc = wrong_crc
refusal_in fault.Kind = other_kind
refusal_in fault.Dfl = wrong_length
