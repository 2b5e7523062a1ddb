-- Sections of the code as the fields that their bytes carry.
use Rattle.std.specs.Prelude.{Option, Some, None}
use Rattle.section_spec.specs.Mpe.{RealTimeFields, MpeFields, FecFields}
use Rattle.mpe_section.specs.declared.real_time.RealTime.{RealTime}
use Rattle.mpe_section.specs.declared.mpe.Mpe.{Mpe}
use Rattle.mpe_section.specs.declared.fec.Fec.{Fec}

-- real_time_parameters
abbrev pub real_time_in : RealTime → RealTimeFields
real_time_in t = record { delta = t.delta; table_boundary = t.table_boundary; frame_boundary = t.frame_boundary; address = t.address }

-- the same, where they are given
abbrev pub given : Option RealTime → Option RealTimeFields
given None = None
given (Some t) = Some (real_time_in t)

-- the fields of a datagram_section
abbrev pub mpe_in : Mpe → MpeFields
mpe_in m = record { mac = m.mac; real_time = real_time_in m.real_time; datagram = m.datagram.now }

-- the fields of an MPE-FEC section
abbrev pub fec_in : Fec → FecFields
fec_in f = record { padding = f.padding; number = f.number; last = f.last; real_time = real_time_in f.real_time; column = f.column.now }
