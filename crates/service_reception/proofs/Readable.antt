-- A datagram_section is read.
use Rattle.std.proofs.Common.{◌≡◌, ℕ, true, List, length, option_to_list, ap, Option, Some}
use Rattle.std.specs.Prelude.{nat_lt, option_map}
use Rattle.section_spec.specs.Section.{section_fields}
use Rattle.section_spec.specs.Mpe.{MpeFields, mpe_of}
use Rattle.plan_spec.specs.Plan.{KindFields, ule, mpe, fec, gse}
use Rattle.reception_spec.specs.Units.{is_read}
use Rattle.service_reception.specs.Services.{IsMpe}

pub mpe_is_read : (kind : KindFields) → IsMpe kind → (unit : List ℕ) (m : MpeFields) → mpe_of (section_fields unit) ≡ Some m → is_read kind unit ≡ true
mpe_is_read (ule pid address packing) of_kind unit m is = absurd of_kind
mpe_is_read (mpe pid) of_kind unit m is = ap (λ (o : Option MpeFields). nat_lt 0 (length (option_to_list (option_map (λ (f : MpeFields). f.datagram) o)))) is
mpe_is_read (fec pid rows parity window) of_kind unit m is = absurd of_kind
mpe_is_read (gse isi address) of_kind unit m is = absurd of_kind
