use Rattle.std.proofs.Common.{refl}
use Rattle.wire_spec.specs.BitPolynomials.{bits, divided, remainder}
use Rattle.wire_spec.specs.Crc.{crc_remainder}
use Rattle.wire_spec.proofs.check_values.Goals as goal

pub returns : goal.returns
unfolding bits divided remainder crc_remainder
returns c = record { long = refl; short = refl; long_of_none = refl; short_of_none = refl }
