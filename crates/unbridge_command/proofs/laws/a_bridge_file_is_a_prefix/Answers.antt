use Rattle.std.proofs.Common.{◌≡◌}
use Rattle.unbridge_command.proofs.Prefixes.{bridge_part}
use Rattle.unbridge_command.proofs.laws.a_bridge_file_is_a_prefix.Goals as goal

pub returns : goal.returns
returns c = record { part = λ result carrier input now rack now_rack bytes pieces tail. bridge_part result carrier input now rack now_rack (now ≡ input) bytes pieces tail }
