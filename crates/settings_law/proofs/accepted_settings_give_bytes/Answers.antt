use Rattle.settings_law.proofs.Wholes.{accepted_of_bytes, accepted_versions_of_bytes}
use Rattle.settings_law.proofs.accepted_settings_give_bytes.Goals as goal

pub returns : goal.returns
returns c = record { bytes = accepted_of_bytes; versions = λ bytes plan version accepted. accepted_versions_of_bytes bytes plan accepted version }
