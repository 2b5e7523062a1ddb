-- What the file has at any end of an `unbridge`.
use Rattle.std.specs.Prelude.{◌⊎◌, ℕ, List, Option}
use Rattle.wire_spec.specs.Content.{File, AddsFile, Stays}
use Rattle.capture_files.specs.Files.{IsPart}
use Rattle.unbridge_command.specs.Unbridging.{bridge_name}

-- bridge.pcap was added with a prefix of a text
pub record AddsBridgePart (text : List ℕ) (old new : Option (List File)) : Type 0 where
  pub file : File
  pub part : IsPart text bridge_name file
  pub added : AddsFile old new file

-- no file was added, or this one
abbrev pub HasBridgePart : List ℕ → Option (List File) → Option (List File) → Type 0
HasBridgePart text old new = Stays old new ⊎ AddsBridgePart text old new
