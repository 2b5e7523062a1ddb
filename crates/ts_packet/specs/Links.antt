-- How a packet of a PID follows the packet received before it (ISO/IEC 13818-1 clause 2.4.3.3).
use Rattle.std.specs.Prelude.{◌≡◌, ℕ, List, [], ◌∷◌, if◌then◌else◌, Option, Some, None}
use Rattle.ts_spec.specs.Packet.{continues, fields_of}
use Rattle.ts_spec.specs.Received.{repeats}
use Rattle.ts_packet.specs.declared.continuity.Link.{Link}
use Rattle.ts_packet.specs.declared.continuity.Link.TheVariants.{First, Next, Repeat, Gap}

-- how a packet of these bytes follows the packet with the bytes before, where there is one: First, Repeat, Next or Gap (ISO/IEC 13818-1 clause 2.4.3.3)
abbrev pub link_of : Option (List ℕ) → List ℕ → Link
link_of None bytes = First
link_of (Some before) bytes =
    if repeats (Some before) bytes then Repeat else
    if continues (fields_of before) (fields_of bytes) then Next else
    Gap

-- the last of the packets, or the one before them
abbrev pub last_or : Option (List ℕ) → List (List ℕ) → Option (List ℕ)
last_or before [] = before
last_or before (bytes ∷ behind) = last_or (Some bytes) behind

-- the last of the packets, where there is one
abbrev pub last_of : List (List ℕ) → Option (List ℕ)
last_of seen = last_or None seen

-- a continuity keeps the last of the packets that it has seen
abbrev pub IsLastOf : Option (List ℕ) → List (List ℕ) → Type 0
IsLastOf last seen = last ≡ last_of seen
