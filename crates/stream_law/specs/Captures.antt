-- What the records of a capture give.
use Rattle.std.specs.Prelude.{ℕ, List, map, Option, Some, None}
use Rattle.pcap_file.specs.Reading.{link_at}
use Rattle.pcap_file.specs.Captured.{captured_datagram}
use Rattle.pcap_file.specs.declared.captured.LinkType.{LinkType}

-- the datagram in a record, by the link type of the capture (draft-ietf-opsawg-pcap)
abbrev pub datagram_in : Option LinkType → List ℕ → Option (List ℕ)
datagram_in None captured = None
datagram_in (Some link) captured = captured_datagram link captured

-- what each of the records that a capture tells gives: a datagram, or none
abbrev pub given_by : List ℕ → List (List ℕ) → List (Option (List ℕ))
given_by capture told = map (datagram_in (link_at capture)) told
