-- What the code makes of a PDU.
use Rattle.std.specs.Prelude.{◌≡◌, List, [], ◌∷◌, ℕ}
use Rattle.gse_spec.specs.Reassembly.{Pdu}
use Rattle.gse_spec.specs.Received.{carried_by_pdu, delivered_by_pdu}
use Rattle.gse_spec.specs.Numbers.{PduNumbers, pdu_numbers}
use Rattle.gse_reception.specs.declared.handling.WholePdu.{WholePdu}
use Rattle.gse_reception.specs.declared.handling.Handling.{Handling}
use Rattle.gse_reception.specs.declared.handling.Handling.TheVariants as handling

-- a PDU of the code
abbrev pub pdu_in : WholePdu → Pdu
pdu_in pdu = record { protocol = pdu.protocol; label = pdu.label; bytes = pdu.bytes.now }

-- what is counted of it, and what is delivered
abbrev pub handling_numbers : Handling → PduNumbers
handling_numbers handling.Unread = record { unread = 1; filtered = 0; datagrams = 0 }
handling_numbers handling.Filtered = record { unread = 0; filtered = 1; datagrams = 0 }
handling_numbers (handling.Wanted datagram) = record { unread = 0; filtered = 0; datagrams = 1 }

abbrev pub handling_datagrams : Handling → List (List ℕ)
handling_datagrams handling.Unread = []
handling_datagrams handling.Filtered = []
handling_datagrams (handling.Wanted datagram) = datagram.now ∷ []

-- this becomes of a PDU at a service with this filter
pub record TellsHandling (filter : List (List ℕ)) (pdu : Pdu) (told : Handling) : Type 0 where
  pub numbers : pdu_numbers carried_by_pdu filter (pdu ∷ []) ≡ handling_numbers told
  pub datagrams : delivered_by_pdu carried_by_pdu filter pdu ≡ handling_datagrams told
