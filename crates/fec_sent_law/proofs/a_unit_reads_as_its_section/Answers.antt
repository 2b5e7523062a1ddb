use Rattle.std.proofs.Common.{ℕ, ◌*◌, ◌^◌, ◌<◌, ◌≤◌, List, length}
use Rattle.wire_spec.specs.Lists.{joined}
use Rattle.stream_spec.specs.Units.{mac_for}
use Rattle.fec_sent_law.specs.Frames.{CanSend, sections_of_frame}
use Rattle.fec_sent_law.proofs.Carried.{joined_some}
use Rattle.fec_sent_law.proofs.Macs.{mac_bytes, mac_size}
use Rattle.fec_sent_law.proofs.Sent.{AreRead, all_read, frame_read}
use Rattle.fec_sent_law.proofs.a_unit_reads_as_its_section.Goals as goal

pub returns : goal.returns
unfolding sections_of_frame
returns c =
    let read : (rows columns : ℕ) (unicast : List ℕ) (delta : ℕ → ℕ) (datagrams : List (List ℕ)) → CanSend rows columns unicast datagrams
    → 0 < length datagrams → length (joined datagrams) ≤ 191 * rows → ((i : ℕ) → delta i < 2 ^ 12) → AreRead rows (sections_of_frame rows columns unicast delta datagrams) =
    λ rows columns unicast delta datagrams can some fits below.
    frame_read c.a_written_datagram_section_reads_back.ensures.unit c.a_written_fec_section_reads_back.ensures.unit
    c.a_written_datagram_section_reads_back.ensures.read c.a_written_fec_section_reads_back.ensures.read c.an_address_or_parameters_can_be_written.ensures.parameters
    rows columns can.rows_are can.columns_most delta below (mac_for unicast)
    (λ d bytes. mac_bytes unicast d bytes can.unicast_bytes can.unicast_size) (λ d bytes. mac_size unicast d bytes can.unicast_bytes can.unicast_size) datagrams
    (joined_some datagrams some (λ i d within. (can.sendable i d within).is)) (λ i d within. (can.sendable i d within).is) can.bytes
    (λ i d within. (can.sendable i d within).size) fits in
    record {
      unit = λ rows columns unicast delta datagrams can some fits below.
          all_read rows _ (sections_of_frame rows columns unicast delta datagrams) (λ s it. it.unit) (read rows columns unicast delta datagrams can some fits below);
      read = λ rows columns unicast delta datagrams can some fits below.
          all_read rows _ (sections_of_frame rows columns unicast delta datagrams) (λ s it. it.reads) (read rows columns unicast delta datagrams can some fits below);
      within = λ rows columns unicast delta datagrams can some fits below.
          all_read rows _ (sections_of_frame rows columns unicast delta datagrams) (λ s it. it.read) (read rows columns unicast delta datagrams can some fits below);
    }
