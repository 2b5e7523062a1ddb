use Rattle.fec_sent_law.proofs.Carried.{filled_of, frames_carry, frames_units}
use Rattle.fec_sent_law.proofs.Macs.{mac_bytes, mac_size}
use Rattle.fec_sent_law.proofs.frames_carry_their_datagrams.Goals as goal

pub returns-clause-carried : goal.returns-clause-carried
returns-clause-carried c = λ rows columns first unicast frames moments can some fit.
    frames_carry c.a_written_datagram_section_reads_back.ensures.unit c.a_written_fec_section_reads_back.ensures.unit
    c.a_written_datagram_section_reads_back.ensures.read c.a_written_fec_section_reads_back.ensures.read c.an_address_or_parameters_can_be_written.ensures.parameters
    rows columns can.rows_are can.columns_least can.columns_most unicast
    (λ d bytes. mac_bytes unicast d bytes can.unicast_bytes can.unicast_size) (λ d bytes. mac_size unicast d bytes can.unicast_bytes can.unicast_size) first moments frames
    (filled_of rows frames some fit (λ i d within. record { sendable = can.sendable i d within; bytes = can.bytes i d within }))

pub returns-clause-units : goal.returns-clause-units
returns-clause-units c = λ rows columns first unicast frames can some fit.
    frames_units c.a_written_datagram_section_reads_back.ensures.unit c.a_written_fec_section_reads_back.ensures.unit
    c.a_written_datagram_section_reads_back.ensures.read c.a_written_fec_section_reads_back.ensures.read c.an_address_or_parameters_can_be_written.ensures.parameters
    rows columns can.rows_are can.columns_least can.columns_most unicast
    (λ d bytes. mac_bytes unicast d bytes can.unicast_bytes can.unicast_size) (λ d bytes. mac_size unicast d bytes can.unicast_bytes can.unicast_size) first (λ n. 0) frames
    (filled_of rows frames some fit (λ i d within. record { sendable = can.sendable i d within; bytes = can.bytes i d within }))
