-- Counters of a reception, which stand still at the last value of a u64.
use Rattle.std.specs.Prelude.{◌≡◌, ℕ, zero, suc, List, [], ◌∷◌}
use Rattle.wire_spec.specs.Causes.{raised}
use Rattle.gse_spec.specs.Events.{GseEvent, pdu_event, bad_check_event, delimit_event, bad_length_event}
use Rattle.gse_spec.specs.Numbers.{IsiNumbers, PduNumbers}
use Rattle.gse_reassembly.specs.declared.slots.Part.{Part}
use Rattle.gse_reassembly.specs.declared.slots.Part.TheVariants as part
use Rattle.service_counts.specs.declared.counts.ServiceCounts.{ServiceCounts}
use Rattle.gse_reception.specs.declared.counts.Event.{Event}
use Rattle.gse_reception.specs.declared.counts.Event.TheVariants as event

-- the numbers of the input stream, and those of its PDUs
abbrev pub of_isi : ServiceCounts → IsiNumbers
of_isi counts = record {
  heard = counts.heard;
  units = counts.units;
  bad_check = counts.bad_check;
  delimited = counts.delimited;
  bad_length = counts.bad_length;
}

abbrev pub of_pdus : ServiceCounts → PduNumbers
of_pdus counts = record { unread = counts.unread; filtered = counts.filtered; datagrams = counts.datagrams }

-- its other numbers, which no packet changes: how many frames were received, and those that are words of transport packets
abbrev pub others_of : ServiceCounts → ServiceCounts
others_of counts = record counts { units = 0; bad_check = 0; delimited = 0; bad_length = 0; unread = 0; filtered = 0; datagrams = 0 }

-- duplicates, discontinuities and MPE-FEC frames, which are words of transport packets: there are none
pub record HasNoPackets (counts : ServiceCounts) : Type 0 where
  pub repeats_are : counts.repeats ≡ 0
  pub gaps_are : counts.gaps ≡ 0
  pub frames_are : counts.frames ≡ 0
  pub rows_mended_are : counts.rows_mended ≡ 0
  pub rows_left_are : counts.rows_left ≡ 0

-- all numbers of a service: of its input stream, and of its PDUs
abbrev pub service_counts_of : IsiNumbers → PduNumbers → ServiceCounts
service_counts_of of_isi of_pdus = record {
  heard = of_isi.heard;
  repeats = 0;
  gaps = 0;
  units = of_isi.units;
  bad_check = of_isi.bad_check;
  delimited = of_isi.delimited;
  bad_length = of_isi.bad_length;
  unread = of_pdus.unread;
  filtered = of_pdus.filtered;
  frames = 0;
  rows_mended = 0;
  rows_left = 0;
  datagrams = of_pdus.datagrams;
}

abbrev pub event_in : Event → GseEvent
event_in event.Pdu = pdu_event
event_in event.BadCheck = bad_check_event
event_in event.Delimited = delimit_event
event_in event.BadLength = bad_length_event

-- one frame more is counted
abbrev pub counted_frame : IsiNumbers → IsiNumbers
counted_frame n = record n { heard = raised n.heard 1 }

-- events are counted, one after another
abbrev pub counted_event : IsiNumbers → GseEvent → IsiNumbers
counted_event n pdu_event = record n { units = raised n.units 1 }
counted_event n bad_check_event = record n { bad_check = raised n.bad_check 1 }
counted_event n delimit_event = record n { delimited = raised n.delimited 1 }
counted_event n bad_length_event = record n { bad_length = raised n.bad_length 1 }

abbrev pub counted_events : IsiNumbers → List GseEvent → IsiNumbers
counted_events n [] = n
counted_events n (event ∷ events) = counted_events (counted_event n event) events

-- the counter, raised by a number; by none it stays
abbrev pub raised_by : ℕ → ℕ → ℕ
raised_by n zero = n
raised_by n (suc k) = raised n (suc k)

-- what became of PDUs is counted
abbrev pub counted_pdus : PduNumbers → PduNumbers → PduNumbers
counted_pdus n more = record {
  unread = raised_by n.unread more.unread;
  filtered = raised_by n.filtered more.filtered;
  datagrams = raised_by n.datagrams more.datagrams;
}

-- the events of a fragment that is not the last
abbrev pub events_of_part : Part → List GseEvent
events_of_part part.Kept = []
events_of_part part.NoStart = delimit_event ∷ []
events_of_part part.TooLong = bad_length_event ∷ []
