-- Recordings: transport packets one after another, bare or each after a time stamp.
use Rattle.std.specs.Prelude.{ℕ, ◌+◌, ◌-◌, ◌*◌, ◌%◌, ◌^◌, List, [], ◌∷◌, drop, map, nat_lt, if◌then◌else◌, Option, Some, None}
use Rattle.wire_spec.specs.Bytes.{u32_at}

-- plain, stamped or m2ts: before each packet nothing; microseconds in 8 bytes; or 30 bits of arrival time at 27 MHz after 2 bits of copy permission
pub data RecordingForm : Type 0 where
  plain : RecordingForm
  stamped : RecordingForm
  m2ts : RecordingForm

-- the bytes before each packet: 0, 8 or 4
abbrev pub stamp_size : RecordingForm → ℕ
stamp_size plain = 0
stamp_size stamped = 8
stamp_size m2ts = 4

-- the bytes of a record
abbrev pub record_size : RecordingForm → ℕ
record_size form = stamp_size form + 188

-- a record: its arrival time, where it has one, and the bytes of its packet
pub record Record : Type 0 where
  pub moment : Option ℕ
  pub bytes : List ℕ

-- a record of a plain recording has the moment 0
abbrev pub plain_record : List ℕ → Record
plain_record piece = record { moment = Some 0; bytes = piece }

-- the number in the 8 bytes of a stamp
abbrev pub microseconds : List ℕ → ℕ
microseconds piece = u32_at piece 0 * 2 ^ 32 + u32_at piece 4

-- a record of a stamped recording, whose moment is in microseconds; Profile: a stamp of 2^62 or more is no moment
abbrev pub stamped_record : List ℕ → Record
stamped_record piece = record {
  moment = if nat_lt (microseconds piece) (2 ^ 62) then Some (microseconds piece) else None;
  bytes = drop 8 piece;
}

-- the arrival time of an m2ts record modulo 2^30, under its 2 bits of copy permission
abbrev pub m2ts_stamp : List ℕ → ℕ
m2ts_stamp piece = u32_at piece 0 % 2 ^ 30

-- the moment of a record of this stamp: that of the record before and the difference of their stamps; the first has its bare stamp
abbrev pub moment_behind : Option ℕ → ℕ → ℕ
moment_behind None stamp = stamp
moment_behind (Some before) stamp = before + (stamp + 2 ^ 30 - before % 2 ^ 30) % 2 ^ 30

-- a record of an m2ts recording after one with this moment
abbrev pub m2ts_record : Option ℕ → List ℕ → Record
m2ts_record before piece = record { moment = Some (moment_behind before (m2ts_stamp piece)); bytes = drop 4 piece }

-- the records after one with this moment
abbrev pub m2ts_records : Option ℕ → List (List ℕ) → List Record
m2ts_records before [] = []
m2ts_records before (piece ∷ pieces) =
    m2ts_record before piece ∷ m2ts_records (Some (moment_behind before (m2ts_stamp piece))) pieces

-- the records of a recording that is cut into these pieces
abbrev pub records_of : RecordingForm → List (List ℕ) → List Record
records_of plain pieces = map plain_record pieces
records_of stamped pieces = map stamped_record pieces
records_of m2ts pieces = m2ts_records None pieces
