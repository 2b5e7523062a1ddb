-- A reader of records, and what one call of it reads.
use Rattle.std.specs.Prelude.{◌≡◌, ℕ, ◌+◌, ◌<◌, Bool, true, false, List, [], ◌∷◌, ◌++◌, length, All, Option, Some, None}
use Rattle.std.specs.Io.KnownBytes.{Consumes, IsAtEnd}
use Rattle.wire_spec.specs.Causes.{raised}
use Rattle.ts_spec.specs.Recording.{RecordingForm, plain, stamped, m2ts, record_size, Record, plain_record, stamped_record, m2ts_record, records_of}
use Rattle.ipe_io.specs.Told.{InputTold}
use Rattle.ipe_io.specs.declared.faults.Recording.{Recording}
use Rattle.ipe_io.specs.declared.faults.Recording.TheVariants.{Plain, Stamped, M2ts}
use Rattle.ts_record.specs.declared.reader.Record as code
use Rattle.ts_record.specs.declared.lending.LentRecord as lent

-- the form that the code names
abbrev pub form_of : Recording → RecordingForm
form_of Plain = plain
form_of Stamped = stamped
form_of M2ts = m2ts

-- a record of the code
abbrev pub record_seen : code.Record → Record
record_seen r = record { moment = r.moment; bytes = r.bytes }

-- the same of one whose bytes are lent
abbrev pub lent_seen : lent.LentRecord → Record
lent_seen r = record { moment = r.moment; bytes = r.bytes.now }

-- a reader: how many records were read, the moment of the last, the bytes left over at the end, whether it has seen the end,
-- whether it may be asked
pub record ReaderState : Type 0 where
  pub form : RecordingForm
  pub count : ℕ
  pub before : Option ℕ
  pub tail : ℕ
  pub has_ended : Bool
  pub is_open : Bool

-- the same reader after a fault
abbrev pub closed : ReaderState → ReaderState
closed reader = record { form = reader.form; count = reader.count; before = reader.before; tail = reader.tail; has_ended = reader.has_ended; is_open = false }

-- the same reader after one record more, of this moment
abbrev pub stepped : ReaderState → Option ℕ → ReaderState
stepped reader moment = record { form = reader.form; count = reader.count + 1; before = moment; tail = reader.tail; has_ended = reader.has_ended; is_open = reader.is_open }

-- the moment of the last record, where it has one
abbrev pub last_moment : Option ℕ → List Record → Option ℕ
last_moment before [] = before
last_moment before (r ∷ records) = last_moment r.moment records

-- the reader has read the records of these pieces
pub record ReaderOf (reader : ReaderState) (pieces : List (List ℕ)) : Type 0 where
  pub opened : reader.is_open ≡ true
  pub each : All (λ piece. length piece ≡ record_size reader.form) pieces
  pub count : reader.count ≡ length pieces
  pub before : reader.before ≡ last_moment None (records_of reader.form pieces)

-- a source gave these bytes: the next that it tells, and its counter rose by their number
pub record TakesBytes (left now_left : Option (List ℕ)) (taken now_taken : ℕ) (bytes : List ℕ) : Type 0 where
  pub bytes_are : Consumes left now_left bytes
  pub rose : now_taken ≡ raised taken (length bytes)

-- one piece more was taken, and it gives this record
pub record ReadsRecord (reader now_reader : ReaderState) (left now_left : Option (List ℕ)) (taken now_taken : ℕ) (pieces : List (List ℕ)) (r : Record) : Type 0 where
  pub piece : List ℕ
  pub size : length piece ≡ record_size reader.form
  pub takes : TakesBytes left now_left taken now_taken piece
  pub last : records_of reader.form (pieces ++ piece ∷ []) ≡ records_of reader.form pieces ++ r ∷ []
  pub stands : ReaderOf now_reader (pieces ++ piece ∷ [])
  pub form : now_reader.form ≡ reader.form
  pub tail : now_reader.tail ≡ reader.tail
  pub has_ended : now_reader.has_ended ≡ reader.has_ended

-- the next record was lent: one piece more was taken, and it gives this record, and the source neither ended nor failed;
-- where none was lent, all is as it was
abbrev pub LendsRecord : ReaderState → ReaderState → InputTold → InputTold → List (List ℕ) → Option Record → Type 0
LendsRecord reader now_reader told now_told pieces (Some r) =
    ReadsRecord reader now_reader told.left now_told.left told.taken now_told.taken pieces r
    × (now_told.ended ≡ told.ended) × (now_told.faults ≡ told.faults)
LendsRecord reader now_reader told now_told pieces None = (now_reader ≡ reader) × (now_told ≡ told)

-- the input has ended after fewer bytes than a record has
pub record ReadsEnd (reader now_reader : ReaderState) (left now_left : Option (List ℕ)) (taken now_taken : ℕ) (pieces : List (List ℕ)) : Type 0 where
  pub bytes : List ℕ
  pub short : length bytes < record_size reader.form
  pub takes : TakesBytes left now_left taken now_taken bytes
  pub at_end : IsAtEnd now_left
  pub stands : ReaderOf now_reader pieces
  pub form : now_reader.form ≡ reader.form
  pub tail : now_reader.tail ≡ length bytes
  pub has_ended : now_reader.has_ended ≡ true

-- the moment that a record of a piece has after one with the moment before
abbrev pub moment_in : RecordingForm → Option ℕ → List ℕ → Option ℕ
moment_in plain before piece = (plain_record piece).moment
moment_in stamped before piece = (stamped_record piece).moment
moment_in m2ts before piece = (m2ts_record before piece).moment
