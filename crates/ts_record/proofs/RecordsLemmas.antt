-- The records of pieces, one piece more.
use Rattle.std.proofs.Common.{◌≡◌, ℕ, ◌+◌, ◌*◌, ◌≤◌, ◌^◌, List, [], ◌∷◌, ◌++◌, length, drop, refl, ap, ap₂, sym, ◌∙◌, arith, Option, None, Some}
use Rattle.std.proofs.lemmas.List.{drop_at, map-append, get_or_append_left}
use Rattle.wire_spec.specs.Bytes.{u32_at}
use Rattle.ts_spec.specs.Recording.{RecordingForm, plain, stamped, m2ts, stamp_size, Record, plain_record, stamped_record, m2ts_record, m2ts_records, m2ts_stamp, moment_behind, microseconds, records_of}
use Rattle.ts_record.specs.Reading.{last_moment, moment_in}

-- a record with this moment and these bytes
abbrev pub record_with : Option ℕ → List ℕ → Record
record_with moment bytes = record { moment = moment; bytes = bytes }

-- the record of a piece after one with the moment before
abbrev pub record_behind : RecordingForm → Option ℕ → List ℕ → Record
record_behind form before piece = record_with (moment_in form before piece) (drop (stamp_size form) piece)

-- one record more is the last
pub last_moment-push : (before : Option ℕ) (records : List Record) (r : Record) → last_moment before (records ++ r ∷ []) ≡ r.moment
last_moment-push before [] r = refl
last_moment-push before (x ∷ records) r = last_moment-push x.moment records r

m2ts_records-push : (before : Option ℕ) (pieces : List (List ℕ)) (piece : List ℕ)
    → m2ts_records before (pieces ++ piece ∷ []) ≡ m2ts_records before pieces ++ record_behind m2ts (last_moment before (m2ts_records before pieces)) piece ∷ []
m2ts_records-push before [] piece = refl
m2ts_records-push before (x ∷ pieces) piece = ap (λ rs. m2ts_record before x ∷ rs) (m2ts_records-push (Some (moment_behind before (m2ts_stamp x))) pieces piece)

-- one piece more gives one record more
pub records_of-push : (form : RecordingForm) (pieces : List (List ℕ)) (piece : List ℕ)
    → records_of form (pieces ++ piece ∷ []) ≡ records_of form pieces ++ record_behind form (last_moment None (records_of form pieces)) piece ∷ []
records_of-push plain pieces piece = map-append plain_record pieces (piece ∷ [])
records_of-push stamped pieces piece = map-append stamped_record pieces (piece ∷ [])
records_of-push m2ts pieces piece = m2ts_records-push None pieces piece

-- four bytes in the front
u32_at-front : (front behind : List ℕ) (i : ℕ) → i + 4 ≤ length front → u32_at (front ++ behind) i ≡ u32_at front i
u32_at-front front behind i fits =
    ap₂ (λ x y. x * 65536 + y)
    (ap₂ (λ x y. x * 256 + y) (get_or_append_left front behind 0 i (omega arith)) (get_or_append_left front behind 0 (i + 1) (omega arith)))
    (ap₂ (λ x y. x * 256 + y) (get_or_append_left front behind 0 (i + 2) (omega arith)) (get_or_append_left front behind 0 (i + 2 + 1) (omega arith)))

microseconds-front : (front behind : List ℕ) → length front ≡ 8 → microseconds (front ++ behind) ≡ microseconds front
microseconds-front front behind size =
    ap₂ (λ x y. x * 2 ^ 32 + y) (u32_at-front front behind 0 (omega arith)) (u32_at-front front behind 4 (omega arith))

-- the stamp alone tells the moment
moment_in-front : (form : RecordingForm) (before : Option ℕ) (stamp behind : List ℕ) → length stamp ≡ stamp_size form
    → moment_in form before (stamp ++ behind) ≡ moment_in form before stamp
moment_in-front plain before stamp behind size = refl
moment_in-front stamped before stamp behind size = rw (microseconds-front stamp behind size) refl
moment_in-front m2ts before stamp behind size = rw (u32_at-front stamp behind 0 (omega arith)) refl

-- the record of a stamp and a packet
pub record_behind-cat : (form : RecordingForm) (before moment : Option ℕ) (stamp packet : List ℕ) → length stamp ≡ stamp_size form
    → moment ≡ moment_in form before stamp → record_behind form before (stamp ++ packet) ≡ record_with moment packet
record_behind-cat form before moment stamp packet size is =
    ap₂ record_with
    (moment_in-front form before stamp packet size ∙ sym is)
    (drop_at stamp packet (stamp_size form) size)
