-- How a reading into a finder ends.
use Rattle.std.proofs.Common.{◌≡◌, ℕ, ◌≤◌, List, [], ◌∷◌, ◌++◌, map, length, refl, ap, subst, arith, Result, Ok, Err}
use Rattle.std.proofs.lemmas.List.{length_push}
use Rattle.ts_spec.specs.Recording.{RecordingForm, Record, plain, plain_record, record_size, records_of}
use Rattle.ipe_io.specs.Told.{InputTold}
use Rattle.recording_reader.specs.declared.fault.ReadFault.{ReadFault}
use Rattle.recording_reader.specs.declared.fault.ReadFault.TheVariants as read_fault
use Rattle.recording_reader.specs.Reading.{Reads, most_pieces}
use Rattle.psi_tables.specs.Watching.{FinderState, HasSeen}
use Rattle.psi_tables.specs.Taking.{TookRecords, StoppedAtPat}
use Rattle.find_command.specs.Faults.{fault_of_reading}
use Rattle.find_command.specs.Finding.{HasRead, ReadsWhole, ReadsPat, at_pat, FindsText}

-- the records of pieces are some and one more: so are the pieces
record LastOf (pieces : List (List ℕ)) (before : List Record) : Type 0 where
  front : List (List ℕ)
  piece : List ℕ
  are : pieces ≡ front ++ piece ∷ []
  records : map plain_record front ≡ before

last_of : (pieces : List (List ℕ)) (before : List Record) (last : Record) → map plain_record pieces ≡ before ++ last ∷ [] → LastOf pieces before
last_of [] [] last is = absurd (cc)
last_of [] (r ∷ before) last is = absurd (cc)
last_of (p ∷ []) [] last is = record { front = []; piece = p; are = refl; records = refl }
last_of (p ∷ q ∷ pieces) [] last is = absurd (cc)
last_of (p ∷ pieces) (r ∷ before) last is =
    let rest = last_of pieces before last (cc) in
    let first : plain_record p ≡ r = cc in
    record { front = p ∷ rest.front; piece = rest.piece; are = ap (λ ps. p ∷ ps) rest.are; records = rw first (ap (λ rs. r ∷ rs) rest.records) }

-- of a plain recording
has_read : (result : Result ℕ ReadFault) (input now : InputTold) (Took Stopped : List Record → Type 0) (reads : Reads result plain 188 input now Took Stopped)
    → HasRead input now reads.pieces reads.behind
has_read result input now Took Stopped reads = record { each = reads.each; short = reads.short; consumed = reads.consumed; taken = reads.taken }

-- nothing came after these
read_no_more : (input now : InputTold) (pieces : List (List ℕ)) (behind : List ℕ) → HasRead input now pieces behind → behind ≡ [] → HasRead input now pieces []
read_no_more input now pieces behind read none = subst (λ (t : List ℕ). HasRead input now pieces t) none read

-- the finder stopped
stops_at_pat : (input now : InputTold) (start final : FinderState) (pieces : List (List ℕ)) → HasSeen start [] → HasRead input now pieces [] → length pieces ≤ most_pieces
    → StoppedAtPat start final (map plain_record pieces) → ReadsPat input now
stops_at_pat input now start final pieces fresh read most stopped =
    let parts = last_of pieces stopped.before stopped.last stopped.records_are in
    let found = stopped.first fresh in
    record {
      pieces = parts.front;
      piece = parts.piece;
      read = subst (λ (ps : List (List ℕ)). HasRead input now ps []) parts.are read;
      fewer = omega (arith, most, ap length parts.are, length_push parts.front parts.piece);
      before = rw parts.records found.0;
      complete = rw (← parts.are) found.1;
    }

-- the reading stopped
pub text_failed : (pid : ℕ) (input now : InputTold) (start final : FinderState) (form : RecordingForm) (size : ℕ) (Unread : Type 0) {T : Type 0} (bytes_of : T → List ℕ) → form ≡ plain → size ≡ record_size form
    → HasSeen start [] → (f : ReadFault) → Reads (Err f) form size input now (λ rs. TookRecords start final rs) (λ rs. StoppedAtPat start final rs)
    → FindsText bytes_of (Err (fault_of_reading f)) pid input now Unread
text_failed pid input now start final form size Unread bytes_of is sized fresh f reads = failed f own
  where
    Took : List Record → Type 0
    Took rs = TookRecords start final rs

    Stopped : List Record → Type 0
    Stopped rs = StoppedAtPat start final rs

    own : Reads (Err f) plain 188 input now Took Stopped
    own = subst (λ (x : RecordingForm). Reads (Err f) x (record_size x) input now Took Stopped) is (subst (λ (n : ℕ). Reads (Err f) form n input now Took Stopped) sized reads)

    failed : (e : ReadFault) → Reads (Err e) plain 188 input now Took Stopped → FindsText bytes_of (Err (fault_of_reading e)) pid input now Unread
    failed read_fault.Source r = record {
      ends = record { pieces = r.pieces; behind = r.behind; read = has_read _ input now Took Stopped r; fewer = r.ends.0; going = r.ends.1 };
      input_rose = λ _. r.ends.2;
      input_kept = λ not. absurd (not refl);
    }
    failed read_fault.TooLong r = record {
      ends = record { pieces = r.pieces; read = read_no_more input now r.pieces r.behind (has_read _ input now Took Stopped r) r.ends.0; limit = r.ends.1 };
      input_rose = λ other. absurd (cc);
      input_kept = λ _. r.ends.2;
    }
    failed read_fault.Taker r = record {
      ends = at_pat (stops_at_pat input now start final r.pieces fresh (read_no_more input now r.pieces r.behind (has_read _ input now Took Stopped r) r.ends.0) r.ends.1 r.ends.3);
      input_rose = λ other. absurd (cc);
      input_kept = λ _. r.ends.2;
    }

-- the input has ended
pub read_whole : (input now : InputTold) (start final : FinderState) (form : RecordingForm) (size tail : ℕ) → form ≡ plain → size ≡ record_size form
    → HasSeen start [] → Reads (Ok tail) form size input now (λ rs. TookRecords start final rs) (λ rs. StoppedAtPat start final rs)
    → (whole : ReadsWhole input now) × HasSeen final (records_of plain whole.pieces) × (final.pid ≡ start.pid) × (now.faults ≡ input.faults)
read_whole input now start final form size tail is sized fresh reads = (
  record { pieces = own.pieces; behind = own.behind; read = has_read _ input now Took Stopped own; fewer = own.ends.1; at_end = own.ends.2; ended = own.ends.3 },
  own.ends.5.seen fresh,
  own.ends.5.pid_is,
  own.ends.4,
)
  where
    Took : List Record → Type 0
    Took rs = TookRecords start final rs

    Stopped : List Record → Type 0
    Stopped rs = StoppedAtPat start final rs

    own : Reads (Ok tail) plain 188 input now Took Stopped
    own = subst (λ (x : RecordingForm). Reads (Ok tail) x (record_size x) input now Took Stopped) is (subst (λ (n : ℕ). Reads (Ok tail) form n input now Took Stopped) sized reads)
