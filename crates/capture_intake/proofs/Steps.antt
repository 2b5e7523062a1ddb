-- What was read of a capture, record by record, and what that shows.
use Rattle.std.proofs.Common.{◌≡◌, ℕ, ◌-◌, ◌<◌, ◌≤◌, Bool, List, [], ◌∷◌, ◌++◌, length, Some, None, Result, Ok, Err, refl, ap, sym, ◌∙◌, subst, append_assoc, arith}
use Rattle.std.specs.Borrow.{Bor}
use Rattle.std.proofs.lemmas.List.{length_push}
use Rattle.ipe_io.specs.Told.{InputTold}
use Rattle.pcap_file.specs.Reading.{most_records}
use Rattle.pcap_file.specs.Known.{ReaderState}
use Rattle.pcap_file.specs.Reader.{HasReadRecords, IsReadAhead, Leaves, Takes, most_held, state_after, with_record}
use Rattle.pcap_file.specs.declared.captured.LinkType.{LinkType}
use Rattle.pcap_file.specs.declared.faults.CaptureFault.{CaptureFault}
use Rattle.pcap_file.specs.declared.faults.CaptureFault.TheVariants as cut
use Rattle.pcap_file.specs.declared.faults.NextFault.TheVariants as next_fault
use Rattle.pcap_file.proofs.Captures.{HasRead-more}
use Rattle.pcap_file.proofs.ReadAhead.{rest_given}
use Rattle.pcap_file.proofs.Shown.{no_fault_behind, read_ahead, shown_behind}
use Rattle.pcap_file.proofs.Taken.{Takes-trans}
use Rattle.capture_intake.specs.Steps.{IsGoing, ReadsNext, ShowsStop, TakesIn}
use Rattle.capture_intake.specs.declared.reading.Next.{Next}
use Rattle.capture_intake.specs.declared.reading.Next.TheVariants as next
use Rattle.capture_intake.specs.declared.faults.CaptureReadFault.{CaptureReadFault}
use Rattle.capture_intake.specs.declared.faults.CaptureReadFault.TheVariants as read_fault

-- what a reader stands for is not in the bytes that it holds
pub has_read_held : (reader : ReaderState) (held front : List ℕ) (captured : List (List ℕ)) → HasReadRecords reader front captured → HasReadRecords (record reader { held = held }) front captured
has_read_held reader held front captured read = record { capture = read.capture; order = read.order; link = read.link; count = read.count; size = read.size }

-- one record more was read
read_more : (old new : ReaderState) (front : List ℕ) (captured : List (List ℕ)) (lent : Bor (List ℕ)) (a b : InputTold)
    → HasReadRecords old front captured → new ≡ state_after old (Ok (Some lent)) new.held → (left : Leaves old (Ok (Some lent)) new.held a b)
    → HasReadRecords new (front ++ (left.shows.head ++ lent.now)) (captured ++ lent.now ∷ [])
read_more old new front captured lent a b read state left =
    let next = left.shows in
    subst (λ (r : ReaderState). HasReadRecords r (front ++ (next.head ++ lent.now)) (captured ++ lent.now ∷ [])) (sym state)
    (has_read_held (with_record old lent.now) new.held (front ++ (next.head ++ lent.now)) (captured ++ lent.now ∷ [])
    (HasRead-more old front captured next.head lent.now read next.head_size next.size next.short next.few next.small))

-- there is room for one more
pub going_few : (wants : LinkType → Bool) (old : ReaderState) (Took : LinkType → List (List ℕ) → Type 0) (front : List ℕ) (captured : List (List ℕ)) (lent : Bor (List ℕ)) (held : List ℕ)
    (a b : InputTold) → IsGoing wants old Took front captured → Leaves old (Ok (Some lent)) held a b → length captured < most_records
going_few wants old Took front captured lent held a b going left = omega (arith, going.has_read.count, left.shows.few)

-- and it was taken
pub takes_in : (wants : LinkType → Bool) (old new : ReaderState) (Took Now : LinkType → List (List ℕ) → Type 0) (front : List ℕ) (captured : List (List ℕ)) (lent : Bor (List ℕ)) (a b : InputTold)
    → IsGoing wants old Took front captured → new ≡ state_after old (Ok (Some lent)) new.held → Leaves old (Ok (Some lent)) new.held a b
    → Now old.link (captured ++ lent.now ∷ []) → TakesIn wants old new Now front captured a b
takes_in wants old new Took Now front captured lent a b going state left took =
    let next = left.shows in
    let piece : List ℕ = next.head ++ lent.now in
    record {
      piece = piece;
      bytes = lent.now;
      more = left.more;
      consumed = rest_given old.held (old.held ++ left.more) a.left b.left piece new.held (record { more = left.more; grown = refl; taken = left.takes.consumed }) next.got_is;
      going = record {
        has_read = read_more old new front captured lent a b going.has_read state left;
        is_open = ap (λ (r : ReaderState). r.is_open) state ∙ going.is_open;
        wanted = ap (λ (r : ReaderState). wants r.link) state ∙ going.wanted;
        took = subst (λ (l : LinkType). Now l (captured ++ lent.now ∷ [])) (sym (ap (λ (r : ReaderState). r.link) state)) took;
      };
      takes = left.takes;
      moved = next.got_is;
    }

-- the bytes that were read, where a record was
pub reads_record : (old new : ReaderState) (front : List ℕ) (captured : List (List ℕ)) (lent : Bor (List ℕ)) (a b : InputTold) (r : Result Next CaptureReadFault)
    → HasReadRecords old front captured → new ≡ state_after old (Ok (Some lent)) new.held → Leaves old (Ok (Some lent)) new.held a b
    → ((bytes : List ℕ) → ShowsStop captured r bytes) → ReadsNext old.held front captured r a b
reads_record old new front captured lent a b r read state left shows =
    let next = left.shows in
    let piece : List ℕ = next.head ++ lent.now in
    let whole : front ++ (old.held ++ left.more) ≡ (front ++ piece) ++ new.held = ap (λ l. front ++ l) next.got_is ∙ sym (append_assoc front piece new.held) in
    record {
      more = left.more;
      takes = left.takes;
      ahead = subst IsReadAhead (sym whole) (read_ahead new (front ++ piece) new.held (captured ++ lent.now ∷ []) (read_more old new front captured lent a b read state left) left.few);
      shows = shows (front ++ (old.held ++ left.more));
    }

-- at the end
pub reads_end : (old : ReaderState) (held front : List ℕ) (captured : List (List ℕ)) (a b : InputTold) → HasReadRecords old front captured → Leaves old (Ok None) held a b
    → ReadsNext old.held front captured (Ok next.End) a b
reads_end old held front captured a b read left = record {
  more = left.more;
  takes = left.takes;
  ahead = read_ahead old front (old.held ++ left.more) captured read (subst (λ (l : List ℕ). length l ≤ most_held) (left.shows.1 ∙ sym left.shows.0) left.few);
  shows = tt;
}

-- at a fault of the capture
pub reads_fault : (old : ReaderState) (held front : List ℕ) (captured : List (List ℕ)) (fault : CaptureFault) (a b : InputTold) → HasReadRecords old front captured
    → Leaves old (Err (next_fault.Capture fault)) held a b → ReadsNext old.held front captured (Ok (next.Fault fault)) a b
reads_fault old held front captured fault a b read left = record {
  more = left.more;
  takes = left.takes;
  ahead = read_ahead old front (old.held ++ left.more) captured read (subst (λ (l : List ℕ). length l ≤ most_held) left.shows.1 left.few);
  shows = shown_behind old front (old.held ++ left.more) captured (Some fault) read left.shows.0 (λ e. cc);
}

-- at a fault of the source
pub reads_failed : (old : ReaderState) (held front : List ℕ) (captured : List (List ℕ)) (a b : InputTold) → HasReadRecords old front captured
    → Leaves old (Err next_fault.Failed) held a b → ReadsNext old.held front captured (Err read_fault.Source) a b
reads_failed old held front captured a b read left = record {
  more = left.more;
  takes = left.takes;
  ahead = read_ahead old front (old.held ++ left.more) captured read (subst (λ (l : List ℕ). length l ≤ most_held) left.shows.1 left.few);
  shows = no_fault_behind old front (old.held ++ left.more) captured read left.shows.0;
}

-- what was taken before, and by one record more
pub taken_in : (front held more piece now : List ℕ) (a b c : InputTold) → Takes a b (front ++ held) → Takes b c more → held ++ more ≡ piece ++ now → Takes a c ((front ++ piece) ++ now)
taken_in front held more piece now a b c one two moved =
    subst (λ (l : List ℕ). Takes a c l)
    (append_assoc front held more ∙ (ap (λ l. front ++ l) moved ∙ sym (append_assoc front piece now)))
    (Takes-trans a b c (front ++ held) more one two)

-- a record more, and the reader is nearer to its last
pub nearer : (old new : ReaderState) (front behind : List ℕ) (captured : List (List ℕ)) (bytes : List ℕ)
    → HasReadRecords old front captured → HasReadRecords new behind (captured ++ bytes ∷ []) → most_records - new.records < most_records - old.records
nearer old new front behind captured bytes one two = omega (arith, one.count, two.count, two.capture.few, length_push captured bytes)

-- the fault that stood next
abbrev pub fault_of : Result Next CaptureReadFault → CaptureFault
fault_of (Ok (next.Fault fault)) = fault
fault_of (Ok next.Record) = cut.Empty
fault_of (Ok next.End) = cut.Empty
fault_of (Err e) = cut.Empty
