-- What is delivered of the accepted sections of a PID in a span is recovered.
use Rattle.std.proofs.Common.{◌≡◌, inl, inr, ℕ, List, [], ◌∷◌, refl, subst}
use Rattle.std.specs.Prelude.{Contains, ◌↔◌}
use Rattle.ts_spec.specs.Recording.{Record, RecordingForm, records_of}
use Rattle.ts_spec.specs.Reassembly.{PlacedUnit, accepted_units}
use Rattle.section_spec.specs.Section.{section_form}
use Rattle.channel_spec.specs.Channel.{Channel}
use Rattle.channel_spec.specs.Spans.{IsSpanOf}
use Rattle.channel_spec.specs.Carried.{IsCarried, IsSentUnit, NoUndetectedError, IsAccepted, IncludesIntact, ArrivedIntact}
use Rattle.channel_law.proofs.Member.{Member, contains_member, member_contains}
use Rattle.channel_law.proofs.Numbers.{AreNumbered, numbers_of, number_there, one_number}
use Rattle.channel_law.proofs.Units.{accepted_numbers, includes_intact}
use Rattle.slice_spec.specs.Sections.{Timing, indexed, sliced}
use Rattle.fec_frame_spec.specs.Sections.{TimedSection, frame_sections}
use Rattle.fec_frame_spec.specs.Delivered.{delivered_by_frames}
use Rattle.fec_frame_spec.specs.Frame.{FrameFields}
use Rattle.fec_frame_spec.specs.Carried.{AreFramesOf}
use Rattle.fec_frame_law.specs.Kept.{ArePaired, AreTimed, AreAcceptedOften}
use Rattle.fec_frame_law.specs.Recovered.{IsRecovered}
use Rattle.fec_frame_law.proofs.Accepted.{accepted_recovered}

module _ (Is : PlacedUnit → ℕ → Type 0) where
  -- items and their numbers, one by one
  pub paired : (xs : List PlacedUnit) (all : AreNumbered Is xs) → ArePaired (λ x n. Member xs x × Is x n) xs (numbers_of Is xs all)
  paired xs all = among xs xs all (λ x there. there)
    where
      among : (every xs : List PlacedUnit) (all : AreNumbered Is xs) → ((x : PlacedUnit) → Member xs x → Member every x)
          → ArePaired (λ x n. Member every x × Is x n) xs (numbers_of Is xs all)
      among every [] all within = tt
      among every (x ∷ xs) all within =
          ((within x (inl refl), (all x (inl refl)).1), among every xs (λ y there. all y (inr there)) (λ y there. within y (inr there)))

  -- a number is that of an item
  item_of : (xs : List PlacedUnit) (all : AreNumbered Is xs) (n : ℕ) → Member (numbers_of Is xs all) n → (x : PlacedUnit) × Member xs x × Is x n
  item_of [] all n there = absurd there
  item_of (x ∷ xs) all n (inl same) = (x, inl refl, subst (Is x) same (all x (inl refl)).1)
  item_of (x ∷ xs) all n (inr there) = let found = item_of xs (λ y behind. all y (inr behind)) n there in (found.0, inr found.1, found.2)

module _ (recording : RecordingForm) (pids : List ℕ) (sent : List Record) (pieces : List (List ℕ)) (channel : Channel pids sent (records_of recording pieces))
    (span : List Record) (is_span : IsSpanOf span (records_of recording pieces)) (pid : ℕ) (read : Contains pids pid)
    (units : List (List ℕ)) (begin : ℕ → ℕ) (carried : IsCarried section_form pid sent units begin) (no_error : NoUndetectedError channel span section_form pid units begin) where
  abbrev pub accepted : List PlacedUnit
  accepted = accepted_units section_form pid span

  abbrev pub numbers : List ℕ
  numbers = accepted_numbers pids sent (records_of recording pieces) channel span is_span section_form pid read units begin carried no_error

  abbrev pub IsSent : PlacedUnit → ℕ → Type 0
  IsSent x n = IsSentUnit channel pid units begin n x

  abbrev pub all_sent : AreNumbered IsSent accepted
  all_sent x there = no_error.each x (contains_member accepted x there)

  pub includes : IncludesIntact channel span pid units begin numbers
  includes = includes_intact pids sent (records_of recording pieces) channel span is_span section_form pid read units begin carried no_error

  -- a unit is accepted exactly where its number is among them
  number_accepted : (n : ℕ) → Contains numbers n → IsAccepted channel span section_form pid units begin n
  number_accepted n there =
      let found = item_of IsSent accepted all_sent n (member_contains numbers n there) in
      record { accepted = found.0; contained = contains_member accepted found.0 found.1; sent_unit = found.2 }

  accepted_number : (n : ℕ) → IsAccepted channel span section_form pid units begin n → Contains numbers n
  accepted_number n is =
      contains_member numbers n
      (number_there IsSent n accepted all_sent is.accepted (member_contains accepted is.accepted is.contained)
      (λ m other. one_number pids sent (records_of recording pieces) channel section_form pid units begin carried is.accepted m n other is.sent_unit))

  pub numbers_accepted : (n : ℕ) → Contains numbers n ↔ IsAccepted channel span section_form pid units begin n
  numbers_accepted n = (number_accepted n, accepted_number n)

  often_by_numbers : (rows : ℕ) (frames : List (List TimedSection)) → AreAcceptedOften rows units frames (IsAccepted channel span section_form pid units begin)
      → AreAcceptedOften rows units frames (λ n. Contains numbers n)
  often_by_numbers rows frames often = record {
    one = λ i l first before behind of_i of_l.
        let found = often.one i l first before behind
        (of_i.0, number_accepted of_i.0 of_i.1, of_i.2) (of_l.0, number_accepted of_l.0 of_l.1, of_l.2) in
        let of_j = found.3 in
        (found.0, found.1, found.2, (of_j.0, accepted_number of_j.0 of_j.1, of_j.2));
  }

  abbrev pub IsSentHere : PlacedUnit → ℕ → Type 0
  IsSentHere x n = Contains accepted x × IsSent x n

  sent_here : (xs : List PlacedUnit) (ns : List ℕ) → ArePaired (λ x n. Member accepted x × IsSent x n) xs ns → ArePaired IsSentHere xs ns
  sent_here [] [] same = tt
  sent_here [] (n ∷ ns) same = absurd same
  sent_here (x ∷ xs) [] same = absurd same
  sent_here (x ∷ xs) (n ∷ ns) same = ((contains_member accepted x same.0.0, same.0.1), sent_here xs ns same.1)

  abbrev pub IsServiceRecovered : Timing → ℕ → List FrameFields → List (List TimedSection) → Type 0
  IsServiceRecovered timing rows fields frames =
      IsRecovered rows units fields frames numbers (ArrivedIntact channel span pid units begin) (delivered_by_frames timing rows (frame_sections rows pid span))

  pub service_recovered : (timing : Timing) (rows first : ℕ) (fields : List FrameFields) (frames : List (List TimedSection)) (moments : ℕ → ℕ)
      → AreFramesOf timing rows first units moments fields frames
      → ((ten : ℕ) → timing ≡ sliced ten → AreTimed ten rows units frames IsSentHere)
      → (timing ≡ indexed → AreAcceptedOften rows units frames (IsAccepted channel span section_form pid units begin))
      → IsServiceRecovered timing rows fields frames
  service_recovered timing rows first fields frames moments are timed often =
      accepted_recovered timing rows first units moments fields frames are accepted numbers includes.rising (λ n there. includes.within n (contains_member numbers n there))
      IsSentHere (λ x n is. is.1.bytes) (sent_here accepted numbers (paired IsSent accepted all_sent)) timed
      (ArrivedIntact channel span pid units begin) includes.intact (λ is. often_by_numbers rows frames (often is))
