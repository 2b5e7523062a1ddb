-- Where the stamps of a PID survive, and no copy stands in a span without the packet that it is a copy of, accepted sections have their moments.
use Rattle.std.proofs.Common.{◌≡◌, ◌⊎◌, inl, inr, ℕ, zero, suc, ◌+◌, ◌*◌, ◌/◌, ◌%◌, ◌^◌, ◌<◌, ◌≤◌, Bool, true, false, cond, Option, None, Some, List, [], ◌∷◌, length, refl, ap, sym, ◌∙◌, arith, lt-ltb, le-ltb}
use Rattle.std.specs.Prelude.{Contains, nat_lt}
use Rattle.std.proofs.lemmas.Bool.{cases_lt}
use Rattle.std.proofs.lemmas.List.{length-map}
use Rattle.ts_spec.specs.Recording.{Record, RecordingForm, plain, stamped, m2ts, m2ts_stamp, moment_behind, m2ts_records, records_of}
use Rattle.ts_spec.specs.Received.{record_at, is_of, Arrival, arrival_at, no_arrival, packet_of, arrivals, received_packets}
use Rattle.ts_spec.specs.Reassembly.{PlacedUnit, accepted_units}
use Rattle.ts_spec.specs.Packetized.{IsIn}
use Rattle.section_spec.specs.Section.{section_form}
use Rattle.slice_spec.specs.Sections.{sliced}
use Rattle.fec_frame_spec.specs.Sections.{TimedSection}
use Rattle.fec_frame_spec.specs.Frame.{FrameFields}
use Rattle.fec_frame_spec.specs.Carried.{AreFramesOf}
use Rattle.fec_frame_law.proofs.Timed.{timed_by_moments}
use Rattle.channel_spec.specs.Channel.{Channel}
use Rattle.channel_spec.specs.Stamps.{IsOfPid, KeepsStampsOf, KeepsTimesOf}
use Rattle.channel_spec.specs.Spans.{IsSpanOf, HasNoLoneCopies}
use Rattle.channel_spec.specs.Carried.{packets_sent, IsSentUnit}
use Rattle.channel_law.proofs.Member.{Member, member_at, member_contains, contains_member}
use Rattle.channel_law.proofs.Arrivals.{arrivals_above, ArrivesFrom, arrival_record, record_arrives}
use Rattle.channel_law.proofs.Received.{received_arrived, no_copy_of_arrival}
use Rattle.channel_law.proofs.Order.{at_received}
use Rattle.channel_law.proofs.Spans.{span_arrived}
use Rattle.channel_law.proofs.Channel.{span_alone}
use Rattle.channel_law.proofs.Stamps.{length-m2ts, moment-m2ts, moment_at, piece_at, times_shifted}
use Rattle.loss_law.specs.Frames.{HasMoments}
use Rattle.loss_law.specs.Stamps.{falls}
use Rattle.loss_law.proofs.Sections.{section_lawful}

-- Times of all records of an m2ts recording, wherever they come from: for a receiver of no PID all may have been inserted.

none_some : (n : ℕ) {X : Type 0} → ◌≡◌ {A = Option ℕ} None (Some n) → X
none_some n same = absurd (cc (same))

abbrev nobody : (recorded : List Record) → Channel [] [] recorded
nobody recorded = record {
  place = λ j. None;
  first = λ j. j;
  within = λ j n low is. none_some n is;
  in_order = λ j k m n less low one other is. none_some m is;
  behind = λ j low. omega arith;
  no_copy = λ j low. refl;
  same_place = λ j low. refl;
  kept = λ j n low less is. none_some n is;
  same = λ j low. refl;
  alone = λ pid copy other there. absurd (member_contains [] pid there);
  foreign = λ j low none pid there. absurd (member_contains [] pid there);
}

module _ (pids : List ℕ) (pieces : List (List ℕ)) (sent : List Record) (channel : Channel pids sent (m2ts_records None pieces)) (pid : ℕ) (stamps : KeepsTimesOf channel pid) where
  times : (shift : ℕ) × (shift % 2 ^ 30 ≡ 0) × ((j : ℕ) → j < length pieces → moment_at None pieces j + shift ≡ stamps.time j)
  times = times_shifted [] pieces [] (nobody (m2ts_records None pieces))
      (record { time = stamps.time; no_copy = λ j n low one is. none_some n is; stamp = stamps.stamp; rises = stamps.rises; near = stamps.near })

-- One recording.

some_same : (a b : ℕ) → Some a ≡ Some b → a ≡ b
some_same a b same = cc

-- the constant by which moments differ
abbrev shift_of : (form : RecordingForm) (pids : List ℕ) (sent : List Record) (pieces : List (List ℕ)) (channel : Channel pids sent (records_of form pieces)) (pid : ℕ)
    → KeepsStampsOf form channel pid → ℕ
shift_of plain pids sent pieces channel pid stamps = 0
shift_of stamped pids sent pieces channel pid stamps = 0
shift_of m2ts pids sent pieces channel pid stamps = (times pids pieces sent channel pid stamps).0

-- a record that comes from a packet of the PID has its moment, but for the constant
moment_kept : (form : RecordingForm) (pids : List ℕ) (sent : List Record) (pieces : List (List ℕ)) (channel : Channel pids sent (records_of form pieces)) (pid : ℕ)
    (stamps : KeepsStampsOf form channel pid) (j n time : ℕ) → IsOfPid channel pid j n → (record_at sent n).moment ≡ Some time
    → (moment : ℕ) × ((record_at (records_of form pieces) j).moment ≡ Some moment) × (moment + shift_of form pids sent pieces channel pid stamps ≡ time)
moment_kept plain pids sent pieces channel pid stamps j n time comes is = (time, stamps.each j n comes ∙ is, omega arith)
moment_kept stamped pids sent pieces channel pid stamps j n time comes is = (time, stamps.each j n comes ∙ is, omega arith)
moment_kept m2ts pids sent pieces channel pid stamps j n time comes is =
    let known : j < length pieces = omega (arith, comes.within, length-m2ts None pieces) in (
      moment_at None pieces j,
      moment-m2ts None pieces j known,
      (times pids pieces sent channel pid stamps).2 j known ∙ some_same (stamps.time j) time (sym (stamps.each j n comes) ∙ is),
    )

module _ (form : RecordingForm) (pids : List ℕ) (sent : List Record) (pieces : List (List ℕ)) (channel : Channel pids sent (records_of form pieces)) (pid : ℕ)
    (read : Contains pids pid) (stamps : KeepsStampsOf form channel pid) (span : List Record) (is_span : IsSpanOf span (records_of form pieces))
    (no_lone_copies : HasNoLoneCopies channel span pid) where
  abbrev recorded : List Record
  recorded = records_of form pieces

  -- a received packet that comes from a packet of the PID is no copy
  received_no_copy : (x : Arrival) (s : Arrival) → Member (received_packets pid span) x → channel.place x.place ≡ Some s.place → ArrivesFrom pid sent s
      → IsOfPid channel pid x.place s.place
  received_no_copy x s received place sent_is = by_order (cases_lt (channel.first x.place) x.place)
    where
      arrived : Member (arrivals pid span) x
      arrived = received_arrived None (arrivals pid span) x received

      x_is : ArrivesFrom pid recorded x
      x_is = arrival_record pid recorded x (span_arrived span recorded is_span pid x arrived)

      first_within : channel.first x.place < length recorded
      first_within = omega (arith, x_is.within, channel.behind x.place x_is.within)

      of_pid : is_of pid (record_at sent s.place).bytes ≡ true
      of_pid = ap (is_of pid) sent_is.bytes ∙ sent_is.of_pid

      first_kept : (moment : ℕ) × ((record_at recorded (channel.first x.place)).moment ≡ Some moment) × (moment + shift_of form pids sent pieces channel pid stamps ≡ s.moment)
      first_kept =
          moment_kept form pids sent pieces channel pid stamps (channel.first x.place) s.place s.moment
          (record {
            within = first_within;
            no_copy = channel.no_copy x.place x_is.within;
            place = sym (channel.same_place x.place x_is.within) ∙ place;
            of_pid = of_pid;
          })
          sent_is.moment

      here : record_at span (channel.first x.place) ≡ record_at recorded (channel.first x.place)
      here = no_lone_copies.each x (contains_member (arrivals pid span) x arrived)

      -- a copy stands after the record that it is a copy of, which arrived
      is_copy : channel.first x.place < x.place → ⊥
      is_copy less =
          let there : Member (arrivals pid span) (record { place = channel.first x.place; moment = first_kept.0; bytes = x.bytes }) =
          record_arrives pid (channel.first x.place) span first_kept.0 x.bytes (omega (arith, first_within, is_span.size)) (ap (λ (r : Record). r.moment) here ∙ first_kept.1)
          (ap (λ (r : Record). r.bytes) here ∙ sym (channel.same x.place x_is.within) ∙ x_is.bytes) x_is.of_pid in
          omega (
            arith,
            no_copy_of_arrival channel.first None 0 (arrivals pid span) (span_alone pids sent recorded channel pid span is_span read) (arrivals_above pid 0 span)
                (record { place = channel.first x.place; moment = first_kept.0; bytes = x.bytes }) x there received less,
          )

      by_order : (channel.first x.place < x.place) ⊎ (x.place ≤ channel.first x.place) → IsOfPid channel pid x.place s.place
      by_order (inr up_to) = record { within = x_is.within; no_copy = omega (arith, channel.behind x.place x_is.within); place = place; of_pid = of_pid }
      by_order (inl less) = absurd (is_copy less)

  -- so an accepted section has the moment of its record
  pub moments_kept : (units : List (List ℕ)) (begin moments : ℕ → ℕ)
      → ((n m : ℕ) → n < length units → IsIn (packets_sent pid sent) m (begin n) → (arrival_at (arrivals pid sent) m).moment ≡ moments n)
      → (ten rows first : ℕ) (fields : List FrameFields) (frames : List (List TimedSection)) → AreFramesOf (sliced ten) rows first units moments fields frames
      → HasMoments channel span pid units begin ten rows frames
  moments_kept units begin moments begun ten rows first fields frames are =
      timed_by_moments ten rows first units moments fields frames are
      (λ (a : PlacedUnit) n. Contains (accepted_units section_form pid span) a × IsSentUnit channel pid units begin n a) (λ a n is. is.1.bytes)
      0 (shift_of form pids sent pieces channel pid stamps) (λ a n is. omega (arith, each a n is.0 is.1))
    where
      each : (x : PlacedUnit) (n : ℕ) → Contains (accepted_units section_form pid span) x → IsSentUnit channel pid units begin n x
          → x.moment + shift_of form pids sent pieces channel pid stamps ≡ moments n
      each x n contained is =
          let found = at_received section_form section_lawful (received_packets pid span) x (member_contains (accepted_units section_form pid span) x contained) in
          let s : Arrival = arrival_at (arrivals pid sent) is.packet in
          let sent_is : ArrivesFrom pid sent s
          = arrival_record pid sent s (member_at (arrivals pid sent) is.packet no_arrival (omega (arith, is.start.packet.within, length-map (arrivals pid sent) packet_of))) in
          let comes : IsOfPid channel pid found.0.place s.place
          = received_no_copy found.0 s found.1 (ap channel.place (sym found.2) ∙ is.record_is) sent_is in
          let kept = moment_kept form pids sent pieces channel pid stamps found.0.place s.place s.moment comes sent_is.moment in
          let a_is : ArrivesFrom pid recorded found.0
          = arrival_record pid recorded found.0 (span_arrived span recorded is_span pid found.0 (received_arrived None (arrivals pid span) found.0 found.1)) in
          let same : found.0.moment ≡ kept.0 = some_same found.0.moment kept.0 (sym a_is.moment ∙ kept.1) in
          omega (arith, found.3, same, kept.2, begun n is.packet is.start.unit is.start.packet)

-- An m2ts moment is the stamp, and 2^30 for each time that the stamps fell.

abbrev fell : Bool → ℕ
fell b = cond b 1 0

behind_falls : (before stamp : ℕ) → stamp < 2 ^ 30 → moment_behind (Some before) stamp ≡ stamp + 2 ^ 30 * (before / 2 ^ 30 + fell (nat_lt stamp (before % 2 ^ 30)))
behind_falls before stamp small = by_order (cases_lt stamp (before % 2 ^ 30))
  where
    by_order : (stamp < before % 2 ^ 30) ⊎ (before % 2 ^ 30 ≤ stamp) → moment_behind (Some before) stamp ≡ stamp + 2 ^ 30 * (before / 2 ^ 30 + fell (nat_lt stamp (before % 2 ^ 30)))
    by_order (inl less) = let is : nat_lt stamp (before % 2 ^ 30) ≡ true = lt-ltb stamp (before % 2 ^ 30) less in rw is (omega (arith, less))
    by_order (inr most) = let is : nat_lt stamp (before % 2 ^ 30) ≡ false = le-ltb stamp (before % 2 ^ 30) most in rw is (omega (arith, most, small))

stamp_small : (piece : List ℕ) → m2ts_stamp piece < 2 ^ 30
stamp_small piece = omega arith

falls_behind : (before : ℕ) (pieces : List (List ℕ)) (j : ℕ) → j < length pieces
    → moment_at (Some before) pieces j ≡ m2ts_stamp (piece_at pieces j) + 2 ^ 30 * (before / 2 ^ 30 + falls (before % 2 ^ 30) pieces j)
falls_behind before [] j within = absurd (omega (arith, within))
falls_behind before (piece ∷ pieces) zero within = behind_falls before (m2ts_stamp piece) (stamp_small piece)
falls_behind before (piece ∷ pieces) (suc j) within = by_rest (falls_behind next pieces j (omega (arith, within)))
  where
    next : ℕ
    next = moment_behind (Some before) (m2ts_stamp piece)

    is : next ≡ m2ts_stamp piece + 2 ^ 30 * (before / 2 ^ 30 + fell (nat_lt (m2ts_stamp piece) (before % 2 ^ 30)))
    is = behind_falls before (m2ts_stamp piece) (stamp_small piece)

    rest_is : next % 2 ^ 30 ≡ m2ts_stamp piece
    rest_is = omega (arith, is, stamp_small piece)

    rounds_are : next / 2 ^ 30 ≡ before / 2 ^ 30 + fell (nat_lt (m2ts_stamp piece) (before % 2 ^ 30))
    rounds_are = omega (arith, is, stamp_small piece)

    by_rest : moment_at (Some next) pieces j ≡ m2ts_stamp (piece_at pieces j) + 2 ^ 30 * (next / 2 ^ 30 + falls (next % 2 ^ 30) pieces j)
        → moment_at (Some next) pieces j
        ≡ m2ts_stamp (piece_at pieces j) + 2 ^ 30 * (before / 2 ^ 30 + (fell (nat_lt (m2ts_stamp piece) (before % 2 ^ 30)) + falls (m2ts_stamp piece) pieces j))
    by_rest told =
        let at_rest : falls (next % 2 ^ 30) pieces j ≡ falls (m2ts_stamp piece) pieces j = ap (λ (t : ℕ). falls t pieces j) rest_is in
        omega (arith, told, at_rest, rounds_are)

pub m2ts_moments : (pieces : List (List ℕ)) (j : ℕ) → j < length pieces
    → (record_at (records_of m2ts pieces) j).moment ≡ Some (m2ts_stamp (piece_at pieces j) + 2 ^ 30 * falls 0 pieces j)
m2ts_moments pieces j within = moment-m2ts None pieces j within ∙ ap (λ (t : ℕ). Some t) (counted pieces j within)
  where
    counted : (ps : List (List ℕ)) (i : ℕ) → i < length ps → moment_at None ps i ≡ m2ts_stamp (piece_at ps i) + 2 ^ 30 * falls 0 ps i
    counted [] i low = absurd (omega (arith, low))
    counted (piece ∷ ps) zero low =
        let is : nat_lt (m2ts_stamp piece) 0 ≡ false = le-ltb (m2ts_stamp piece) 0 (omega arith) in
        rw is (omega arith)
    counted (piece ∷ ps) (suc i) low =
        let is : nat_lt (m2ts_stamp piece) 0 ≡ false = le-ltb (m2ts_stamp piece) 0 (omega arith) in
        let rest = falls_behind (m2ts_stamp piece) ps i (omega (arith, low)) in
        let none : m2ts_stamp piece / 2 ^ 30 ≡ 0 = omega (arith, stamp_small piece) in
        let same : m2ts_stamp piece % 2 ^ 30 ≡ m2ts_stamp piece = omega (arith, stamp_small piece) in
        let at_rest : falls (m2ts_stamp piece % 2 ^ 30) ps i ≡ falls (m2ts_stamp piece) ps i = ap (λ (t : ℕ). falls t ps i) same in
        rw is (omega (arith, rest, none, at_rest))
