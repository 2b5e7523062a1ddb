-- Recordings that came through a channel: a recording itself, and one that began late.
use Rattle.std.proofs.Common.{◌≡◌, ℕ, suc, ◌+◌, ◌%◌, ◌^◌, ◌<◌, ◌≤◌, None, Some, List, [], length, map, drop, refl, ap, sym, ◌∙◌, subst, arith, length-drop, get_or-drop}
use Rattle.std.specs.Prelude.{option_map}
use Rattle.std.proofs.lemmas.List.{get_or-map, length-map}
use Rattle.ts_spec.specs.Recording.{Record, RecordingForm, plain, stamped, m2ts, plain_record, stamped_record, m2ts_records, m2ts_stamp, records_of}
use Rattle.ts_spec.specs.Received.{no_record, record_at}
use Rattle.channel_spec.specs.Channel.{Channel}
use Rattle.channel_spec.specs.Stamps.{KeepsStamps}
use Rattle.channel_law.proofs.Stamps.{moment_at, length-m2ts, moment-m2ts, stamp-moment, stamp_of-m2ts, moments_near}

-- a place that is there
pub some_same : (a b : ℕ) → Some a ≡ Some b → a ≡ b
some_same a b same = cc

-- is not none
pub some_there : (a : ℕ) → Some a ≡ None → ⊥
some_there a none = cc

-- each piece gives a record
pub length-records : (recording : RecordingForm) (pieces : List (List ℕ)) → length (records_of recording pieces) ≡ length pieces
length-records plain pieces = length-map pieces plain_record
length-records stamped pieces = length-map pieces stamped_record
length-records m2ts pieces = length-m2ts None pieces

-- the records of later pieces are the later ones
record-late : (record_of : List ℕ → Record) (pieces : List (List ℕ)) (n j : ℕ) → n + j < length pieces → record_at (map record_of (drop n pieces)) j ≡ record_at (map record_of pieces) (n + j)
record-late record_of pieces n j within =
    get_or-map record_of (drop n pieces) j [] no_record (omega (arith, length-drop n pieces))
    ∙ ap record_of (get_or-drop n pieces j [])
    ∙ sym (get_or-map record_of pieces (n + j) [] no_record within)

-- the channel that drops the first n records
abbrev pub late : (pids : List ℕ) (recording : RecordingForm) (pieces : List (List ℕ)) (n : ℕ)
    → Channel pids (records_of recording pieces) (records_of recording (drop n pieces))
late pids recording pieces n = record {
  place = λ j. Some (n + j);
  first = λ j. j;
  within = λ j m within place. omega (arith, some_same (n + j) m place, length-records recording (drop n pieces), length-records recording pieces, length-drop n pieces);
  in_order = λ j k l m less within same also place_j place_k. omega (arith, some_same (n + j) l place_j, some_same (n + k) m place_k, less);
  behind = λ j within. omega arith;
  no_copy = λ j within. refl;
  same_place = λ j within. refl;
  kept = λ j m within less place. absurd (omega (arith, less));
  same = λ j within. refl;
  alone = λ pid copy other read there_copy there less below. absurd (omega (arith, less, below));
  foreign = λ j within none. absurd (some_there (n + j) none);
}

-- it keeps the stamps
pub stamps_late : (pids : List ℕ) (recording : RecordingForm) (pieces : List (List ℕ)) (n : ℕ) → KeepsStamps recording (late pids recording pieces n)
stamps_late pids plain pieces n = record {
  no_copy = λ j m within same place.
      ap (λ (r : Record). r.moment) (record-late plain_record pieces n j (omega (arith, length-records plain (drop n pieces), length-drop n pieces)))
      ∙ ap (λ (t : ℕ). (record_at (records_of plain pieces) t).moment) (some_same (n + j) m place);
}
stamps_late pids stamped pieces n = record {
  no_copy = λ j m within same place.
      ap (λ (r : Record). r.moment) (record-late stamped_record pieces n j (omega (arith, length-records stamped (drop n pieces), length-drop n pieces)))
      ∙ ap (λ (t : ℕ). (record_at (records_of stamped pieces) t).moment) (some_same (n + j) m place);
}
stamps_late pids m2ts pieces n = record {
  time = λ j. moment_at None pieces (n + j);
  no_copy = λ j m within same place.
      ap (λ (t : ℕ). (record_at (m2ts_records None pieces) t).moment) (sym (some_same (n + j) m place))
      ∙ moment-m2ts None pieces (n + j) (omega (arith, length-m2ts None (drop n pieces), length-drop n pieces));
  stamp = λ j within.
      let known : j < length (drop n pieces) = omega (arith, length-m2ts None (drop n pieces)) in
      let known_all : n + j < length pieces = omega (arith, length-drop n pieces, known) in
      stamp_of-m2ts (drop n pieces) j known
      ∙ ap (λ (t : ℕ). Some t) (ap m2ts_stamp (get_or-drop n pieces j []) ∙ sym (stamp-moment None pieces (n + j) known_all));
  rises = λ j within. (near j within).0;
  near = λ j within. (near j within).1;
}
  where
    near : (j : ℕ) → j + 1 < length (m2ts_records None (drop n pieces))
        → (moment_at None pieces (n + j) ≤ moment_at None pieces (n + (j + 1))) × (moment_at None pieces (n + (j + 1)) < moment_at None pieces (n + j) + 2 ^ 30)
    near j within =
        let next : suc (n + j) ≡ n + (j + 1) = omega arith in
        subst (λ (t : ℕ). (moment_at None pieces (n + j) ≤ moment_at None pieces t) × (moment_at None pieces t < moment_at None pieces (n + j) + 2 ^ 30)) next
        (moments_near None pieces (n + j) (omega (arith, length-m2ts None (drop n pieces), length-drop n pieces)))

-- the channel that changes nothing
abbrev pub unchanged : (pids : List ℕ) (records : List Record) → Channel pids records records
unchanged pids records = record {
  place = λ j. Some j;
  first = λ j. j;
  within = λ j m within place. omega (arith, some_same j m place, within);
  in_order = λ j k l m less within same also place_j place_k. omega (arith, some_same j l place_j, some_same k m place_k, less);
  behind = λ j within. omega arith;
  no_copy = λ j within. refl;
  same_place = λ j within. refl;
  kept = λ j m within less place. absurd (omega (arith, less));
  same = λ j within. refl;
  alone = λ pid copy other read there_copy there less below. absurd (omega (arith, less, below));
  foreign = λ j within none. absurd (some_there j none);
}

-- it keeps the stamps
pub stamps_unchanged : (pids : List ℕ) (recording : RecordingForm) (pieces : List (List ℕ)) → KeepsStamps recording (unchanged pids (records_of recording pieces))
stamps_unchanged pids plain pieces = record { no_copy = λ j m within same place. ap (λ (t : ℕ). (record_at (records_of plain pieces) t).moment) (some_same j m place) }
stamps_unchanged pids stamped pieces = record { no_copy = λ j m within same place. ap (λ (t : ℕ). (record_at (records_of stamped pieces) t).moment) (some_same j m place) }
stamps_unchanged pids m2ts pieces = record {
  time = moment_at None pieces;
  no_copy = λ j m within same place.
      ap (λ (t : ℕ). (record_at (m2ts_records None pieces) t).moment) (sym (some_same j m place)) ∙ moment-m2ts None pieces j (omega (arith, length-m2ts None pieces));
  stamp = λ j within. ap (option_map (λ (moment : ℕ). moment % 2 ^ 30)) (moment-m2ts None pieces j (omega (arith, length-m2ts None pieces)));
  rises = λ j within. (near j within).0;
  near = λ j within. (near j within).1;
}
  where
    near : (j : ℕ) → j + 1 < length (m2ts_records None pieces)
        → (moment_at None pieces j ≤ moment_at None pieces (j + 1)) × (moment_at None pieces (j + 1) < moment_at None pieces j + 2 ^ 30)
    near j within =
        let next : suc j ≡ j + 1 = omega arith in
        subst (λ (t : ℕ). (moment_at None pieces j ≤ moment_at None pieces t) × (moment_at None pieces t < moment_at None pieces j + 2 ^ 30)) next
        (moments_near None pieces j (omega (arith, length-m2ts None pieces)))
