-- Files of a rack that grew, each by a text of its own.
use Rattle.std.specs.Prelude.{◌≡◌, ℕ, ◌+◌, ◌<◌, ◌==◌, List, [], ◌++◌, length, get_or, flat_map, if◌then◌else◌, Option, None, Some, is_some, true, ⊤}
use Rattle.wire_spec.specs.Content.{File, grown, no_file}
use Rattle.pcap_file.specs.Capture.{capture_record}

-- the file at each place of a list grew by the text of its place
pub record GrowEach (old new : List File) (text : ℕ → List ℕ) : Type 0 where
  pub size : length new ≡ length old
  pub each : (at : ℕ) → at < length old → get_or new at no_file ≡ grown (get_or old at no_file) (text at)

-- the same of files that may be told
abbrev pub Grow : Option (List File) → Option (List File) → (ℕ → List ℕ) → Type 0
Grow None new text = ⊤
Grow (Some old) None text = ⊥
Grow (Some old) (Some new) text = GrowEach old new text

-- a text that one service alone has, where the file of service 0 has the first place, and that of the next service the next one
abbrev pub text_in : ℕ → ℕ → List ℕ → ℕ → List ℕ
text_in first service text at = if first + service == at then text else []

-- the record of a pair of service and datagram
abbrev pub record_in_file : ℕ → ℕ → ℕ × List ℕ → List ℕ
record_in_file first at pair = text_in first pair.0 (capture_record pair.1) at

-- the records of pairs in the file at a place, one after another
abbrev pub records_at : ℕ → List (ℕ × List ℕ) → ℕ → List ℕ
records_at first pairs at = flat_map (record_in_file first at) pairs

-- the same, and after them a text in the file of one service
abbrev pub records_and : ℕ → ℕ → List ℕ → List (ℕ × List ℕ) → ℕ → List ℕ
records_and first service text pairs at = records_at first pairs at ++ text_in first service text at

-- files that were told are told still
abbrev pub StayTold : Option (List File) → Option (List File) → Type 0
StayTold old new = is_some old ≡ true → is_some new ≡ true

-- the file at a place ends with a text now, where the files were told before
abbrev pub EndsWith : Option (List File) → Option (List File) → ℕ → List ℕ → Type 0
EndsWith None new at text = ⊤
EndsWith (Some old) None at text = ⊥
EndsWith (Some old) (Some new) at text = (front : List ℕ) × ((get_or new at no_file).bytes ≡ front ++ text)
