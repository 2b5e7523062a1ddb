-- The file that was added last: it grows, and is flushed.
use Rattle.std.proofs.Common.{◌≡◌, inl, inr, ℕ, ◌+◌, ◌<◌, Bool, true, false, cond, List, [], ◌∷◌, ◌++◌, length, get_or, set, refl, ap, ap₂, sym, ◌∙◌, subst, arith, length-append, Option, None, Some, IfSome}
use Rattle.std.specs.List.{flat_map}
use Rattle.std.proofs.lemmas.List.{ext_get_or, get_or_append_left, get_or_at, set_at}
use Rattle.std.proofs.lemmas.Bool.{cases_lt, eq-eqb}
use Rattle.wire_spec.specs.Content.{File, AddsFile, ChangesFile, Stays, grown, flushed_file, no_file}
use Rattle.outlet_spec.specs.Pairs.{pairs_of}
use Rattle.pcap_file.specs.Capture.{capture_record}
use Rattle.capture_files.specs.Growth.{GrowEach, Grow, text_in, records_at, records_and}
use Rattle.capture_files.specs.Files.{file_with}
use Rattle.capture_files.proofs.Grown.{grown_nil}
use Rattle.capture_files.proofs.Pairs.{none_before, text_before}

last_grown : (olds heads news : List File) (file : File) (place : ℕ) (text : ℕ → List ℕ) → length olds ≡ place → heads ≡ olds ++ file ∷ []
    → GrowEach heads news text → ((at : ℕ) → at < place → text at ≡ []) → news ≡ olds ++ grown file (text place) ∷ []
last_grown olds heads news file place text size added grew none =
    let many : length heads ≡ place + 1 = omega (arith, ap length added, length-append olds (file ∷ []), size) in
    ext_get_or no_file news (olds ++ grown file (text place) ∷ []) (omega (arith, grew.size, many, size, length-append olds (grown file (text place) ∷ [])))
    (λ at lt. elim (cases_lt at place) [
      | inl low ↦
          grew.each at (omega (arith, low, many)) ∙ ap (λ (t : List ℕ). grown (get_or heads at no_file) t) (none at low) ∙ grown_nil (get_or heads at no_file)
          ∙ ap (λ (s : List File). get_or s at no_file) added ∙ get_or_append_left olds (file ∷ []) no_file at (omega (arith, low, size))
          ∙ sym (get_or_append_left olds (grown file (text place) ∷ []) no_file at (omega (arith, low, size)))
      | inr high ↦
          let same : place ≡ at = omega (arith, high, lt, grew.size, many) in
          subst (λ (i : ℕ). get_or news i no_file ≡ get_or (olds ++ grown file (text place) ∷ []) i no_file) same
          (grew.each place (omega (arith, many))
          ∙ ap (λ (f : File). grown f (text place)) (ap (λ (s : List File). get_or s place no_file) added ∙ get_or_at olds file [] no_file place size)
          ∙ sym (get_or_at olds (grown file (text place)) [] no_file place size))
    ])

-- a file of a name with a text, which grew by another
pub added_grown : (a b c : Option (List File)) (name head own : List ℕ) (place : ℕ) (text : ℕ → List ℕ) → IfSome a (λ told. length told ≡ place)
    → AddsFile a b (file_with false name head) → Grow b c text → ((at : ℕ) → at < place → text at ≡ []) → text place ≡ own
    → AddsFile a c (file_with false name (head ++ own))
added_grown None b c name head own place text size added grew none is = tt
added_grown (Some olds) None c name head own place text size added grew none is = absurd added
added_grown (Some olds) (Some heads) None name head own place text size added grew none is = absurd grew
added_grown (Some olds) (Some heads) (Some news) name head own place text size added grew none is =
    last_grown olds heads news (file_with false name head) place text size added grew none
    ∙ ap (λ (t : List ℕ). olds ++ file_with false name (head ++ t) ∷ []) is

-- which was flushed
pub added_flushed : (a b c : Option (List File)) (name text : List ℕ) (place : ℕ) → IfSome a (λ told. length told ≡ place)
    → AddsFile a b (file_with false name text) → ChangesFile b c place flushed_file → AddsFile a c (file_with true name text)
added_flushed None b c name text place size added changed = tt
added_flushed (Some olds) None c name text place size added changed = absurd added
added_flushed (Some olds) (Some mids) None name text place size added changed = absurd changed
added_flushed (Some olds) (Some mids) (Some news) name text place size added changed =
    changed
    ∙ ap (λ (s : List File). set s place (flushed_file (get_or s place no_file))) added
    ∙ ap (λ (f : File). set (olds ++ file_with false name text ∷ []) place (flushed_file f)) (get_or_at olds (file_with false name text) [] no_file place size)
    ∙ set_at olds (file_with false name text) [] (file_with true name text) place size

-- which stayed
pub added_stays : (a b c : Option (List File)) (file : File) → AddsFile a b file → Stays b c → AddsFile a c file
added_stays None b c file added stays = tt
added_stays (Some olds) None c file added stays = absurd added
added_stays (Some olds) (Some mids) None file added stays = absurd stays
added_stays (Some olds) (Some mids) (Some news) file added stays = stays ∙ added

-- The records of frames of service 0, in its file.

own_text : (place : ℕ) (text : List ℕ) → text_in place 0 text place ≡ text
own_text place text = ap (λ (b : Bool). cond b text []) (eq-eqb (place + 0) place (omega arith))

pub own_records : (place : ℕ) (frames : List (List ℕ)) → records_at place (pairs_of 0 frames) place ≡ flat_map capture_record frames
own_records place [] = refl
own_records place (frame ∷ frames) = ap₂ (λ (x y : List ℕ). x ++ y) (own_text place (capture_record frame)) (own_records place frames)

pub own_part : (place : ℕ) (text : List ℕ) (frames : List (List ℕ)) → records_and place 0 text (pairs_of 0 frames) place ≡ flat_map capture_record frames ++ text
own_part place text frames = ap₂ (λ (x y : List ℕ). x ++ y) (own_records place frames) (own_text place text)

-- and in no file before it
pub part_before : (place at : ℕ) (text : List ℕ) (pairs : List (ℕ × List ℕ)) → at < place → records_and place 0 text pairs at ≡ []
part_before place at text pairs low = ap₂ (λ (x y : List ℕ). x ++ y) (none_before place at pairs low) (text_before place 0 text at low)
