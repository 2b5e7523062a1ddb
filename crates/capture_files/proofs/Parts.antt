-- Files with prefixes of their texts.
use Rattle.std.proofs.Common.{◌≡◌, ℕ, suc, zero, ◌+◌, ◌<◌, Bool, true, false, List, [], ◌∷◌, ◌++◌, length, take, drop, min, refl, ap, sym, ◌∙◌, subst, arith, Option, None, Some}
use Rattle.std.specs.List.{flat_map, slice_get}
use Rattle.std.proofs.lemmas.List.{append-nil, take_all, take-append-le, take_min}
use Rattle.std.proofs.lemmas.Option.{slice_get_within}
use Rattle.wire_spec.specs.Content.{File}
use Rattle.plan_spec.specs.Plan.{ServiceFields}
use Rattle.pcap_file.specs.Capture.{capture_record, capture_text}
use Rattle.capture_files.specs.Files.{file_with, files_from, head_of, AddsCaptures, AddsHeads, AddsParts, IsPart, AreParts}

-- the whole is a part
whole_part : (b : Bool) (text name : List ℕ) → IsPart text name (file_with b name text)
whole_part b text name = record { name_is = refl; count = length text; bytes = sym (take_all (length text) text (omega arith)) }

all_parts : (b : Bool) (from : ℕ) (text : ℕ → List ℕ) (services : List ServiceFields) → AreParts from text services (files_from b from text services)
all_parts b from text [] = tt
all_parts b from text (service ∷ services) = (whole_part b (text from) service.name, all_parts b (from + 1) text services)

pub parts_whole : (b : Bool) (text : ℕ → List ℕ) (services : List ServiceFields) (old new : Option (List File)) → AddsCaptures b text services old new
    → AddsParts text services old new
parts_whole b text services old new added = record { files = files_from b 0 text services; parts = all_parts b 0 text services; added = added }

-- those of the first services
pub parts_front : (b : Bool) (from : ℕ) (text : ℕ → List ℕ) (services : List ServiceFields) (k : ℕ) → AreParts from text services (files_from b from text (take k services))
parts_front b from text services zero = tt
parts_front b from text [] (suc k) = tt
parts_front b from text (service ∷ services) (suc k) = (whole_part b (text from) service.name, parts_front b (from + 1) text services k)

-- and a part of the next
pub parts_next : (b : Bool) (from : ℕ) (text : ℕ → List ℕ) (services : List ServiceFields) (k : ℕ) (service : ServiceFields) (file : File) → slice_get services k ≡ Some service
    → IsPart (text (from + k)) service.name file → AreParts from text services (files_from b from text (take k services) ++ file ∷ [])
parts_next b from text [] k service file there part = absurd (omega (arith, slice_get_within [] k service there))
parts_next b from text (s ∷ services) zero service file there part =
    let same : service ≡ s = cc in
    let first : from + 0 ≡ from = omega arith in
    (subst (λ (t : ServiceFields). IsPart (text from) t.name file) same (subst (λ (n : ℕ). IsPart (text n) service.name file) first part), tt)
parts_next b from text (s ∷ services) (suc k) service file there part =
    let on : from + suc k ≡ from + 1 + k = omega arith in
    (whole_part b (text from) s.name, parts_next b (from + 1) text services k service file there (subst (λ (n : ℕ). IsPart (text n) service.name file) on part))

-- the first of them flushed
pub flushed_parts : (from : ℕ) (text : ℕ → List ℕ) (services : List ServiceFields) (count : ℕ)
    → AreParts from text services (take count (files_from true from text services) ++ drop count (files_from false from text services))
flushed_parts from text services zero = all_parts false from text services
flushed_parts from text [] (suc count) = tt
flushed_parts from text (service ∷ services) (suc count) = (whole_part true (text from) service.name, flushed_parts (from + 1) text services count)

-- a part of a text is a part of a longer one
part_of_longer : (text whole name : List ℕ) (file : File) → (more : List ℕ) × (whole ≡ text ++ more) → IsPart text name file → IsPart whole name file
part_of_longer text whole name file longer part = record {
  name_is = part.name_is;
  count = min part.count (length text);
  bytes = part.bytes
      ∙ sym (ap (take (min part.count (length text))) longer.1
      ∙ take-append-le (min part.count (length text)) text longer.0 (omega arith) ∙ take_min part.count text);
}

-- the texts of these numbers go on in others
abbrev pub GoOn : ℕ → (ℕ → List ℕ) → (ℕ → List ℕ) → ℕ → Type 0
GoOn from text whole count = (i : ℕ) → i < count → (more : List ℕ) × (whole (from + i) ≡ text (from + i) ++ more)

go_on_here : (from : ℕ) (text whole : ℕ → List ℕ) (count : ℕ) → 0 < count → GoOn from text whole count → (more : List ℕ) × (whole from ≡ text from ++ more)
go_on_here from text whole count some longer =
    let first : from + 0 ≡ from = omega arith in
    subst (λ (n : ℕ). (more : List ℕ) × (whole n ≡ text n ++ more)) first (longer 0 some)

go_on_next : (from : ℕ) (text whole : ℕ → List ℕ) (count : ℕ) → GoOn from text whole (suc count) → GoOn (from + 1) text whole count
go_on_next from text whole count longer = λ i low.
    let on : from + suc i ≡ from + 1 + i = omega arith in
    subst (λ (n : ℕ). (more : List ℕ) × (whole n ≡ text n ++ more)) on (longer (suc i) (omega (arith, low)))

pub parts_of_longer : (from : ℕ) (text whole : ℕ → List ℕ) (services : List ServiceFields) (files : List File) → GoOn from text whole (length services)
    → AreParts from text services files → AreParts from whole services files
parts_of_longer from text whole services [] longer parts = tt
parts_of_longer from text whole [] (file ∷ files) longer parts = absurd parts
parts_of_longer from text whole (service ∷ services) (file ∷ files) longer parts = (
  part_of_longer (text from) (whole from) service.name file (go_on_here from text whole (suc (length services)) (omega arith) longer) parts.0,
  parts_of_longer (from + 1) text whole services files (go_on_next from text whole (length services) longer) parts.1,
)

pub parts_go_on : (text whole : ℕ → List ℕ) (services : List ServiceFields) (old new : Option (List File)) → GoOn 0 text whole (length services)
    → AddsParts text services old new → AddsParts whole services old new
parts_go_on text whole services old new longer parts =
    record { files = parts.files; parts = parts_of_longer 0 text whole services parts.files longer parts.parts; added = parts.added }

-- heads are parts of captures, whatever these have
pub heads_are_parts : (datagrams : ℕ → List (List ℕ)) (services : List ServiceFields) (old new : Option (List File)) → AddsParts head_of services old new
    → AddsParts (λ k. capture_text (datagrams k)) services old new
heads_are_parts datagrams services old new parts =
    parts_go_on head_of (λ k. capture_text (datagrams k)) services old new (λ i low. (flat_map capture_record (datagrams (0 + i)), refl)) parts

pub parts_of_some : (services : List ServiceFields) (old new : Option (List File)) → AddsHeads services old new → AddsParts head_of services old new
parts_of_some services old new heads = record {
  files = files_from false 0 head_of (take heads.count services);
  parts = parts_front false 0 head_of services heads.count;
  added = heads.files;
}

-- no file was added
pub parts_none : (text : ℕ → List ℕ) (services : List ServiceFields) (a : Option (List File)) → AddsParts text services a a
parts_none text services None = record { files = []; parts = tt; added = tt }
parts_none text services (Some olds) = record { files = []; parts = tt; added = sym (append-nil olds) }
