-- From the heads of files to their captures.
use Rattle.std.proofs.Common.{◌≡◌, inl, inr, ℕ, suc, zero, ◌+◌, ◌-◌, ◌<◌, Bool, true, false, List, [], ◌∷◌, ◌++◌, length, map, take, drop, get_or, refl, ap, ap₂, sym, ◌∙◌, subst, arith, length-append, Option, None, Some, IfSome}
use Rattle.std.specs.List.{slice_get}
use Rattle.std.proofs.lemmas.List.{append-nil, drop_all, take_all, take_at, drop_at, take-map, get_or-append_right, ext_get_or, get_or_append_left}
use Rattle.std.proofs.lemmas.Option.{slice_get_within, slice_get_cases}
use Rattle.std.proofs.lemmas.Bool.{cases_lt}
use Rattle.wire_spec.specs.Content.{File, grown, flushed_file, no_file}
use Rattle.plan_spec.specs.Plan.{ServiceFields}
use Rattle.pcap_file.specs.Capture.{capture_head}
use Rattle.capture_files.specs.Growth.{GrowEach, Grow, records_at, records_and}
use Rattle.capture_files.specs.Files.{file_with, files_from, head_of, capture_of_pairs, capture_and, AddsFiles, AddsCaptures, AddsFlushed}
use Rattle.capture_files.specs.Flushes.{flushed_front, Flush}
use Rattle.capture_files.proofs.Grown.{grown_nil}
use Rattle.capture_files.proofs.Pairs.{none_before, text_before, records_from, text_from}

-- the files of services by number
pub length-files_from : (b : Bool) (k : ℕ) (text : ℕ → List ℕ) (services : List ServiceFields) → length (files_from b k text services) ≡ length services
length-files_from b k text [] = refl
length-files_from b k text (service ∷ services) = ap suc (length-files_from b (k + 1) text services)

numbered_from : (b : Bool) (k : ℕ) (text : ℕ → List ℕ) (services : List ServiceFields) (i : ℕ) (service : ServiceFields) → slice_get services i ≡ Some service
    → get_or (files_from b k text services) i no_file ≡ file_with b service.name (text (k + i))
numbered_from b k text [] i service there = absurd (omega (arith, slice_get_within [] i service there))
numbered_from b k text (s ∷ services) zero service there =
    let same : s ≡ service = cc in
    let first : k ≡ k + 0 = omega arith in
    ap₂ (λ (t : ServiceFields) (n : ℕ). file_with b t.name (text n)) same first
numbered_from b k text (s ∷ services) (suc i) service there =
    let on : k + 1 + i ≡ k + suc i = omega arith in
    numbered_from b (k + 1) text services i service there ∙ ap (λ (n : ℕ). file_with b service.name (text n)) on

pub numbered_at : (b : Bool) (text : ℕ → List ℕ) (services : List ServiceFields) (k : ℕ) (service : ServiceFields) → slice_get services k ≡ Some service
    → get_or (files_from b 0 text services) k no_file ≡ file_with b service.name (text k)
numbered_at b text services k service there =
    let here : 0 + k ≡ k = omega arith in
    numbered_from b 0 text services k service there ∙ ap (λ (n : ℕ). file_with b service.name (text n)) here

-- files whose texts are the same
pub files_same : (b : Bool) (k : ℕ) (x y : ℕ → List ℕ) (services : List ServiceFields) → ((i : ℕ) → i < length services → x (k + i) ≡ y (k + i))
    → files_from b k x services ≡ files_from b k y services
files_same b k x y [] same = refl
files_same b k x y (service ∷ services) same =
    let first : k ≡ k + 0 = omega arith in
    ap₂ (λ (f : File) (fs : List File). f ∷ fs)
    (ap (file_with b service.name) (ap x first ∙ same 0 (omega arith) ∙ ap y (sym first)))
    (files_same b (k + 1) x y services (λ i low.
    let on : k + 1 + i ≡ k + suc i = omega arith in
    ap x on ∙ same (suc i) (omega (arith, low)) ∙ ap y (sym on)))

-- The heads, and after each a text that grew.

heads_grown : (services : List ServiceFields) (olds heads news : List File) (first : ℕ) (text : ℕ → List ℕ) → length olds ≡ first
    → heads ≡ olds ++ files_from false 0 head_of services → GrowEach heads news text → ((at : ℕ) → at < first → text at ≡ [])
    → news ≡ olds ++ files_from false 0 (λ k. capture_head ++ text (first + k)) services
heads_grown services olds heads news first text size added grew none =
    let whole : ℕ → List ℕ = λ k. capture_head ++ text (first + k) in
    let begun : List File = files_from false 0 head_of services in
    let all : List File = files_from false 0 whole services in
    let many : length heads ≡ first + length services = omega (arith, ap length added, size, length-append olds begun, length-files_from false 0 head_of services) in
    ext_get_or no_file news (olds ++ all) (omega (arith, grew.size, many, size, length-append olds all, length-files_from false 0 whole services))
    (λ at lt.
    let within : at < length heads = omega (arith, lt, grew.size) in
    let was : get_or heads at no_file ≡ get_or (olds ++ begun) at no_file = ap (λ (s : List File). get_or s at no_file) added in
    elim (cases_lt at first) [
      | inl low ↦
          grew.each at within ∙ ap (grown (get_or heads at no_file)) (none at low) ∙ grown_nil (get_or heads at no_file) ∙ was
          ∙ get_or_append_left olds begun no_file at (omega (arith, low, size)) ∙ sym (get_or_append_left olds all no_file at (omega (arith, low, size)))
      | inr high ↦
          let here : first + (at - first) ≡ at = omega (arith, high) in
          elim (slice_get_cases services (at - first)).1 [
            | inl found ↦
                grew.each at within
                ∙ ap₂ grown (was ∙ get_or-append_right olds begun first at no_file size high ∙ numbered_at false head_of services (at - first) found.0 found.2) (ap text (sym here))
                ∙ sym (get_or-append_right olds all first at no_file size high ∙ numbered_at false whole services (at - first) found.0 found.2)
            | inr past ↦ absurd (omega (arith, past.0, high, within, many))
          ]
    ])

pub added_grown : (services : List ServiceFields) (a b c : Option (List File)) (first : ℕ) (text own : ℕ → List ℕ) → IfSome a (λ told. length told ≡ first)
    → AddsCaptures false head_of services a b → Grow b c text → ((at : ℕ) → at < first → text at ≡ []) → ((k : ℕ) → text (first + k) ≡ own k)
    → AddsCaptures false (λ k. capture_head ++ own k) services a c
added_grown services None b c first text own size added grew none same = tt
added_grown services (Some olds) None c first text own size added grew none same = absurd added
added_grown services (Some olds) (Some heads) None first text own size added grew none same = absurd grew
added_grown services (Some olds) (Some heads) (Some news) first text own size added grew none same =
    heads_grown services olds heads news first text size added grew none
    ∙ ap (λ (fs : List File). olds ++ fs) (files_same false 0 (λ k. capture_head ++ text (first + k)) (λ k. capture_head ++ own k) services
    (λ i low. ap (λ (t : List ℕ). capture_head ++ t) (same (0 + i))))

-- the records of pairs, and a text after them
pub pairs_grown : (services : List ServiceFields) (pairs : List (ℕ × List ℕ)) (a b c : Option (List File)) (first : ℕ) → IfSome a (λ told. length told ≡ first)
    → AddsCaptures false head_of services a b → Grow b c (records_at first pairs) → AddsCaptures false (capture_of_pairs pairs) services a c
pairs_grown services pairs a b c first size added grew =
    added_grown services a b c first (records_at first pairs) (records_at 0 pairs) size added grew
    (λ at low. none_before first at pairs low) (λ k. records_from first k pairs)

pub pairs_and_grown : (services : List ServiceFields) (service : ℕ) (text : List ℕ) (pairs : List (ℕ × List ℕ)) (a b c : Option (List File)) (first : ℕ) → IfSome a (λ told. length told ≡ first)
    → AddsCaptures false head_of services a b → Grow b c (records_and first service text pairs) → AddsCaptures false (capture_and service text pairs) services a c
pairs_and_grown services service text pairs a b c first size added grew =
    added_grown services a b c first (records_and first service text pairs) (records_and 0 service text pairs) size added grew
    (λ at low. ap₂ (λ x y. x ++ y) (none_before first at pairs low) (text_before first service text at low))
    (λ k. ap₂ (λ x y. x ++ y) (records_from first k pairs) (text_from first service text k))

-- the files of pairs, by what the captures of the services among them are
pub captures_of_pairs : (services : List ServiceFields) (pairs : List (ℕ × List ℕ)) (text : ℕ → List ℕ) (a b : Option (List File))
    → ((k : ℕ) → k < length services → capture_of_pairs pairs k ≡ text k)
    → AddsCaptures false (capture_of_pairs pairs) services a b → AddsCaptures false text services a b
captures_of_pairs services pairs text a b are added =
    subst (λ (fs : List File). AddsFiles a b fs)
    (files_same false 0 (capture_of_pairs pairs) text services
    (λ k low.
    let here : k ≡ 0 + k = omega arith in
    ap (capture_of_pairs pairs) (sym here) ∙ are k low ∙ ap text here)) added

-- Flushed.

all_flushed : (from : ℕ) (text : ℕ → List ℕ) (services : List ServiceFields) → map flushed_file (files_from false from text services) ≡ files_from true from text services
all_flushed from text [] = refl
all_flushed from text (service ∷ services) = ap (λ (fs : List File). file_with true service.name (text from) ∷ fs) (all_flushed (from + 1) text services)

pub captures_flushed_to : (text : ℕ → List ℕ) (services : List ServiceFields) (a b c : Option (List File)) (first count : ℕ) → IfSome a (λ told. length told ≡ first)
    → AddsCaptures false text services a b → Flush b c first count → AddsFlushed count text services a c
captures_flushed_to text services None b c first count size added flushed = tt
captures_flushed_to text services (Some olds) None c first count size added flushed = absurd added
captures_flushed_to text services (Some olds) (Some mids) None first count size added flushed = absurd flushed
captures_flushed_to text services (Some olds) (Some mids) (Some news) first count size added flushed =
    let files : List File = files_from false 0 text services in
    flushed.files
    ∙ ap₂ (λ (front rest : List File). front ++ flushed_front count rest) (ap (take first) added ∙ take_at olds files first size) (ap (drop first) added ∙ drop_at olds files first size)
    ∙ ap (λ (done : List File). olds ++ (done ++ drop count files)) (sym (take-map flushed_file count files) ∙ ap (take count) (all_flushed 0 text services))

-- all of them
none_left : (text : ℕ → List ℕ) (services : List ServiceFields)
    → take (length services) (files_from true 0 text services) ++ drop (length services) (files_from false 0 text services) ≡ files_from true 0 text services
none_left text services =
    ap₂ (λ (x y : List File). x ++ y) (take_all (length services) (files_from true 0 text services) (omega (arith, length-files_from true 0 text services)))
    (drop_all (length services) (files_from false 0 text services) (omega (arith, length-files_from false 0 text services)))
    ∙ append-nil (files_from true 0 text services)

pub captures_flushed : (text : ℕ → List ℕ) (services : List ServiceFields) (a b c : Option (List File)) (first : ℕ) → IfSome a (λ told. length told ≡ first)
    → AddsCaptures false text services a b → Flush b c first (length services) → AddsCaptures true text services a c
captures_flushed text services a b c first size added flushed =
    subst (λ (fs : List File). AddsFiles a c fs) (none_left text services) (captures_flushed_to text services a b c first (length services) size added flushed)
